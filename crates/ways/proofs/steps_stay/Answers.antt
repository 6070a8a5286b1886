use Rattle.ways.proofs.Follow.{steps_stay}
use Rattle.ways.proofs.steps_stay.Goals as goal

pub returns : goal.returns
returns c = steps_stay
