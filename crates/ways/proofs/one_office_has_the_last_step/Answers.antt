use Rattle.ways.proofs.Follow.{last_held}
use Rattle.ways.proofs.one_office_has_the_last_step.Goals as goal

pub returns : goal.returns
returns c = last_held
