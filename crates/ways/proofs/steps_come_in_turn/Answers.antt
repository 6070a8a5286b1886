use Rattle.ways.proofs.Follow.{steps_in_turn}
use Rattle.ways.proofs.steps_come_in_turn.Goals as goal

pub returns : goal.returns
returns c = steps_in_turn
