use Rattle.laws.proofs.Example.{answered}
use Rattle.laws.proofs.way_is_answered.Goals as goal

pub returns : goal.returns
returns c = answered
