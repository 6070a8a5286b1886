use Rattle.theorems.proofs.Promises.{answers_right}
use Rattle.theorems.proofs.answers_are_right.Goals as goal

pub returns : goal.returns
returns c = answers_right
