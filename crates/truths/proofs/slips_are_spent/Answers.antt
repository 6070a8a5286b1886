use Rattle.truths.proofs.Spent.{slip_spent}
use Rattle.truths.proofs.slips_are_spent.Goals as goal

pub returns : goal.returns
returns c = slip_spent
