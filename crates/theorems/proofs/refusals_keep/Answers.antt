use Rattle.theorems.proofs.Promises.{refusal_keeps}
use Rattle.theorems.proofs.refusals_keep.Goals as goal

pub returns : goal.returns
returns c = refusal_keeps
