use Rattle.theorems.proofs.Promises.{stays_small}
use Rattle.theorems.proofs.stays_small.Goals as goal

pub returns : goal.returns
returns c = stays_small
