use Rattle.theorems.proofs.Promises.{lived_happened}
use Rattle.theorems.proofs.what_is_lived_happened.Goals as goal

pub returns : goal.returns
returns c = lived_happened
