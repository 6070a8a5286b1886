use Rattle.truths.proofs.Shelves.{shelves_and_sums}
use Rattle.truths.proofs.shelves_and_sums_are_told.Goals as goal

pub returns : goal.returns
returns c = shelves_and_sums
