use Rattle.laws.proofs.Shelf.{shelves_listed}
use Rattle.laws.proofs.shelves_are_listed.Goals as goal

pub returns : goal.returns
returns c = shelves_listed
