use Rattle.laws.proofs.Books.{laws}
use Rattle.laws.proofs.books_are_lawful.Goals as goal

pub returns : goal.returns
returns c = laws
