use Rattle.std.proofs.Common.{sym, subst}
use Rattle.parcels.specs.Shelf.{FirstTold}
use Rattle.rows.specs.Layout.{book_at}
use Rattle.laws.proofs.Shelf.{shelves_listed}
use Rattle.book.proofs.Kept.{once}
use Rattle.book.proofs.Book.here.Goals as goal

pub returns-clause-first : goal.returns-clause-first
returns-clause-first c =
    subst (FirstTold (book_at c.args.self.now.memory.now) c.args.from) (sym c.of.ensures.first)
    (shelves_listed.told (book_at c.args.self.now.memory.now) c.args.from (once c.args.self.now.memory.now c.args.self.now.sound.tree))

pub returns-clause-listed : goal.returns-clause-listed
returns-clause-listed c = shelves_listed.listed (book_at c.args.self.now.memory.now) (once c.args.self.now.memory.now c.args.self.now.sound.tree)
