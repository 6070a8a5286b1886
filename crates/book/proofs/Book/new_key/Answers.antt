use Rattle.std.proofs.Common.{arith}
use Rattle.rows.specs.Layout.{book_at}
use Rattle.book.proofs.Keys.{small, new}
use Rattle.book.proofs.Book.new_key.Goals as goal

pub overflow_cast-before : goal.overflow_cast-before
overflow_cast-before c =
    let opening = c.args.self.now.opening in
    omega (arith, small opening.offices opening.own opening.parcels (book_at c.args.self.now.memory.now) opening.good c.requires)

pub returns-clause-new : goal.returns-clause-new
returns-clause-new c =
    let opening = c.args.self.now.opening in
    new opening.own c.into.result (book_at c.args.self.now.memory.now)
    (small opening.offices opening.own opening.parcels (book_at c.args.self.now.memory.now) opening.good c.requires)
    (omega (arith, c.into.ensures, c.accepted-before.ensures))
