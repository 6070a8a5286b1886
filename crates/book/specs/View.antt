-- What others see of a book in lent memory.
use Rattle.parcels.specs.Book.{Book}
use Rattle.rows.specs.Layout.{book_at}
use Rattle.book.specs.declared.Book.{Book as Lent}

-- the book that its memory means
abbrev pub book_in : Lent → Book
book_in x = book_at x.memory.now
