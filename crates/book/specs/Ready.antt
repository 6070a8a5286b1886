-- Memory that a book may stand on.
use Rattle.std.specs.Prelude.{ℕ, List}
use Rattle.parcels.specs.Laws.{StepsFit}
use Rattle.rows.specs.Layout.{book_at}
use Rattle.book.specs.Sound.{Sound}

-- it is sound, for an office with this number and this limit, and no step in the book goes further than steps go
pub record Ready (own parcels : ℕ) (m : List ℕ) : Type 0 where
  pub sound : Sound own parcels m
  pub steps : StepsFit (book_at m)
