-- What is told of a book.
use Rattle.std.specs.Prelude.{◌≡◌, ℕ, suc, Some, None, Option}
use Rattle.parcels.specs.Book.{Book, how_many_here, first_here, collected, paid_out}
use Rattle.tally.specs.declared.Shelf.{Shelf}
use Rattle.tally.specs.declared.Sums.{Sums}

-- the key to ask from next: one more than that of the first parcel that was found, or 0 where none was
abbrev pub next_from : Option ℕ → ℕ
next_from None = 0
next_from (Some key) = suc key

-- a shelf is a book's, from a key on
pub record ShelfOf (b : Book) (from : ℕ) (s : Shelf) : Type 0 where
  pub count : s.count ≡ how_many_here b
  pub first : next_from s.first ≡ first_here b from

-- sums are a book's
pub record SumsOf (b : Book) (s : Sums) : Type 0 where
  pub collected : s.collected ≡ collected b
  pub paid_out : s.paid_out ≡ paid_out b
