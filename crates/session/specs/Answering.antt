-- What an office answers to a row of bytes, and what that does with its memory.
use Rattle.std.specs.Prelude.{◌≡◌, ℕ, Bool, true, false, List, Ok, Err}
use Rattle.parcels.specs.Book.{Book}
use Rattle.parcels.specs.Calls.{Limits, after, answered, unreadable, not_refused, only_tells}
use Rattle.parcels.specs.declared.Answer.{Answer}
use Rattle.wire.specs.Calls.{Reading}
use Rattle.rows.specs.Layout.{book_at}
use Rattle.book.specs.Keeping.{SameElsewhere}

-- what a row of bytes is answered by an office with this book: a call by the rules; bytes that are no call as such, before
-- anything else
abbrev pub reply : Limits → ℕ → Book → Reading → Answer
reply l o b (Ok c) = answered l o b c
reply l o b (Err e) = unreadable e.place

-- the book after it
abbrev pub book_after : Limits → ℕ → Book → Reading → Book
book_after l o b (Ok c) = after l o b c
book_after l o b (Err e) = b

-- a call that only tells, or bytes that are no call
abbrev pub only_asks : Reading → Bool
only_asks (Ok c) = only_tells c
only_asks (Err e) = true

-- a row of bytes that was read so came to an office: its answer, and its memory before and after. Where it only asks, or is
-- refused, no word changes
pub record Done (l : Limits) (o : ℕ) (m : List ℕ) (r : Reading) (a : Answer) (m' : List ℕ) : Type 0 where
  pub answer : a ≡ reply l o (book_at m) r
  pub after : book_at m' ≡ book_after l o (book_at m) r
  pub same : not_refused a ≡ false → m' ≡ m
  pub asked : only_asks r ≡ true → m' ≡ m
  pub elsewhere : SameElsewhere m m'
