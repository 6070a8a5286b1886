-- What laying out, looking up and putting in come to.
use Rattle.std.specs.Prelude.{◌≡◌, ℕ, ◌<◌, ◌≤◌, Bool, ◌||◌, List, [], length, Some, None, Option, Ok, Err, Result, slice_index}
use Rattle.parcels.specs.Book.{pick, Book, has, own, with_own, has_room}
use Rattle.parcels.specs.declared.Entry.{Entry}
use Rattle.parcels.specs.declared.Refusal.{Refusal}
use Rattle.rows.specs.Layout.{row_words, words_for, head_at, book_at, SameSpare}
use Rattle.book.specs.Opening.{small_memory}
use Rattle.book.specs.Sound.{Sound}
use Rattle.book.specs.Ready.{Ready}

-- memory from some word on stayed as it was
abbrev pub SameFrom : ℕ → List ℕ → List ℕ → Type 0
SameFrom from m m' = (i : ℕ) → from ≤ i → slice_index m' i ≡ slice_index m i

-- an empty book was laid out in the memory's first words
pub record LaidOut (own parcels : ℕ) (m m' : List ℕ) : Type 0 where
  pub enough : words_for parcels ≤ length m
  pub ready : Ready own parcels m'
  pub empty : book_at m' ≡ []
  pub spare : SameSpare m m'
  pub rest : SameFrom row_words m m'

-- that is done where there is room enough; else nothing changes
abbrev pub LaysOut : ℕ → ℕ → List ℕ → List ℕ → Result (Unit {0}) Refusal → Type 0
LaysOut own parcels m m' (Ok _) = LaidOut own parcels m m'
LaysOut own parcels m m' (Err e) = (length m < words_for parcels) × (e ≡ small_memory) × (m' ≡ m)

-- what a book has of a key
abbrev pub looked_up : Book → ℕ → Option Entry
looked_up b key = pick (has b key) (Some (own b key)) None

-- whether an entry can be put in: its parcel is known, or there is room for one more
abbrev pub can_put : ℕ → Book → Entry → Bool
can_put parcels b e = has b e.key || has_room parcels b

-- the book then
abbrev pub put_in : ℕ → Book → Entry → Book
put_in parcels b e = pick (can_put parcels b e) (with_own b e) b

-- the words that are kept free, and those behind the rows that the book has now, stayed as they were
pub record SameElsewhere (m m' : List ℕ) : Type 0 where
  pub size : length m' ≡ length m
  pub spare : SameSpare m m'
  pub rest : SameFrom (words_for (head_at m').count) m m'

-- an entry was put into the sound book of an office with this number and this limit
pub record IsPut (own parcels : ℕ) (m m' : List ℕ) (e : Entry) : Type 0 where
  pub sound : Sound own parcels m'
  pub after : book_at m' ≡ with_own (book_at m) e
  pub elsewhere : SameElsewhere m m'
