-- Which key an office gives out next.
use Rattle.std.specs.Prelude.{◌≡◌, ℕ, false, Some, None, Option}
use Rattle.parcels.specs.Book.{pick, origin, Book, has, has_room}
use Rattle.parcels.specs.Calls.{new_key}
use Rattle.parcels.specs.Laws.{GivenInOrder}

-- the key of the next parcel that is accepted, where there is room for one more
abbrev pub next_key : ℕ → ℕ → Book → Option ℕ
next_key own parcels b = pick (has_room parcels b) (Some (new_key own b)) None

-- a new key is one of this office's, and no parcel in the book has it, where those of its own keys that the book has are
-- the ones that it gave out
pub record NewKey (own : ℕ) (b : Book) (key : ℕ) : Type 0 where
  pub ours : origin key ≡ own
  pub unused : GivenInOrder own b → has b key ≡ false
