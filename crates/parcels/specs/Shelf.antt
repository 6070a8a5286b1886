-- What is at an office, one parcel after the other, as a clerk lists the shelf: laws of first_here and how_many_here.
use Rattle.std.specs.Prelude.{◌≡◌, ℕ, zero, suc, ◌<◌, ◌≤◌, true}
use Rattle.parcels.specs.Book.{Book, each_once, is_here, how_many_here, first_here}

-- a parcel is the first one at the office from a key on: it is there, at that key or behind it, and no other lies between
pub record FirstHere (b : Book) (from key : ℕ) : Type 0 where
  pub here : is_here b key ≡ true
  pub from_on : from ≤ key
  pub first : (k : ℕ) → is_here b k ≡ true → from ≤ k → key ≤ k

-- what is answered, from a key on: one more than the first one's key; or 0, where none is there from that key on
abbrev pub FirstTold : Book → ℕ → ℕ → Type 0
FirstTold b from zero = (k : ℕ) → is_here b k ≡ true → k < from
FirstTold b from (suc key) = FirstHere b from key

-- the key from which one asks after so many askings: 0 at first, and then what was answered each time, which is the key behind
-- the one that was found
unfoldable pub asked_on : Book → ℕ → ℕ
asked_on b zero = 0
asked_on b (suc n) = first_here b (asked_on b n)

-- one finds all parcels that are there, in the order of their keys, each once, and then 0
pub record ShelfListed (b : Book) : Type 0 where
  pub each : (n : ℕ) → n < how_many_here b → (key : ℕ) × (asked_on b (suc n) ≡ suc key) × (is_here b key ≡ true)
  pub in_order : (n : ℕ) → n < how_many_here b → asked_on b n < asked_on b (suc n)
  pub all : (key : ℕ) → is_here b key ≡ true → (n : ℕ) × (n < how_many_here b) × (asked_on b (suc n) ≡ suc key)
  pub end : asked_on b (suc (how_many_here b)) ≡ 0

-- so it is in every book that has one entry for each parcel
pub record ShelvesListed : Type 0 where
  pub told : (b : Book) (from : ℕ) → each_once b ≡ true → FirstTold b from (first_here b from)
  pub listed : (b : Book) → each_once b ≡ true → ShelfListed b
