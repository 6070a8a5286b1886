-- The tree by which a parcel's row is found: a digital search tree over the bits of keys, the lowest first, since the keys of
-- an office differ in their low bits. A row stands where the search for its own key ends. Rows are numbered from 1 and never
-- move.
use Rattle.std.specs.Prelude.{◌≡◌, ℕ, zero, suc, ◌+◌, ◌-◌, ◌*◌, ◌/◌, ◌%◌, ◌^◌, ◌<◌, ◌≤◌, Bool, false, ◌≢◌, ◌⊎◌, List, ◌==◌}
use Rattle.parcels.specs.Book.{pick}
use Rattle.rows.specs.Layout.{entry_at, link_at}
use Rattle.rows.specs.declared.Link.{Link}

-- the key of each row, and the row that each link leads to, 0 for none
pub record Tree : Type 0 where
  pub key : ℕ → ℕ
  pub link : Link → ℕ

-- the tree in an office's memory
abbrev pub tree_of : List ℕ → Tree
tree_of m = record { key = λ r. (entry_at m r).key; link = λ l. link_at m l }

-- the link by which every search begins
abbrev pub root : Link
root = record { row = 0; right = false }

-- so many bits a key has, and so high is the tree at most
abbrev pub key_bits : ℕ
key_bits = 32

-- a bit of a key: where it is 1 the search turns right
abbrev pub turns_right : ℕ → ℕ → Bool
turns_right bit key = key / 2 ^ bit % 2 == 1

-- the bit of a key at which a search is that has so many left behind it
abbrev pub bit_at : ℕ → ℕ
bit_at h = key_bits - suc h

-- the bits of a key by which a search came that has so many left: the lowest ones, as a number
abbrev pub prefix : ℕ → ℕ → ℕ
prefix h key = key % 2 ^ (key_bits - h)

-- the link of a row by which the search for a key goes on, to have so many bits left
abbrev pub link_below : ℕ → ℕ → ℕ → Link
link_below row h key = record { row = row; right = turns_right (bit_at h) key }

-- where a search ends, and how many bits of the key are left there: at a row, or at a link that leads nowhere
pub data Spot : Type 0 where
  at : (row height : ℕ) → Spot
  free : (link : Link) (height : ℕ) → Spot

abbrev pub spot_row : Spot → ℕ
spot_row (at row height) = row
spot_row (free link height) = 0

abbrev pub spot_height : Spot → ℕ
spot_height (at row height) = height
spot_height (free link height) = height

-- the search for a key from a link on, with so many bits left. With none left, the row has this key
unfoldable pub seek : Tree → ℕ → Link → ℕ → Spot
seek t zero l key = pick (t.link l == 0) (free l zero) (at (t.link l) zero)
seek t (suc h) l key =
    pick (t.link l == 0) (free l (suc h)) (pick (t.key (t.link l) == key) (at (t.link l) (suc h)) (seek t h (link_below (t.link l) h key) key))

-- where the whole search for a key ends
abbrev pub spot_of : Tree → ℕ → Spot
spot_of t key = seek t key_bits root key

-- how many bits are left at a row, by the search for its key
unfoldable pub height : Tree → ℕ → ℕ
height t row = spot_height (spot_of t (t.key row))

-- a link that can be come to with so many bits left, by keys whose other bits are these: the root, or a link of one of the
-- first n rows
abbrev pub Hangs : Tree → ℕ → ℕ → ℕ → Link → Type 0
Hangs t n h low l =
    ((l ≡ root) × (h ≡ key_bits) × (low ≡ 0))
    ⊎ ((1 ≤ l.row) × (l.row ≤ n) × (height t l.row ≡ suc h) × (low ≡ pick l.right 1 0 * 2 ^ bit_at h + prefix (suc h) (t.key l.row)))

-- such a link, where it leads to a row
pub record Hanging (t : Tree) (n : ℕ) : Type 0 where
  pub bits : ℕ
  pub low : ℕ
  pub link : Link
  pub hangs : Hangs t n bits low link
  pub leads : t.link link ≢ 0

-- it leads to one of the rows, with as many bits left there, whose key has the same low bits
abbrev pub Linked : Tree → ℕ → Type 0
Linked t n =
    (x : Hanging t n) → (t.link x.link ≤ n) × (height t (t.link x.link) ≡ x.bits) × (prefix x.bits (t.key (t.link x.link)) ≡ x.low)

-- one of the first n rows
pub record Row (n : ℕ) : Type 0 where
  pub row : ℕ
  pub from : 1 ≤ row
  pub to : row ≤ n

-- each row has a key of so many bits, by which it is found
abbrev pub Found : Tree → ℕ → Type 0
Found t n = (x : Row n) → (t.key x.row < 2 ^ key_bits) × (spot_row (spot_of t (t.key x.row)) ≡ x.row)

-- a sound tree of n rows
pub record SoundTree (t : Tree) (n : ℕ) : Type 0 where
  pub linked : Linked t n
  pub found : Found t n
