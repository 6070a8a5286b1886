-- The search for a key in memory, as the code does it.
use Rattle.std.specs.Prelude.{◌≡◌, true, false, ℕ, ◌≤◌, List, Result, Ok, Err, ◌==◌}
use Rattle.parcels.specs.Book.{pick, has, own}
use Rattle.rows.specs.Layout.{HasRow, head_at, entry_at, book_at}
use Rattle.rows.specs.declared.Link.{Link}
use Rattle.book.specs.Tree.{Tree, tree_of, key_bits, prefix, Spot, at, free, Hangs, SoundTree, spot_of}

-- where a search ends, without how many bits of the key are left
abbrev pub end_of : Spot → Result ℕ Link
end_of (at row height) = Ok row
end_of (free link height) = Err link

-- what a link leads to: a row, or nothing
abbrev pub led_to : Tree → Link → Result ℕ Link
led_to t l = pick (t.link l == 0) (Err l) (Ok (t.link l))

-- where the whole search for a key ends: at its row, or at the link by which its row would hang
abbrev pub search_end : List ℕ → ℕ → Result ℕ Link
search_end m key = end_of (spot_of (tree_of m) key)

-- what that says of the book
abbrev pub RowOf : List ℕ → ℕ → Result ℕ Link → Type 0
RowOf m key (Ok row) =
    (Ok row ≡ search_end m key) × HasRow m row × (has (book_at m) key ≡ true) × (own (book_at m) key ≡ entry_at m row)
RowOf m key (Err end) = (Err end ≡ search_end m key) × (end.row ≤ (head_at m).count) × (has (book_at m) key ≡ false)

-- a sound tree stands in memory, and the search for a key may come to this link with so many bits left
pub record Searchable (m : List ℕ) (link : Link) (key height : ℕ) : Type 0 where
  pub enough : HasRow m (head_at m).count
  pub tree : SoundTree (tree_of m) (head_at m).count
  pub hangs : Hangs (tree_of m) (head_at m).count height (prefix height key) link
  pub high : height ≤ key_bits
