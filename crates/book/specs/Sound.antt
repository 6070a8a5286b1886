-- Sound memory: what an office's book keeps true of its words, whatever is put in.
use Rattle.std.specs.Prelude.{◌≡◌, ℕ, ◌≤◌, List, length}
use Rattle.parcels.specs.Book.{accepted}
use Rattle.rows.specs.Layout.{words_for, head_at, book_at}
use Rattle.book.specs.Tree.{tree_of, SoundTree}

-- of an office with this number and this limit of parcels: there is room for as many, the book has no more, the head
-- counts those that the office accepted, and each parcel is found by its key
pub record Sound (own parcels : ℕ) (m : List ℕ) : Type 0 where
  pub enough : words_for parcels ≤ length m
  pub few : (head_at m).count ≤ parcels
  pub counted : (head_at m).accepted ≡ accepted own (book_at m)
  pub tree : SoundTree (tree_of m) (head_at m).count
