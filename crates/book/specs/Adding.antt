-- An empty tree in memory, and a row more.
use Rattle.std.specs.Prelude.{◌≡◌, ℕ, suc, ◌+◌, ◌≤◌, ◌≢◌, List, ◌==◌}
use Rattle.parcels.specs.Book.{pick, origin}
use Rattle.parcels.specs.declared.Entry.{Entry}
use Rattle.rows.specs.Layout.{row_words, words_for, head_at, entry_at, link_at, SameSpare}
use Rattle.rows.specs.declared.Head.{Head}
use Rattle.rows.specs.declared.Link.{Link}
use Rattle.book.specs.Tree.{root}
use Rattle.book.specs.Keeping.{SameFrom}

-- the head counts nothing, and the root leads nowhere; no other row changed, and no word that is kept free
pub record Cleared (m m' : List ℕ) : Type 0 where
  pub head : head_at m' ≡ record { count = 0; accepted = 0 }
  pub root : link_at m' root ≡ 0
  pub spare : SameSpare m m'
  pub rest : SameFrom row_words m m'

-- the row behind the last one
abbrev pub next_row : List ℕ → ℕ
next_row m = suc (head_at m).count

-- the head that counts it
abbrev pub counted_head : ℕ → Head → ℕ → Head
counted_head own h key = record { count = suc h.count; accepted = h.accepted + pick (origin key == own) 1 0 }

-- the entry was written into that row, which leads nowhere, and a link was led to it; the head counts it. No other entry
-- and no other link changed, nor any word that is kept free or stands behind that row
pub record RowAdded (own : ℕ) (m m' : List ℕ) (end : Link) (e : Entry) : Type 0 where
  pub entry : entry_at m' (next_row m) ≡ e
  pub below : (l : Link) → l.row ≡ next_row m → link_at m' l ≡ 0
  pub leads : link_at m' end ≡ next_row m
  pub head : head_at m' ≡ counted_head own (head_at m) e.key
  pub entries : (r : ℕ) → 1 ≤ r → r ≢ next_row m → entry_at m' r ≡ entry_at m r
  pub links : (l : Link) → l.row ≢ next_row m → l ≢ end → link_at m' l ≡ link_at m l
  pub spare : SameSpare m m'
  pub rest : SameFrom (words_for (next_row m)) m m'
