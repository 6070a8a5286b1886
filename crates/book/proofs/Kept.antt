-- What a sound book has: its rows are the book's entries, each under a key of its own, and the search finds them.
use Rattle.std.proofs.Common.{◌≡◌, ℕ, ◌+◌, ◌<◌, ◌≤◌, ◌/◌, ◌^◌, true, false, ◌≢◌, List, length, Ok, Err, Result, sym, ap, ◌∙◌, subst, arith}
use Rattle.std.proofs.lemmas.List.FromFn.{length-map-range_with_len}
use Rattle.parcels.specs.Book.{has, own, with_own, each_once, accepted}
use Rattle.parcels.specs.Laws.{StepFits, StepsFit}
use Rattle.parcels.specs.declared.Entry.{Entry}
use Rattle.std.specs.Option.{ok_or}
use Rattle.std.proofs.lemmas.Bool.Decides.{nat_tests}
use Rattle.rows.specs.Layout.{head_at, entry_at, link_at, row_named, book_at}
use Rattle.rows.specs.declared.Link.{Link}
use Rattle.book.specs.Tree.{tree_of, key_bits, prefix, Spot, at, free, spot_height, height, SoundTree, spot_of}
use Rattle.book.specs.Sound.{Sound}
use Rattle.book.specs.Search.{end_of, led_to, RowOf, search_end}
use Rattle.book.proofs.Search.{hangs_row, whole_way, way_at, way_free}
use Rattle.laws.proofs.Keys.{accepted_few}
use Rattle.laws.proofs.Books.{each_put}
use Rattle.book.proofs.Growth.{found_at}
use Rattle.book.proofs.Lists.{Only, absent, present, rows_once}

pub book_length : (m : List ℕ) → length (book_at m) ≡ (head_at m).count
unfolding book_at
book_length m = length-map-range_with_len (entry_at m) 1 (head_at m).count

-- where a search ended
pub ends_at : (s : Spot) (row : ℕ) → Ok row ≡ end_of s → s ≡ at row (spot_height s)
ends_at (at r h) row e = cc
ends_at (free l h) row e = absurd (cc)

pub ends_free : (s : Spot) (end : Link) → Err end ≡ end_of s → s ≡ free end (spot_height s)
ends_free (at r h) end e = absurd (cc)
ends_free (free l h) end e = cc

-- an office accepted no more parcels than it has
pub accepted_within : (own parcels : ℕ) (m : List ℕ) → Sound own parcels m → (head_at m).accepted ≤ (head_at m).count
accepted_within own parcels m sound =
    let few : accepted own (book_at m) ≤ length (book_at m) = accepted_few own (book_at m) in
    let long : length (book_at m) ≡ (head_at m).count = book_length m in
    let counted : (head_at m).accepted ≡ accepted own (book_at m) = sound.counted in
    omega arith

module _ (m : List ℕ) (sound : SoundTree (tree_of m) (head_at m).count) where
  -- no two rows have one key
  pub row_once : (q r : ℕ) → 1 ≤ q → q ≤ (head_at m).count → 1 ≤ r → r ≤ (head_at m).count → (entry_at m q).key ≡ (entry_at m r).key → q ≡ r
  row_once q r q1 qn r1 rn e =
      let a : spot_of (tree_of m) (entry_at m q).key ≡ at q (height (tree_of m) q) = found_at (tree_of m) (head_at m).count sound q q1 qn in
      let b : spot_of (tree_of m) (entry_at m r).key ≡ at r (height (tree_of m) r) = found_at (tree_of m) (head_at m).count sound r r1 rn in
      let c : spot_of (tree_of m) (entry_at m q).key ≡ spot_of (tree_of m) (entry_at m r).key =
      ap (λ k. spot_of (tree_of m) k) e in
      cc

  -- so each parcel has one entry
  pub once : each_once (book_at m) ≡ true
  unfolding book_at
  once = rows_once (entry_at m) 1 (head_at m).count (λ q r low next high e. absurd (omega (arith, next, row_once r q (omega arith) (omega arith) low (omega arith) e)))

  module _ (key : ℕ) (small : key < 2 ^ key_bits) where
    -- the row that a search found has the key, and no other has
    pub found_row : (row : ℕ) → Ok row ≡ search_end m key → Only (entry_at m) 1 (head_at m).count key row
    found_row row e =
        let spot : spot_of (tree_of m) key ≡ at row (spot_height (spot_of (tree_of m) key)) = ends_at (spot_of (tree_of m) key) row e in
        let (from, to, is) = way_at row (spot_height (spot_of (tree_of m) key)) (whole_way (tree_of m) (head_at m).count sound key small) spot in
        record {
          from = from;
          to = omega arith;
          is = is;
          only = λ r one low k. row_once r row one (omega arith) from to (k ∙ sym is);
        }

    pub found_entry : (row : ℕ) → Ok row ≡ search_end m key → (has (book_at m) key ≡ true) × (own (book_at m) key ≡ entry_at m row)
    unfolding book_at
    found_entry row e = present (entry_at m) 1 (head_at m).count key row (found_row row e)

    -- where it ended at a link, no row has the key, and the link leads nowhere
    pub no_row : (end : Link) → Err end ≡ search_end m key →
        (r : ℕ) → 1 ≤ r → r < 1 + (head_at m).count → (entry_at m r).key ≢ key
    no_row end e r one low k =
        let found : spot_of (tree_of m) (entry_at m r).key ≡ at r (height (tree_of m) r) =
        found_at (tree_of m) (head_at m).count sound r one (omega arith) in
        let same : spot_of (tree_of m) (entry_at m r).key ≡ spot_of (tree_of m) key = ap (λ x. spot_of (tree_of m) x) k in
        let spot : spot_of (tree_of m) key ≡ free end (spot_height (spot_of (tree_of m) key)) = ends_free (spot_of (tree_of m) key) end e in
        cc

    pub no_entry : (end : Link) → Err end ≡ search_end m key → has (book_at m) key ≡ false
    unfolding book_at
    no_entry end e = absent (entry_at m) 1 (head_at m).count key (no_row end e)

    pub leads_nowhere : (end : Link) → Err end ≡ search_end m key → (end.row ≤ (head_at m).count) × (link_at m end ≡ 0)
    leads_nowhere end e =
        let spot : spot_of (tree_of m) key ≡ free end (spot_height (spot_of (tree_of m) key)) = ends_free (spot_of (tree_of m) key) end e in
        let (hangs, none) = way_free end (spot_height (spot_of (tree_of m) key)) (whole_way (tree_of m) (head_at m).count sound key small) spot in
        (hangs_row (tree_of m) (head_at m).count (spot_height (spot_of (tree_of m) key)) (prefix (spot_height (spot_of (tree_of m) key)) key) end hangs, none)

-- the row that a link's word names is what the link leads to
pub row_led_to : (m : List ℕ) (l : Link) → ok_or (row_named (link_at m l)) l ≡ led_to (tree_of m) l
row_led_to m l = grind (arith, nat_tests)

pub row_of : (own parcels : ℕ) (m : List ℕ) (key : ℕ) → Sound own parcels m → key < 2 ^ key_bits → (r : Result ℕ Link) →
    r ≡ search_end m key → RowOf m key r
row_of own parcels m key sound small (Ok row) is =
    let enough = sound.enough in
    let few = sound.few in
    let only = found_row m sound.tree key small row is in
    let to = only.to in
    let (has, own) = found_entry m sound.tree key small row is in
    (is, omega arith, has, own)
row_of own parcels m key sound small (Err end) is = (is, (leads_nowhere m sound.tree key small end is).0, no_entry m sound.tree key small end is)

-- an entry was put in whose step goes no further than steps go
pub steps_kept : (m m' : List ℕ) (e : Entry) → book_at m' ≡ with_own (book_at m) e → StepsFit (book_at m) → StepFits e → StepsFit (book_at m')
steps_kept m m' e is fit low = subst StepsFit (sym is) (each_put StepFits (book_at m) e fit low)
