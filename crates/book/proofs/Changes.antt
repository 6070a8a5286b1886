-- An entry written into the row of its key, and a row more, leave a sound book, with the entry put in.
use Rattle.std.proofs.Common.{◌≡◌, ℕ, suc, ◌+◌, ◌<◌, ◌^◌, add-one, Bool, true, false, eqb, List, [], ◌∷◌, ◌++◌, length, map, Ok, Err, inl, inr, sym, ap, ◌∙◌, subst, arith}
use Rattle.std.specs.List.{range_with_len}
use Rattle.std.proofs.lemmas.Bool.{cases_eq}
use Rattle.std.proofs.lemmas.Bool.Decides.{nat_tests}
use Rattle.std.proofs.lemmas.List.FromFn.{map-range_with_len_more}
use Rattle.parcels.specs.Book.{pick, origin, has, with_own, has_room, accepted}
use Rattle.parcels.specs.declared.Entry.{Entry}
use Rattle.rows.specs.Layout.{head_at, entry_at, book_at, EntryWritten}
use Rattle.rows.specs.declared.Head.{Head}
use Rattle.rows.specs.declared.Link.{Link}
use Rattle.rows.proofs.Words.{entry_spares}
use Rattle.laws.proofs.Keys.{accepted_put}
use Rattle.book.specs.Tree.{Tree, tree_of, key_bits, spot_height, SoundTree, spot_of}
use Rattle.book.specs.Search.{search_end}
use Rattle.book.specs.Sound.{Sound}
use Rattle.book.specs.Keeping.{IsPut}
use Rattle.book.specs.Adding.{RowAdded}
use Rattle.book.proofs.Growth.{Grown, grown_sound}
use Rattle.book.proofs.Lists.{Only, entries, same_entries, replaced, put_behind}
use Rattle.book.proofs.Kept.{book_length, ends_free, found_row, found_entry, no_entry, leads_nowhere}

-- there is a row left where there is room
pub rows_left : (parcels : ℕ) (m : List ℕ) → has_room parcels (book_at m) ≡ true → (head_at m).count < parcels
rows_left parcels m room =
    let n : length (book_at m) ≡ (head_at m).count = book_length m in
    grind (arith, nat_tests)

-- trees with the same keys and links are one
same_tree : (t t' : Tree) → ((r : ℕ) → t.key r ≡ t'.key r) → ((l : Link) → t.link l ≡ t'.link l) → t ≡ t'
same_tree t t' keys links = λ i. record { key = λ r. keys r i; link = λ l. links l i }

module _ (own parcels : ℕ) (m m' : List ℕ) (e : Entry) (sound : Sound own parcels m) (small : e.key < 2 ^ key_bits) (same : length m' ≡ length m) where
  -- how many were accepted, where the entry was put in
  accepted_then : book_at m' ≡ with_own (book_at m) e → (t : Bool) → has (book_at m) e.key ≡ t →
      accepted own (book_at m') ≡ pick t (accepted own (book_at m)) (accepted own (book_at m) + pick (eqb (origin e.key) own) 1 0)
  accepted_then after t there =
      ap (accepted own) after ∙ accepted_put own (book_at m) e
      ∙ ap (λ u. pick u (accepted own (book_at m)) (accepted own (book_at m) + pick (eqb (origin e.key) own) 1 0)) there

  module _ (row : ℕ) (found : Ok row ≡ search_end m e.key) (w : EntryWritten m m' row e) where
    is_row : Only (entry_at m) 1 (head_at m).count e.key row
    is_row = found_row m sound.tree e.key small row found

    keys : (r : ℕ) → (entry_at m r).key ≡ (entry_at m' r).key
    keys r =
        elim (cases_eq r row) [
          | inl is ↦ ap (λ q. (entry_at m q).key) is ∙ is_row.is ∙ sym (ap (λ (x : Entry). x.key) w.entry) ∙ ap (λ q. (entry_at m' q).key) (sym is)
          | inr ne ↦ ap (λ (x : Entry). x.key) (sym (w.others r ne))
        ]

    tree : tree_of m ≡ tree_of m'
    tree = same_tree (tree_of m) (tree_of m') keys (λ l. sym (w.links l))

    head : head_at m' ≡ head_at m
    head = w.head is_row.from

    count : (head_at m').count ≡ (head_at m).count
    count = ap (λ (h : Head). h.count) head

    book : book_at m' ≡ entries (entry_at m') 1 (head_at m).count
    unfolding book_at
    book = ap (entries (entry_at m') 1) count

    replaces : book_at m' ≡ with_own (book_at m) e
    unfolding book_at
    replaces = book ∙ sym (replaced (entry_at m) (entry_at m') 1 (head_at m).count e row is_row w.entry w.others)

    pub changed : IsPut own parcels m m' e
    changed =
        record {
          sound = record {
            enough = let enough = sound.enough in omega (arith, same);
            few = let few = sound.few in omega (arith, count);
            counted = ap (λ (h : Head). h.accepted) head ∙ sound.counted ∙ sym (accepted_then replaces true (found_entry m sound.tree e.key small row found).0);
            tree = subst (SoundTree (tree_of m')) (sym count) (subst (λ t. SoundTree t (head_at m).count) tree sound.tree);
          };
          after = replaces;
          elsewhere = record {
            size = same;
            spare = entry_spares m m' row e is_row.from w;
            rest = λ i low. w.rest i (λ a b. let to = is_row.to in omega (arith, count));
          };
        }

  module _ (end : Link) (free : Err end ≡ search_end m e.key) (room : (head_at m).count < parcels) (w : RowAdded own m m' end e) where
    grown : Grown (tree_of m) (tree_of m') (head_at m).count e.key end
    grown =
        let (within, none) = leads_nowhere m sound.tree e.key small end free in
        record {
          keys = λ r one low. ap (λ (x : Entry). x.key) (w.entries r one (λ x. omega arith));
          links = λ l low ne. w.links l (λ x. omega arith) ne;
          was = none;
          leads = w.leads;
          has = ap (λ (x : Entry). x.key) w.entry;
          below = w.below;
        }

    one_more : (head_at m').count ≡ suc (head_at m).count
    one_more = ap (λ (h : Head). h.count) w.head

    behind : book_at m' ≡ book_at m ++ e ∷ []
    unfolding book_at
    behind =
        let rows : book_at m' ≡ map (entry_at m') (range_with_len 1 ((head_at m).count + 1)) =
        ap (λ k. map (entry_at m') (range_with_len 1 k)) (one_more ∙ sym (add-one (head_at m).count)) in
        let old : entries (entry_at m) 1 (head_at m).count ≡ entries (entry_at m') 1 (head_at m).count =
        same_entries (entry_at m) (entry_at m') 1 (head_at m).count (λ r one low. w.entries r one (λ x. omega arith)) in
        rows ∙ map-range_with_len_more (entry_at m') 1 (head_at m).count (suc (head_at m).count) (omega arith)
        ∙ ap (λ xs. xs ++ entry_at m' (suc (head_at m).count) ∷ []) (sym old) ∙ ap (λ x. book_at m ++ x ∷ []) w.entry

    after : book_at m' ≡ with_own (book_at m) e
    after = behind ∙ sym (put_behind (book_at m) e (no_entry m sound.tree e.key small end free))

    pub added : IsPut own parcels m m' e
    added =
        record {
          sound = record {
            enough = let enough = sound.enough in omega (arith, same);
            few = omega (arith, one_more);
            counted = ap (λ (h : Head). h.accepted) w.head ∙ ap (λ k. k + pick (eqb (origin e.key) own) 1 0) sound.counted
                ∙ sym (accepted_then after false (no_entry m sound.tree e.key small end free));
            tree = subst (SoundTree (tree_of m')) (sym one_more)
                (grown_sound (tree_of m) (tree_of m') (head_at m).count e.key end (spot_height (spot_of (tree_of m) e.key)) sound.tree grown small
                (ends_free (spot_of (tree_of m) e.key) end free));
          };
          after = after;
          elsewhere = record { size = same; spare = w.spare; rest = λ i low. w.rest i (omega (arith, one_more)) };
        }
