-- Memory that was just laid out is sound, and means the empty book.
use Rattle.std.proofs.Common.{◌≡◌, ℕ, ◌≤◌, [], List, length, map, sym, ap, ◌∙◌, subst, arith}
use Rattle.std.specs.List.{range_with_len}
use Rattle.parcels.specs.Book.{accepted}
use Rattle.parcels.specs.Laws.{StepsFit}
use Rattle.laws.proofs.Steps.{stay_fit}
use Rattle.rows.specs.Layout.{words_for, head_at, book_at, entry_at, HeadWritten, LinkWritten}
use Rattle.rows.proofs.Words.{head_spares, link_spares, spares_on}
use Rattle.rows.specs.declared.Head.{Head}
use Rattle.rows.specs.declared.Link.{Link}
use Rattle.book.specs.Tree.{Tree, tree_of, root, Hangs, SoundTree}
use Rattle.book.specs.Keeping.{LaidOut}
use Rattle.book.specs.Adding.{Cleared}

-- in a tree without rows only the root hangs, and it leads nowhere
nowhere : (t : Tree) (h prefix : ℕ) (l : Link) → t.link root ≡ 0 → Hangs t 0 h prefix l → t.link l ≡ 0
nowhere t h prefix l none hangs = grind arith

pub empty_tree : (t : Tree) → t.link root ≡ 0 → SoundTree t 0
empty_tree t none =
    record {
      linked = λ x. absurd (x.leads (nowhere t x.bits x.low x.link none x.hangs));
      found = λ x. absurd (omega arith);
    }

pub cleared : (m m' m'' : List ℕ) → LinkWritten m' m'' root 0 → HeadWritten m m' (record { count = 0; accepted = 0 }) → Cleared m m''
cleared m m' m'' link head =
    record {
      head = link.head ∙ head.head;
      root = link.link;
      spare = spares_on m m' m'' (head_spares m m' (record { count = 0; accepted = 0 }) head) (link_spares m' m'' root 0 link);
      rest = λ i low. link.rest i (λ a b. omega arith) ∙ head.rest i (λ a b. omega arith);
    }

pub laid_out : (own parcels : ℕ) (m m' : List ℕ) → words_for parcels ≤ length m → length m' ≡ length m → Cleared m m' → LaidOut own parcels m m'
unfolding book_at accepted
laid_out own parcels m m' enough same clear =
    let no_rows : (head_at m').count ≡ 0 = ap (λ (h : Head). h.count) clear.head in
    let empty : book_at m' ≡ [] = ap (λ n. map (entry_at m') (range_with_len 1 n)) no_rows in
    record {
      enough = enough;
      ready = record {
        sound = record {
          enough = omega (arith, enough, same);
          few = omega (arith, no_rows);
          counted = ap (λ (h : Head). h.accepted) clear.head ∙ sym (ap (accepted own) empty);
          tree = subst (SoundTree (tree_of m')) (sym no_rows) (empty_tree (tree_of m') clear.root);
        };
        steps = subst StepsFit (sym empty) stay_fit.empty;
      };
      empty = empty;
      spare = clear.spare;
      rest = clear.rest;
    }
