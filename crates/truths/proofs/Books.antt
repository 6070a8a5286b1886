-- The books that offices have in truth, as one thing more is said: only the book of the office that answered goes on, by a
-- call that it didn't refuse.
use Rattle.std.proofs.Common.{◌≡◌, ℕ, Bool, true, false, eqb, eqb-true, eq-eqb, List, [], ◌∷◌, Ok, Err, refl, sym, subst}
use Rattle.parcels.specs.Book.{pick, Book}
use Rattle.parcels.specs.Calls.{Limits, after, not_refused}
use Rattle.parcels.specs.declared.Call.{Call}
use Rattle.parcels.specs.declared.Answer.{Answer}
use Rattle.wire.specs.Layout.{readable}
use Rattle.wire.specs.Calls.{Reading}
use Rattle.promises.specs.Truth.{book_then, truth}
use Rattle.promises.specs.World.{Said, row_readable}
use Rattle.promises.specs.Promise.{Happened, nothing_yet, and_then}

-- what was said, with one thing more
abbrev pub and_said : ℕ → Reading → Answer → List Said → List Said
and_said o r a xs = record { at = o; reading = r; answer = a } ∷ xs

-- what stays either way stays
pub pick_same : {X : Type 0} → (t : Bool) (x : X) → pick t x x ≡ x
pick_same true x = refl
pick_same false x = refl

-- the book of the office that answered goes on
pub truth_here : (l : Limits) (xs : List Said) (o : ℕ) (r : Reading) (a : Answer) → truth l (and_said o r a xs) o ≡ book_then l o (truth l xs o) r a
unfolding truth
truth_here l xs o r a = rw (eq-eqb o o refl)

-- and every other one stays as it was
pub truth_elsewhere : (l : Limits) (xs : List Said) (o q : ℕ) (r : Reading) (a : Answer) → eqb q o ≡ false → truth l (and_said q r a xs) o ≡ truth l xs o
unfolding truth
truth_elsewhere l xs o q r a other = rw other

-- what is so of the one that went on, and of the others as they were, is so of each
pub each_truth : (l : Limits) (xs : List Said) (o : ℕ) (r : Reading) (a : Answer) (P : ℕ → Book → Type 0) → P o (book_then l o (truth l xs o) r a) → ((q : ℕ) → eqb o q ≡ false → P q (truth l xs q)) →
    (q : ℕ) → P q (truth l (and_said o r a xs) q)
each_truth l xs o r a P here elsewhere q = go (eqb o q) refl
  where
    go : (t : Bool) → eqb o q ≡ t → P q (truth l (and_said o r a xs) q)
    go true is = subst (λ p. P p (truth l (and_said o r a xs) p)) (eqb-true o q is) (subst (P o) (sym (truth_here l xs o r a)) here)
    go false other = subst (P q) (sym (truth_elsewhere l xs q o r a other)) (elsewhere q other)

-- what is so of a book and of the one after a call, is so of the one after an answer to it
pub if_said : (l : Limits) (o : ℕ) (b : Book) (r : Reading) (a : Answer) (P : Book → Type 0) → P b → ((c : Call) → r ≡ Ok c → P (after l o b c)) → P (book_then l o b r a)
if_said l o b (Ok c) a P same new = go (not_refused a)
  where
    go : (t : Bool) → P (pick t (after l o b c) b)
    go true = new c refl
    go false = same
if_said l o b (Err e) a P same new = same

-- what is so of an office's empty book, and stays so by each call whose values four bytes hold, is so of its book in truth
pub each_book : {l : Limits} {xs : List Said} (P : ℕ → Book → Type 0) → ((o : ℕ) → P o []) → ((o : ℕ) (b : Book) (c : Call) → readable c ≡ true → P o b → P o (after l o b c)) → Happened l xs → (o : ℕ) → P o (truth l xs o)
unfolding truth
each_book P empty call nothing_yet o = empty o
each_book {l} P empty call (and_then {xs} q r a before in' fits known right) o =
    let was : P q (truth l xs q) = each_book P empty call before q in
    each_truth l xs q r a P
    (if_said l q (truth l xs q) r a (P q) was (λ c is. call q (truth l xs q) c (subst (λ x. row_readable x ≡ true) is fits) was))
    (λ p _. each_book P empty call before p) o
