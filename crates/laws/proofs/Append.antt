-- What is told of a book with one more entry behind the others: so a loop goes on that reads a book from its start.
use Rattle.std.proofs.Common.{◌≡◌, ℕ, ◌+◌, [], ◌∷◌, ◌++◌, refl, ap, ◌∙◌, arith, inl, inr}
use Rattle.std.proofs.lemmas.Bool.{cases_Bool}
use Rattle.std.proofs.lemmas.Bool.Decides.{nat_tests}
use Rattle.parcels.specs.Book.{Book, leaves_it_here, first_with, first_here}
use Rattle.parcels.specs.declared.Entry.{Entry}
use Rattle.laws.proofs.Sums.{IsSum}

pub sum_append : {sum : Book → ℕ} {each : Entry → ℕ} → IsSum sum each → (b : Book) (e : Entry) → sum (b ++ e ∷ []) ≡ sum b + each e
sum_append s [] e = omega (arith, s.more e [], s.none)
sum_append s (x ∷ xs) e = omega (arith, s.more x (xs ++ e ∷ []), s.more x xs, sum_append s xs e)

-- of two entries it is all one which is looked at first
first_with_swap : (from : ℕ) (d e : Entry) (found : ℕ) → first_with from d (first_with from e found) ≡ first_with from e (first_with from d found)
first_with_swap from d e found =
    elim (cases_Bool (leaves_it_here d.kind)) [
      | inl first ↦ elim (cases_Bool (leaves_it_here e.kind)) [ inl second ↦ grind (arith, nat_tests) | inr second ↦ rw second refl ]
      | inr first ↦ rw first refl
    ]

pub first_here_append : (b : Book) (e : Entry) (from : ℕ) → first_here (b ++ e ∷ []) from ≡ first_with from e (first_here b from)
unfolding first_here
first_here_append [] e from = refl
first_here_append (x ∷ xs) e from = ap (first_with from x) (first_here_append xs e from) ∙ first_with_swap from x e (first_here xs from)
