-- What an array holds that a closure made, element by element.
use Rattle.std.proofs.Common.{◌≡◌, ℕ, zero, suc, ◌+◌, ◌<◌, ◌≤◌, List, get_or, sym, refl, subst, inl, inr, arith}
use denote.Param.Members.{Mut, Called}
use Rattle.std.specs.Array.{IsFromFnResult, IsFromFnResultFrom}
use Rattle.std.proofs.lemmas.Bool.{cases_lt}

-- by what each call gave, of a closure that no call changes
module _ {F B : Type 0} (g : Mut F (ℕ × Unit {0}) B) (P : ℕ → B → Type 0) (f : F) (call : (i : ℕ) (y : B) (q : F) → Called g f (i, tt) y q → P i y × (q ≡ f)) where
  from_place : (ys : List B) (q : F) (i n : ℕ) → q ≡ f → IsFromFnResultFrom g q ys i n → (j : ℕ) (d : B) → i ≤ j → j < i + n → P j (get_or ys j d)
  from_place ys q i zero same made j d low high = absurd (omega arith)
  from_place ys q i (suc n) same (next, y, (_, at), called, rest) j d low high =
      let one = call i y next (subst (λ (p : F). Called g p (i, tt) y next) same called) in
      elim (cases_lt i j) [
        | inl h ↦ from_place ys next (i + 1) n one.1 rest j d (omega arith) (omega arith)
        | inr h ↦ let here : i ≡ j = omega arith in subst (λ (k : ℕ). P k (get_or ys k d)) here (subst (P i) (sym (at d)) one.0)
      ]

  pub each_made : (ys : List B) (n : ℕ) → IsFromFnResult g f ys n → (j : ℕ) (d : B) → j < n → P j (get_or ys j d)
  each_made ys n made j d h = from_place ys f 0 n refl made.each j d (omega arith) (omega arith)
