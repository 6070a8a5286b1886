-- That what is carried has so many numbers, of eight bytes each at most; and that any numbers of four bytes are some
-- fields of a call.
use Rattle.std.proofs.Common.{◌≡◌, ℕ, Bool, true, ltb, List, [], ◌∷◌, ◌++◌, length, refl, ap, ◌∙◌, length-append, arith, rules}
use Rattle.std.proofs.lemmas.Bool.{and_parts, and_from}
use Rattle.std.proofs.lemmas.Bool.Decides.{nat_tests}
use Rattle.parcels.specs.Numbers.{four_bytes, eight_bytes, all_below, kind_number, reason_number, refusal_values, step_values, slip_values}
use Rattle.parcels.specs.declared.Kind.{Kind}
use Rattle.parcels.specs.declared.Reason.{Reason}
use Rattle.parcels.specs.declared.Step.{Step}
use Rattle.parcels.specs.declared.Slip.{Slip}
use Rattle.parcels.specs.declared.Refusal.{Refusal}
use Rattle.wire.specs.Carried.{field_fits, one_values, none_fit, none_values, pair_fits, pair_values, AreCarried}
use Rattle.wire.specs.Answers.{refusal_fits, slip_fits, step_fits, one_fits}

reason_small : (r : Reason) → ltb (reason_number r) eight_bytes ≡ true
reason_small r = search rules

kind_small : (k : Kind) → ltb (kind_number k) eight_bytes ≡ true
kind_small k = search rules

pub refusal_small : (r : Refusal) → refusal_fits r ≡ true → all_below eight_bytes (refusal_values r) ≡ true
refusal_small r fits = let h = reason_small r.reason in grind (arith, nat_tests)

pub step_small : (s : Step) → step_fits s ≡ true → all_below eight_bytes (step_values s) ≡ true
step_small s fits = let h = kind_small s.kind in grind (arith, nat_tests)

pub slip_small : (s : Slip) → slip_fits s ≡ true → all_below eight_bytes (slip_values s) ≡ true
slip_small s fits = grind (arith, nat_tests)

pub one_small : (n : ℕ) → one_fits n ≡ true → all_below eight_bytes (one_values n) ≡ true
one_small n fits = grind (arith, nat_tests)

pub field_small : (n : ℕ) → field_fits n ≡ true → all_below eight_bytes (one_values n) ≡ true
field_small n fits = grind (arith, nat_tests)

all_below_append : (n : ℕ) (vs ws : List ℕ) → all_below n vs ≡ true → all_below n ws ≡ true → all_below n (vs ++ ws) ≡ true
all_below_append n [] ws low small = small
all_below_append n (v ∷ vs) ws low small = let p = and_parts (ltb v n) (all_below n vs) low in and_from (ltb v n) (all_below n (vs ++ ws)) p.0 (all_below_append n vs ws p.1 small)

-- the laws of a pair, by those of its two things
module _ {A B : Type 0} (f : A → Bool) (v : A → List ℕ) (g : B → Bool) (w : B → List ℕ) where
  pub pair_small : ((a : A) → f a ≡ true → all_below eight_bytes (v a) ≡ true) → ((b : B) → g b ≡ true → all_below eight_bytes (w b) ≡ true) → (p : A × B) → pair_fits f g p ≡ true → all_below eight_bytes (pair_values v w p) ≡ true
  pair_small one two p fits = let h = and_parts (f p.0) (g p.1) fits in all_below_append eight_bytes (v p.0) (w p.1) (one p.0 h.0) (two p.1 h.1)

  pub pair_count : ((a : A) → length (v a) ≡ 1) → ((b : B) → length (w b) ≡ 1) → (p : A × B) → length (pair_values v w p) ≡ 2
  pair_count one two p = omega (arith, length-append (v p.0) (w p.1), one p.0, two p.1)

  pub pair_every : ((ns : List ℕ) → length ns ≡ 1 → all_below four_bytes ns ≡ true → AreCarried f v ns) → ((ns : List ℕ) → length ns ≡ 1 → all_below four_bytes ns ≡ true → AreCarried g w ns) →
      (ns : List ℕ) → length ns ≡ 2 → all_below four_bytes ns ≡ true → AreCarried (pair_fits f g) (pair_values v w) ns
  pair_every one two [] long low = absurd (omega arith)
  pair_every one two (m ∷ []) long low = absurd (omega arith)
  pair_every one two (m ∷ (n ∷ [])) long low =
      let p = and_parts (ltb m four_bytes) (all_below four_bytes (n ∷ [])) low in
      let (a, fits, is) = one (m ∷ []) refl (and_from (ltb m four_bytes) true p.0 refl) in
      let (b, small, same) = two (n ∷ []) refl p.1 in
      ((a, b), and_from (f a) (g b) fits small, ap (λ front. front ++ w b) is ∙ ap (λ rest. m ∷ rest) same)
  pair_every one two (m ∷ (n ∷ (k ∷ ns))) long low = absurd (omega arith)

pub every_none : (ns : List ℕ) → length ns ≡ 0 → all_below four_bytes ns ≡ true → AreCarried none_fit none_values ns
every_none [] long low = (tt, refl, refl)
every_none (n ∷ ns) long low = absurd (omega arith)

pub every_field : (ns : List ℕ) → length ns ≡ 1 → all_below four_bytes ns ≡ true → AreCarried field_fits one_values ns
every_field [] long low = absurd (omega arith)
every_field (n ∷ []) long low = (n, (and_parts (ltb n four_bytes) true low).0, refl)
every_field (m ∷ (n ∷ ns)) long low = absurd (omega arith)

pub every_slip : (ns : List ℕ) → length ns ≡ 6 → all_below four_bytes ns ≡ true → AreCarried slip_fits slip_values ns
every_slip [] long low = absurd (omega arith)
every_slip (a ∷ []) long low = absurd (omega arith)
every_slip (a ∷ (b ∷ [])) long low = absurd (omega arith)
every_slip (a ∷ (b ∷ (c ∷ []))) long low = absurd (omega arith)
every_slip (a ∷ (b ∷ (c ∷ (d ∷ [])))) long low = absurd (omega arith)
every_slip (a ∷ (b ∷ (c ∷ (d ∷ (e ∷ []))))) long low = absurd (omega arith)
every_slip (a ∷ (b ∷ (c ∷ (d ∷ (e ∷ (f ∷ [])))))) long low =
    let s : Slip = record { key = a; step = b; from = c; to = d; dest = e; amount = f } in
    (s, grind (arith, nat_tests), refl)
every_slip (a ∷ (b ∷ (c ∷ (d ∷ (e ∷ (f ∷ (g ∷ ns))))))) long low = absurd (omega arith)
