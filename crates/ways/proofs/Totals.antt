-- Sums over all numbers below a bound, as offices and keys are; and the sum of a book as a sum over all keys.
use Rattle.std.proofs.Common.{◌≡◌, ℕ, zero, suc, ◌+◌, ◌<◌, ◌≤◌, true, false, eqb, ltb, eq-eqb, eqb-true, [], ◌∷◌, refl, sym, ap, ◌∙◌, inl, inr, arith}
use Rattle.std.proofs.lemmas.Bool.{cases_Bool, or_left, or_right}
use Rattle.std.proofs.lemmas.Bool.Decides.{nat_tests}
use mathlib.Core.Path.{fun_ext}
use Rattle.parcels.specs.Book.{pick, Book, has, own, each_once}
use Rattle.parcels.specs.declared.Entry.{Entry}
use Rattle.promises.specs.Promise.{over_offices}
use Rattle.laws.proofs.Books.{once_parts}
use Rattle.laws.proofs.Sums.{IsSum}
use Rattle.truths.proofs.Parcels.{AllKeys}

-- where no number adds more, the sum is no more
pub total_at_most : (n : ℕ) (f g : ℕ → ℕ) → ((i : ℕ) → f i ≤ g i) → over_offices n f ≤ over_offices n g
unfolding over_offices
total_at_most zero f g low = omega arith
total_at_most (suc n) f g low = omega (arith, low n, total_at_most n f g low)

-- the sum of two sums
total_add : (n : ℕ) (f g : ℕ → ℕ) → over_offices n (λ i. f i + g i) ≡ over_offices n f + over_offices n g
unfolding over_offices
total_add zero f g = refl
total_add (suc n) f g = omega (arith, total_add n f g)

-- where all add nothing, the sum is nothing
total_none : (n : ℕ) → over_offices n (λ _. 0) ≡ 0
unfolding over_offices
total_none zero = refl
total_none (suc n) = omega (arith, total_none n)

-- a sum of sums is the same in either order
total_swap : (m n : ℕ) (f : ℕ → ℕ → ℕ) → over_offices m (λ i. over_offices n (λ j. f i j)) ≡ over_offices n (λ j. over_offices m (λ i. f i j))
unfolding over_offices
total_swap zero n f = sym (total_none n)
total_swap (suc m) n f = omega (arith, total_swap m n f, total_add n (λ j. f m j) (λ j. over_offices m (λ i. f i j)))

-- what one number adds is in the sum
pub one_in_total : (n : ℕ) (f : ℕ → ℕ) (i : ℕ) → i < n → f i ≤ over_offices n f
unfolding over_offices
one_in_total zero f i low = omega arith
one_in_total (suc n) f i low =
    elim (cases_Bool (eqb i n)) [
      | inl same ↦ omega (arith, ap f (eqb-true i n same))
      | inr other ↦ let below : i < n = grind (arith, nat_tests) in omega (arith, one_in_total n f i below)
    ]

-- where only one number adds something, that is all of the sum, or it isn't below the bound and the sum is nothing
one_below : (n : ℕ) (f : ℕ → ℕ) (i : ℕ) → ((j : ℕ) → eqb i j ≡ false → f j ≡ 0) → over_offices n f ≤ pick (ltb i n) (f i) 0
unfolding over_offices
one_below zero f i others = omega arith
one_below (suc n) f i others =
    elim (cases_Bool (eqb i n)) [
      | inl same ↦ grind (arith, nat_tests, ap f (eqb-true i n same), one_below n f i others)
      | inr other ↦ grind (arith, nat_tests, others n other, one_below n f i others)
    ]

-- so the sum is no more than what that one adds
pub one_is_total : (n : ℕ) (f : ℕ → ℕ) (i : ℕ) → ((j : ℕ) → eqb i j ≡ false → f j ≡ 0) → over_offices n f ≤ f i
one_is_total n f i others = grind (arith, one_below n f i others)

-- what the parcel of a key adds: nothing, where the book doesn't have it
abbrev pub of_key : (Entry → ℕ) → Book → ℕ → ℕ
of_key each b key = pick (has b key) (each (own b key)) 0

-- the first entry adds to its own key only, for which there is no other
first_of_key : (each : Entry → ℕ) (e : Entry) (es : Book) (key : ℕ) → has es e.key ≡ false → of_key each (e ∷ es) key ≡ pick (eqb e.key key) (each e) 0 + of_key each es key
unfolding has own
first_of_key each e es key new =
    elim (cases_Bool (eqb e.key key)) [
      | inl same ↦ let none : has es key ≡ false = rw (← eqb-true e.key key same) new in rw (same, none) (omega arith)
      | inr other ↦ rw other (omega arith)
    ]

-- a book's sum is that of what all keys add, where each parcel has one entry
by_keys : {sum : Book → ℕ} {each : Entry → ℕ} → IsSum sum each → (bound : ℕ) (b : Book) → each_once b ≡ true → AllKeys (λ key. key < bound) b → sum b ≡ over_offices bound (of_key each b)
unfolding has
by_keys s bound [] once low = s.none ∙ sym (total_none bound)
by_keys {each = each} s bound (e ∷ es) once low =
    let (new, rest) = once_parts e es once in
    let first : ℕ → ℕ = λ key. pick (eqb e.key key) (each e) 0 in
    let here : first e.key ≡ each e = ap (λ t. pick t (each e) 0) (eq-eqb e.key e.key refl) in
    let there : e.key < bound = low e.key (or_left (eqb e.key e.key) (has es e.key) (eq-eqb e.key e.key refl)) in
    let all : over_offices bound (of_key each (e ∷ es)) ≡ over_offices bound (λ key. first key + of_key each es key) = ap (over_offices bound) (fun_ext (λ key. first_of_key each e es key new)) in
    omega (
      arith,
      s.more e es,
      all,
      here,
      total_add bound first (of_key each es),
      one_in_total bound first e.key there,
      one_is_total bound first e.key (λ key other. ap (λ t. pick t (each e) 0) other),
      by_keys s bound es rest (λ key old. low key (or_right (eqb e.key key) (has es key) old)),
    )

-- the sum over all books, key by key
pub over_books : {sum : Book → ℕ} {each : Entry → ℕ} → IsSum sum each → (bound n : ℕ) (books : ℕ → Book) → ((o : ℕ) → each_once (books o) ≡ true) → ((o : ℕ) → AllKeys (λ key. key < bound) (books o)) →
    over_offices n (λ o. sum (books o)) ≡ over_offices bound (λ key. over_offices n (λ o. of_key each (books o) key))
over_books {each = each} s bound n books once low =
    ap (over_offices n) (fun_ext (λ o. by_keys s bound (books o) (once o) (low o))) ∙ total_swap n bound (λ o key. of_key each (books o) key)
