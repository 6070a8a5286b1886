-- Laws of looking up and putting in. Each goes down the book, and by cases on whether an entry has the key.
use Rattle.std.proofs.Common.{◌≡◌, ℕ, suc, ◌+◌, Bool, true, false, ◌||◌, eqb, [], ◌∷◌, length, not, refl, sym, ap, ◌∙◌, subst, inl, inr, arith, eq-eqb, eqb-true}
use Rattle.std.proofs.lemmas.Bool.{cases_Bool, or_left, or_right, and_parts, not-true, false_from_ne_true}
use Rattle.std.proofs.lemmas.Bool.Decides.{nat_tests}
use borrow.Author.Tests.{clash}
use Rattle.parcels.specs.Book.{pick, Book, has, own, with_own, each_once}
use Rattle.parcels.specs.Laws.{BookLaws, Each}
use Rattle.parcels.specs.declared.Entry.{Entry}

same : (n : ℕ) → eqb n n ≡ true
same n = eq-eqb n n refl

own_put_at : (x e : Entry) (xs : Book) (t : Bool) → eqb x.key e.key ≡ t → own (with_own xs e) e.key ≡ e → own (pick t (e ∷ xs) (x ∷ with_own xs e)) e.key ≡ e
unfolding own
own_put_at x e xs true q h = rw (same e.key)
own_put_at x e xs false q h = rw q h

pub own_put : (b : Book) (e : Entry) → own (with_own b e) e.key ≡ e
unfolding own with_own
own_put [] e = rw (same e.key)
own_put (x ∷ xs) e = own_put_at x e xs (eqb x.key e.key) refl (own_put xs e)

own_other_at : (x e : Entry) (xs : Book) (key : ℕ) (t : Bool) → eqb x.key e.key ≡ t → eqb e.key key ≡ false →
    own (with_own xs e) key ≡ own xs key → own (pick t (e ∷ xs) (x ∷ with_own xs e)) key ≡ own (x ∷ xs) key
unfolding own
own_other_at x e xs key true q n h = rw (n, eqb-true x.key e.key q, n)
own_other_at x e xs key false q n h = ap (λ r. pick (eqb x.key key) x r) h

pub own_other : (b : Book) (e : Entry) (key : ℕ) → eqb e.key key ≡ false → own (with_own b e) key ≡ own b key
unfolding own with_own
own_other [] e key n = rw n
own_other (x ∷ xs) e key n = own_other_at x e xs key (eqb x.key e.key) refl n (own_other xs e key n)

or_swap : (s t u : Bool) → (s || (t || u)) ≡ (t || (s || u))
or_swap true true u = refl
or_swap true false u = refl
or_swap false true u = refl
or_swap false false u = refl

or_twice : (s u : Bool) → (s || u) ≡ (s || (s || u))
or_twice true u = refl
or_twice false u = refl

has_put_at : (x e : Entry) (xs : Book) (key : ℕ) (t : Bool) → eqb x.key e.key ≡ t → has (with_own xs e) key ≡ (eqb e.key key || has xs key) →
    has (pick t (e ∷ xs) (x ∷ with_own xs e)) key ≡ (eqb e.key key || has (x ∷ xs) key)
unfolding has
has_put_at x e xs key true q h = rw (eqb-true x.key e.key q) (or_twice (eqb e.key key) (has xs key))
has_put_at x e xs key false q h = ap (λ r. eqb x.key key || r) h ∙ or_swap (eqb x.key key) (eqb e.key key) (has xs key)

pub has_put : (b : Book) (e : Entry) (key : ℕ) → has (with_own b e) key ≡ (eqb e.key key || has b key)
unfolding has with_own
has_put [] e key = refl
has_put (x ∷ xs) e key = has_put_at x e xs key (eqb x.key e.key) refl (has_put xs e key)

own_key_at : (x : Entry) (xs : Book) (key : ℕ) (t : Bool) → eqb x.key key ≡ t → (t || has xs key) ≡ true → (has xs key ≡ true → (own xs key).key ≡ key) →
    (pick t x (own xs key)).key ≡ key
own_key_at x xs key true q h k = eqb-true x.key key q
own_key_at x xs key false q h k = k h

pub own_key : (b : Book) (key : ℕ) → has b key ≡ true → (own b key).key ≡ key
unfolding has own
own_key [] key h = absurd (clash h)
own_key (x ∷ xs) key h = own_key_at x xs key (eqb x.key key) refl h (own_key xs key)

put_length_at : (x e : Entry) (xs : Book) (t u : Bool) → has xs e.key ≡ u → length (with_own xs e) ≡ pick u (length xs) (length xs + 1) →
    length (pick t (e ∷ xs) (x ∷ with_own xs e)) ≡ pick (t || u) (length (x ∷ xs)) (length (x ∷ xs) + 1)
put_length_at x e xs true u q h = refl
put_length_at x e xs false true q h = ap suc h
put_length_at x e xs false false q h = omega arith

pub put_length : (b : Book) (e : Entry) → length (with_own b e) ≡ pick (has b e.key) (length b) (length b + 1)
unfolding has with_own
put_length [] e = refl
put_length (x ∷ xs) e = put_length_at x e xs (eqb x.key e.key) (has xs e.key) refl (put_length xs e)

put_twice_at : (x d e : Entry) (xs : Book) (t : Bool) → eqb x.key e.key ≡ t → eqb x.key d.key ≡ t → d.key ≡ e.key → with_own (with_own xs d) e ≡ with_own xs e →
    with_own (pick t (d ∷ xs) (x ∷ with_own xs d)) e ≡ pick t (e ∷ xs) (x ∷ with_own xs e)
unfolding with_own
put_twice_at x d e xs true q r s h = rw (eq-eqb d.key e.key s)
put_twice_at x d e xs false q r s h = rw q (ap (λ b. x ∷ b) h)

pub put_twice : (b : Book) (d e : Entry) → d.key ≡ e.key → with_own (with_own b d) e ≡ with_own b e
unfolding with_own
put_twice [] d e s = rw (eq-eqb d.key e.key s)
put_twice (x ∷ xs) d e s =
    rw (ap (λ k. eqb x.key k) s) (put_twice_at x d e xs (eqb x.key e.key) refl (ap (λ k. eqb x.key k) s) s (put_twice xs d e s))

-- what was put in is there
pub has_new : (b : Book) (e : Entry) → has (with_own b e) e.key ≡ true
has_new b e = has_put b e e.key ∙ or_left (eqb e.key e.key) (has b e.key) (same e.key)

-- what a book has stays in it, whatever is put in
pub still_has : (b : Book) (e : Entry) (key : ℕ) → has b key ≡ true → has (with_own b e) key ≡ true
still_has b e key there = has_put b e key ∙ or_right (eqb e.key key) (has b key) there

-- an entry is put in: what is so of it, and of what was there for other parcels, is so of what is there now
pub put_is : (b : Book) (e : Entry) (key : ℕ) (P : Entry → Type 0) → (e.key ≡ key → P e) → (eqb e.key key ≡ false → P (own b key)) → P (own (with_own b e) key)
put_is b e key P new old =
    elim (cases_Bool (eqb e.key key)) [
      | inl same ↦ let is : e.key ≡ key = eqb-true e.key key same in subst (λ k. P (own (with_own b e) k)) is (subst P (sym (own_put b e)) (new is))
      | inr other ↦ subst P (sym (own_other b e key other)) (old other)
    ]

-- so what is so of each entry, and of one that is put in, is so of each one then
pub each_put : (P : Entry → Type 0) (b : Book) (e : Entry) → Each P b → P e → Each P (with_own b e)
each_put P b e old new key there =
    put_is b e key P (λ _. new) (λ other. let had : has b key ≡ true = grind (arith, has_put b e key) in old key had)

-- where each parcel has one entry, the first one's has none behind it
pub once_parts : (e : Entry) (es : Book) → each_once (e ∷ es) ≡ true → (has es e.key ≡ false) × (each_once es ≡ true)
unfolding each_once
once_parts e es once = let (new, rest) = and_parts (not (has es e.key)) (each_once es) once in (not-true (has es e.key) new, rest)

-- what is so of each of its entries is so of the first, and of each one behind it
pub each_parts : (P : Entry → Type 0) (e : Entry) (es : Book) → each_once (e ∷ es) ≡ true → Each P (e ∷ es) → P e × Each P es
unfolding has own
each_parts P e es once all = (
  subst (λ t. P (pick t e (own es e.key))) (same e.key) (all e.key (or_left (eqb e.key e.key) (has es e.key) (same e.key))),
  λ key there.
      let other : eqb e.key key ≡ false = false_from_ne_true (eqb e.key key) (λ is. let new : has es key ≡ false = rw (← eqb-true e.key key is) (once_parts e es once).0 in absurd (cc)) in
      subst (λ t. P (pick t e (own es key))) other (all key (or_right (eqb e.key key) (has es key) there)),
)

-- and each parcel has one entry still, whatever is put in
once_put_at : (x e : Entry) (xs : Book) (t : Bool) → eqb x.key e.key ≡ t → each_once (x ∷ xs) ≡ true → each_once (with_own xs e) ≡ true → each_once (pick t (e ∷ xs) (x ∷ with_own xs e)) ≡ true
unfolding each_once
once_put_at x e xs true q once h = let is : x.key ≡ e.key = eqb-true x.key e.key q in rw (← is) once
once_put_at x e xs false q once h =
    let (new, rest) = once_parts x xs once in
    let other : eqb e.key x.key ≡ false = grind (arith, nat_tests) in
    rw (has_put xs e x.key, other, new, h)

pub once_put : (b : Book) (e : Entry) → each_once b ≡ true → each_once (with_own b e) ≡ true
unfolding has with_own each_once
once_put [] e once = refl
once_put (x ∷ xs) e once = once_put_at x e xs (eqb x.key e.key) refl once (once_put xs e (once_parts x xs once).1)

pub laws : BookLaws
laws =
    record { own_put = own_put; own_other = own_other; has_put = has_put; own_key = own_key; put_length = put_length; put_twice = put_twice }
