-- Looking up and putting in, in a book whose entries are those of rows.
use Rattle.std.proofs.Common.{◌≡◌, ℕ, zero, suc, ◌+◌, ◌<◌, ◌≤◌, true, false, eqb, inl, inr, ◌≢◌, [], ◌∷◌, ◌++◌, map, refl, ap, ◌∙◌, arith, eq-eqb, ne_eqb}
use Rattle.std.specs.List.{range_with_len}
use Rattle.std.proofs.lemmas.Bool.{cases_eq}
use Rattle.parcels.specs.Book.{Book, has, own, with_own, each_once}
use Rattle.parcels.specs.declared.Entry.{Entry}

-- the entries of n rows from row a on
abbrev pub entries : (ℕ → Entry) → ℕ → ℕ → Book
entries f a n = map f (range_with_len a n)

pub absent : (f : ℕ → Entry) (a n key : ℕ) → ((r : ℕ) → a ≤ r → r < a + n → (f r).key ≢ key) → has (entries f a n) key ≡ false
unfolding has
absent f a zero key other = refl
absent f a (suc n) key other =
    rw (ne_eqb (f a).key key (other a (omega arith) (omega arith))) (absent f (a + 1) n key (λ r low high. other r (omega arith) (omega arith)))

-- where no two rows have one key, each parcel has one entry
pub rows_once : (f : ℕ → Entry) (a n : ℕ) → ((q r : ℕ) → a ≤ q → q < r → r < a + n → (f r).key ≢ (f q).key) → each_once (entries f a n) ≡ true
unfolding each_once
rows_once f a zero once = refl
rows_once f a (suc n) once =
    let first : has (entries f (a + 1) n) (f a).key ≡ false = absent f (a + 1) n (f a).key (λ r low high. once a r (omega arith) (omega arith) (omega arith)) in
    rw first (rows_once f (a + 1) n (λ q r low next high. once q r (omega arith) next (omega arith)))

-- the row of a key, and no other has that key
pub record Only (f : ℕ → Entry) (a n key row : ℕ) : Type 0 where
  pub from : a ≤ row
  pub to : row < a + n
  pub is : (f row).key ≡ key
  pub only : (r : ℕ) → a ≤ r → r < a + n → (f r).key ≡ key → r ≡ row

-- behind the first row, where that is not the one
only_behind : (f : ℕ → Entry) (a n key row : ℕ) → Only f a (suc n) key row → (f a).key ≢ key → Only f (a + 1) n key row
only_behind f a n key row x other =
    let later : a ≢ row = λ e. other (ap (λ r. (f r).key) e ∙ x.is) in
    record {
      from = omega arith;
      to = omega arith;
      is = x.is;
      only = λ r low high k. x.only r (omega arith) (omega arith) k;
    }

pub present : (f : ℕ → Entry) (a n key row : ℕ) → Only f a n key row → (has (entries f a n) key ≡ true) × (own (entries f a n) key ≡ f row)
unfolding has own
present f a zero key row x = absurd (omega arith)
present f a (suc n) key row x =
    elim (cases_eq (f a).key key) [
      | inl e ↦
          let here : a ≡ row = x.only a (omega arith) (omega arith) e in
          let t : eqb (f a).key key ≡ true = eq-eqb (f a).key key e in
          (rw t, rw (t, here))
      | inr e ↦
          let t : eqb (f a).key key ≡ false = ne_eqb (f a).key key e in
          let (h, o) = present f (a + 1) n key row (only_behind f a n key row x e) in
          (rw t h, rw t o)
    ]

pub same_entries : (f g : ℕ → Entry) (a n : ℕ) → ((r : ℕ) → a ≤ r → r < a + n → g r ≡ f r) → entries f a n ≡ entries g a n
same_entries f g a zero same = refl
same_entries f g a (suc n) same =
    let first : g a ≡ f a = same a (omega arith) (omega arith) in
    let rest : entries f (a + 1) n ≡ entries g (a + 1) n = same_entries f g (a + 1) n (λ r low high. same r (omega arith) (omega arith)) in
    cc

-- another entry in the row of its key
pub replaced : (f g : ℕ → Entry) (a n : ℕ) (e : Entry) (row : ℕ) → Only f a n e.key row → g row ≡ e → ((r : ℕ) → r ≢ row → g r ≡ f r) →
    with_own (entries f a n) e ≡ entries g a n
unfolding with_own
replaced f g a zero e row x new same = absurd (omega arith)
replaced f g a (suc n) e row x new same =
    elim (cases_eq (f a).key e.key) [
      | inl k ↦
          let here : a ≡ row = x.only a (omega arith) (omega arith) k in
          let first : g a ≡ e = ap g here ∙ new in
          let rest : entries f (a + 1) n ≡ entries g (a + 1) n = same_entries f g (a + 1) n (λ r low high. same r (λ z. omega arith)) in
          rw (eq-eqb (f a).key e.key k) (cc)
      | inr k ↦
          let first : g a ≡ f a = same a (λ z. k (ap (λ r. (f r).key) z ∙ x.is)) in
          let rest : with_own (entries f (a + 1) n) e ≡ entries g (a + 1) n = replaced f g (a + 1) n e row (only_behind f a n e.key row x k) new same in
          rw (ne_eqb (f a).key e.key k) (cc)
    ]

-- an entry with a new key comes behind the others
pub put_behind : (b : Book) (e : Entry) → has b e.key ≡ false → with_own b e ≡ b ++ e ∷ []
unfolding has with_own
put_behind [] e none = refl
put_behind (x ∷ xs) e none = grind (arith, put_behind xs e)
