-- What is at an office, one parcel after the other.
use Rattle.std.proofs.Common.{◌≡◌, ℕ, zero, suc, ◌+◌, ◌-◌, ◌<◌, ◌≤◌, Bool, true, false, ◌&&◌, ◌||◌, ◌⊎◌, eqb, leb, eqb-true, [], ◌∷◌, refl, sym, arith, inl, inr}
use Rattle.std.proofs.lemmas.Bool.{cases_Bool, false_from_ne_true}
use Rattle.std.proofs.Math.Bool.{or-false}
use Rattle.std.proofs.lemmas.Bool.Decides.{nat_tests}
use borrow.Author.Tests.{clash}
use Rattle.parcels.specs.Book.{pick, Book, has, own, leaves_it_here, is_here, each_once, how_many_here, comes_first, first_here}
use Rattle.parcels.specs.Shelf.{FirstHere, FirstTold, asked_on, ShelfListed, ShelvesListed}
use Rattle.parcels.specs.declared.Entry.{Entry}
use Rattle.laws.proofs.Books.{once_parts}

-- a parcel is here if the first entry is its own and says so, or if it is here by the others; but by these it is not, where the
-- first is its own
here_by : (e : Entry) (es : Book) (key : ℕ) → each_once (e ∷ es) ≡ true →
    (is_here (e ∷ es) key ≡ ((eqb e.key key && leaves_it_here e.kind) || is_here es key)) × (eqb e.key key ≡ true → is_here es key ≡ false)
unfolding has own
here_by e es key once = go (eqb e.key key) (λ is. let new : has es key ≡ false = rw (← eqb-true e.key key is) (once_parts e es once).0 in rw new)
  where
    go : (t : Bool) → (t ≡ true → is_here es key ≡ false) → (((t || has es key) && leaves_it_here (pick t e (own es key)).kind) ≡ ((t && leaves_it_here e.kind) || is_here es key)) × (t ≡ true → is_here es key ≡ false)
    go true new = (rw (new refl) (sym (or-false (leaves_it_here e.kind))), new)
    go false new = (refl, new)

-- no parcel that is here from that key on lies before the one told
told_from : (b : Book) (from r : ℕ) → FirstTold b from r → (k : ℕ) → is_here b k ≡ true → from ≤ k → (0 < r) × (r ≤ suc k)
told_from b from zero told k here low = absurd (omega (arith, told k here, low))
told_from b from (suc key) told k here low = (omega arith, omega (arith, told.first k here low))

-- with one entry more, what is told is right still
told_more : (e : Entry) (es : Book) (from r : ℕ) → each_once (e ∷ es) ≡ true → FirstTold es from r →
    (t : Bool) → comes_first from e r ≡ t → FirstTold (e ∷ es) from (pick t (suc e.key) r)
told_more e es from r once old true q =
    record {
      here = grind (arith, nat_tests, here_by e es e.key once);
      from_on = grind (arith, nat_tests);
      first = λ k here low. grind (arith, nat_tests, here_by e es k once, told_from es from r old k);
    }
told_more e es from zero once old false q = λ k here. grind (arith, nat_tests, here_by e es k once, old k)
told_more e es from (suc m) once old false q =
    record {
      here = grind (arith, nat_tests, here_by e es m once, old.here);
      from_on = old.from_on;
      first = λ k here low. grind (arith, nat_tests, here_by e es k once, old.first k);
    }

first_told : (b : Book) (from : ℕ) → each_once b ≡ true → FirstTold b from (first_here b from)
unfolding has first_here
first_told [] from once = λ k here. absurd (clash here)
first_told (e ∷ es) from once = told_more e es from (first_here es from) once (first_told es from (once_parts e es once).1) _ refl

-- how many parcels are here from a key on
abbrev here_from : Book → ℕ → ℕ
here_from [] from = 0
here_from (e ∷ es) from = pick (leaves_it_here e.kind && leb from e.key) 1 0 + here_from es from

-- from key 0 on that is all
here_all : (b : Book) → here_from b 0 ≡ how_many_here b
unfolding how_many_here
here_all [] = refl
here_all (e ∷ es) = grind (arith, nat_tests, here_all es)

-- from one key on it is the parcel with that key, if it is here, and those behind it
here_next : (b : Book) (k : ℕ) → each_once b ≡ true → here_from b k ≡ pick (is_here b k) 1 0 + here_from b (suc k)
unfolding has
here_next [] k once = refl
here_next (e ∷ es) k once = let rest : each_once es ≡ true = (once_parts e es once).1 in grind (arith, nat_tests, here_by e es k once, here_next es k rest)

-- where none lies between, as many from the one key on as from the other
here_between : (b : Book) → each_once b ≡ true → (far from to : ℕ) → to ≡ from + far → ((k : ℕ) → is_here b k ≡ true → from ≤ k → to ≤ k) → here_from b from ≡ here_from b to
here_between b once zero from to is none = let same : to ≡ from = omega (arith, is) in rw same
here_between b once (suc far) from to is none =
    let skip : is_here b from ≡ false = false_from_ne_true (is_here b from) (λ here. omega (arith, is, none from here)) in
    let rest : here_from b (suc from) ≡ here_from b to = here_between b once far (suc from) to (omega (arith, is)) (λ k here low. none k here (omega arith)) in
    grind (arith, here_next b from once)

-- none, where all lie before
here_none : (b : Book) (from : ℕ) → each_once b ≡ true → ((k : ℕ) → is_here b k ≡ true → k < from) → here_from b from ≡ 0
here_none [] from once before = refl
here_none (e ∷ es) from once before =
    let rest : here_from es from ≡ 0 = here_none es from (once_parts e es once).1 (λ k here. before k (grind (arith, here_by e es k once))) in
    grind (arith, nat_tests, here_by e es e.key once, before e.key)

module _ (b : Book) (once : each_once b ≡ true) where
  -- behind the first one there is one fewer
  fewer : (from key : ℕ) → FirstHere b from key → here_from b from ≡ suc (here_from b (suc key))
  fewer from key told =
      let skip : here_from b from ≡ here_from b key = here_between b once (key - from) from key (omega (arith, told.from_on)) told.first in
      grind (arith, here_next b key once, told.here)

  -- what is told from a key on is a parcel
  abbrev TellsFirst : ℕ → ℕ → Type 0
  TellsFirst from r = (key : ℕ) × (r ≡ suc key) × FirstHere b from key

  tells_first : (from : ℕ) → 0 < here_from b from → TellsFirst from (first_here b from)
  tells_first from some = go (first_here b from) (first_told b from once)
    where
      go : (r : ℕ) → FirstTold b from r → TellsFirst from r
      go zero told = absurd (omega (arith, here_none b from once told))
      go (suc key) told = (key, refl, told)

  -- after n askings, n fewer lie ahead
  here_left : (n : ℕ) → n ≤ how_many_here b → here_from b (asked_on b n) + n ≡ how_many_here b
  unfolding asked_on
  here_left zero h = omega (arith, here_all b)
  here_left (suc n) h =
      let before : here_from b (asked_on b n) + n ≡ how_many_here b = here_left n (omega arith) in
      let (key, is, told) = tells_first (asked_on b n) (omega arith) in
      rw is (omega (arith, fewer (asked_on b n) key told, before))

  -- so as many askings as there are parcels find one each
  nth_tells : (n : ℕ) → n < how_many_here b → TellsFirst (asked_on b n) (asked_on b (suc n))
  unfolding asked_on
  nth_tells n h = tells_first (asked_on b n) (omega (arith, here_left n (omega arith)))

  -- the key from which one asks when all were told
  last : ℕ
  last = asked_on b (how_many_here b)

  -- and that one finds none
  end : first_here b last ≡ 0
  unfolding last
  end = go (first_here b last) (first_told b last once)
    where
      go : (r : ℕ) → FirstTold b last r → r ≡ 0
      go zero told = refl
      go (suc key) told = absurd (omega (arith, fewer last key told, here_left (how_many_here b) (omega arith)))

  abbrev WasTold : ℕ → Type 0
  WasTold key = (n : ℕ) × (n < how_many_here b) × (asked_on b (suc n) ≡ suc key)

  -- a parcel that is here was told, or the next one is asked for from its key or before it
  reached : (key : ℕ) → is_here b key ≡ true → (n : ℕ) → n ≤ how_many_here b → WasTold key ⊎ (asked_on b n ≤ key)
  unfolding asked_on
  reached key here zero h = inr (omega arith)
  reached key here (suc n) h = go (reached key here n (omega arith)) (nth_tells n h)
    where
      go : WasTold key ⊎ (asked_on b n ≤ key) → TellsFirst (asked_on b n) (asked_on b (suc n)) → WasTold key ⊎ (asked_on b (suc n) ≤ key)
      go (inl was) _ = inl was
      go (inr low) (k, is, told) = elim (cases_Bool (eqb k key)) [ inl same ↦ inl (n, h, omega (arith, is, eqb-true k key same)) | inr other ↦ inr (grind (arith, nat_tests, is, told.first key here low)) ]

  all : (key : ℕ) → is_here b key ≡ true → WasTold key
  unfolding last
  all key here = go (reached key here (how_many_here b) (omega arith))
    where
      go : WasTold key ⊎ (last ≤ key) → WasTold key
      go (inl was) = was
      go (inr low) = absurd (omega (arith, end, told_from b last (first_here b last) (first_told b last once) key here low))

  listed : ShelfListed b
  unfolding asked_on last
  listed =
      record {
        each = λ n h. let (key, is, told) = nth_tells n h in (key, is, told.here);
        in_order = λ n h. let (key, is, told) = nth_tells n h in omega (arith, is, told.from_on);
        all = all;
        end = end;
      }

pub shelves_listed : ShelvesListed
shelves_listed = record { told = first_told; listed = listed }
