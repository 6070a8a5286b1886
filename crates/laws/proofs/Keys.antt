-- Keys are given out once: each thing that a call does with a book keeps the keys and the book in order.
use Rattle.std.proofs.Common.{◌≡◌, ℕ, zero, suc, ◌+◌, ◌-◌, ◌*◌, ◌%◌, ◌<◌, ◌≤◌, Bool, true, false, not, ◌||◌, eqb, eqb-true, inl, inr, List, [], ◌∷◌, ◌++◌, length, slice_index, refl, sym, ap, ◌∙◌, subst, arith}
use Rattle.std.proofs.lemmas.Bool.{false_from_ne_true, cases_Bool}
use Rattle.std.proofs.lemmas.Bool.Decides.{nat_tests}
use Rattle.parcels.specs.Numbers.{most_parcels, keys_of_an_office}
use Rattle.parcels.specs.Book.{pick, origin, Book, has, own, with_own, has_room, accepted}
use Rattle.parcels.specs.Calls.{Limits, new_key, accepted_entry, left_entry, came_entry, paid_entry}
use Rattle.parcels.specs.Laws.{GivenInOrder, brings_known_key, ByCalls, opened, called, KeysOnce, GivenOnce}
use Rattle.parcels.specs.declared.Entry.{Entry}
use Rattle.parcels.specs.declared.Call.{Call}
use Rattle.laws.proofs.Books.{own_key, has_put, has_new, still_has, put_length}
use Rattle.laws.proofs.Did.{Did, nothing, accepts, comes, leaves, pays, did}

-- how many were accepted, after an entry was put in
accepted_put_at : (o : ℕ) (x e : Entry) (xs : Book) (t u : Bool) → eqb x.key e.key ≡ t → accepted o (with_own xs e) ≡ pick u (accepted o xs) (accepted o xs + pick (eqb (origin e.key) o) 1 0) →
    accepted o (pick t (e ∷ xs) (x ∷ with_own xs e)) ≡ pick (t || u) (accepted o (x ∷ xs)) (accepted o (x ∷ xs) + pick (eqb (origin e.key) o) 1 0)
unfolding accepted
accepted_put_at o x e xs true u q h = rw (eqb-true x.key e.key q) (omega arith)
accepted_put_at o x e xs false true q h = omega (arith, h)
accepted_put_at o x e xs false false q h = omega (arith, h)

pub accepted_put : (o : ℕ) (b : Book) (e : Entry) → accepted o (with_own b e) ≡ pick (has b e.key) (accepted o b) (accepted o b + pick (eqb (origin e.key) o) 1 0)
unfolding accepted has with_own
accepted_put o [] e = omega arith
accepted_put o (x ∷ xs) e = accepted_put_at o x e xs (eqb x.key e.key) (has xs e.key) refl (accepted_put o xs e)

pub accepted_few : (o : ℕ) (b : Book) → accepted o b ≤ length b
unfolding accepted
accepted_few o [] = omega arith
accepted_few o (x ∷ xs) = grind (arith, accepted_few o xs)

-- where there is room, fewer parcels were accepted than an office ever has to do with
pub accepted_small : (o parcels : ℕ) (b : Book) → has_room parcels b ≡ true → parcels ≤ most_parcels → accepted o b < most_parcels
accepted_small o parcels b room limit =
    let few : accepted o b ≤ length b = accepted_few o b in
    grind (arith, nat_tests)

-- a new key, taken apart
pub new_parts : (o key : ℕ) (b : Book) → key ≡ new_key o b → accepted o b < most_parcels → (origin key ≡ o) × (key % keys_of_an_office ≡ accepted o b)
new_parts o key b is small = (omega (arith, is), omega (arith, is))

-- no parcel has it
pub new_unused : (o key : ℕ) (b : Book) → key ≡ new_key o b → accepted o b < most_parcels → GivenInOrder o b → has b key ≡ false
new_unused o key b is small order =
    let (ours, rest) = new_parts o key b is small in
    false_from_ne_true (has b key) (λ there. omega (arith, order key there ours, rest))

-- the keys are this office's first ones, the last first; each of its own parcels is among these, and there is room for all
record Ordered (l : Limits) (o : ℕ) (keys : List ℕ) (b : Book) : Type 0 where
  counted : length keys ≡ accepted o b
  each : (i : ℕ) → i < length keys → slice_index keys i ≡ keys_of_an_office * o + (length keys - suc i)
  kept : (i : ℕ) → i < length keys → has b (slice_index keys i) ≡ true
  in_order : GivenInOrder o b
  few : length b ≤ l.parcels

-- an entry is put in: as many were accepted as before or more, and its key, where it is new and the office's, is below that
put_in_order : (o : ℕ) (b : Book) (e : Entry) → accepted o b ≤ accepted o (with_own b e) → (has b e.key ≡ false → origin e.key ≡ o → e.key % keys_of_an_office < accepted o (with_own b e)) →
    GivenInOrder o b → GivenInOrder o (with_own b e)
put_in_order o b e more new old key there ours =
    elim (cases_Bool (has b key)) [
      | inl h ↦ omega (arith, old key h ours)
      | inr h ↦
          let is : e.key ≡ key = grind (arith, nat_tests, has_put b e key) in
          rw (← is) (new (rw is h) (rw is ours))
    ]

-- an entry with a key that the book has, or of another office, is put in
known_ordered : (l : Limits) (o : ℕ) (keys : List ℕ) (b : Book) (e : Entry) → (has b e.key || not (eqb (origin e.key) o)) ≡ true → (has b e.key || has_room l.parcels b) ≡ true →
    Ordered l o keys b → Ordered l o keys (with_own b e)
known_ordered l o keys b e is room x =
    let same : accepted o (with_own b e) ≡ accepted o b = grind (arith, accepted_put o b e) in
    record {
      counted = cc;
      each = x.each;
      kept = λ i h. still_has b e (slice_index keys i) (x.kept i h);
      in_order = put_in_order o b e (omega (arith, same)) (λ new ours. absurd (grind (arith, nat_tests))) x.in_order;
      few = grind (arith, nat_tests, put_length b e);
    }

-- one key more before the others, which go up by one from the last on
first_more : (keys : List ℕ) (key from : ℕ) → key ≡ from + length keys → ((i : ℕ) → i < length keys → slice_index keys i ≡ from + (length keys - suc i)) →
    (i : ℕ) → i < length (key ∷ keys) → slice_index (key ∷ keys) i ≡ from + (length (key ∷ keys) - suc i)
first_more keys key from is each zero h = omega (arith, is)
first_more keys key from is each (suc i) h = omega (arith, each i (omega arith))

first_kept : (o : ℕ) (keys : List ℕ) (b : Book) (e : Entry) → e.key ≡ new_key o b → ((i : ℕ) → i < length keys → has b (slice_index keys i) ≡ true) →
    (i : ℕ) → i < length (new_key o b ∷ keys) → has (with_own b e) (slice_index (new_key o b ∷ keys) i) ≡ true
first_kept o keys b e is kept zero h = subst (λ key. has (with_own b e) key ≡ true) is (has_new b e)
first_kept o keys b e is kept (suc i) h = still_has b e (slice_index keys i) (kept i (omega arith))

-- an entry with a new key is put in
fresh_ordered : (l : Limits) (o : ℕ) (keys : List ℕ) (b : Book) (e : Entry) → e.key ≡ new_key o b → has_room l.parcels b ≡ true → l.parcels ≤ most_parcels →
    Ordered l o keys b → Ordered l o (new_key o b ∷ keys) (with_own b e)
fresh_ordered l o keys b e is room limit x =
    let small : accepted o b < most_parcels = accepted_small o l.parcels b room limit in
    let (own, rest) = new_parts o e.key b is small in
    let new : has b e.key ≡ false = new_unused o e.key b is small x.in_order in
    let more : accepted o (with_own b e) ≡ accepted o b + 1 = grind (arith, nat_tests, accepted_put o b e) in
    record {
      counted = omega (arith, more, x.counted);
      each = first_more keys (new_key o b) (keys_of_an_office * o) (omega (arith, x.counted)) x.each;
      kept = first_kept o keys b e is x.kept;
      in_order = put_in_order o b e (omega (arith, more)) (λ _ _. omega (arith, more, rest)) x.in_order;
      few = grind (arith, nat_tests, put_length b e);
    }

-- each thing that a call does keeps the order, where a slip brings no key that the office has yet to give out
keeps : (l : Limits) (o : ℕ) (keys : List ℕ) (b : Book) {c : Call} {more : List ℕ} {b' : Book} → Did l o b c more b' → brings_known_key o b c ≡ true → l.parcels ≤ most_parcels → Ordered l o keys b → Ordered l o (more ++ keys) b'
keeps l o keys b nothing k limit x = x
keeps l o keys b (accepts dest amount room _) k limit x = fresh_ordered l o keys b (accepted_entry o (new_key o b) dest amount) refl room limit x
keeps l o keys b (comes s paid works room _) k limit x = known_ordered l o keys b (came_entry o s paid) k room x
keeps l o keys b (leaves key kind to there here most) k limit x =
    let old : has b (own b key).key ≡ true = rw (own_key b key there) there in
    known_ordered l o keys b (left_entry kind to (own b key)) (rw old) (rw old) x
keeps l o keys b (pays key there) k limit x =
    let old : has b (own b key).key ≡ true = rw (own_key b key there) there in
    known_ordered l o keys b (paid_entry (own b key)) (rw old) (rw old) x

ordered : {l : Limits} {o : ℕ} {keys : List ℕ} {b : Book} → ByCalls l o keys b → l.parcels ≤ most_parcels → Ordered l o keys b
unfolding has accepted
ordered {l} {o} opened limit = record { counted = refl; each = λ i h. absurd (omega arith); kept = λ i h. absurd (omega arith); in_order = λ key there ours. absurd (cc); few = omega arith }
ordered {l} {o} (called {keys} {b} c x k) limit = keeps l o keys b (did l o b c) k limit (ordered x limit)

given_once : (l : Limits) (o : ℕ) (keys : List ℕ) (b : Book) → ByCalls l o keys b → l.parcels ≤ most_parcels → GivenOnce l o keys b
given_once l o keys b x limit =
    let y : Ordered l o keys b = ordered x limit in
    let small : accepted o b ≤ length b = accepted_few o b in
    record {
      ours = λ i h. omega (arith, y.each i h);
      once = λ i j h k e. omega (arith, y.each i h, y.each j k);
      kept = y.kept;
      all = λ key there ours.
          let low : key % keys_of_an_office < accepted o b = y.in_order key there ours in
          let h : length keys - suc (key % keys_of_an_office) < length keys = omega (arith, y.counted) in
          (length keys - suc (key % keys_of_an_office), h, omega (arith, y.each (length keys - suc (key % keys_of_an_office)) h, y.counted));
      in_order = y.in_order;
      few = y.few;
    }

pub keys_once : KeysOnce
keys_once =
    record {
      at_one = given_once;
      at_two = λ l l' o p keys keys' b b' x limit y limit' i j h k e.
          sym ((given_once l o keys b x limit).ours i h) ∙ ap origin e ∙ (given_once l' p keys' b' y limit').ours j k;
    }
