-- No key is given out twice, over all offices: what is so of all books together, and stays so whatever is said.
use Rattle.std.proofs.Common.{◌≡◌, ℕ, zero, suc, ◌<◌, ◌≤◌, true, false, not, ◌||◌, ◌⊎◌, eqb, ltb, eqb-true, inl, inr, List, [], ◌∷◌, ◌++◌, length, Ok, slice_index, refl, sym, ap, ◌∙◌, subst, arith}
use Rattle.std.proofs.lemmas.Bool.{cases_Bool, or_left, or_right}
use Rattle.std.proofs.lemmas.Bool.Decides.{nat_tests}
use Rattle.parcels.specs.Numbers.{most_parcels}
use Rattle.parcels.specs.Book.{Book, origin, has, has_room}
use Rattle.parcels.specs.Calls.{Limits, new_key}
use Rattle.parcels.specs.Laws.{brings_known_key, ByCalls, opened, called, GivenOnce}
use Rattle.parcels.specs.declared.Slip.{Slip}
use Rattle.parcels.specs.declared.Call.{Call}
use Rattle.parcels.specs.declared.Call.TheVariants.{Accept, Send, SlipAgain, TakeIn, HandOut, Pay, WhereIs, Here, Sums}
use Rattle.parcels.specs.declared.Answer.{Answer}
use Rattle.wire.specs.Calls.{Reading}
use Rattle.promises.specs.Truth.{book_then, truth}
use Rattle.promises.specs.World.{Said, IsGiven, IsSlipKnown, IsRowKnown}
use Rattle.promises.specs.Promise.{RightRow, Happened, nothing_yet, and_then}
use Rattle.promises.specs.Beside.{keys_told, IsKeyTold, NoKeyTwice}
use Rattle.laws.proofs.Did.{call_keeps}
use Rattle.laws.proofs.Keys.{accepted_small, new_parts, new_unused, keys_once}
use Rattle.truths.proofs.Books.{and_said, truth_here, truth_elsewhere, each_truth, if_said}
use Rattle.truths.proofs.Parcels.{AllKeys, call_brings, GivesKey, none, one, gives_key}
use Rattle.truths.proofs.Slips.{slip_known, slip_given}

-- a parcel stands in the book of the office that its key tells
abbrev AtHome : Limits → List Said → ℕ → Type 0
AtHome l xs key = has (truth l xs (origin key)) key ≡ true

-- no key stands twice in a list
abbrev Once : List ℕ → Type 0
Once keys = (i j : ℕ) → i < length keys → j < length keys → slice_index keys i ≡ slice_index keys j → i ≡ j

-- something is so of each key in a list
abbrev EachKey : (ℕ → Type 0) → List ℕ → Type 0
EachKey K keys = (i : ℕ) → i < length keys → K (slice_index keys i)

-- what is so of all books together: a parcel that stands in some book stands in that of the office that its key tells; each
-- book came about by calls that brought no key which the office had yet to give out; and of what was answered
record Kept (l : Limits) (xs : List Said) : Type 0 where
  home : (q : ℕ) → AllKeys (AtHome l xs) (truth l xs q)
  calls : (q : ℕ) → (keys : List ℕ) × ByCalls l q keys (truth l xs q)
  once : Once (keys_told xs)
  ours : (q key : ℕ) → IsKeyTold q key xs → origin key ≡ q
  kept : EachKey (AtHome l xs) (keys_told xs)
  slips : (s : Slip) → IsGiven s xs → AtHome l xs s.key

-- a key, if it is of this office, is of a parcel in its book
brought : (o key : ℕ) (b : Book) → (origin key ≡ o → has b key ≡ true) → (has b key || not (eqb (origin key) o)) ≡ true
brought o key b home =
    elim (cases_Bool (eqb (origin key) o)) [
      | inl ours ↦ or_left (has b key) (not (eqb (origin key) o)) (home (eqb-true (origin key) o ours))
      | inr other ↦ or_right (has b key) (not (eqb (origin key) o)) (ap not other)
    ]

-- so no slip that was given out brings a key that the office has yet to give out
brings : (l : Limits) (xs : List Said) (o : ℕ) (c : Call) → ((s : Slip) → IsGiven s xs → AtHome l xs s.key) → IsSlipKnown c xs → brings_known_key o (truth l xs o) c ≡ true
brings l xs o (Accept dest amount) slips known = refl
brings l xs o (Send key to) slips known = refl
brings l xs o (SlipAgain key) slips known = refl
brings l xs o (TakeIn s) slips known = brought o s.key (truth l xs o) (λ ours. subst (λ q. has (truth l xs q) s.key ≡ true) ours (slips s known))
brings l xs o (HandOut key) slips known = refl
brings l xs o (Pay key) slips known = refl
brings l xs o (WhereIs key) slips known = refl
brings l xs o (Here from) slips known = refl
brings l xs o Sums slips known = refl

each_more : (K : ℕ → Type 0) (key : ℕ) (keys : List ℕ) → K key → EachKey K keys → EachKey K (key ∷ keys)
each_more K key keys new old zero h = new
each_more K key keys new old (suc i) h = old i (omega arith)

-- one key more, which is none of the others
once_more : (key : ℕ) (keys : List ℕ) → EachKey (λ k. k ≡ key → ⊥) keys → Once keys → Once (key ∷ keys)
once_more key keys new old zero zero h k e = refl
once_more key keys new old zero (suc j) h k e = absurd (new j (omega arith) (sym e))
once_more key keys new old (suc i) zero h k e = absurd (new i (omega arith) e)
once_more key keys new old (suc i) (suc j) h k e = ap suc (old i j (omega arith) (omega arith) e)

-- so each book is as one office's own calls leave it
by_calls : (l : Limits) (xs : List Said) (o : ℕ) → l.parcels ≤ most_parcels → Kept l xs → (keys : List ℕ) × GivenOnce l o keys (truth l xs o)
by_calls l xs o limit was = let (keys, by) = was.calls o in (keys, keys_once.at_one l o keys (truth l xs o) by limit)

-- no parcel in an office's book has the next new key
unused : (l : Limits) (xs : List Said) (o : ℕ) → l.parcels ≤ most_parcels → Kept l xs → has_room l.parcels (truth l xs o) ≡ true → has (truth l xs o) (new_key o (truth l xs o)) ≡ false
unused l xs o limit was room =
    let b : Book = truth l xs o in
    let (keys, given) = by_calls l xs o limit was in
    new_unused o (new_key o b) b refl (accepted_small o l.parcels b room limit) given.in_order

-- it stays so, as an office gives a right answer to what was handed to it
module _ (l : Limits) (xs : List Said) (o : ℕ) (r : Reading) (a : Answer) (limit : l.parcels ≤ most_parcels) (known : IsRowKnown r xs) (right : RightRow l xs o r a) (was : Kept l xs) where
  known_call : (c : Call) → r ≡ Ok c → IsSlipKnown c xs
  known_call c is = subst (λ x. IsRowKnown x xs) is known

  -- each office's book keeps its parcels
  keeps : (q key : ℕ) → has (truth l xs q) key ≡ true → has (truth l (and_said o r a xs) q) key ≡ true
  keeps q key =
      each_truth l xs o r a (λ p b. has (truth l xs p) key ≡ true → has b key ≡ true)
      (λ there. if_said l o (truth l xs o) r a (λ b. has b key ≡ true) there (λ c _. call_keeps l o (truth l xs o) c key there))
      (λ p _ there. there)
      q

  home_still : (key : ℕ) → AtHome l xs key → AtHome l (and_said o r a xs) key
  home_still key there = keeps (origin key) key there

  -- a parcel that is now in the book of the office that answered stands where its key tells: it did before, or that is here
  home_here : (key : ℕ) → has (book_then l o (truth l xs o) r a) key ≡ true → AtHome l xs key ⊎ (origin key ≡ o) → AtHome l (and_said o r a xs) key
  home_here key there (inl old) = home_still key old
  home_here key there (inr ours) = subst (λ q. has (truth l (and_said o r a xs) q) key ≡ true) (sym ours) (rw (truth_here l xs o r a) there)

  new_ours : has_room l.parcels (truth l xs o) ≡ true → origin (new_key o (truth l xs o)) ≡ o
  new_ours room = (new_parts o (new_key o (truth l xs o)) (truth l xs o) refl (accepted_small o l.parcels (truth l xs o) room limit)).0

  home_more : (q : ℕ) → AllKeys (AtHome l (and_said o r a xs)) (truth l (and_said o r a xs) q)
  home_more =
      each_truth l xs o r a (λ p b. AllKeys (AtHome l (and_said o r a xs)) b)
      (λ key there. home_here key there (here key there))
      (λ p _ key there. home_still key (was.home p key there))
    where
      old : AllKeys (λ key. AtHome l xs key ⊎ (origin key ≡ o)) (truth l xs o)
      old key there = inl (was.home o key there)

      here : AllKeys (λ key. AtHome l xs key ⊎ (origin key ≡ o)) (book_then l o (truth l xs o) r a)
      here =
          if_said l o (truth l xs o) r a (AllKeys (λ key. AtHome l xs key ⊎ (origin key ≡ o))) old
          (λ c is. call_brings (λ key. AtHome l xs key ⊎ (origin key ≡ o)) (truth l xs o) old l o c (λ room. inr (new_ours room))
          (λ s takes. inl (was.slips s (subst (λ x. IsSlipKnown x xs) takes (known_call c is)))))

  calls_more : (q : ℕ) → (keys : List ℕ) × ByCalls l q keys (truth l (and_said o r a xs) q)
  calls_more =
      each_truth l xs o r a (λ p b. (keys : List ℕ) × ByCalls l p keys b)
      (if_said l o (truth l xs o) r a (λ b. (keys : List ℕ) × ByCalls l o keys b) (was.calls o)
      (λ c is. (_, called c (was.calls o).1 (brings l xs o c was.slips (known_call c is)))))
      (λ p _. was.calls p)

  slips_more : (s : Slip) → IsGiven s (and_said o r a xs) → AtHome l (and_said o r a xs) s.key
  unfolding IsGiven
  slips_more s (inl e) = home_still s.key (was.home o s.key (slip_known (truth l xs o) s (slip_given l xs o r s (subst (λ x. RightRow l xs o r x) e right))))
  slips_more s (inr given) = home_still s.key (was.slips s given)

  kept_still : EachKey (AtHome l (and_said o r a xs)) (keys_told xs)
  kept_still i h = home_still (slice_index (keys_told xs) i) (was.kept i h)

  kept_new : {keys : List ℕ} → GivesKey l o (truth l xs o) (book_then l o (truth l xs o) r a) keys → EachKey (AtHome l (and_said o r a xs)) (keys ++ keys_told xs)
  kept_new none = kept_still
  kept_new (one room there) = each_more (AtHome l (and_said o r a xs)) (new_key o (truth l xs o)) (keys_told xs) (home_here (new_key o (truth l xs o)) there (inr (new_ours room))) kept_still

  -- a new key is none that was told before: the parcel of each of those stands in the book of its office
  other : has_room l.parcels (truth l xs o) ≡ true → (key : ℕ) → AtHome l xs key → key ≡ new_key o (truth l xs o) → ⊥
  other room key home is =
      let there : has (truth l xs o) key ≡ true = subst (λ q. has (truth l xs q) key ≡ true) (ap origin is ∙ new_ours room) home in
      let free : has (truth l xs o) key ≡ false = rw is (unused l xs o limit was room) in
      absurd (cc)

  once_new : {keys : List ℕ} → GivesKey l o (truth l xs o) (book_then l o (truth l xs o) r a) keys → Once (keys ++ keys_told xs)
  once_new none = was.once
  once_new (one room there) = once_more (new_key o (truth l xs o)) (keys_told xs) (λ i h. other room (slice_index (keys_told xs) i) (was.kept i h)) was.once

  -- a new key tells this office
  ours_new : {keys : List ℕ} → GivesKey l o (truth l xs o) (book_then l o (truth l xs o) r a) keys → (key : ℕ) → keys ≡ key ∷ [] → origin key ≡ o
  ours_new none key is = absurd (cc)
  ours_new (one room there) key is = subst (λ k. origin k ≡ o) (ap (λ keys. slice_index keys 0) is) (new_ours room)

  ours_more : (q key : ℕ) → IsKeyTold q key (and_said o r a xs) → origin key ≡ q
  unfolding IsKeyTold
  ours_more q key (inl (at, is)) = ours_new (gives_key l xs o r a right) key is ∙ at
  ours_more q key (inr told) = was.ours q key told

  kept_more : Kept l (and_said o r a xs)
  unfolding keys_told
  kept_more =
      record {
        home = home_more;
        calls = calls_more;
        once = once_new (gives_key l xs o r a right);
        ours = ours_more;
        kept = kept_new (gives_key l xs o r a right);
        slips = slips_more;
      }

kept_empty : (l : Limits) → Kept l []
unfolding truth has keys_told IsKeyTold IsGiven
kept_empty l =
    record {
      home = λ q key there. absurd (cc);
      calls = λ q. ([], opened);
      once = λ i j h. absurd (omega arith);
      ours = λ q key told. absurd told;
      kept = λ i h. absurd (omega arith);
      slips = λ s given. absurd given;
    }

kept : {l : Limits} {xs : List Said} → l.parcels ≤ most_parcels → Happened l xs → Kept l xs
kept {l} limit nothing_yet = kept_empty l
kept {l} limit (and_then {xs} o r a before in' fits known right) = kept_more l xs o r a limit known right (kept limit before)

pub new_key_free : {l : Limits} {xs : List Said} → l.parcels ≤ most_parcels → Happened l xs → (o : ℕ) → has_room l.parcels (truth l xs o) ≡ true → has (truth l xs o) (new_key o (truth l xs o)) ≡ false
new_key_free {l} {xs} limit h o = unused l xs o limit (kept limit h)

-- and no book has more parcels than the limit
pub few_parcels : {l : Limits} {xs : List Said} → l.parcels ≤ most_parcels → Happened l xs → (o : ℕ) → length (truth l xs o) ≤ l.parcels
few_parcels {l} {xs} limit h o = (by_calls l xs o limit (kept limit h)).1.few

-- the book of an office that is not there stays empty
none_there : {l : Limits} {xs : List Said} → Happened l xs → (o : ℕ) → l.offices ≤ o → truth l xs o ≡ []
unfolding truth
none_there nothing_yet o far = refl
none_there {l} (and_then {xs} q r a before in' fits known right) o far = truth_elsewhere l xs o q r a (grind (arith, nat_tests)) ∙ none_there before o far

-- so a book that has a parcel is that of an office that is there
pub office_there : {l : Limits} {xs : List Said} → Happened l xs → (o key : ℕ) → has (truth l xs o) key ≡ true → o < l.offices
unfolding has
office_there {l} {xs} h o key there =
    elim (cases_Bool (ltb o l.offices)) [
      | inl low ↦ grind (arith, nat_tests)
      | inr high ↦ let empty : truth l xs o ≡ [] = none_there h o (grind (arith, nat_tests)) in absurd (cc)
    ]

-- and each key tells one that is there, since the parcel stands in that one's book
pub origins : {l : Limits} {xs : List Said} → l.parcels ≤ most_parcels → Happened l xs → (o : ℕ) → AllKeys (λ key. origin key < l.offices) (truth l xs o)
origins limit h o key there = office_there h (origin key) key ((kept limit h).home o key there)

pub no_key_twice : NoKeyTwice
no_key_twice can l xs g h =
    let k : Kept l xs = kept g.2 h in
    record { once = k.once; ours = k.ours; kept = k.kept; slips = k.slips; next = λ o c. brings l xs o c k.slips; offices = origins g.2 h }
