-- A slip works once: where a parcel was taken in with it, it works no more, at no office.
use Rattle.std.proofs.Common.{◌≡◌, ℕ, ◌≤◌, true, false, ◌&&◌, ◌||◌, eqb, eqb-true, List, Some, None, Ok, sym, subst, inl, inr}
use Rattle.std.proofs.lemmas.Bool.{and_parts}
use Rattle.parcels.specs.Numbers.{most_parcels}
use Rattle.parcels.specs.Book.{pick, Book, has, own, has_room}
use Rattle.parcels.specs.Calls.{Limits, good_fields, checked, after, changed, told, answered, not_refused, slip_works}
use Rattle.parcels.specs.declared.Slip.{Slip}
use Rattle.parcels.specs.declared.Call.TheVariants.{TakeIn}
use Rattle.parcels.specs.declared.Reason.TheVariants.{OutOfRange, WrongSlip, OverLimit}
use Rattle.parcels.specs.declared.Answer.{Answer}
use Rattle.wire.specs.Calls.{Reading}
use Rattle.promises.specs.World.{Said}
use Rattle.promises.specs.Truth.{book_then, truth}
use Rattle.promises.specs.Promise.{RightRow, Happened, nothing_yet, and_then, IsTakenIn, SlipOnlyOnce}
use Rattle.laws.proofs.Calls.{passed, not_turned, if_taken, used_up, refused_again}
use Rattle.laws.proofs.Steps.{never_works}
use Rattle.truths.proofs.Books.{each_truth, if_said}
use Rattle.truths.proofs.Keys.{new_key_free}

-- a slip that a parcel was taken in with was for this office, and is used up here
abbrev UsedUp : ℕ → Book → Slip → Type 0
UsedUp o b s = (slip_works o b s ≡ false) × (s.to ≡ o)

in_by_call : (l : Limits) (o : ℕ) (b : Book) (s : Slip) → let a : Answer = answered l o b (TakeIn s) in not_refused a ≡ true → UsedUp o (pick (not_refused a) (after l o b (TakeIn s)) b) s
unfolding checked changed told
in_by_call l o b s =
    if_taken l o b (TakeIn s) (λ x a. not_refused a ≡ true → UsedUp o (pick (not_refused a) x b) s) (λ r good. absurd (cc))
    (λ _ free _.
    let works : slip_works o b s ≡ true = (passed (slip_works o b s) (pick (has b s.key || has_room l.parcels b) None (Some OverLimit)) WrongSlip free).0 in
    (used_up o b s (has b s.key && (own b s.key).paid), eqb-true s.to o (and_parts (eqb s.to o) _ works).0))

in_by_answer : (l : Limits) (xs : List Said) (o : ℕ) (r : Reading) (a : Answer) (s : Slip) → r ≡ Ok (TakeIn s) → RightRow l xs o r a → not_refused a ≡ true → UsedUp o (book_then l o (truth l xs o) r a) s
in_by_answer l xs o r a s is right good =
    let known : a ≡ answered l o (truth l xs o) (TakeIn s) = subst (λ x. RightRow l xs o x a) is right in
    subst (λ x. UsedUp o (book_then l o (truth l xs o) x a) s) (sym is)
    (subst (λ (x : Answer). not_refused x ≡ true → UsedUp o (pick (not_refused x) (after l o (truth l xs o) (TakeIn s)) (truth l xs o)) s) (sym known) (in_by_call l o (truth l xs o) s) good)

-- a slip for one office works at no other
not_for : (o q : ℕ) (b : Book) (s : Slip) → s.to ≡ o → eqb o q ≡ false → slip_works q b s ≡ false
not_for o q b s is other = rw (is, other)

no_more : {l : Limits} {xs : List Said} → l.parcels ≤ most_parcels → Happened l xs → (s : Slip) → IsTakenIn s xs → (q : ℕ) → slip_works q (truth l xs q) s ≡ false
unfolding IsTakenIn
no_more limit nothing_yet s was = absurd was
no_more {l} limit (and_then {xs} o r a before in' fits known right) s (inl (is, good)) =
    let (used, to) = in_by_answer l xs o r a s is right good in
    each_truth l xs o r a (λ p b. slip_works p b s ≡ false) used (λ p other. not_for o p (truth l xs p) s to other)
no_more {l} limit (and_then {xs} o r a before in' fits known right) s (inr was) =
    each_truth l xs o r a (λ p b. slip_works p b s ≡ false)
    (if_said l o (truth l xs o) r a (λ b. slip_works o b s ≡ false) (no_more limit before s was o)
    (λ c _. never_works l o (truth l xs o) c s (new_key_free limit before o) (no_more limit before s was o)))
    (λ p _. no_more limit before s was p)

-- it was taken in by a call that can be done, with good fields, and these are good at one office as at another
good_still : {l : Limits} {xs : List Said} → Happened l xs → (s : Slip) → IsTakenIn s xs → (q : ℕ) → (l.can 3 && good_fields l q (TakeIn s)) ≡ true
unfolding IsTakenIn good_fields
good_still nothing_yet s was q = absurd was
good_still {l} (and_then {xs} o r a before in' fits known right) s (inl (is, taken)) q =
    let b : Book = truth l xs o in
    let by : a ≡ answered l o b (TakeIn s) = subst (λ x. RightRow l xs o x a) is right in
    (passed (l.can 3 && good_fields l o (TakeIn s)) (checked l o b (TakeIn s)) OutOfRange (not_turned l o b (TakeIn s) (subst (λ (x : Answer). not_refused x ≡ true) by taken))).0
good_still (and_then o r a before in' fits known right) s (inr was) q = good_still before s was q

pub slip_spent : SlipOnlyOnce
unfolding checked
slip_spent can l xs g h o s was =
    let b : Book = truth l xs o in
    refused_again (l.can 3 && good_fields l o (TakeIn s)) (slip_works o b s) (has b s.key || has_room l.parcels b) (good_still h s was o) (no_more g.2 h s was o)
