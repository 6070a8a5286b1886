-- The steps of parcels in truth, as more calls are taken; and that answers tell of them.
use Rattle.std.proofs.Common.{◌≡◌, ℕ, ◌<◌, ◌≤◌, Bool, true, false, ◌&&◌, eqb, ltb, lt-ltb, List, [], ◌∷◌, ◌++◌, Some, None, Option, Ok, Err, refl, sym, ap, ◌∙◌, arith}
use Rattle.parcels.specs.Numbers.{most_offices, most_parcels, four_bytes}
use Rattle.parcels.specs.Book.{pick, Book, has_room}
use Rattle.parcels.specs.Calls.{Limits, good_fields, checked, turned, told, not_refused, new_key, unless, refusal}
use Rattle.parcels.specs.declared.Kind.{Kind}
use Rattle.parcels.specs.declared.Kind.TheVariants.{Accepted, SentOn, ComeIn, HandedOut}
use Rattle.parcels.specs.declared.Call.{Call}
use Rattle.parcels.specs.declared.Call.TheVariants.{Accept, Send, SlipAgain, TakeIn, HandOut, Pay, WhereIs, Here, Sums}
use Rattle.parcels.specs.declared.Reason.{Reason}
use Rattle.parcels.specs.declared.Reason.TheVariants.{OutOfRange, OverLimit}
use Rattle.parcels.specs.declared.Refusal.{Refusal}
use Rattle.parcels.specs.declared.Answer.{Answer}
use Rattle.parcels.specs.declared.Answer.TheVariants.{Refused, Number}
use Rattle.wire.specs.Calls.{Reading}
use Rattle.promises.specs.Truth.{move_then, truth, in_truth, one_move}
use Rattle.promises.specs.World.{Said}
use Rattle.promises.specs.Promise.{RightRow, nothing_yet, and_then}
use Rattle.promises.specs.Beside.{is_key, is_slip, is_number, step_in, steps_told, StepsTold}
use Rattle.laws.proofs.Calls.{passed}
use Rattle.laws.proofs.Keys.{accepted_small}
use Rattle.truths.proofs.Books.{pick_same, and_said}

-- the steps in truth, with one thing more said
pub steps_more : (l : Limits) (xs : List Said) (o : ℕ) (r : Reading) (a : Answer) (p : ℕ) → in_truth l (and_said o r a xs) p ≡ in_truth l xs p ++ move_then o (truth l xs o) r a p
unfolding in_truth
steps_more l xs o r a p = refl

-- a call that makes a step makes it just where it is taken; a refusal tells of none
made_step : (k : Kind) (o : ℕ) (tells : Answer → Bool) (mine : Bool) (c : Call) (a : Answer) (t : Option Reason) → ((f : Refusal) → tells (Refused f) ≡ false) → not_refused a ≡ true → (t ≡ None → tells a ≡ mine) →
    let x : Answer = unless t a (λ r. Refused (refusal c r)) in one_move (tells x) k o ≡ pick (not_refused x) (one_move mine k o) []
made_step k o tells mine c a None none taken told = rw (taken, told refl)
made_step k o tells mine c a (Some r) none taken told = rw (none (refusal c r))

-- where there is room for a parcel, four bytes hold its key
key_fits : (l : Limits) (o : ℕ) (b : Book) (dest amount : ℕ) → l.offices ≤ most_offices → l.parcels ≤ most_parcels → o < l.offices → turned l o b (Accept dest amount) ≡ None → ltb (new_key o b) four_bytes ≡ true
unfolding checked
key_fits l o b dest amount offices parcels there free =
    let room : has_room l.parcels b ≡ true = (passed (has_room l.parcels b) None OverLimit (passed (l.can 0 && good_fields l o (Accept dest amount)) _ OutOfRange free).1).0 in
    lt-ltb (new_key o b) four_bytes (omega (arith, accepted_small o l.parcels b room parcels, offices, there))

-- a right answer tells of the step that it makes
right_step : (l : Limits) (xs : List Said) (o : ℕ) (r : Reading) (a : Answer) (p : ℕ) → l.offices ≤ most_offices → l.parcels ≤ most_parcels → o < l.offices → RightRow l xs o r a → step_in o r a p ≡ move_then o (truth l xs o) r a p
unfolding told
right_step l xs o (Ok (Accept dest amount)) a p offices parcels there right =
    let b : Book = truth l xs o in
    let c : Call = Accept dest amount in
    rw right (made_step Accepted o (λ x. is_key x p) (eqb (new_key o b) p) c (Number (new_key o b)) (turned l o b c) (λ f. refl) refl (λ free. rw (key_fits l o b dest amount offices parcels there free)))
right_step l xs o (Ok (Send key to)) a p offices parcels there right =
    let b : Book = truth l xs o in
    let c : Call = Send key to in
    rw right (made_step SentOn o (λ x. is_slip x && eqb key p) (eqb key p) c (told o b c) (turned l o b c) (λ f. refl) refl (λ free. refl))
right_step l xs o (Ok (SlipAgain key)) a p offices parcels there right = sym (pick_same (not_refused a) [])
right_step l xs o (Ok (TakeIn s)) a p offices parcels there right =
    let b : Book = truth l xs o in
    let c : Call = TakeIn s in
    rw right (made_step ComeIn o (λ x. is_number x && eqb s.key p) (eqb s.key p) c (told o b c) (turned l o b c) (λ f. refl) refl (λ free. refl))
right_step l xs o (Ok (HandOut key)) a p offices parcels there right =
    let b : Book = truth l xs o in
    let c : Call = HandOut key in
    rw right (made_step HandedOut o (λ x. is_number x && eqb key p) (eqb key p) c (told o b c) (turned l o b c) (λ f. refl) refl (λ free. refl))
right_step l xs o (Ok (Pay key)) a p offices parcels there right = sym (pick_same (not_refused a) [])
right_step l xs o (Ok (WhereIs key)) a p offices parcels there right = sym (pick_same (not_refused a) [])
right_step l xs o (Ok (Here from)) a p offices parcels there right = sym (pick_same (not_refused a) [])
right_step l xs o (Ok Sums) a p offices parcels there right = sym (pick_same (not_refused a) [])
right_step l xs o (Err e) a p offices parcels there right = refl

pub told_in_truth : StepsTold
unfolding steps_told in_truth
told_in_truth can l [] p g nothing_yet = refl
told_in_truth can l (x ∷ xs) p g (and_then o r a before in' fits known right) =
    ap (λ ms. ms ++ step_in o r a p) (told_in_truth can l xs p g before)
    ∙ ap (λ ms. in_truth l xs p ++ ms) (right_step l xs o r a p g.1 g.2 in' right)
    ∙ sym (steps_more l xs o r a p)
