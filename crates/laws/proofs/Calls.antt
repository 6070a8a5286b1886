-- What a call does with a book: a slip works once; a call that is turned away changes nothing.
use Rattle.std.proofs.Common.{◌≡◌, ℕ, suc, Bool, true, false, ◌&&◌, ◌||◌, eqb, ltb, is_some, Some, None, Option, refl, ap, arith, eqb-true, le-ltb}
use Rattle.std.proofs.lemmas.Bool.{and_parts}
use borrow.Author.Tests.{clash}
use Rattle.parcels.specs.Numbers.{call_number}
use Rattle.parcels.specs.Book.{pick, Book, has, own, with_own, leaves_it_here, has_room}
use Rattle.parcels.specs.Calls.{Limits, good_fields, checked, turned, after, changed, told, answered, not_refused, unless, refusal, came_entry, slip_works}
use Rattle.parcels.specs.Laws.{SlipOnce, TurnedAway}
use Rattle.parcels.specs.declared.Slip.{Slip}
use Rattle.parcels.specs.declared.Entry.{Entry}
use Rattle.parcels.specs.declared.Call.{Call}
use Rattle.parcels.specs.declared.Call.TheVariants.{TakeIn, HandOut}
use Rattle.parcels.specs.declared.Reason.{Reason}
use Rattle.parcels.specs.declared.Reason.TheVariants.{OutOfRange, NotHere, WrongSlip, OtherOffice, OverLimit}
use Rattle.parcels.specs.declared.Answer.{Answer}
use Rattle.parcels.specs.declared.Answer.TheVariants.{Refused}
use Rattle.laws.proofs.Books.{own_put, has_new}

kept : (t : Option Reason) (new b : Book) → is_some t ≡ true → unless t new (λ r. b) ≡ b
kept None new b h = absurd (clash h)
kept (Some r) new b h = refl

pub turned_away : TurnedAway
turned_away l o b c h = kept (turned l o b c) (changed o b c) b h

-- where a check turns nothing away, it holds, and so do those behind it
pub passed : (t : Bool) (rest : Option Reason) (r : Reason) → pick t rest (Some r) ≡ None → (t ≡ true) × (rest ≡ None)
passed true rest r h = (refl, h)
passed false rest r h = absurd (cc)

-- the same of a check of two parts
pub both_passed : (t u : Bool) (rest : Option Reason) (r : Reason) → pick (t && u) rest (Some r) ≡ None → (t ≡ true) × (u ≡ true)
both_passed t u rest r h = and_parts t u (passed (t && u) rest r h).0

-- a parcel that can be handed out is here, and for this office
pub can_hand_out : (l : Limits) (o : ℕ) (b : Book) (key : ℕ) → checked l o b (HandOut key) ≡ None → (has b key ≡ true) × (leaves_it_here (own b key).kind ≡ true) × ((own b key).dest ≡ o)
unfolding checked
can_hand_out l o b key free =
    let (at, for) = passed (has b key && leaves_it_here (own b key).kind) (pick (eqb (own b key).dest o) None (Some OtherOffice)) NotHere free in
    let (there, here) = and_parts (has b key) (leaves_it_here (own b key).kind) at in
    (there, here, eqb-true (own b key).dest o (passed (eqb (own b key).dest o) None OtherOffice for).0)

-- a call that is not refused was not turned away
pub not_turned : (l : Limits) (o : ℕ) (b : Book) (c : Call) → not_refused (answered l o b c) ≡ true → turned l o b c ≡ None
not_turned l o b c = go (turned l o b c)
  where
    go : (t : Option Reason) → not_refused (unless t (told o b c) (λ r. Refused (refusal c r))) ≡ true → t ≡ None
    go None h = refl
    go (Some r) h = absurd (cc)

-- what is so of a book with a refusal, and of the one after a call with good fields that its checks let through, with what is
-- told, is so of the one after any call with its answer
pub if_taken : (l : Limits) (o : ℕ) (b : Book) (c : Call) (P : Book → Answer → Type 0) → ((r : Reason) → P b (Refused (refusal c r))) →
    (good_fields l o c ≡ true → checked l o b c ≡ None → P (changed o b c) (told o b c)) → P (after l o b c) (answered l o b c)
if_taken l o b c P same new = go (l.can (call_number c)) (good_fields l o c) (checked l o b c) new
  where
    go : (can good : Bool) (t : Option Reason) → (good ≡ true → t ≡ None → P (changed o b c) (told o b c)) →
        P (unless (pick (can && good) t (Some OutOfRange)) (changed o b c) (λ r. b)) (unless (pick (can && good) t (Some OutOfRange)) (told o b c) (λ r. Refused (refusal c r)))
    go true true None new = new refl refl
    go true true (Some r) new = same r
    go true false t new = same OutOfRange
    go false good t new = same OutOfRange

and_false : (t : Bool) → (t && false) ≡ false
and_false true = refl
and_false false = refl

-- where the parcel was taken in, its slip is no longer newer than what the book has
pub used_up : (o : ℕ) (b : Book) (s : Slip) (paid : Bool) → slip_works o (with_own b (came_entry o s paid)) s ≡ false
used_up o b s paid =
    let e : Entry = came_entry o s paid in
    let there : has (with_own b e) s.key ≡ true = has_new b e in
    let step : (own (with_own b e) s.key).step ≡ suc s.step = ap (λ (x : Entry). x.step) (own_put b e) in
    let late : ltb (suc s.step) s.step ≡ false = le-ltb (suc s.step) s.step (omega arith) in
    rw (there, step, late) (and_false (eqb s.to o))

-- so its call, which can be done and has good fields, is turned away as one with a slip that doesn't work
pub refused_again : (good works room : Bool) → good ≡ true → works ≡ false → pick good (pick works (pick room None (Some OverLimit)) (Some WrongSlip)) (Some OutOfRange) ≡ Some WrongSlip
refused_again good works room g w = rw (g, w) refl

pub slip_once : SlipOnce
unfolding checked changed
slip_once l o b s h =
    let c : Call = TakeIn s in
    let b' : Book = changed o b c in
    let taken : after l o b c ≡ b' = ap (λ t. unless t b' (λ r. b)) h in
    let good : (l.can 3 && good_fields l o c) ≡ true = (passed (l.can 3 && good_fields l o c) (checked l o b c) OutOfRange h).0 in
    rw taken (refused_again (l.can 3 && good_fields l o c) (slip_works o b' s) (has b' s.key || has_room l.parcels b') good (used_up o b s (has b s.key && (own b s.key).paid)))
