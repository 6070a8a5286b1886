-- Which slips are given out.
use Rattle.std.proofs.Common.{◌≡◌, ℕ, suc, true, List, None, Ok, Err}
use Rattle.parcels.specs.Book.{Book, has, own, leaves_it_here, was_sent_on}
use Rattle.parcels.specs.Calls.{Limits, checked, told, answered}
use Rattle.parcels.specs.declared.Slip.{Slip}
use Rattle.parcels.specs.declared.Call.{Call}
use Rattle.parcels.specs.declared.Call.TheVariants.{Accept, Send, SlipAgain, TakeIn, HandOut, Pay, WhereIs, Here, Sums}
use Rattle.parcels.specs.declared.Reason.TheVariants.{NotHere}
use Rattle.parcels.specs.declared.Answer.TheVariants.{Given}
use Rattle.wire.specs.Calls.{Reading}
use Rattle.promises.specs.World.{Said}
use Rattle.promises.specs.Truth.{truth}
use Rattle.promises.specs.Promise.{RightWhere, RightPay, RightRow}
use Rattle.laws.proofs.Books.{own_key}
use Rattle.laws.proofs.Calls.{both_passed, if_taken}

-- a slip is of a parcel that was here and is sent on, by one step more; or of one that was sent on, and keeps its step
pub data SlipOf (b : Book) (s : Slip) : Type 0 where
  sent_now : (key : ℕ) → has b key ≡ true → leaves_it_here (own b key).kind ≡ true → s.key ≡ (own b key).key → s.step ≡ suc (own b key).step → SlipOf b s
  sent_before : (key : ℕ) → has b key ≡ true → was_sent_on (own b key).kind ≡ true → s.key ≡ (own b key).key → s.step ≡ (own b key).step → SlipOf b s

-- so it is of a parcel in the book
pub slip_known : (b : Book) (s : Slip) → SlipOf b s → has b s.key ≡ true
slip_known b s (sent_now key there here is step) = rw (is, own_key b key there) there
slip_known b s (sent_before key there sent is step) = rw (is, own_key b key there) there

-- a slip that is told where the checks turned nothing away is such a one
slip_told : (l : Limits) (o : ℕ) (b : Book) (c : Call) (s : Slip) → checked l o b c ≡ None → Given s ≡ told o b c → SlipOf b s
unfolding checked told
slip_told l o b (Accept dest amount) s free is = absurd (cc)
slip_told l o b (Send key to) s free is =
    let (there, here) = both_passed (has b key) (leaves_it_here (own b key).kind) None NotHere free in
    sent_now key there here (cc) (cc)
slip_told l o b (SlipAgain key) s free is =
    let (there, sent) = both_passed (has b key) (was_sent_on (own b key).kind) None NotHere free in
    sent_before key there sent (cc) (cc)
slip_told l o b (TakeIn t) s free is = absurd (cc)
slip_told l o b (HandOut key) s free is = absurd (cc)
slip_told l o b (Pay key) s free is = absurd (cc)
slip_told l o b (WhereIs key) s free is = absurd (cc)
slip_told l o b (Here from) s free is = absurd (cc)
slip_told l o b Sums s free is = absurd (cc)

slip_answered : (l : Limits) (o : ℕ) (b : Book) (c : Call) (s : Slip) → Given s ≡ answered l o b c → SlipOf b s
slip_answered l o b c s = if_taken l o b c (λ _ a. Given s ≡ a → SlipOf b s) (λ r is. absurd (cc)) (λ _. slip_told l o b c s)

-- so it is with each slip that is a right answer, and the book in truth
pub slip_given : (l : Limits) (xs : List Said) (o : ℕ) (r : Reading) (s : Slip) → RightRow l xs o r (Given s) → SlipOf (truth l xs o) s
unfolding RightPay RightWhere
slip_given l xs o (Ok (Accept dest amount)) s right = slip_answered l o _ (Accept dest amount) s right
slip_given l xs o (Ok (Send key to)) s right = slip_answered l o _ (Send key to) s right
slip_given l xs o (Ok (SlipAgain key)) s right = slip_answered l o _ (SlipAgain key) s right
slip_given l xs o (Ok (TakeIn t)) s right = slip_answered l o _ (TakeIn t) s right
slip_given l xs o (Ok (HandOut key)) s right = slip_answered l o _ (HandOut key) s right
slip_given l xs o (Ok (Pay key)) s right = absurd right
slip_given l xs o (Ok (WhereIs key)) s right = absurd right
slip_given l xs o (Ok (Here from)) s right = slip_answered l o _ (Here from) s right
slip_given l xs o (Ok Sums) s right = slip_answered l o _ Sums s right
slip_given l xs o (Err e) s right = absurd (cc)
