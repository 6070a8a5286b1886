-- How far steps go, in each office's book in truth and in slips that were given out.
use Rattle.std.proofs.Common.{ℕ, ◌+◌, ◌≤◌, List, subst, inl, inr, arith}
use Rattle.parcels.specs.Numbers.{four_bytes}
use Rattle.parcels.specs.Book.{Book, own}
use Rattle.parcels.specs.Calls.{Limits}
use Rattle.parcels.specs.Laws.{most_step, StepsFit}
use Rattle.parcels.specs.declared.Kind.{Kind}
use Rattle.parcels.specs.declared.Kind.TheVariants.{Accepted, SentOn, ComeIn, HandedOut}
use Rattle.parcels.specs.declared.Slip.{Slip}
use Rattle.promises.specs.World.{Said, IsGiven}
use Rattle.promises.specs.Truth.{truth}
use Rattle.promises.specs.Promise.{RightRow, Happened, nothing_yet, and_then}
use Rattle.promises.specs.Beside.{SlipsFit}
use Rattle.laws.proofs.Steps.{here_low, stay_fit}
use Rattle.truths.proofs.Books.{each_book}
use Rattle.truths.proofs.Slips.{SlipOf, sent_now, sent_before, slip_given}

steps_fit : {l : Limits} {xs : List Said} → Happened l xs → (o : ℕ) → StepsFit (truth l xs o)
steps_fit {l} = each_book (λ _. StepsFit) (λ _. stay_fit.empty) (stay_fit.call l)

-- how far steps of all kinds go
most_at_all : (k : Kind) → most_step k ≤ four_bytes + 1
most_at_all Accepted = omega arith
most_at_all SentOn = omega arith
most_at_all ComeIn = omega arith
most_at_all HandedOut = omega arith

-- a parcel that is here is sent on by one step more, and one that was sent on keeps its step
slip_low : (b : Book) (s : Slip) → StepsFit b → SlipOf b s → s.step ≤ four_bytes + 1
slip_low b s low (sent_now key there here is step) = omega (arith, step, here_low (own b key) here (low key there))
slip_low b s low (sent_before key there sent is step) = omega (arith, step, low key there, most_at_all (own b key).kind)

given_fit : {l : Limits} {xs : List Said} → Happened l xs → (s : Slip) → IsGiven s xs → s.step ≤ four_bytes + 1
unfolding IsGiven
given_fit nothing_yet s given = absurd given
given_fit {l} (and_then {xs} o r a before in' fits known right) s (inl e) =
    slip_low (truth l xs o) s (steps_fit before o) (slip_given l xs o r s (subst (λ x. RightRow l xs o r x) e right))
given_fit (and_then o r a before in' fits known right) s (inr given) = given_fit before s given

pub slips_fit : SlipsFit
slips_fit can l xs g h = (steps_fit h, given_fit h)
