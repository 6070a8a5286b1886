-- What is so for those who hear answers: of goods and money, by the calls that were made at all offices and what was answered.
use Rattle.std.specs.Prelude.{◌≡◌, ℕ, ◌+◌, ◌≤◌, Bool, false, ◌⊎◌, List, [], ◌∷◌, Ok, ◌==◌}
use Rattle.parcels.specs.Book.{pick, origin, collected, paid_out}
use Rattle.parcels.specs.Calls.{Stage, Limits}
use Rattle.parcels.specs.declared.Slip.{Slip}
use Rattle.parcels.specs.declared.Call.{Call}
use Rattle.parcels.specs.declared.Call.TheVariants.{Accept, HandOut, Pay}
use Rattle.parcels.specs.declared.Answer.{Answer}
use Rattle.parcels.specs.declared.Answer.TheVariants.{Number}
use Rattle.wire.specs.Calls.{Reading}
use Rattle.promises.specs.World.{Said, IsGiven}
use Rattle.promises.specs.Truth.{truth}
use Rattle.promises.specs.Promise.{GoodLimits, Happened, over_offices}

-- a call that was made at an office, and what was answered
unfoldable pub WasSaid : ℕ → Call → Answer → List Said → Type 0
WasSaid o c a [] = ⊥
WasSaid o c a (x ∷ xs) = ((x.at ≡ o) × (x.reading ≡ Ok c) × (x.answer ≡ a)) ⊎ WasSaid o c a xs

-- Goods and money by what was said. Where a parcel was handed out, it was accepted: at its origin, for the office that handed it
-- out, and with the amount that was answered there. Where it was paid for, that was at its origin, and the same amount was answered
-- where it was handed out. And each slip is of a parcel that was accepted for the office, and with the amount, that it tells.
pub record GoodsAsSaid (xs : List Said) : Type 0 where
  pub handed_out : (o key n : ℕ) → WasSaid o (HandOut key) (Number n) xs → WasSaid (origin key) (Accept o n) (Number key) xs
  pub paid : (o key n : ℕ) → WasSaid o (Pay key) (Number n) xs → (o ≡ origin key) × ((q : ℕ) × WasSaid q (HandOut key) (Number n) xs)
  pub slips : (s : Slip) → IsGiven s xs → WasSaid (origin s.key) (Accept s.dest s.amount) (Number s.key) xs

-- so it is whatever happened: and since no key is given out twice (NoKeyTwice), a parcel was accepted once
abbrev pub GoodsTold : Type 0
GoodsTold = (can : Stage) (l : Limits) (xs : List Said) → GoodLimits can l → Happened l xs → GoodsAsSaid xs

-- the number that was answered where a parcel was handed out: what was collected for it
abbrev pub collected_by : Reading → Answer → ℕ
collected_by (Ok (HandOut key)) (Number n) = n
collected_by r a = 0

-- the number that was answered where a parcel was paid for: what was paid out
abbrev pub paid_by : Reading → Answer → ℕ
paid_by (Ok (Pay key)) (Number n) = n
paid_by r a = 0

-- what an office's answers add up to
unfoldable pub told_sum : (Reading → Answer → ℕ) → ℕ → List Said → ℕ
told_sum by o [] = 0
told_sum by o (x ∷ xs) = pick (x.at == o) (by x.reading x.answer) 0 + told_sum by o xs

-- whether a parcel was paid for by this
abbrev pub pays_for : Reading → Answer → ℕ → Bool
pays_for (Ok (Pay key)) (Number n) p = key == p
pays_for r a p = false

-- how often a parcel was paid for, at all offices together
unfoldable pub times_paid : List Said → ℕ → ℕ
times_paid [] p = 0
times_paid (x ∷ xs) p = pick (pays_for x.reading x.answer p) 1 0 + times_paid xs p

-- The sums of each office's book are what was answered there where parcels were handed out, and where they were paid for. No parcel
-- was paid for twice; and all that was paid out, at all offices together, is no more than all that was collected.
pub record MoneyAsAnswered (l : Limits) (xs : List Said) : Type 0 where
  pub collected_told : (o : ℕ) → collected (truth l xs o) ≡ told_sum collected_by o xs
  pub paid_told : (o : ℕ) → paid_out (truth l xs o) ≡ told_sum paid_by o xs
  pub once : (p : ℕ) → times_paid xs p ≤ 1
  pub covered : over_offices l.offices (λ o. told_sum paid_by o xs) ≤ over_offices l.offices (λ o. told_sum collected_by o xs)

-- so it is whatever happened
abbrev pub MoneyTold : Type 0
MoneyTold = (can : Stage) (l : Limits) (xs : List Said) → GoodLimits can l → Happened l xs → MoneyAsAnswered l xs
