-- Which answer a row of bytes is; and how an answer is written.
use Rattle.std.specs.Prelude.{◌≡◌, ℕ, ◌<◌, ◌≤◌, Bool, true, ◌&&◌, List, [], ◌∷◌, length, Some, None, Option, ◌≢◌, nat_lt}
use Rattle.parcels.specs.Numbers.{four_bytes, eight_bytes, all_below, answer_number, answer_values}
use Rattle.parcels.specs.declared.Step.{Step}
use Rattle.parcels.specs.declared.Slip.{Slip}
use Rattle.parcels.specs.declared.Refusal.{Refusal}
use Rattle.parcels.specs.declared.Answer.{Answer}
use Rattle.parcels.specs.declared.Answer.TheVariants.{Refused, Number, Given, At, NothingHeard, Two}
use Rattle.wire.specs.Layout.{lent_for_answer, in_row, answer_bytes, Written}

-- a refusal whose place eight bytes can carry
abbrev pub refusal_fits : Refusal → Bool
refusal_fits r = nat_lt r.place eight_bytes

-- a slip whose step eight bytes can carry, and all its other numbers four
abbrev pub slip_fits : Slip → Bool
slip_fits s = nat_lt s.step eight_bytes && all_below four_bytes (s.key ∷ (s.from ∷ (s.to ∷ (s.dest ∷ (s.amount ∷ [])))))

-- a step whose number eight bytes can carry, and its office four
abbrev pub step_fits : Step → Bool
step_fits s = nat_lt s.number eight_bytes && nat_lt s.office four_bytes

-- an answer whose numbers are such ones, or that eight bytes can carry
abbrev pub fits : Answer → Bool
fits (Refused r) = refusal_fits r
fits (Number n) = nat_lt n eight_bytes
fits (Given s) = slip_fits s
fits (At s) = step_fits s
fits NothingHeard = true
fits (Two m n) = nat_lt m eight_bytes && nat_lt n eight_bytes

-- the row is this answer
abbrev pub IsAnswer : List ℕ → Answer → Type 0
IsAnswer row a = (fits a ≡ true) × (row ≡ answer_bytes a)

-- what a row of bytes is: an answer, or none
abbrev pub ReadsAnswer : List ℕ → Option Answer → Type 0
ReadsAnswer row (Some a) = IsAnswer row a
ReadsAnswer row None = (a : Answer) → IsAnswer row a → ⊥

-- an answer that was written is read as that answer, and no other bytes are read as it
abbrev pub ReadsWritten : List ℕ → Option Answer → Type 0
ReadsWritten row r = (a : Answer) → fits a ≡ true → (row ≡ answer_bytes a → r ≡ Some a) × (r ≡ Some a → row ≡ answer_bytes a)

-- no other reading of the row is right
abbrev pub OnlyReading : List ℕ → Option Answer → Type 0
OnlyReading row r = (s : Option Answer) → ReadsAnswer row s → r ≡ s

-- an answer is written where 64 bytes or more are lent; else they stay as they were
abbrev pub WritesAnswer : Answer → List ℕ → List ℕ → Option ℕ → Type 0
WritesAnswer a before after (Some n) = (fits a ≡ true) × (lent_for_answer ≤ length before) × Written (answer_bytes a) before after n
WritesAnswer a before after None = (length before < lent_for_answer) × (after ≡ before)

-- FOR THE READER'S OWN FUNCTIONS

-- what the body of an answer is, by the values of each such thing and which of them fit
abbrev pub ReadsPart : {X : Type 0} → (X → Bool) → (X → List ℕ) → List ℕ → Option X → Type 0
ReadsPart can values part (Some x) = (can x ≡ true) × (part ≡ in_row 8 (values x))
ReadsPart {X} can values part None = (x : X) → can x ≡ true → part ≢ in_row 8 (values x)

-- a number that eight bytes can carry
abbrev pub one_fits : ℕ → Bool
one_fits n = nat_lt n eight_bytes

-- the answer with this first byte, its tag, by the body behind it
abbrev pub Tagged : ℕ → List ℕ → Option Answer → Type 0
Tagged tag body (Some a) = (answer_number a ≡ tag) × (fits a ≡ true) × (body ≡ in_row 8 (answer_values a))
Tagged tag body None = (a : Answer) → answer_number a ≡ tag → fits a ≡ true → body ≢ in_row 8 (answer_values a)
