-- What a row of bytes is read as: the bytes of an answer tell which it is, and no row has two readings.
use Rattle.std.proofs.Common.{◌≡◌, ℕ, true, List, [], ◌∷◌, length, get_or, drop, Some, None, Option, sym, refl, ap, ◌∙◌, subst, arith, rules}
use Rattle.std.proofs.lemmas.Bool.Decides.{nat_tests}
use Rattle.parcels.specs.Numbers.{eight_bytes, all_below, kind_number, reason_number, answer_number, answer_values}
use Rattle.parcels.specs.declared.Kind.{Kind}
use Rattle.parcels.specs.declared.Kind.TheVariants.{Accepted, SentOn, ComeIn, HandedOut}
use Rattle.parcels.specs.declared.Reason.{Reason}
use Rattle.parcels.specs.declared.Reason.TheVariants.{Unreadable, OutOfRange, BadOpening, NotHere, WrongSlip, OtherOffice, NothingToPay, PaidAlready, OverLimit}
use Rattle.parcels.specs.declared.Step.{Step}
use Rattle.parcels.specs.declared.Slip.{Slip}
use Rattle.parcels.specs.declared.Refusal.{Refusal}
use Rattle.parcels.specs.declared.Answer.{Answer}
use Rattle.parcels.specs.declared.Answer.TheVariants.{Refused, Number, Given, At, NothingHeard, Two}
use Rattle.wire.specs.Layout.{answer_bytes}
use Rattle.wire.specs.Answers.{fits, one_fits, ReadsAnswer, ReadsWritten, ReadsPart, Tagged}
use Rattle.wire.proofs.Values.{same_values}
use Rattle.wire.specs.Carried.{none_fit, none_values, one_values, pair_fits, pair_values}
use Rattle.wire.specs.CarriedLaws.{refusal_small, step_small, slip_small}

-- how many values the answer with this number has
abbrev value_count : ℕ → ℕ
value_count k = get_or (2 ∷ (1 ∷ (6 ∷ (3 ∷ (0 ∷ (2 ∷ [])))))) k 0

count_values : (a : Answer) → length (answer_values a) ≡ value_count (answer_number a)
count_values a = search rules

-- what is not two numbers is no answer of two
pub no_two : (part : List ℕ) → ReadsPart (pair_fits one_fits one_fits) (pair_values one_values one_values) part None → Tagged 5 part None
no_two part none (Refused r) number small e = absurd (omega arith)
no_two part none (Number n) number small e = absurd (omega arith)
no_two part none (Given s) number small e = absurd (omega arith)
no_two part none (At s) number small e = absurd (omega arith)
no_two part none NothingHeard number small e = absurd (omega arith)
no_two part none (Two m n) number small e = none (m, n) small e

-- what is not empty is no answer that carries nothing
pub no_rest : (part : List ℕ) → ReadsPart none_fit none_values part None → Tagged 4 part None
no_rest part some (Refused r) number small e = absurd (omega arith)
no_rest part some (Number n) number small e = absurd (omega arith)
no_rest part some (Given s) number small e = absurd (omega arith)
no_rest part some (At s) number small e = absurd (omega arith)
no_rest part some NothingHeard number small e = some tt small e
no_rest part some (Two m n) number small e = absurd (omega arith)

-- an answer's values fit eight bytes each
answer_small : (a : Answer) → fits a ≡ true → all_below eight_bytes (answer_values a) ≡ true
answer_small a h = grind (arith, nat_tests, refusal_small, step_small, slip_small)

reason_of : ℕ → Reason
reason_of k = get_or (Unreadable ∷ (Unreadable ∷ (OutOfRange ∷ (BadOpening ∷ (NotHere ∷ (WrongSlip ∷ (OtherOffice ∷ (NothingToPay ∷ (PaidAlready ∷ []))))))))) k OverLimit

reason_again : (r : Reason) → reason_of (reason_number r) ≡ r
unfolding reason_of
reason_again r = search rules

kind_of : ℕ → Kind
kind_of k = get_or (Accepted ∷ (SentOn ∷ (ComeIn ∷ []))) k HandedOut

kind_again : (k : Kind) → kind_of (kind_number k) ≡ k
unfolding kind_of
kind_again k = search rules

-- the answer with this number and these values
answer_of : ℕ → List ℕ → Answer
answer_of k vs =
    let v : ℕ → ℕ = λ i. get_or vs i 0 in
    let refusal : Refusal = record { reason = reason_of (v 0); place = v 1 } in
    let slip : Slip = record { key = v 0; step = v 1; from = v 2; to = v 3; dest = v 4; amount = v 5 } in
    let step : Step = record { number = v 0; kind = kind_of (v 1); office = v 2 } in
    get_or (Refused refusal ∷ (Number (v 0) ∷ (Given slip ∷ (At step ∷ (NothingHeard ∷ []))))) k (Two (v 0) (v 1))

answer_again : (a : Answer) → answer_of (answer_number a) (answer_values a) ≡ a
unfolding answer_of
answer_again (Refused refusal) = ap (λ r. Refused (record { reason = r; place = refusal.place })) (reason_again refusal.reason)
answer_again (Number n) = refl
answer_again (Given slip) = refl
answer_again (At step) = ap (λ k. At (record { number = step.number; kind = k; office = step.office })) (kind_again step.kind)
answer_again NothingHeard = refl
answer_again (Two m n) = refl

-- the bytes of an answer tell which it is
same_answer : (a b : Answer) → fits a ≡ true → fits b ≡ true → answer_bytes a ≡ answer_bytes b → a ≡ b
same_answer a b small low e =
    let number : answer_number a ≡ answer_number b = ap (λ bs. get_or bs 0 0) e in
    let values : answer_values a ≡ answer_values b =
    same_values 8 (answer_values a) (answer_values b) (answer_small a small) (answer_small b low) (count_values a ∙ ap value_count number ∙ sym (count_values b)) (ap (drop 1) e) in
    sym (answer_again a) ∙ ap (λ k. answer_of k (answer_values a)) number ∙ ap (answer_of (answer_number b)) values ∙ answer_again b

-- no row has two readings
pub one_answer : (row : List ℕ) (r s : Option Answer) → ReadsAnswer row r → ReadsAnswer row s → r ≡ s
one_answer row (Some a) (Some b) (small, e) (low, f) = ap Some (same_answer a b small low (sym e ∙ f))
one_answer row (Some a) None r none = absurd (none a r)
one_answer row None (Some b) none s = absurd (none b s)
one_answer row None None r s = refl

pub reads_written : (row : List ℕ) (r : Option Answer) → ReadsAnswer row r → ReadsWritten row r
reads_written row r reads a small = (λ e. one_answer row r (Some a) reads (small, e), λ e. (subst (λ (s : Option Answer). ReadsAnswer row s) e reads).1)

-- a row by its tag and its body
pub from_tagged : (row body : List ℕ) (tag : ℕ) (r : Option Answer) → row ≡ tag ∷ body → Tagged tag body r → ReadsAnswer row r
from_tagged row body tag (Some a) e (number, small, values) = (small, e ∙ ap (λ n. n ∷ body) (sym number) ∙ ap (λ rest. answer_number a ∷ rest) values)
from_tagged row body tag None e none = λ a (small, f). none a (sym (ap (λ bs. get_or bs 0 0) (sym e ∙ f))) small (ap (drop 1) (sym e ∙ f))
