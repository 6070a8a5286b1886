-- An answer takes at least one byte, and fewer than 256.
use Rattle.std.proofs.Common.{◌≡◌, ℕ, ◌<◌, List, [], ◌∷◌, length, get_or, refl, arith, rules}
use Rattle.parcels.specs.Numbers.{answer_number}
use Rattle.parcels.specs.declared.Answer.{Answer}
use Rattle.parcels.specs.declared.Answer.TheVariants.{Refused, Number, Given, At, NothingHeard, Two}
use Rattle.parcels.specs.Calls.{Limits}
use Rattle.wire.specs.Layout.{little_endian, answer_bytes}
use Rattle.session.specs.Exchanging.{Answered}
use Rattle.session.specs.declared.Replied.{Replied}

-- how many bytes an answer takes, by its number
abbrev bytes_by : ℕ → ℕ
bytes_by k = get_or (17 ∷ (9 ∷ (49 ∷ (25 ∷ (1 ∷ (17 ∷ [])))))) k 0

count_bytes : (a : Answer) → length (answer_bytes a) ≡ bytes_by (answer_number a)
unfolding little_endian
count_bytes (Refused r) = refl
count_bytes (Number n) = refl
count_bytes (Given s) = refl
count_bytes (At s) = refl
count_bytes NothingHeard = refl
count_bytes (Two m n) = refl

few_bytes : (a : Answer) → (0 < bytes_by (answer_number a)) × (bytes_by (answer_number a) < 256)
few_bytes a = search rules

pub answer_counted : (l : Limits) (o : ℕ) (m bytes out out' lent lent' : List ℕ) (n : Replied) (m' : List ℕ) → Answered l o m bytes out out' lent lent' n m' → (0 < n.answer) × (n.answer < 256)
answer_counted l o m bytes out out' lent lent' n m' is = (omega (arith, is.written.count, count_bytes is.answer, few_bytes is.answer), omega (arith, is.written.count, count_bytes is.answer, few_bytes is.answer))
