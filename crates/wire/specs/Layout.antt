-- Calls and answers as bytes: a first byte that says which it is, and then its values, low byte first.
use Rattle.std.specs.Prelude.{◌≡◌, ℕ, zero, suc, ◌*◌, ◌/◌, ◌%◌, ◌^◌, Bool, true, List, [], ◌∷◌, ◌++◌, length, drop, Some, None, Option, ◌≢◌}
use Rattle.parcels.specs.Numbers.{four_bytes, all_below, call_number, call_values, answer_number, answer_values}
use Rattle.parcels.specs.declared.Call.{Call}
use Rattle.parcels.specs.declared.Answer.{Answer}

-- the longest call: its first byte and a slip's six fields
abbrev pub most_call_bytes : ℕ
most_call_bytes = 25

-- how many bytes are lent for an answer
abbrev pub lent_for_answer : ℕ
lent_for_answer = 64

-- a number in so many bytes, low byte first
unfoldable pub little_endian : ℕ → ℕ → List ℕ
little_endian zero n = []
little_endian (suc k) n = n % 256 ∷ little_endian k (n / 256)

-- numbers one behind the other, each in so many bytes
abbrev pub in_row : ℕ → List ℕ → List ℕ
in_row k [] = []
in_row k (n ∷ ns) = little_endian k n ++ in_row k ns

-- a call whose values its fields, four bytes each, can carry
abbrev pub readable : Call → Bool
readable c = all_below four_bytes (call_values c)

-- the bytes of a call
abbrev pub call_bytes : Call → List ℕ
call_bytes c = call_number c ∷ in_row 4 (call_values c)

-- the bytes of an answer
abbrev pub answer_bytes : Answer → List ℕ
answer_bytes a = answer_number a ∷ in_row 8 (answer_values a)

-- these bytes were written into lent ones from their start on, and what lies behind them stays as it was; the
-- result is how many were written
pub record Written (bytes before after : List ℕ) (n : ℕ) : Type 0 where
  pub count : n ≡ length bytes
  pub filled : after ≡ bytes ++ drop n before

-- FOR THE READERS' OWN FUNCTIONS

-- the values, so many of so many bytes each, that a part of a row holds; none, where the part is not as long as they
-- are
abbrev pub Holds : ℕ → ℕ → List ℕ → Option (List ℕ) → Type 0
Holds w n part (Some ns) = (length ns ≡ n) × (all_below (256 ^ w) ns ≡ true) × (part ≡ in_row w ns)
Holds w n part None = length part ≢ w * n
