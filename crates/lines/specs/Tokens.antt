-- How a line is cut into tokens: words, numbers and marks.
use Rattle.std.specs.Prelude.{◌≡◌, ℕ, ◌^◌, ◌<◌, Bool, true, false, ◌||◌, List, [], ◌∷◌, length, drop, ◌==◌, nat_le}
use Rattle.std.specs.Char.{is_ascii_alphabetic, is_ascii_digit}
use Rattle.std.specs.List.{prefix_len, take_while, starts_with}
use Rattle.lines.specs.Decimal.{value_of}

-- each answer at a byte is that of a test
abbrev pub AnswersAs : (ℕ → Bool) → (ℕ → Bool → Type 0) → Type 0
AnswersAs test answers = (b : ℕ) (r : Bool) → answers b r → r ≡ test b

-- whether there is a first byte, and it passes a test
abbrev pub first_passes : (ℕ → Bool) → List ℕ → Bool
first_passes test [] = false
first_passes test (b ∷ bs) = test b

-- a blank: 32 is the byte ' ', 9 a tab, 13 a carriage return
abbrev pub is_blank : ℕ → Bool
is_blank b = b == 32 || (b == 9 || b == 13)

-- a byte that is not ASCII
abbrev pub is_foreign : ℕ → Bool
is_foreign b = nat_le 128 b

-- what is left without the blanks at the front
abbrev pub without_blanks : List ℕ → List ℕ
without_blanks bs = drop (prefix_len is_blank bs) bs

-- what is left behind the bytes at the front that pass a test, and the blanks after those
abbrev pub behind : (ℕ → Bool) → List ℕ → List ℕ
behind test bs = without_blanks (drop (prefix_len test bs) bs)

-- the number that the digits at the front stand for: 0 where there are none
abbrev pub first_number : List ℕ → ℕ
first_number bs = value_of (take_while is_ascii_digit bs)

-- a number below a bound stands first
abbrev pub HasNumberBelow : ℕ → List ℕ → Type 0
HasNumberBelow bound bs = (first_passes is_ascii_digit bs ≡ true) × (first_number bs < bound)

-- a line that says nothing: it has nothing but blanks, or is a comment, which begins with the byte '#', 35
abbrev pub is_blank_line : List ℕ → Bool
is_blank_line bs = length (without_blanks bs) == 0 || first_passes (λ b. b == 35) (without_blanks bs)

-- a token: a word of these letters, a number that four bytes hold, one that a byte holds, or a mark
pub data Token : Type 0 where
  word : List ℕ → Token
  number : ℕ → Token
  byte : ℕ → Token
  mark : List ℕ → Token

-- these tokens stand at the front, one behind the other, and then this is left
abbrev pub Stand : List Token → List ℕ → List ℕ → Type 0
Stand [] bs left = bs ≡ left
Stand (word w ∷ ts) bs left = (take_while is_ascii_alphabetic bs ≡ w) × Stand ts (behind is_ascii_alphabetic bs) left
Stand (number n ∷ ts) bs left = HasNumberBelow (2 ^ 32) bs × (first_number bs ≡ n) × Stand ts (behind is_ascii_digit bs) left
Stand (byte n ∷ ts) bs left = HasNumberBelow (2 ^ 8) bs × (first_number bs ≡ n) × Stand ts (behind is_ascii_digit bs) left
Stand (mark m ∷ ts) bs left = (starts_with ◌==◌ bs m ≡ true) × Stand ts (without_blanks (drop (length m) bs)) left

-- bytes, each as a number
abbrev pub byte_tokens : List ℕ → List Token
byte_tokens [] = []
byte_tokens (v ∷ vs) = byte v ∷ byte_tokens vs
