-- Letters, and how they lie in lent bytes: an envelope for each, one behind the other.
use Rattle.std.specs.Prelude.{◌≡◌, ℕ, zero, suc, ◌+◌, ◌*◌, ◌/◌, ◌≤◌, ◌<◌, ◌⊎◌, List, [], ◌∷◌, ◌++◌, length, take, drop, Some, None, Option}
use Rattle.std.specs.Int.{w32, from_le_bytes, to_le_bytes}
use Rattle.parcels.specs.Numbers.{letter_bytes}
use Rattle.letters.specs.declared.Envelope.{Envelope}

-- a letter: to which office, and its bytes
pub record Letter : Type 0 where
  pub to : ℕ
  pub text : List ℕ

-- how many bytes are lent for a letter
abbrev pub lent_for_letter : ℕ
lent_for_letter = 80

-- where in them the letter's own bytes begin
abbrev pub head_bytes : ℕ
head_bytes = 16

-- the letter in an envelope: its first four bytes say to which office it goes, the next four how long it is
abbrev pub letter_in : List ℕ → Letter
letter_in e = record { to = from_le_bytes w32 (take 4 e); text = take (from_le_bytes w32 (take 4 (drop 4 e))) (drop head_bytes e) }

-- an envelope into which a letter was put: the bytes that are kept free, and those behind the letter, are as they were
abbrev pub filled : Letter → List ℕ → List ℕ
filled x e = to_le_bytes w32 x.to ++ (to_le_bytes w32 (length x.text) ++ (take 8 (drop 8 e) ++ (x.text ++ drop (head_bytes + length x.text) e)))

-- the envelope at this place among lent bytes
abbrev pub envelope_at : List ℕ → ℕ → List ℕ
envelope_at lent nth = take lent_for_letter (drop (lent_for_letter * nth) lent)

-- lent bytes in which one envelope was filled
abbrev pub with_letter : List ℕ → ℕ → Letter → List ℕ
with_letter lent nth x = take (lent_for_letter * nth) lent ++ (filled x (envelope_at lent nth) ++ drop (lent_for_letter * nth + lent_for_letter) lent)

-- an office's letter is put into an envelope where it is short enough and the envelope is lent; else nothing changes
abbrev pub Encloses : List ℕ → ℕ → Letter → Option (Unit {0}) → List ℕ → Type 0
Encloses lent nth x (Some _) lent' = (length x.text ≤ letter_bytes) × (lent_for_letter * nth + lent_for_letter ≤ length lent) × (lent' ≡ with_letter lent nth x)
Encloses lent nth x None lent' = ((letter_bytes < length x.text) ⊎ (length lent < lent_for_letter * nth + lent_for_letter)) × (lent' ≡ lent)

-- it is read from there as it was written
abbrev pub ReadsBack : Letter → ℕ → Option (Unit {0}) → List ℕ → Type 0
ReadsBack x nth (Some _) lent' = letter_in (envelope_at lent' nth) ≡ x
ReadsBack x nth None lent' = Unit {0}

-- the envelope at this place, if it is lent
abbrev pub IsNth : List ℕ → ℕ → Option Envelope → Type 0
IsNth lent nth (Some e) = (lent_for_letter * nth + lent_for_letter ≤ length lent) × (e.bytes ≡ envelope_at lent nth)
IsNth lent nth None = length lent < lent_for_letter * nth + lent_for_letter

-- the letter in an envelope that was taken from there
abbrev pub letter_of : Envelope → Letter
letter_of e = letter_in e.bytes

-- so many letters, from the first envelope among these bytes on
unfoldable pub first_letters : List ℕ → ℕ → List Letter
first_letters bs zero = []
first_letters bs (suc n) = first_letters bs n ++ (letter_in (envelope_at bs n) ∷ [])

-- all letters in whole envelopes that these bytes are
abbrev pub letters_in : List ℕ → List Letter
letters_in bs = first_letters bs (length bs / lent_for_letter)

-- letters in the first envelopes of lent bytes
abbrev pub posted : List Letter → List ℕ → List ℕ
posted [] lent = lent
posted (x ∷ xs) lent = filled x (take lent_for_letter lent) ++ posted xs (drop lent_for_letter lent)

-- so many letters, which were put there; the bytes behind the last one are as they were
abbrev pub Posted : List Letter → ℕ → List ℕ → List ℕ → Type 0
Posted xs count lent lent' = (count ≡ length xs) × (lent' ≡ posted xs lent)
