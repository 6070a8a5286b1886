-- All letters that were ever sent, by the envelopes in which they lie.
use Rattle.std.specs.Prelude.{◌≡◌, ℕ, ◌<◌, ◌≤◌, List, [], length, Some, None, Option, vec_items, slice_index_or}
use Rattle.letters.specs.Envelope.{Letter, letters_in, letter_of}
use Rattle.letters.specs.declared.Envelope.{Envelope}
use Rattle.world.specs.declared.mail.Mail.{Mail}

-- the letters, in the order in which they were sent
abbrev pub letters_in_mail : Mail → List Letter
letters_in_mail mail = letters_in (vec_items mail.envelopes)

-- what stands for a letter that was not sent
abbrev pub no_letter : Letter
no_letter = record { to = 0; text = [] }

-- the letter of this number, in its envelope, if it was sent
abbrev pub IsLetter : List Letter → ℕ → Option Envelope → Type 0
IsLetter ls n (Some e) = (n < length ls) × (letter_of e ≡ slice_index_or ls n no_letter)
IsLetter ls n None = length ls ≤ n
