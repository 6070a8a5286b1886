-- A text is cut into lines at each newline, byte 10; a last line may have none.
use Rattle.std.specs.Prelude.{◌≡◌, ℕ, ◌+◌, ◌<◌, min, ◌⊎◌, List, [], ◌∷◌, ◌++◌, length, Some, None, Option, ◌≢◌, slice_index}
use Rattle.std.specs.Borrow.{Bor}
use Rattle.player.specs.declared.split.Lines.{Lines}

-- what is left of a text, and how many lines were taken from it (counted up to the largest number of eight bytes)
pub record Text : Type 0 where
  pub rest : List ℕ
  pub taken : ℕ

-- the text that these lines are cut from
abbrev pub text_of : Lines → Text
text_of lines = record { rest = lines.rest.now; taken = lines.taken }

-- a text of which no line was taken yet
abbrev pub whole : List ℕ → Text
whole bytes = record { rest = bytes; taken = 0 }

-- a line, and the rest of the text behind it
pub record FirstLine (text line rest : List ℕ) : Type 0 where
  pub unbroken : (k : ℕ) → k < length line → slice_index line k ≢ 10
  pub joined : (text ≡ line ++ (10 ∷ rest)) ⊎ ((text ≡ line) × (rest ≡ []))
  pub shorter : length rest < length text

-- this line is taken from a text
abbrev pub Takes : Text → List ℕ → Text → Type 0
Takes a line b = FirstLine a.rest line b.rest × (b.taken ≡ min (a.taken + 1) 18446744073709551615)

-- a line is taken, or none from a text that is at its end
abbrev pub Cuts : Text → Option (Bor (List ℕ)) → Text → Type 0
Cuts a None b = (a.rest ≡ []) × (b ≡ a)
Cuts a (Some line) b = Takes a line.now b
