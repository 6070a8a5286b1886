-- Lines as text: the bytes that are written of each, of which docs/FORMATS.md has examples.
use Rattle.std.specs.Prelude.{◌≡◌, ℕ, ◌^◌, ◌<◌, List, [], ◌∷◌, ◌++◌, codes, decimal, Result}
use Rattle.lines.specs.Forms.{line_tokens, IsRead}
use Rattle.lines.specs.Tokens.{Token, word, number, byte, mark}
use Rattle.lines.specs.declared.Line.{Line}
use Rattle.lines.specs.declared.fault.Fault.{Fault}

-- tokens behind others: a blank before each, but none before a mark
abbrev pub rest_text : List Token → List ℕ
rest_text [] = []
rest_text (word w ∷ ts) = codes " " ++ (w ++ rest_text ts)
rest_text (number n ∷ ts) = codes " " ++ (decimal n ++ rest_text ts)
rest_text (byte n ∷ ts) = codes " " ++ (decimal n ++ rest_text ts)
rest_text (mark m ∷ ts) = m ++ rest_text ts

-- tokens from the first one on
abbrev pub tokens_text : List Token → List ℕ
tokens_text [] = []
tokens_text (word w ∷ ts) = w ++ rest_text ts
tokens_text (number n ∷ ts) = decimal n ++ rest_text ts
tokens_text (byte n ∷ ts) = decimal n ++ rest_text ts
tokens_text (mark m ∷ ts) = m ++ rest_text ts

-- a line
abbrev pub line_text : Line → List ℕ
line_text line = tokens_text (line_tokens line)

-- four bytes hold each number, and one each byte
abbrev pub AllFit : List Token → Type 0
AllFit [] = Unit {0}
AllFit (word w ∷ ts) = AllFit ts
AllFit (number n ∷ ts) = (n < 2 ^ 32) × AllFit ts
AllFit (byte n ∷ ts) = (n < 2 ^ 8) × AllFit ts
AllFit (mark m ∷ ts) = AllFit ts

-- a line that was written, and whose numbers fit, is read as that line
abbrev pub ReadsWritten : List ℕ → Result Line Fault → Type 0
ReadsWritten bs r = (line : Line) → AllFit (line_tokens line) → bs ≡ line_text line → IsRead line r
