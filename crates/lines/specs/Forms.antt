-- How each line and each call is written: the words, numbers and marks that stand one behind the other.
use Rattle.std.specs.Prelude.{◌≡◌, ℕ, true, ◌⊎◌, List, [], ◌∷◌, codes, Ok, Err, Result}
use Rattle.lines.specs.Tokens.{without_blanks, is_blank_line, Token, word, number, mark, Stand, byte_tokens}
use Rattle.lines.specs.declared.Beginning.{Beginning}
use Rattle.lines.specs.declared.Beginning.TheVariants.{At as BAt, All as BAll, Letter as BLetter}
use Rattle.lines.specs.declared.CallName.{CallName}
use Rattle.lines.specs.declared.CallName.TheVariants.{Accept as NAccept, Send as NSend, Slip as NSlip, Take as NTake, Hand as NHand, Pay as NPay, Where as NWhere, Here as NHere, Sums as NSums}
use Rattle.lines.specs.declared.Deed.{Deed}
use Rattle.lines.specs.declared.Deed.TheVariants.{Call as DCall, Bytes as DBytes, Tick as DTick}
use Rattle.lines.specs.declared.Line.{Line}
use Rattle.lines.specs.declared.Line.TheVariants.{Blank, Opening, Call, Bytes, Tick, AllTick, Letter, AllLetters, AllLettersLastFirst}
use Rattle.lines.specs.declared.fault.Fault.{Fault}
use Rattle.lines.specs.declared.fault.Fault.TheVariants.{NoMemory}
use Rattle.parcels.specs.declared.Call.{Call as ACall}
use Rattle.parcels.specs.declared.Call.TheVariants.{Accept, Send, SlipAgain, TakeIn, HandOut, Pay, WhereIs, Here, Sums}
use Rattle.parcels.specs.declared.Slip.{Slip}

-- what a slip says behind its key
abbrev pub way_tokens : Slip → List Token
way_tokens s = number s.step ∷ number s.from ∷ number s.to ∷ number s.dest ∷ number s.amount ∷ []

-- a slip
abbrev pub slip_tokens : Slip → List Token
slip_tokens s = number s.key ∷ mark (codes ":") ∷ way_tokens s

-- a call
abbrev pub call_tokens : ACall → List Token
call_tokens (Accept dest amount) = word (codes "accept") ∷ word (codes "for") ∷ number dest ∷ mark (codes ",") ∷ number amount ∷ []
call_tokens (Send key to) = word (codes "send") ∷ number key ∷ word (codes "to") ∷ number to ∷ []
call_tokens (SlipAgain key) = word (codes "slip") ∷ number key ∷ []
call_tokens (TakeIn s) = word (codes "take") ∷ word (codes "in") ∷ slip_tokens s
call_tokens (HandOut key) = word (codes "hand") ∷ word (codes "out") ∷ number key ∷ []
call_tokens (Pay key) = word (codes "pay") ∷ number key ∷ []
call_tokens (WhereIs key) = word (codes "where") ∷ word (codes "is") ∷ number key ∷ []
call_tokens (Here from) = word (codes "here") ∷ word (codes "from") ∷ number from ∷ []
call_tokens Sums = word (codes "sums") ∷ []

-- a line
abbrev pub line_tokens : Line → List Token
line_tokens Blank = []
line_tokens (Opening offices parcels) = number offices ∷ word (codes "offices") ∷ mark (codes ",") ∷ number parcels ∷ word (codes "parcels") ∷ []
line_tokens (Call at call) = word (codes "at") ∷ number at ∷ mark (codes ":") ∷ call_tokens call
line_tokens (Bytes at bytes) = word (codes "at") ∷ number at ∷ mark (codes ":") ∷ word (codes "bytes") ∷ byte_tokens bytes.items
line_tokens (Tick at) = word (codes "at") ∷ number at ∷ mark (codes ":") ∷ word (codes "tick") ∷ []
line_tokens AllTick = word (codes "all") ∷ word (codes "clocks") ∷ word (codes "tick") ∷ []
line_tokens (Letter n) = word (codes "letter") ∷ number n ∷ word (codes "comes") ∷ []
line_tokens AllLetters = word (codes "all") ∷ word (codes "letters") ∷ word (codes "come") ∷ []
line_tokens AllLettersLastFirst =
    word (codes "all") ∷ word (codes "letters") ∷ word (codes "come") ∷ mark (codes ",") ∷ word (codes "the") ∷ word (codes "last") ∷ word (codes "first") ∷ []

-- a whole line says this: nothing, or what its tokens are, from its first byte that is no blank up to its end
abbrev pub Says : List ℕ → Line → Type 0
Says bs line = ((line ≡ Blank) × (is_blank_line bs ≡ true)) ⊎ Stand (line_tokens line) (without_blanks bs) []

-- no line is written with these bytes
abbrev pub IsNoLine : List ℕ → Type 0
IsNoLine bs = (line : Line) → Says bs line → ⊥

-- what is said, wherever the bytes that it takes lie in memory: these bytes at an office, or what a line itself is
pub data Content : Type 0 where
  bytes_at : ℕ → List ℕ → Content
  itself : Line → Content

-- what a line says
abbrev pub content : Line → Content
content (Bytes at bytes) = bytes_at at bytes.items
content line = itself line

-- no two lines that say different things are written with the same bytes
abbrev pub OnlyLine : List ℕ → Type 0
OnlyLine bs = (x y : Line) → Says bs x → Says bs y → content x ≡ content y

-- what was read is this line; only where there are bytes to keep can memory be wanting
abbrev pub IsRead : Line → Result Line Fault → Type 0
IsRead line (Ok read) = content read ≡ content line
IsRead (Bytes at bytes) (Err fault) = fault ≡ NoMemory
IsRead line (Err fault) = ⊥

-- each line that these bytes say is what was read
abbrev pub Reads : List ℕ → Result Line Fault → Type 0
Reads bs r = (line : Line) → Says bs line → IsRead line r

-- FOR THE READER'S OWN FUNCTIONS

-- the first word of a line that begins with a word
abbrev pub beginning_word : Beginning → List ℕ
beginning_word BAt = codes "at"
beginning_word BAll = codes "all"
beginning_word BLetter = codes "letter"

-- the first word of a call
abbrev pub name_word : CallName → List ℕ
name_word NAccept = codes "accept"
name_word NSend = codes "send"
name_word NSlip = codes "slip"
name_word NTake = codes "take"
name_word NHand = codes "hand"
name_word NPay = codes "pay"
name_word NWhere = codes "where"
name_word NHere = codes "here"
name_word NSums = codes "sums"

-- the first word of what is done at an office
abbrev pub deed_word : Deed → List ℕ
deed_word (DCall name) = name_word name
deed_word DBytes = codes "bytes"
deed_word DTick = codes "tick"

-- where a word was taken, these tokens go on behind it
abbrev pub GoOn : List ℕ → List Token → List ℕ → List ℕ → Type 0
GoOn w [] bs left = ⊥
GoOn w (word v ∷ ts) bs left = (w ≡ v) × Stand ts bs left
GoOn w (t ∷ ts) bs left = ⊥

-- where "at", this office's number and ":" were taken, a line goes on behind them
abbrev pub GoOnAt : ℕ → Line → List ℕ → List ℕ → Type 0
GoOnAt at (Call o call) bs left = (at ≡ o) × Stand (call_tokens call) bs left
GoOnAt at (Bytes o bytes) bs left = (at ≡ o) × Stand (word (codes "bytes") ∷ byte_tokens bytes.items) bs left
GoOnAt at (Tick o) bs left = (at ≡ o) × Stand (word (codes "tick") ∷ []) bs left
GoOnAt at line bs left = ⊥
