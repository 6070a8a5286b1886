-- What is said of a line that can't be read.
use Rattle.std.specs.Prelude.{◌≡◌, ℕ, List, ◌++◌, codes}
use Rattle.std.specs.Borrow.{Bor}
use Rattle.lines.specs.declared.CallName.{CallName}
use Rattle.lines.specs.declared.CallName.TheVariants.{Accept, Send, Slip, Take, Hand, Pay, Where, Here, Sums}
use Rattle.lines.specs.declared.fault.Fault.{Fault}
use Rattle.lines.specs.declared.fault.Fault.TheVariants.{NoLine, Expected, ExpectedToken, NotAscii, TooLarge, NoMemory}

-- behind what is expected, a line in which it stands
abbrev pub as_in : List ℕ → List ℕ
as_in example = codes ", as in '" ++ (example ++ codes "'")

-- the text of each fault
abbrev pub fault_text : Fault → List ℕ
fault_text NoLine = codes "expected a line such as '3 offices, 8 parcels', 'at 0: sums', 'all clocks tick' or '# a comment'"
fault_text (Expected what example) = codes "expected " ++ (what.now ++ as_in example.now)
fault_text (ExpectedToken token example) = codes "expected '" ++ (token.now ++ (codes "'" ++ as_in example.now))
fault_text (NotAscii example) = codes "a byte order mark, or another byte that is not ASCII: expected plain text" ++ as_in example.now
fault_text TooLarge = codes "a number that is too large: expected at most 4294967295"
fault_text NoMemory = codes "no memory left"

-- that a byte stands there which is not ASCII
abbrev pub IsNotAscii : Fault → Type 0
IsNotAscii NoLine = ⊥
IsNotAscii (Expected what example) = ⊥
IsNotAscii (ExpectedToken token example) = ⊥
IsNotAscii (NotAscii example) = Unit {0}
IsNotAscii TooLarge = ⊥
IsNotAscii NoMemory = ⊥

-- that this is expected there
abbrev pub IsExpected : Bor (List ℕ) → Fault → Type 0
IsExpected what NoLine = ⊥
IsExpected what (Expected said example) = said ≡ what
IsExpected what (ExpectedToken token example) = ⊥
IsExpected what (NotAscii example) = ⊥
IsExpected what TooLarge = ⊥
IsExpected what NoMemory = ⊥

-- that this word or mark is expected there
abbrev pub IsExpectedToken : Bor (List ℕ) → Fault → Type 0
IsExpectedToken what NoLine = ⊥
IsExpectedToken what (Expected said example) = ⊥
IsExpectedToken what (ExpectedToken token example) = token ≡ what
IsExpectedToken what (NotAscii example) = ⊥
IsExpectedToken what TooLarge = ⊥
IsExpectedToken what NoMemory = ⊥

-- a line with each call, as faults show it
abbrev pub name_example : CallName → List ℕ
name_example Accept = codes "at 0: accept for 2, 50"
name_example Send = codes "at 0: send 0 to 1"
name_example Slip = codes "at 0: slip 0"
name_example Take = codes "at 1: take in 0: 1 0 1 2 50"
name_example Hand = codes "at 1: hand out 0"
name_example Pay = codes "at 0: pay 0"
name_example Where = codes "at 0: where is 0"
name_example Here = codes "at 1: here from 0"
name_example Sums = codes "at 2: sums"
