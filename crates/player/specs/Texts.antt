-- What is said of a bad line.
use Rattle.std.specs.Prelude.{ℕ, ◌+◌, min, List, ◌++◌, codes, decimal}
use Rattle.lines.specs.Faults.{fault_text}
use Rattle.world.specs.declared.CannotHappen.{CannotHappen}
use Rattle.world.specs.declared.CannotHappen.TheVariants.{BadLimits, NoOffice, NoSuchCall, NeverGiven, NeverSent, NoMemory}
use Rattle.player.specs.declared.report.BadLine.{BadLine}
use Rattle.player.specs.declared.trouble.Trouble.{Trouble}
use Rattle.player.specs.declared.trouble.Trouble.TheVariants.{Unread, NotOpened, OpenedAgain, NeverOpened, Impossible}

-- why something can't happen
abbrev pub impossible_text : CannotHappen → List ℕ
impossible_text BadLimits = codes "expected 2 to 4 offices and at most 64 parcels, as in '3 offices, 8 parcels'"
impossible_text NoOffice = codes "an office that is not there: offices are numbered from 0, so the last of 3 is 2"
impossible_text NoSuchCall = codes "a call that no bytes can carry"
impossible_text NeverGiven = codes "a slip that was never given out: an answer 'slip 0: 1 0 1 2 50' is taken in by 'take in 0: 1 0 1 2 50'"
impossible_text NeverSent = codes "a letter that was never sent: offices send none yet"
impossible_text NoMemory = codes "no memory left"

-- what is wrong with a line
abbrev pub trouble_text : Trouble → List ℕ
trouble_text (Unread fault) = fault_text fault
trouble_text NotOpened = codes "the offices are not open yet: expected a line such as '3 offices, 8 parcels' first"
trouble_text OpenedAgain = codes "the offices are open already: another world has a file of its own"
trouble_text NeverOpened = codes "the file ends before the offices are open: expected a line such as '3 offices, 8 parcels'"
trouble_text (Impossible e) = impossible_text e

-- the same behind the number of the line
abbrev pub bad_line_text : BadLine → List ℕ
bad_line_text bad = decimal bad.line ++ (codes ": " ++ trouble_text bad.trouble)

-- the line that is at fault, where so many were taken: the last of them; but the one behind it, where that is missing
abbrev pub line_at_fault : Trouble → ℕ → ℕ
line_at_fault (Unread fault) taken = taken
line_at_fault NotOpened taken = taken
line_at_fault OpenedAgain taken = taken
line_at_fault NeverOpened taken = min (taken + 1) 18446744073709551615
line_at_fault (Impossible e) taken = taken
