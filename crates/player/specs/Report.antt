-- What is shown of a world file, and how it ends.
use Rattle.std.specs.Prelude.{◌≡◌, ℕ, List, [], ◌∷◌, ◌++◌, Ok, Err, string_bytes, codes, decimal, Result}
use Rattle.std.specs.List.{flat_map}
use Rattle.std.specs.Ordering.{nat_cmp}
use Rattle.std.specs.BTreeMap.{BTreeMap, IsOrdered, get}
use Rattle.parcels.specs.Calls.{Limits}
use Rattle.parcels.specs.declared.Step.{Step}
use Rattle.answers.specs.Texts.{located_text}
use Rattle.world.specs.declared.Exchange.{Exchange}
use Rattle.world.specs.declared.CannotHappen.TheVariants.{NoMemory}
use Rattle.tracking.specs.Steps.{last_step}
use Rattle.player.specs.Cut.{Text, whole}
use Rattle.player.specs.Limits.{most_played_letters}
use Rattle.player.specs.Run.{At, NoWorld, PlaysWorld}
use Rattle.player.specs.Texts.{line_at_fault}
use Rattle.player.specs.declared.trouble.Stop.{Stop}
use Rattle.player.specs.declared.trouble.Stop.TheVariants.{BudgetSpent, TooManyLetters, Bad}
use Rattle.player.specs.declared.trouble.Trouble.TheVariants.{Impossible}
use Rattle.player.specs.declared.report.BadLine.{BadLine}
use Rattle.player.specs.declared.report.End.{End}
use Rattle.player.specs.declared.report.End.TheVariants.{Done, Stopped}
use Rattle.player.specs.declared.report.Report.{Report}

-- the line that says why a world stopped, where no line of its file is to blame
abbrev pub stop_line : ℕ → List ℕ → List ℕ
stop_line most what = codes "stopped: more than " ++ (decimal most ++ (codes " " ++ (what ++ (10 ∷ []))))

-- that line stands behind what was shown so far, unless there was no memory for it
abbrev pub Stops : List ℕ → ℕ → List ℕ → Result End BadLine → List ℕ → Type 0
Stops bytes line more (Ok Done) all = ⊥
Stops bytes line more (Ok Stopped) all = all ≡ bytes ++ more
Stops bytes line more (Err bad) all = (bad ≡ record { line = line; trouble = Impossible NoMemory }) × (all ≡ bytes)

-- the report of a run that ended so at this line, after it showed these bytes
abbrev pub Concludes : Result (Unit {0}) Stop → ℕ → ℕ → List ℕ → Report → Type 0
Concludes (Ok _) line budget bytes r = (r.end ≡ Ok Done) × (string_bytes r.shown ≡ bytes)
Concludes (Err (Bad t)) line budget bytes r = (r.end ≡ Err (record { line = line_at_fault t line; trouble = t })) × (string_bytes r.shown ≡ bytes)
Concludes (Err BudgetSpent) line budget bytes r = Stops bytes line (stop_line budget (codes "things happened")) r.end (string_bytes r.shown)
Concludes (Err TooManyLetters) line budget bytes r =
    Stops bytes line (stop_line most_played_letters (codes "letters were sent")) r.end (string_bytes r.shown)

-- where a parcel is, as a line
abbrev pub place_line : ℕ → Step → List ℕ
place_line key step = located_text key step ++ (10 ∷ [])

-- the same for some parcels
abbrev pub place_lines : List (ℕ × Step) → List ℕ
place_lines es = flat_map (λ e. place_line e.0 e.1) es

-- a line for each parcel that took a step in truth, by what was said within these limits, with its last one, in the order
-- of keys
abbrev pub ShowsPlaces : Limits → List Exchange → List ℕ → Type 0
ShowsPlaces l xs bytes =
    (steps : BTreeMap ℕ Step) × IsOrdered nat_cmp steps × ((key : ℕ) → get nat_cmp steps key ≡ last_step l xs key) × (bytes ≡ place_lines steps.entries)

-- what a file shows, and how playing it ends, with this text left: the answers, up to there
pub data ShowsAnswers (file : Text) (budget : ℕ) : Result (Unit {0}) Stop → Text → List ℕ → Type 0 where
  no_world : (ran : Result (Unit {0}) Stop) (left : Text) → NoWorld file ran left → ShowsAnswers file budget ran left []
  world : {ran : Result (Unit {0}) Stop} {l : Limits} {b : At} → PlaysWorld file budget l ran b → ShowsAnswers file budget ran b.text b.shown

-- the same where it shows no answers, but where each parcel is then: nothing, where no memory is left for these lines
pub data Locates (file : Text) (budget : ℕ) : Result (Unit {0}) Stop → Text → List ℕ → Type 0 where
  no_world : (ran : Result (Unit {0}) Stop) (left : Text) → NoWorld file ran left → Locates file budget ran left []
  world : {ran : Result (Unit {0}) Stop} {l : Limits} {b : At} (bytes : List ℕ) → PlaysWorld file budget l ran b → ShowsPlaces l b.journal bytes → Locates file budget ran b.text bytes
  no_memory : {ran : Result (Unit {0}) Stop} {l : Limits} {b : At} → PlaysWorld file budget l ran b → Locates file budget (Err (Bad (Impossible NoMemory))) b.text []

-- the report of a file in which at most so many things happen: its answers, and why playing it ended
abbrev pub Reports : List ℕ → ℕ → Report → Type 0
Reports file budget r =
    (ran : Result (Unit {0}) Stop) × (left : Text) × (bytes : List ℕ) × ShowsAnswers (whole file) budget ran left bytes × Concludes ran left.taken budget bytes r

-- the report that tells where each parcel of a file is in the end, and why playing it ended
abbrev pub ReportsPlaces : List ℕ → ℕ → Report → Type 0
ReportsPlaces file budget r =
    (ran : Result (Unit {0}) Stop) × (left : Text) × (bytes : List ℕ) × Locates (whole file) budget ran left bytes × Concludes ran left.taken budget bytes r
