-- What a program is asked for by its arguments.
use Rattle.std.specs.Prelude.{◌≡◌, ◌≢◌, ℕ, ◌<◌, true, false, ◌⊎◌, List, [], length, ◌==◌, codes, string_bytes}
use Rattle.std.specs.List.{All, AllWithin, HoldsAt}
use Rattle.lines.specs.Tokens.{first_passes}
use Rattle.programs.specs.declared.arguments.Argument.{Argument}
use Rattle.programs.specs.declared.arguments.Argument.TheVariants.{Help as SaysHelp, StandardInput, UnknownOption as SaysUnknown, File}
use Rattle.programs.specs.declared.source.Source.{Source}
use Rattle.programs.specs.declared.source.Source.TheVariants.{StandardInput as FromInput, File as FromFile}
use Rattle.programs.specs.declared.arguments.Request.{Request}
use Rattle.programs.specs.declared.arguments.Request.TheVariants.{Nothing, Help, UnknownOption, Worlds}

-- what an argument says: 45 is the byte '-', with which each option begins
abbrev pub Means : List ℕ → Argument → Type 0
Means bytes SaysHelp = (bytes ≡ codes "-h") ⊎ (bytes ≡ codes "--help")
Means bytes StandardInput = bytes ≡ codes "-"
Means bytes SaysUnknown = (first_passes (λ b. b == 45) bytes ≡ true) × (bytes ≢ codes "-") × (bytes ≢ codes "-h") × (bytes ≢ codes "--help")
Means bytes File = first_passes (λ b. b == 45) bytes ≡ false

-- an argument names a world
abbrev pub NamesWorld : List ℕ → Type 0
NamesWorld bytes = Means bytes StandardInput ⊎ Means bytes File

-- of arguments with these texts, the one at this place is the first that names no world, and says this
abbrev pub FirstSays : {X : Type 0} → (X → List ℕ) → List X → ℕ → Argument → Type 0
FirstSays text args k argument = (k < length args) × AllWithin (λ x. NamesWorld (text x)) args 0 k × HoldsAt (λ x. Means (text x) argument) args k

-- what they ask for: what the first says that names no world, or that worlds are read
abbrev pub Asks : {X : Type 0} → (X → List ℕ) → List X → Request → Type 0
Asks text args Nothing = args ≡ []
Asks text args Help = (k : ℕ) × FirstSays text args k SaysHelp
Asks text args (UnknownOption k) = FirstSays text args k SaysUnknown
Asks text args Worlds = (0 < length args) × All (λ x. NamesWorld (text x)) args

-- what a world is read from that is named so: "-" is standard input
abbrev pub IsSource : List ℕ → Source → Type 0
IsSource bytes FromInput = bytes ≡ codes "-"
IsSource bytes (FromFile path) = (bytes ≢ codes "-") × (string_bytes path ≡ bytes)

-- how it is called in what is said
abbrev pub source_text : Source → List ℕ
source_text FromInput = codes "standard input"
source_text (FromFile path) = string_bytes path
