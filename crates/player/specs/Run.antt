-- A world file is played line by line: what is done by each, up to the end of the text or to a line with which it ends.
use Rattle.std.specs.Prelude.{◌≡◌, ◌↔◌, ℕ, true, false, List, [], ◌∷◌, ◌++◌, Some, None, Ok, Err, Option, Result, IfOk, IfErr, IsTrue, ◌⊎◌, string_bytes}
use Rattle.parcels.specs.Calls.{Limits}
use Rattle.parcels.specs.declared.Answer.{Answer}
use Rattle.answers.specs.Texts.{answer_text}
use Rattle.lines.specs.declared.fault.Fault.{Fault}
use Rattle.lines.specs.declared.fault.Fault.TheVariants.{NoMemory as NoMemoryLeft}
use Rattle.lines.specs.declared.Line.{Line}
use Rattle.lines.specs.declared.Line.TheVariants.{Blank, Opening, Call as CallAt, Bytes, Tick, AllTick, Letter, AllLetters, AllLettersLastFirst}
use Rattle.lines.specs.Tokens.{is_blank_line}
use Rattle.lines.specs.Forms.{Says, IsNoLine}
use Rattle.world.specs.declared.Exchange.{Exchange}
use Rattle.world.specs.declared.CannotHappen.{CannotHappen}
use Rattle.world.specs.declared.CannotHappen.TheVariants.{BadLimits, NoMemory}
use Rattle.world.specs.declared.World.{World}
use Rattle.world.specs.Opening.{Opens}
use Rattle.world.specs.View.{limits_of, journal_of}
use Rattle.player.specs.Cut.{Text, text_of, Takes}
use Rattle.player.specs.Happen.{Plays}
use Rattle.player.specs.Limits.{small}
use Rattle.player.specs.declared.happen.Player.{Player}
use Rattle.player.specs.declared.report.Playing.{Playing}
use Rattle.player.specs.declared.trouble.Stop.{Stop}
use Rattle.player.specs.declared.trouble.Stop.TheVariants.{BudgetSpent, TooManyLetters, Bad}
use Rattle.player.specs.declared.trouble.Trouble.{Trouble}
use Rattle.player.specs.declared.trouble.Trouble.TheVariants.{Unread, NotOpened, NeverOpened, Impossible}

-- what a line is read as, or why it can't be read: it is none, or memory is wanting
abbrev pub ReadsAs : List ℕ → Result Line Fault → Type 0
ReadsAs line r = ((r ≡ Ok Blank) ↔ IsTrue (is_blank_line line)) × IfOk r (Says line) × IfErr r (λ fault. (fault ≡ NoMemoryLeft) ⊎ IsNoLine line)

-- from the start of a file up to this text, lines say nothing
pub data Passes (file : Text) : Text → Type 0 where
  none : Passes file file
  blank : {a b : Text} (line : List ℕ) → Passes file a → Takes a line b → ReadsAs line (Ok Blank) → Passes file b

-- what the line behind those is read as, and the text behind it
pub record First (file : Text) (r : Result Line Fault) (b : Text) : Type 0 where
  pub before : Text
  pub line : List ℕ
  pub passed : Passes file before
  pub takes : Takes before line b
  pub reads : ReadsAs line r

-- what comes of a line that asks for a world of this size: it is opened, or it is too large to be played, or it can't be opened
pub data Asks (offices parcels : ℕ) : Result World Trouble → Type 0 where
  opened : {w : World} → small offices parcels ≡ true → Opens offices parcels (Ok w) → Asks offices parcels (Ok w)
  too_large : small offices parcels ≡ false → Asks offices parcels (Err (Impossible BadLimits))
  refused : {e : CannotHappen} → small offices parcels ≡ true → Opens offices parcels (Err e) → Asks offices parcels (Err (Impossible e))

-- what comes of the first line that says something: a world, if it asks for one; else it is bad
abbrev pub Begins : Result Line Fault → Result World Trouble → Type 0
Begins (Ok Blank) r = ⊥
Begins (Ok (Opening offices parcels)) r = Asks offices parcels r
Begins (Ok (CallAt o c)) r = r ≡ Err NotOpened
Begins (Ok (Bytes o bytes)) r = r ≡ Err NotOpened
Begins (Ok (Tick o)) r = r ≡ Err NotOpened
Begins (Ok AllTick) r = r ≡ Err NotOpened
Begins (Ok (Letter k)) r = r ≡ Err NotOpened
Begins (Ok AllLetters) r = r ≡ Err NotOpened
Begins (Ok AllLettersLastFirst) r = r ≡ Err NotOpened
Begins (Err fault) r = r ≡ Err (Unread fault)

-- the world that a file opens, or why it opens none, with this text left: no line says something, or the first that does is bad
abbrev pub OpensFile : Text → Result World Trouble → Text → Type 0
OpensFile file (Ok w) b = (r : Result Line Fault) × First file r b × Begins r (Ok w)
OpensFile file (Err t) b = ((t ≡ NeverOpened) × Passes file b × (b.rest ≡ [])) ⊎ ((r : Result Line Fault) × First file r b × Begins r (Err t))

-- where the playing of a file stands: the text that is left, how many things may still happen, what was handed to offices and
-- answered, and what is shown
pub record At : Type 0 where
  pub text : Text
  pub budget : ℕ
  pub journal : List Exchange
  pub shown : List ℕ

-- where these lines and this world stand
abbrev pub at_of : Playing → Player → At
at_of playing player =
    record { text = text_of playing.lines; budget = player.budget; journal = journal_of player.world; shown = string_bytes playing.shown }

-- where it stands before anything happens
abbrev pub nothing_yet : Text → ℕ → At
nothing_yet text budget = record { text = text; budget = budget; journal = []; shown = [] }

-- an answer as a line; nothing where there is none
abbrev pub answer_line : Option Answer → List ℕ
answer_line None = []
answer_line (Some a) = answer_text a ++ (10 ∷ [])

-- one line is done: it is taken from the text and read, what it says happens, and its answer is shown
pub record LineDone (l : Limits) (a b : At) : Type 0 where
  pub line : List ℕ
  pub said : Line
  pub answer : Option Answer
  pub takes : Takes a.text line b.text
  pub reads : ReadsAs line (Ok said)
  pub plays : Plays a.budget l a.journal said (Ok answer) b.budget b.journal
  pub shows : b.shown ≡ a.shown ++ answer_line answer

-- lines are done, one after the other
pub data Goes (l : Limits) (a : At) : At → Type 0 where
  none : Goes l a a
  next : {b c : At} → Goes l a b → LineDone l b c → Goes l a c

-- why playing stops at a line: it can't be read, or what it says can't happen, or no memory is left to show its answer
pub data EndsWith (l : Limits) (a b : At) (line : List ℕ) : Stop → Type 0 where
  unread : {fault : Fault} → ReadsAs line (Err fault) → b.budget ≡ a.budget → b.journal ≡ a.journal → EndsWith l a b line (Bad (Unread fault))
  stopped : {stop : Stop} (said : Line) → ReadsAs line (Ok said) → Plays a.budget l a.journal said (Err stop) b.budget b.journal → EndsWith l a b line stop
  unshown : (said : Line) (answer : Answer) → ReadsAs line (Ok said) → Plays a.budget l a.journal said (Ok (Some answer)) b.budget b.journal → EndsWith l a b line (Bad (Impossible NoMemory))

-- playing ends where the text does; or it stops at a line, of which nothing is shown
abbrev pub Ends : Limits → At → Result (Unit {0}) Stop → At → Type 0
Ends l a (Ok _) b = (a.text.rest ≡ []) × (b ≡ a)
Ends l a (Err stop) b = (line : List ℕ) × Takes a.text line b.text × EndsWith l a b line stop × (b.shown ≡ a.shown)

-- lines are done until playing ends
abbrev pub Runs : Limits → At → Result (Unit {0}) Stop → At → Type 0
Runs l a ran b = (m : At) × Goes l a m × Ends l m ran b

-- a file opens no world, and so playing it ends
abbrev pub NoWorld : Text → Result (Unit {0}) Stop → Text → Type 0
NoWorld file (Ok _) b = ⊥
NoWorld file (Err (Bad t)) b = OpensFile file (Err t) b
NoWorld file (Err BudgetSpent) b = ⊥
NoWorld file (Err TooManyLetters) b = ⊥

-- a file opens a world with these limits, in which at most so many things happen, and its lines are done until playing ends
pub record PlaysWorld (file : Text) (budget : ℕ) (l : Limits) (ran : Result (Unit {0}) Stop) (b : At) : Type 0 where
  pub opened : World
  pub behind : Text
  pub opens : OpensFile file (Ok opened) behind
  pub limits : l ≡ limits_of opened
  pub runs : Runs l (nothing_yet behind budget) ran b
