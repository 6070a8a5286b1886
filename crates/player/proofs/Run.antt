-- How a world file is played, put together from what comes of each line.
use Rattle.std.proofs.Common.{◌≡◌, ℕ, List, [], Ok, Err, Result, inr, refl, ap, ◌∙◌, subst}
use Rattle.std.specs.Result.{IsErrAnd}
use Rattle.parcels.specs.Calls.{Limits}
use Rattle.lines.specs.declared.fault.Fault.{Fault}
use Rattle.lines.specs.declared.Line.{Line}
use Rattle.lines.specs.declared.Line.TheVariants.{Blank, Opening, Call as CallAt, Bytes, Tick, AllTick, Letter, AllLetters, AllLettersLastFirst}
use Rattle.world.specs.declared.CannotHappen.TheVariants.{NoMemory}
use Rattle.world.specs.declared.World.{World}
use Rattle.world.specs.View.{limits_of, journal_of}
use Rattle.player.specs.Cut.{Text, Takes}
use Rattle.player.specs.Run.{ReadsAs, Passes, opened, Begins, OpensFile, At, nothing_yet, LineDone, Goes, next, EndsWith, Runs, NoWorld, PlaysWorld}
use Rattle.player.specs.Report.{Locates, no_memory}
use Rattle.player.specs.declared.trouble.Stop.{Stop}
use Rattle.player.specs.declared.trouble.Stop.TheVariants.{Bad}
use Rattle.player.specs.declared.trouble.Trouble.{Trouble}
use Rattle.player.specs.declared.trouble.Trouble.TheVariants.{Impossible}

-- the first line that says something is bad, and so opens no world
pub bad_first : {file a b : Text} (line : List ℕ) (read : Result Line Fault) (t : Trouble) (r : Result World Trouble) →
    Passes file a → Takes a line b → ReadsAs line read → Begins read (Err t) → IsErrAnd r (λ e. e ≡ t) → OpensFile file r b
bad_first line read t (Ok w) passed takes reads begins is = absurd is
bad_first {a = a} line read t (Err e) passed takes reads begins is =
    rw is (inr (read, record { before = a; line = line; passed = passed; takes = takes; reads = reads }, begins))

-- what passes up to a text passes up to the same text
pub still_passes : {file a b : Text} → Passes file a → b ≡ a → Passes file b
still_passes passed same = rw same passed

-- one line more is done
pub one_more : {l k : Limits} {a b c : At} → k ≡ l → Goes l a b → LineDone k b c → Goes l a c
one_more {a = a} {b = b} {c = c} same goes done = next goes (subst (λ x. LineDone x b c) same done)

-- after lines that were done, playing ends with this one
pub ends : {l k : Limits} {a b c : At} (line : List ℕ) (stop : Stop) (r : Result (Unit {0}) Stop) →
    k ≡ l → Goes l a b → Takes b.text line c.text → EndsWith k b c line stop → c.shown ≡ b.shown → IsErrAnd r (λ e. e ≡ stop) → Runs l a r c
ends line stop (Ok _) same goes takes with shown is = absurd is
ends {b = b} {c = c} line stop (Err e) same goes takes with shown is =
    rw is (b, goes, (line, takes, subst (λ x. EndsWith x b c line stop) same with, shown))

-- nothing was said in a world that a file opened
nothing_said : (read : Result Line Fault) (w : World) → Begins read (Ok w) → journal_of w ≡ []
nothing_said (Ok Blank) w begins = absurd begins
nothing_said (Ok (Opening offices parcels)) w (opened small opens) = opens.3
nothing_said (Ok (CallAt o c)) w begins = cc
nothing_said (Ok (Bytes o bytes)) w begins = cc
nothing_said (Ok (Tick o)) w begins = cc
nothing_said (Ok AllTick) w begins = cc
nothing_said (Ok (Letter k)) w begins = cc
nothing_said (Ok AllLetters) w begins = cc
nothing_said (Ok AllLettersLastFirst) w begins = cc
nothing_said (Err fault) w begins = cc

-- a file whose first line that says something is bad opens no world
pub bad_file : {file b : Text} (t : Trouble) (r : Result (Unit {0}) Stop) → OpensFile file (Err t) b → IsErrAnd r (λ e. e ≡ Bad t) → NoWorld file r b
bad_file t (Ok _) opens is = absurd is
bad_file t (Err e) opens is = rw is opens

-- a file that opens a world is played as the world's lines are
pub plays : {file a : Text} {w v : World} {r : Result (Unit {0}) Stop} {b : At} (budget n : ℕ) (shown : List ℕ) →
    OpensFile file (Ok w) a → v ≡ w → n ≡ budget → shown ≡ [] → Runs (limits_of v) (record { text = a; budget = n; journal = journal_of v; shown = shown }) r b → PlaysWorld file budget (limits_of v) r b
plays {a = a} {w = w} {v = v} {r = r} {b = b} budget n shown opens same left nothing runs =
    let said : journal_of w ≡ [] = nothing_said opens.0 w opens.2 in
    let journal : journal_of v ≡ [] = ap journal_of same ∙ said in
    let start : record { text = a; budget = n; journal = journal_of v; shown = shown } ≡ nothing_yet a budget = rw (journal, left, nothing) refl in
    record { opened = w; behind = a; opens = opens; limits = ap limits_of same; runs = subst (λ x. Runs (limits_of v) x r b) start runs }

-- where no memory is left for the lines that show where each parcel is, nothing is shown
pub unshown_places : {file : Text} {budget : ℕ} {played : Result (Unit {0}) Stop} {l : Limits} {b : At} (t : Trouble) (r : Result (Unit {0}) Stop) (bytes : List ℕ) →
    PlaysWorld file budget l played b → bytes ≡ [] → t ≡ Impossible NoMemory → IsErrAnd r (λ e. e ≡ Bad t) → Locates file budget r b.text bytes
unshown_places t (Ok _) bytes plays nothing memory is = absurd is
unshown_places t (Err e) bytes plays nothing memory is = rw (nothing, is, memory) (no_memory plays)
