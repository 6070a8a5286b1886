-- Offices, the lines between them, and everything that can happen.
use Rattle.std.specs.Prelude.{◌≡◌, ℕ, zero, suc, ◌<◌, ◌≤◌, Bool, true, ◌⊎◌, List, [], ◌∷◌, ◌++◌, length, drop, Ok, Err, ◌==◌}
use Rattle.parcels.specs.Book.{pick}
use Rattle.parcels.specs.Calls.{Limits}
use Rattle.parcels.specs.declared.Slip.{Slip}
use Rattle.parcels.specs.declared.Call.{Call}
use Rattle.parcels.specs.declared.Call.TheVariants.{Accept, Send, SlipAgain, TakeIn, HandOut, Pay, WhereIs, Here, Sums}
use Rattle.parcels.specs.declared.Answer.{Answer}
use Rattle.parcels.specs.declared.Answer.TheVariants.{Given}
use Rattle.wire.specs.Layout.{readable}
use Rattle.wire.specs.Calls.{Reading}
use Rattle.letters.specs.Envelope.{Letter}

-- an office's memory: words, which stay small by a promise
abbrev pub Memory : Type 0
Memory = List ℕ

-- An office, by what the contracts of its functions allow. All offices run the same program, each with its own
-- number and the same limits, which it keeps beside its memory. Opened: which memory it may begin with. Called,
-- Heard and Ticked: from which memory, by a row of bytes, a letter's bytes or a tick of its clock, it may come to
-- which memory, with which answer, and which letters it may send then, to whom.
pub record Office : Type 1 where
  pub Opened : Limits → ℕ → Memory → Type 0
  pub Called : Limits → ℕ → Memory → Reading → Memory → Answer → List Letter → Type 0
  pub Heard : Limits → ℕ → Memory → List ℕ → Memory → List Letter → Type 0
  pub Ticked : Limits → ℕ → Memory → Memory → List Letter → Type 0

-- what was handed to an office as a call, and what it answered
pub record Said : Type 0 where
  pub at : ℕ
  pub reading : Reading
  pub answer : Answer

-- the world: what each office has in memory; all letters ever sent, in the order in which they were; all
-- that was said, the last first
pub record World : Type 0 where
  pub memory : ℕ → Memory
  pub sent : List Letter
  pub said : List Said

-- the offices are open, and nothing happened yet
abbrev pub new_world : (ℕ → Memory) → World
new_world m = record { memory = m; sent = []; said = [] }

-- what an office has in memory, after one of them changed
abbrev pub with_memory : (ℕ → Memory) → ℕ → Memory → ℕ → Memory
with_memory ms o m q = pick (q == o) m (ms q)

-- the world after a call
abbrev pub after_call : World → ℕ → Reading → Memory → Answer → List Letter → World
after_call w o r m a ls =
    record { memory = with_memory w.memory o m; sent = w.sent ++ ls; said = record { at = o; reading = r; answer = a } ∷ w.said }

-- the world after a letter or a tick
abbrev pub after_news : World → ℕ → Memory → List Letter → World
after_news w o m ls = record { memory = with_memory w.memory o m; sent = w.sent ++ ls; said = w.said }

-- a letter that was sent
unfoldable pub In : Letter → List Letter → Type 0
In x [] = ⊥
In x (y ∷ ys) = (x ≡ y) ⊎ In x ys

-- a slip that was given out, by an answer
unfoldable pub IsGiven : Slip → List Said → Type 0
IsGiven s [] = ⊥
IsGiven s (x ∷ xs) = (x.answer ≡ Given s) ⊎ IsGiven s xs

-- a clerk takes a parcel in only with a slip that was given out: after one that was not, nothing is promised
abbrev pub IsSlipKnown : Call → List Said → Type 0
IsSlipKnown (Accept dest amount) xs = Unit {0}
IsSlipKnown (Send key to) xs = Unit {0}
IsSlipKnown (SlipAgain key) xs = Unit {0}
IsSlipKnown (TakeIn s) xs = IsGiven s xs
IsSlipKnown (HandOut key) xs = Unit {0}
IsSlipKnown (Pay key) xs = Unit {0}
IsSlipKnown (WhereIs key) xs = Unit {0}
IsSlipKnown (Here from) xs = Unit {0}
IsSlipKnown Sums xs = Unit {0}

-- the same of a row of bytes
abbrev pub IsRowKnown : Reading → List Said → Type 0
IsRowKnown (Ok c) xs = IsSlipKnown c xs
IsRowKnown (Err e) xs = Unit {0}

-- a row of bytes is read as a call only if its fields can carry the call's values. Any place is let in for a row
-- that is none, which is more than bytes can come to
abbrev pub row_readable : Reading → Bool
row_readable (Ok c) = readable c
row_readable (Err e) = true

-- Everything that can happen, in any order: a row of bytes is handed to an office, with a slip, if it is a
-- call with one, that was given out; a letter that was sent comes, now or late, again and again, or never; a
-- clock ticks.
pub data Lived (f : Office) (l : Limits) : World → Type 0 where
  opened : (ms : ℕ → Memory) → ((o : ℕ) → o < l.offices → f.Opened l o (ms o)) → Lived f l (new_world ms)
  called : {w : World} (o : ℕ) (r : Reading) (m : Memory) (a : Answer) (ls : List Letter) → Lived f l w → o < l.offices → row_readable r ≡ true → IsRowKnown r w.said → f.Called l o (w.memory o) r m a ls → Lived f l (after_call w o r m a ls)
  heard : {w : World} (x : Letter) (m : Memory) (ls : List Letter) → Lived f l w → In x w.sent → x.to < l.offices → f.Heard l x.to (w.memory x.to) x.text m ls → Lived f l (after_news w x.to m ls)
  ticked : {w : World} (o : ℕ) (m : Memory) (ls : List Letter) → Lived f l w → o < l.offices → f.Ticked l o (w.memory o) m ls → Lived f l (after_news w o m ls)

-- the clocks of the offices below a number tick, from office 0 up
pub data Ticks (f : Office) (l : Limits) (w : World) : ℕ → World → Type 0 where
  none : Ticks f l w 0 w
  next : {n : ℕ} {v : World} (m : Memory) (ls : List Letter) → Ticks f l w n v → f.Ticked l n (v.memory n) m ls → Ticks f l w (suc n) (after_news v n m ls)

-- letters come, once, in this order; one to an office that is not there is lost
pub data Come (f : Office) (l : Limits) : World → List Letter → World → Type 0 where
  none : {w : World} → Come f l w [] w
  next : {w v : World} {xs : List Letter} (x : Letter) (m : Memory) (ls : List Letter) → x.to < l.offices → f.Heard l x.to (w.memory x.to) x.text m ls → Come f l (after_news w x.to m ls) xs v → Come f l w (x ∷ xs) v
  lost : {w v : World} {xs : List Letter} (x : Letter) → l.offices ≤ x.to → Come f l w xs v → Come f l w (x ∷ xs) v

-- a round of news: every clock ticks, and the letters that were sent by that come, once, in the order in
-- which they were sent; all that was sent before, and what is sent by hearing, is lost
abbrev pub Round : Office → Limits → World → World → Type 0
Round f l w v = (u : World) × Ticks f l w l.offices u × Come f l u (drop (length w.sent) u.sent) v

-- so many rounds, one after the other
unfoldable pub Rounds : ℕ → Office → Limits → World → World → Type 0
Rounds zero f l w v = w ≡ v
Rounds (suc n) f l w v = (u : World) × Round f l w u × Rounds n f l u v
