-- What comes of each thing that happens in a world: its answer, or why it can't happen; and the letters and the journal after it.
use Rattle.std.specs.Prelude.{◌≡◌, ℕ, ◌<◌, ◌≤◌, Bool, false, true, ◌⊎◌, List, [], ◌∷◌, ◌++◌, length, Some, None, Option, Ok, Err, Result, nat_lt, slice_index_or}
use Rattle.parcels.specs.Book.{pick}
use Rattle.parcels.specs.Calls.{Limits}
use Rattle.parcels.specs.declared.Call.{Call as ACall}
use Rattle.parcels.specs.declared.Answer.{Answer}
use Rattle.wire.specs.Layout.{readable}
use Rattle.wire.specs.Calls.{Reading, Reads}
use Rattle.letters.specs.Envelope.{Letter}
use Rattle.promises.specs.World.{IsRowKnown}
use Rattle.promises.specs.Promise.{RightRow}
use Rattle.world.specs.declared.Exchange.{Exchange}
use Rattle.world.specs.declared.CannotHappen.{CannotHappen}
use Rattle.world.specs.declared.CannotHappen.TheVariants.{BadLimits, NoOffice, NoSuchCall, NeverGiven, NeverSent, NoMemory}
use Rattle.world.specs.declared.Happening.{Happening}
use Rattle.world.specs.declared.Happening.TheVariants.{Call, Bytes, Letter as ALetter, Tick}
use Rattle.world.specs.Mail.{no_letter}
use Rattle.world.specs.Journal.{history}

-- what is handed to an office as a call happens where the office is there and the call's slip, if it has one,
-- was given out; then its answer is right and it is written into the journal. Else, and where memory is wanting,
-- the journal stays as it was
abbrev pub Handed : Limits → List Exchange → ℕ → Reading → Result Answer CannotHappen → List Exchange → Type 0
Handed l xs o r (Ok a) ys = (o < l.offices) × IsRowKnown r (history xs) × RightRow l (history xs) o r a × (ys ≡ xs ++ (record { at = o; reading = r; answer = a } ∷ []))
Handed l xs o r (Err NoOffice) ys = (l.offices ≤ o) × (ys ≡ xs)
Handed l xs o r (Err NeverGiven) ys = (o < l.offices) × (IsRowKnown r (history xs) → ⊥) × (ys ≡ xs)
Handed l xs o r (Err NoMemory) ys = (o < l.offices) × IsRowKnown r (history xs) × (ys ≡ xs)
Handed l xs o r (Err NoSuchCall) ys = ⊥
Handed l xs o r (Err BadLimits) ys = ⊥
Handed l xs o r (Err NeverSent) ys = ⊥

-- bytes that come to an office are handed to it as what they are
abbrev pub Came : Limits → List Exchange → ℕ → List ℕ → Result Answer CannotHappen → List Exchange → Type 0
Came l xs o bytes a ys = (r : Reading) × Reads bytes r × Handed l xs o r a ys

-- a call that some bytes carry is handed to the office; one that none carry can't happen
abbrev pub Called : Limits → List Exchange → ℕ → ACall → Result Answer CannotHappen → List Exchange → Type 0
Called l xs o c a ys = ((readable c ≡ false) × (a ≡ Err NoSuchCall) × (ys ≡ xs)) ⊎ ((readable c ≡ true) × Handed l xs o (Ok c) a ys)

-- whether an office is there
abbrev pub at_office : ℕ → ℕ → Result (Unit {0}) CannotHappen
at_office offices o = pick (nat_lt o offices) (Ok tt) (Err NoOffice)

-- something without an answer happens at an office where the office is there, unless memory is wanting
abbrev pub AtOffice : ℕ → ℕ → Result (Unit {0}) CannotHappen → Type 0
AtOffice offices o (Ok _) = o < offices
AtOffice offices o (Err NoOffice) = offices ≤ o
AtOffice offices o (Err NoMemory) = o < offices
AtOffice offices o (Err BadLimits) = ⊥
AtOffice offices o (Err NoSuchCall) = ⊥
AtOffice offices o (Err NeverGiven) = ⊥
AtOffice offices o (Err NeverSent) = ⊥

-- a letter comes, by its number among those that were sent, to the office to which it goes
abbrev pub Comes : ℕ → List Letter → ℕ → Result (Unit {0}) CannotHappen → Type 0
Comes offices ls n r = ((length ls ≤ n) × (r ≡ Err NeverSent)) ⊎ ((n < length ls) × AtOffice offices (slice_index_or ls n no_letter).to r)

-- an answer, where there is one
abbrev pub Answers : (Result Answer CannotHappen → Type 0) → Result (Option Answer) CannotHappen → Type 0
Answers Outcome (Ok (Some a)) = Outcome (Ok a)
Answers Outcome (Ok None) = ⊥
Answers Outcome (Err e) = Outcome (Err e)

-- no answer
abbrev pub Nothing : (Result (Unit {0}) CannotHappen → Type 0) → Result (Option Answer) CannotHappen → Type 0
Nothing Outcome (Ok (Some a)) = ⊥
Nothing Outcome (Ok None) = Outcome (Ok tt)
Nothing Outcome (Err e) = Outcome (Err e)

-- each thing that happens, by the letters that were sent and the journal before it, and the journal after it
abbrev pub Happens : Limits → List Letter → List Exchange → Happening → Result (Option Answer) CannotHappen → List Exchange → Type 0
Happens l ls xs (Call o c) r ys = Answers (λ a. Called l xs o c a ys) r
Happens l ls xs (Bytes o row) r ys = Answers (λ a. Came l xs o row.now a ys) r
Happens l ls xs (ALetter n) r ys = Nothing (Comes l.offices ls n) r × (ys ≡ xs)
Happens l ls xs (Tick o) r ys = Nothing (AtOffice l.offices o) r × (ys ≡ xs)

-- whether it is a call, or bytes that come as one: nothing else changes an office's memory in this stage
abbrev pub is_call : Happening → Bool
is_call (Call o c) = true
is_call (Bytes o row) = true
is_call (ALetter n) = false
is_call (Tick o) = false
