-- What is promised beside what Promise.antt has, by what was taken everywhere: that answers tell of the steps in truth; which keys
-- are given out; how far steps go; what can be told of sums and of what is at an office; that steps stay, and none comes behind
-- handing out; which office has the last one; and how a parcel can go on from there.
use Rattle.std.specs.Prelude.{◌≡◌, ℕ, ◌+◌, ◌<◌, ◌≤◌, Bool, true, false, ◌&&◌, ◌||◌, ◌⊎◌, List, [], ◌∷◌, ◌++◌, length, Some, None, Ok, Err, ◌==◌, nat_lt, slice_index}
use Rattle.parcels.specs.Numbers.{most_parcels, most_sum, four_bytes}
use Rattle.parcels.specs.Book.{origin, Book, has, own, each_once, first_here, collected, paid_out, leaves_it_here, was_sent_on, has_room, is_here}
use Rattle.parcels.specs.Calls.{Stage, Limits, turned, slip_from}
use Rattle.parcels.specs.Laws.{StepsFit, AmountsFit, key_told, brings_known_key}
use Rattle.parcels.specs.Shelf.{FirstTold, asked_on, ShelfListed}
use Rattle.parcels.specs.declared.Kind.TheVariants.{Accepted, SentOn, ComeIn, HandedOut}
use Rattle.parcels.specs.declared.Slip.{Slip}
use Rattle.parcels.specs.declared.Step.{Step}
use Rattle.parcels.specs.declared.Call.{Call}
use Rattle.parcels.specs.declared.Call.TheVariants.{Accept, Send, SlipAgain, TakeIn, HandOut, Pay, WhereIs, Here, Sums}
use Rattle.parcels.specs.declared.Answer.{Answer}
use Rattle.parcels.specs.declared.Answer.TheVariants.{Refused, Number, Given, At, NothingHeard, Two}
use Rattle.promises.specs.Truth.{truth, in_truth, Move, one_move, last_of}
use Rattle.wire.specs.Calls.{Reading}
use Rattle.promises.specs.World.{Said, IsGiven, IsSlipKnown}
use Rattle.promises.specs.Promise.{GoodLimits, some_handed_out, Happened}

-- an answer that is a number, as where a parcel comes in or is handed out
abbrev pub is_number : Answer → Bool
is_number (Refused refusal) = false
is_number (Number n) = true
is_number (Given slip) = false
is_number (At step) = false
is_number NothingHeard = false
is_number (Two m n) = false

-- an answer that is a slip, as where a parcel is sent on
abbrev pub is_slip : Answer → Bool
is_slip (Refused refusal) = false
is_slip (Number n) = false
is_slip (Given slip) = true
is_slip (At step) = false
is_slip NothingHeard = false
is_slip (Two m n) = false

-- an answer that is the key of this parcel, as where it is accepted; what four bytes can't hold is no key
abbrev pub is_key : Answer → ℕ → Bool
is_key (Refused refusal) p = false
is_key (Number n) p = nat_lt n four_bytes && n == p
is_key (Given slip) p = false
is_key (At step) p = false
is_key NothingHeard p = false
is_key (Two m n) p = false

-- the step of this parcel that a call and its answer tell of: none if the call was turned away, makes no step, or is about
-- another parcel
abbrev pub step_by : ℕ → Call → Answer → ℕ → List Move
step_by o (Accept dest amount) a p = one_move (is_key a p) Accepted o
step_by o (Send key to) a p = one_move (is_slip a && key == p) SentOn o
step_by o (SlipAgain key) a p = []
step_by o (TakeIn s) a p = one_move (is_number a && s.key == p) ComeIn o
step_by o (HandOut key) a p = one_move (is_number a && key == p) HandedOut o
step_by o (Pay key) a p = []
step_by o (WhereIs key) a p = []
step_by o (Here from) a p = []
step_by o Sums a p = []

-- the same where the call came as bytes: a row that is no call makes no step
abbrev pub step_in : ℕ → Reading → Answer → ℕ → List Move
step_in o (Ok c) a p = step_by o c a p
step_in o (Err e) a p = []

-- the steps of a parcel that answers tell of, the oldest first
unfoldable pub steps_told : List Said → ℕ → List Move
steps_told [] p = []
steps_told (x ∷ xs) p = steps_told xs p ++ step_in x.at x.reading x.answer p

-- they are its steps in truth: who heard all answers knows each parcel's way
abbrev pub StepsTold : Type 0
StepsTold = (can : Stage) (l : Limits) (xs : List Said) (p : ℕ) → GoodLimits can l → Happened l xs → steps_told xs p ≡ in_truth l xs p

-- the key that is given out by an answer to a row of bytes
abbrev pub row_key_told : Reading → Answer → List ℕ
row_key_told (Ok c) a = key_told c a
row_key_told (Err e) a = []

-- the keys that were given out, at all offices together, the last first
unfoldable pub keys_told : List Said → List ℕ
keys_told [] = []
keys_told (x ∷ xs) = row_key_told x.reading x.answer ++ keys_told xs

-- a key that this office gave out
unfoldable pub IsKeyTold : ℕ → ℕ → List Said → Type 0
IsKeyTold o key [] = ⊥
IsKeyTold o key (x ∷ xs) = ((x.at ≡ o) × (row_key_told x.reading x.answer ≡ key ∷ [])) ⊎ IsKeyTold o key xs

-- no key was given out twice, whether at one office or at two; each that was tells the office that gave it out, and is of a
-- parcel in that one's book; the key of each slip which was given out is of a parcel in the book of the office that it
-- tells; so a call with such a slip, at whatever office, brings no key which that office has yet to give out; and each key in
-- a book tells an office that is there
pub record KeysTold (l : Limits) (xs : List Said) : Type 0 where
  pub once : (i j : ℕ) → i < length (keys_told xs) → j < length (keys_told xs) → slice_index (keys_told xs) i ≡ slice_index (keys_told xs) j → i ≡ j
  pub ours : (o key : ℕ) → IsKeyTold o key xs → origin key ≡ o
  pub kept : (i : ℕ) → i < length (keys_told xs) → has (truth l xs (origin (slice_index (keys_told xs) i))) (slice_index (keys_told xs) i) ≡ true
  pub slips : (s : Slip) → IsGiven s xs → has (truth l xs (origin s.key)) s.key ≡ true
  pub next : (o : ℕ) (c : Call) → IsSlipKnown c xs → brings_known_key o (truth l xs o) c ≡ true
  pub offices : (o key : ℕ) → has (truth l xs o) key ≡ true → origin key < l.offices

-- that is so whatever happened: no two parcels that were accepted get one key
abbrev pub NoKeyTwice : Type 0
NoKeyTwice = (can : Stage) (l : Limits) (xs : List Said) → GoodLimits can l → Happened l xs → KeysTold l xs

-- No step in a book goes further than steps of its kind go, and no slip that was given out has one above four_bytes + 1. So
-- two words of memory and eight bytes of an answer hold every step; a slip can be entered again only where four bytes
-- hold its step.
abbrev pub SlipsFit : Type 0
SlipsFit =
    (can : Stage) (l : Limits) (xs : List Said) → GoodLimits can l → Happened l xs →
    ((o : ℕ) → StepsFit (truth l xs o)) × ((s : Slip) → IsGiven s xs → s.step ≤ four_bytes + 1)

-- A book has one entry for each parcel, at most 65,536 of them, and no amount above the largest. So eight bytes of an answer
-- hold each sum, and what is told of the parcels at the office is right: which is the first one from a key on, and all of them,
-- where one asks on. And one can: what was answered fits a call's field, however often one asked.
pub record ShelfAndSums (b : Book) : Type 0 where
  pub once : each_once b ≡ true
  pub few : length b ≤ most_parcels
  pub amounts : AmountsFit b
  pub sums : (collected b ≤ most_sum) × (paid_out b ≤ most_sum)
  pub first : (from : ℕ) → FirstTold b from (first_here b from)
  pub listed : ShelfListed b
  pub can_ask : (n : ℕ) → asked_on b n < four_bytes

-- that is so of each office's book, whatever happened
abbrev pub ShelvesAndSums : Type 0
ShelvesAndSums = (can : Stage) (l : Limits) (xs : List Said) (o : ℕ) → GoodLimits can l → Happened l xs → ShelfAndSums (truth l xs o)

-- steps that a parcel took stay as they are, and others come behind them only: so they never grow shorter
abbrev pub StepsStay : Type 0
StepsStay = (l : Limits) (xs ys : List Said) (p : ℕ) → (more : List Move) × (in_truth l (ys ++ xs) p ≡ in_truth l xs p ++ more)

-- a parcel that was handed out makes no step more
abbrev pub HandedOutStays : Type 0
HandedOutStays =
    (can : Stage) (l : Limits) (xs ys : List Said) (p : ℕ) → GoodLimits can l → Happened l (ys ++ xs) → some_handed_out (in_truth l xs p) ≡ true → in_truth l (ys ++ xs) p ≡ in_truth l xs p

-- The office that made this step, which is a parcel's last one, is there and has it in its book. In the book of any other office
-- the parcel has an earlier step, or none. And the parcel is at an office just where that step was made there and left it there.
pub record LastHeld (l : Limits) (xs : List Said) (p : ℕ) (last : Step) : Type 0 where
  pub there : last.office < l.offices
  pub held : has (truth l xs last.office) p ≡ true
  pub step : (own (truth l xs last.office) p).step ≡ last.number
  pub kind : (own (truth l xs last.office) p).kind ≡ last.kind
  pub others : (o : ℕ) → has (truth l xs o) p ≡ true → (o == last.office) ≡ false → (own (truth l xs o) p).step < last.number
  pub here : (o : ℕ) → is_here (truth l xs o) p ≡ (o == last.office && leaves_it_here last.kind)

-- so it is of each parcel that took a step: of its offices exactly one has the last one
abbrev pub HasLast : Limits → List Said → ℕ → Type 0
HasLast l xs p = (last : Step) → last_of (in_truth l xs p) ≡ Some last → LastHeld l xs p last

abbrev pub OneHasLast : Type 0
OneHasLast = (can : Stage) (l : Limits) (xs : List Said) (p : ℕ) → GoodLimits can l → Happened l xs → HasLast l xs p

-- How a parcel that wasn't handed out can go on from its last step, by the calls that a stage can do. Where it is, it is sent on to
-- any other office, or handed out if it is for this one; where it is on the way, its slip is given once more, and with that
-- slip it is taken in, if that office knows it or has room for one more. And the office that it is for is there. (Where there is
-- no room, it stays on the way, since no book loses an entry. A slip is entered only where four bytes hold its step.)
pub record GoesFurther (l : Limits) (xs : List Said) (p : ℕ) (last : Step) : Type 0 where
  pub goal : (own (truth l xs last.office) p).dest < l.offices
  pub sent : leaves_it_here last.kind ≡ true → l.can 1 ≡ true → (to : ℕ) → to < l.offices → (to == last.office) ≡ false → turned l last.office (truth l xs last.office) (Send p to) ≡ None
  pub handed_out : leaves_it_here last.kind ≡ true → l.can 4 ≡ true → (own (truth l xs last.office) p).dest ≡ last.office → turned l last.office (truth l xs last.office) (HandOut p) ≡ None
  pub slip : was_sent_on last.kind ≡ true → l.can 2 ≡ true → turned l last.office (truth l xs last.office) (SlipAgain p) ≡ None
  pub taken_in : was_sent_on last.kind ≡ true → l.can 3 ≡ true → let s : Slip = slip_from last.office (own (truth l xs last.office) p) in
      (has (truth l xs s.to) p || has_room l.parcels (truth l xs s.to)) ≡ true → turned l s.to (truth l xs s.to) (TakeIn s) ≡ None

-- so it is of each parcel: none of these calls is turned away
abbrev pub CanGoFurther : Type 0
CanGoFurther = (can : Stage) (l : Limits) (xs : List Said) (p : ℕ) (last : Step) → GoodLimits can l → Happened l xs → last_of (in_truth l xs p) ≡ Some last → GoesFurther l xs p last
