-- What is promised: read from top to bottom, with World.antt beside it, which says what can happen, and Truth.antt, what is true
-- by the calls that were taken. Each promise is a statement; a function whose contract names it owes the proof.
--
-- How to read it. `(x : A) → B` is: for every A, which we call x, B. `A → B` is: if A, then B. `(x : A) × B` is: some A, which we call
-- x, and B. `A × B` is: A, and B. `A ⊎ B` is: A, or B, or both. `⊥` never holds. `a ≡ b` is: they are the same. `f a b` is f of a and b,
-- and `λ x. b` the function from x to b. `let x : A = a in b` is b, where x stands for a. `(a, b)` is both together. `a.f` is the
-- part f of a, and `record { f = a }` is made of such parts; a statement that is a `record` says each of its parts. `abbrev` and
-- `unfoldable` say that a name stands for what follows, case by case where there are some; `data` lists the only ways in
-- which something comes about; `Type 0` says that what is defined is a statement, or a kind of thing, and `ℕ` are the numbers from 0
-- on, of which `m - n` is 0 where n is larger. What stands in braces, as `{x : A}`, is found by itself. `pick t a b` is a where t is true, and else b. `==`, `nat_lt` and `nat_le` test whether
-- numbers are the same, less, and at most; `&&`, `||` and `not` join tests. A list is `[]`, with nothing in it, or `x ∷ xs`: x, and
-- then the list xs; `xs ++ ys` is xs, and then ys; of what was said the last stands first. `length` is how many it has, and `slice_index_or xs i d` its item
-- at i, counted from 0, or d where there is none. `suc n` is n + 1. `Some a` is an a that is there, `None` that there is none; `Ok`
-- and `Err`, that something went well, or not. Lines that begin with `use` say where names come from: what a call
-- comes to (`turned`, `answered`) is in `crates/parcels/specs/Calls.antt`, what a book has in `Book.antt` beside it.
--
-- That an office answers at all is not said here: a relation that allows nothing would keep every promise. It is proved of each
-- function that it returns, and then keeps its contract.
--
-- `can` is the set of calls that a stage can do, `l` the limits, `w` the world, `o` an office's number, `p` a parcel's key, and `f`,
-- where it stands for an office, what that one's program may do.
use Rattle.std.specs.Prelude.{◌≡◌, ℕ, zero, suc, ◌+◌, ◌-◌, ◌*◌, ◌<◌, ◌≤◌, Bool, true, false, ◌&&◌, ◌||◌, ◌⊎◌, List, [], ◌∷◌, length, Some, None, Ok, Err, Option, ◌==◌, nat_le, nat_lt, slice_index_or}
use Rattle.parcels.specs.Numbers.{fewest_offices, most_offices, most_parcels, four_bytes, letter_bytes, all_below, words_a_parcel, words_more}
use Rattle.parcels.specs.Book.{pick, origin, Book, has, own, is_here, was_handed_out, collected, paid_out}
use Rattle.parcels.specs.Calls.{Stage, Limits, turned, place, answered, unreadable, not_refused, needs_news}
use Rattle.parcels.specs.declared.Kind.{Kind}
use Rattle.parcels.specs.declared.Kind.TheVariants.{Accepted, SentOn, ComeIn, HandedOut}
use Rattle.parcels.specs.declared.Step.{Step}
use Rattle.parcels.specs.declared.Slip.{Slip}
use Rattle.parcels.specs.declared.Call.{Call}
use Rattle.parcels.specs.declared.Call.TheVariants.{Accept, Send, SlipAgain, TakeIn, HandOut, Pay, WhereIs, Here, Sums}
use Rattle.parcels.specs.declared.Reason.TheVariants.{NothingToPay, WrongSlip}
use Rattle.parcels.specs.declared.Refusal.{Refusal}
use Rattle.parcels.specs.declared.Answer.{Answer}
use Rattle.parcels.specs.declared.Answer.TheVariants.{Refused, Number, Given, At, NothingHeard, Two}
use Rattle.wire.specs.Calls.{Reading}
use Rattle.letters.specs.Envelope.{Letter}
use Rattle.promises.specs.World.{Memory, Office, Said, World, Lived, In, IsRowKnown, row_readable, after_news, Rounds}
use Rattle.promises.specs.Truth.{truth, Move, in_truth}

-- the limits that an office can be opened with, in a stage
abbrev pub GoodLimits : Stage → Limits → Type 0
GoodLimits can l = (fewest_offices ≤ l.offices) × (l.offices ≤ most_offices) × (l.parcels ≤ most_parcels) × ((k : ℕ) → l.can k ≡ can k)

-- what stands for a step that is not there
abbrev pub no_move : Move
no_move = record { kind = Accepted; office = 0 }

-- one more than the step that an answer tells, or 0 where it tells none
abbrev pub step_told : Answer → ℕ
step_told (Refused refusal) = 0
step_told (Number n) = 0
step_told (Given slip) = 0
step_told (At step) = suc step.number
step_told NothingHeard = 0
step_told (Two m n) = 0

-- whether a call asks where this parcel is
abbrev pub asks_for : Call → ℕ → Bool
asks_for (Accept dest amount) p = false
asks_for (Send key to) p = false
asks_for (SlipAgain key) p = false
asks_for (TakeIn s) p = false
asks_for (HandOut key) p = false
asks_for (Pay key) p = false
asks_for (WhereIs key) p = key == p
asks_for (Here from) p = false
asks_for Sums p = false

-- the same of a row of bytes
abbrev pub row_asks_for : Reading → ℕ → Bool
row_asks_for (Ok c) p = asks_for c p
row_asks_for (Err e) p = false

-- what was told of a parcel at an office so far: one more than the largest step, or 0 for none
unfoldable pub told_so_far : List Said → ℕ → ℕ → ℕ
told_so_far [] o p = 0
told_so_far (x ∷ xs) o p =
    let r : ℕ = told_so_far xs o p in
    pick ((x.at == o && row_asks_for x.reading p) && nat_lt r (step_told x.answer)) (step_told x.answer) r

-- what an office knows at least, by its own calls: one more than its last step with the parcel, or 0 for none
abbrev pub own_step : Book → ℕ → ℕ
own_step b p = pick (has b p) (suc (own b p).step) 0

-- whether a parcel was handed out
unfoldable pub some_handed_out : List Move → Bool
some_handed_out [] = false
some_handed_out (s ∷ ss) = was_handed_out s.kind || some_handed_out ss

-- ONE. EACH ANSWER IS RIGHT.

-- a refusal is by the first reason to turn the call away, at its place
abbrev pub RightRefusal : Limits → Book → ℕ → Call → Refusal → Type 0
RightRefusal l b o c f = (turned l o b c ≡ Some f.reason) × (f.place ≡ place c f.reason)

-- what an office can know by itself is answered as its book has it
abbrev pub RightOwn : Limits → List Said → ℕ → Call → Answer → Type 0
RightOwn l xs o c a = a ≡ answered l o (truth l xs o) c

-- where a parcel is: a step that it took in truth, none before one that was told or made here; that nothing was
-- heard, only of a parcel that was never here and of which nothing was told
unfoldable pub RightWhere : Limits → List Said → ℕ → ℕ → Answer → Type 0
RightWhere l xs o p (At s) =
    (turned l o (truth l xs o) (WhereIs p) ≡ None)
    × (s.number < length (in_truth l xs p))
    × (s.kind ≡ (slice_index_or (in_truth l xs p) s.number no_move).kind)
    × (s.office ≡ (slice_index_or (in_truth l xs p) s.number no_move).office)
    × (told_so_far xs o p ≤ suc s.number)
    × (own_step (truth l xs o) p ≤ suc s.number)
RightWhere l xs o p NothingHeard = (turned l o (truth l xs o) (WhereIs p) ≡ None) × (told_so_far xs o p ≡ 0) × (own_step (truth l xs o) p ≡ 0)
RightWhere l xs o p (Refused f) = RightRefusal l (truth l xs o) o (WhereIs p) f
RightWhere l xs o p (Number n) = ⊥
RightWhere l xs o p (Given s) = ⊥
RightWhere l xs o p (Two m n) = ⊥

-- an amount is paid only if the parcel was handed out in truth; and it may be refused, as nothing to be paid, at 0, since
-- that may not be known yet
unfoldable pub RightPay : Limits → List Said → ℕ → ℕ → Answer → Type 0
RightPay l xs o p (Number n) =
    (turned l o (truth l xs o) (Pay p) ≡ None) × (n ≡ (own (truth l xs o) p).amount) × (some_handed_out (in_truth l xs p) ≡ true)
RightPay l xs o p (Refused f) =
    ((turned l o (truth l xs o) (Pay p) ≡ None) × (f ≡ record { reason = NothingToPay; place = 0 })) ⊎ RightRefusal l (truth l xs o) o (Pay p) f
RightPay l xs o p (Given s) = ⊥
RightPay l xs o p (At s) = ⊥
RightPay l xs o p NothingHeard = ⊥
RightPay l xs o p (Two m n) = ⊥

-- each call: where a parcel is and paying go by news too, and all others by the book alone
abbrev pub RightAnswer : Limits → List Said → ℕ → Call → Answer → Type 0
RightAnswer l xs o (Accept dest amount) a = RightOwn l xs o (Accept dest amount) a
RightAnswer l xs o (Send key to) a = RightOwn l xs o (Send key to) a
RightAnswer l xs o (SlipAgain key) a = RightOwn l xs o (SlipAgain key) a
RightAnswer l xs o (TakeIn s) a = RightOwn l xs o (TakeIn s) a
RightAnswer l xs o (HandOut key) a = RightOwn l xs o (HandOut key) a
RightAnswer l xs o (Pay key) a = RightPay l xs o key a
RightAnswer l xs o (WhereIs key) a = RightWhere l xs o key a
RightAnswer l xs o (Here from) a = RightOwn l xs o (Here from) a
RightAnswer l xs o Sums a = RightOwn l xs o Sums a

-- bytes that are no call are turned away as such, at the first byte that doesn't fit
abbrev pub RightRow : Limits → List Said → ℕ → Reading → Answer → Type 0
RightRow l xs o (Ok c) a = RightAnswer l xs o c a
RightRow l xs o (Err e) a = a ≡ unreadable e.place

-- whatever happened before, each answer is right
abbrev pub Right : Stage → Office → Type 0
Right can f =
    (l : Limits) (w : World) (o : ℕ) (r : Reading) (m : Memory) (a : Answer) (ls : List Letter) → GoodLimits can l → Lived f l w → o < l.offices →
    row_readable r ≡ true → IsRowKnown r w.said → f.Called l o (w.memory o) r m a ls → RightRow l w.said o r a

-- TWO. A CALL THAT IS TURNED AWAY CHANGES NOTHING: no word of memory; and it sends nothing.
abbrev pub RefusalKeeps : Stage → Office → Type 0
RefusalKeeps can f =
    (l : Limits) (w : World) (o : ℕ) (r : Reading) (m : Memory) (a : Answer) (ls : List Letter) → GoodLimits can l → Lived f l w → o < l.offices →
    row_readable r ≡ true → IsRowKnown r w.said → f.Called l o (w.memory o) r m a ls → not_refused a ≡ false → (m ≡ w.memory o) × (ls ≡ [])

-- THREE. NEWS COMES, even if all letters until now are lost. After four rounds of news the office at which a
-- parcel was accepted knows where it is, and pays what was collected for it.
abbrev pub NewsComes : Stage → Office → Type 0
NewsComes can f =
    (l : Limits) (w v : World) (p : ℕ) (m : Memory) (a : Answer) (ls : List Letter) → GoodLimits can l → Lived f l w → Rounds 4 f l w v → 0 < length (in_truth l w.said p) →
    let n : ℕ = length (in_truth l w.said p) - 1 in
    let last : Move = slice_index_or (in_truth l w.said p) n no_move in
    let b : Book = truth l w.said (origin p) in
    (l.can 6 ≡ true → f.Called l (origin p) (v.memory (origin p)) (Ok (WhereIs p)) m a ls → a ≡ At (record { number = n; kind = last.kind; office = last.office }))
    × (turned l (origin p) b (Pay p) ≡ None → some_handed_out (in_truth l w.said p) ≡ true →
    f.Called l (origin p) (v.memory (origin p)) (Ok (Pay p)) m a ls → a ≡ Number (own b p).amount)

-- FOUR. MEMORY AND LETTERS STAY SMALL, however often the same letter comes.

-- letters that are not too long
unfoldable pub short : List Letter → Bool
short [] = true
short (x ∷ xs) = (nat_le (length x.text) letter_bytes && all_below 256 x.text) && short xs

-- the most words of memory, by the limit of parcels
abbrev pub most_words : ℕ → ℕ
most_words parcels = words_a_parcel * parcels + words_more

-- memory is within its bound, its words and the letters' bytes fit, and a tick, a letter and a call send few letters
abbrev pub StaysSmall : Stage → Office → Type 0
StaysSmall can f =
    (l : Limits) (w : World) (o : ℕ) → GoodLimits can l → Lived f l w → o < l.offices →
    (length (w.memory o) ≤ most_words l.parcels)
    × (all_below four_bytes (w.memory o) ≡ true)
    × (short w.sent ≡ true)
    × ((m : Memory) (ls : List Letter) → f.Ticked l o (w.memory o) m ls → length ls ≤ l.parcels)
    × ((x : List ℕ) (m : Memory) (ls : List Letter) → f.Heard l o (w.memory o) x m ls → length ls ≤ l.offices)
    × ((r : Reading) (m : Memory) (a : Answer) (ls : List Letter) → f.Called l o (w.memory o) r m a ls → length ls ≤ l.offices)

-- WHAT WAS TAKEN EVERYWHERE, whatever programs run: calls were made, each at an office that is there, with a slip that was
-- given out, and answered right.
pub data Happened (l : Limits) : List Said → Type 0 where
  nothing_yet : Happened l []
  and_then : {xs : List Said} (o : ℕ) (r : Reading) (a : Answer) → Happened l xs → o < l.offices → row_readable r ≡ true → IsRowKnown r xs → RightRow l xs o r a → Happened l (record { at = o; reading = r; answer = a } ∷ xs)

-- what offices live through happened: so what is true of all that happened is true of theirs
abbrev pub LivedHappened : Stage → Office → Type 0
LivedHappened can f = (l : Limits) (w : World) → GoodLimits can l → Lived f l w → Happened l w.said

-- EIGHT STATEMENTS ON PARCELS. All but 5 and 6 are about what was taken everywhere, in any stage, so they speak of no office's
-- program. Way.antt has what carries the first four.

-- where a parcel is in its way: not accepted yet, at an office, on the way, or handed out
pub data Whereabouts : Type 0 where
  unknown : Whereabouts
  at_office : ℕ → Whereabouts
  on_the_way : Whereabouts
  gone : Whereabouts

-- the way of a parcel with this origin goes on by a step of this kind, which this office makes: it is accepted at its
-- origin, sent on and handed out where it is, and taken in where it was not
abbrev pub goes_on : ℕ → Whereabouts → Kind → ℕ → Option Whereabouts
goes_on home unknown Accepted o = pick (o == home) (Some (at_office o)) None
goes_on home unknown SentOn o = None
goes_on home unknown ComeIn o = None
goes_on home unknown HandedOut o = None
goes_on home (at_office q) Accepted o = None
goes_on home (at_office q) SentOn o = pick (o == q) (Some on_the_way) None
goes_on home (at_office q) ComeIn o = None
goes_on home (at_office q) HandedOut o = pick (o == q) (Some gone) None
goes_on home on_the_way Accepted o = None
goes_on home on_the_way SentOn o = None
goes_on home on_the_way ComeIn o = Some (at_office o)
goes_on home on_the_way HandedOut o = None
goes_on home gone Accepted o = None
goes_on home gone SentOn o = None
goes_on home gone ComeIn o = None
goes_on home gone HandedOut o = None

-- each step goes on from the one before
unfoldable pub in_turn : ℕ → Option Whereabouts → List Move → Bool
in_turn home None ms = false
in_turn home (Some w) [] = true
in_turn home (Some w) (m ∷ ms) = in_turn home (goes_on home w m.kind m.office) ms

-- 1. a parcel is accepted first, at its origin; then sent on, from where it is, and taken in by turns; and handed out at
-- most once, where it is, at the end
abbrev pub InTurn : Limits → List Said → ℕ → Type 0
InTurn l xs p = in_turn (origin p) (Some unknown) (in_truth l xs p) ≡ true

abbrev pub StepsInTurn : Type 0
StepsInTurn = (can : Stage) (l : Limits) (xs : List Said) (p : ℕ) → GoodLimits can l → Happened l xs → InTurn l xs p

-- 2. it is at one office at most
abbrev pub AtOne : Limits → List Said → ℕ → Type 0
AtOne l xs p = (o q : ℕ) → is_here (truth l xs o) p ≡ true → is_here (truth l xs q) p ≡ true → o ≡ q

abbrev pub NotAtTwo : Type 0
NotAtTwo = (can : Stage) (l : Limits) (xs : List Said) (p : ℕ) → GoodLimits can l → Happened l xs → AtOne l xs p

-- a sum over all offices
unfoldable pub over_offices : ℕ → (ℕ → ℕ) → ℕ
over_offices zero f = 0
over_offices (suc n) f = f n + over_offices n f

-- 3. no more was paid out than was collected, all offices together
abbrev pub Covered : Limits → List Said → Type 0
Covered l xs = over_offices l.offices (λ o. paid_out (truth l xs o)) ≤ over_offices l.offices (λ o. collected (truth l xs o))

abbrev pub NoMorePaid : Type 0
NoMorePaid = (can : Stage) (l : Limits) (xs : List Said) → GoodLimits can l → Happened l xs → Covered l xs

-- 4. it was handed out where it was for, with its amount: both as the book of its origin has them
abbrev pub WasFor : Limits → List Said → ℕ → Type 0
WasFor l xs p =
    (o : ℕ) → has (truth l xs o) p ≡ true → (own (truth l xs o) p).kind ≡ HandedOut →
    ((own (truth l xs (origin p)) p).dest ≡ o) × ((own (truth l xs (origin p)) p).amount ≡ (own (truth l xs o) p).amount)

abbrev pub WhereItWasFor : Type 0
WhereItWasFor = (can : Stage) (l : Limits) (xs : List Said) (p : ℕ) → GoodLimits can l → Happened l xs → WasFor l xs p

-- these four, of all parcels of a post
pub record ParcelsSafe (l : Limits) (xs : List Said) : Type 0 where
  pub in_turn : (p : ℕ) → InTurn l xs p
  pub at_one : (p : ℕ) → AtOne l xs p
  pub covered : Covered l xs
  pub was_for : (p : ℕ) → WasFor l xs p

-- 5. what an office tells of a parcel never goes back
abbrev pub NeverBack : Stage → Office → Type 0
NeverBack can f =
    (l : Limits) (w : World) (o p : ℕ) (s : Step) (m : Memory) (ls : List Letter) → GoodLimits can l → Lived f l w → o < l.offices →
    f.Called l o (w.memory o) (Ok (WhereIs p)) m (At s) ls → told_so_far w.said o p ≤ suc s.number

-- 6. a letter that was sent, whenever and however often it comes, changes no answer that an office can give by itself
abbrev pub OldLetters : Stage → Office → Type 0
OldLetters can f =
    (l : Limits) (w : World) (x : Letter) (o : ℕ) (c : Call) (m n n' : Memory) (ls ms ms' : List Letter) (a a' : Answer) → GoodLimits can l → Lived f l w → In x w.sent →
    x.to < l.offices → o < l.offices → needs_news c ≡ false → row_readable (Ok c) ≡ true → IsRowKnown (Ok c) w.said → f.Heard l x.to (w.memory x.to) x.text m ls →
    f.Called l o (w.memory o) (Ok c) n a ms → f.Called l o ((after_news w x.to m ls).memory o) (Ok c) n' a' ms' → a' ≡ a

-- a slip with which a parcel was taken in, at whatever office
unfoldable pub IsTakenIn : Slip → List Said → Type 0
IsTakenIn s [] = ⊥
IsTakenIn s (x ∷ xs) = ((x.reading ≡ Ok (TakeIn s)) × (not_refused x.answer ≡ true)) ⊎ IsTakenIn s xs

-- 7. a slip works once: from then on it is turned away at all offices, as a slip that doesn't work, whatever else happens
abbrev pub SlipsSpent : Limits → List Said → Type 0
SlipsSpent l xs = (o : ℕ) (s : Slip) → IsTakenIn s xs → turned l o (truth l xs o) (TakeIn s) ≡ Some WrongSlip

abbrev pub SlipOnlyOnce : Type 0
SlipOnlyOnce = (can : Stage) (l : Limits) (xs : List Said) → GoodLimits can l → Happened l xs → SlipsSpent l xs

-- 8. a call that is turned away changes no book, and makes no step: so is truth made. That the office which turned it away
-- has nothing else in memory either is RefusalKeeps
abbrev pub RefusedMoves : Type 0
RefusedMoves =
    (l : Limits) (xs : List Said) (o : ℕ) (r : Reading) (a : Answer) → not_refused a ≡ false → let ys : List Said = record { at = o; reading = r; answer = a } ∷ xs in
    ((q : ℕ) → truth l ys q ≡ truth l xs q) × ((p : ℕ) → in_truth l ys p ≡ in_truth l xs p)

-- all eight, of whatever offices that run this live through: the first four; and 5 to 8
pub record EightStatements (can : Stage) (f : Office) : Type 0 where
  pub parcels : (l : Limits) (w : World) → GoodLimits can l → Lived f l w → ParcelsSafe l w.said
  pub never_back : NeverBack can f
  pub old_letters : OldLetters can f
  pub slips : (l : Limits) (w : World) → GoodLimits can l → Lived f l w → SlipsSpent l w.said
  pub refused : RefusedMoves

-- an office's program, as functions of the limits, its number, its memory, and what comes to it
pub record Program : Type 0 where
  pub opened : Limits → ℕ → Memory
  pub called : Limits → ℕ → Memory → Reading → Memory × Answer × List Letter
  pub heard : Limits → ℕ → Memory → List ℕ → Memory × List Letter
  pub ticked : Limits → ℕ → Memory → Memory × List Letter

-- the office that runs it
abbrev pub runs : Program → Office
runs f =
    record {
      Opened = λ l o m. m ≡ f.opened l o;
      Called = λ l o m r n a ls. (n, a, ls) ≡ f.called l o m r;
      Heard = λ l o m x n ls. (n, ls) ≡ f.heard l o m x;
      Ticked = λ l o m n ls. (n, ls) ≡ f.ticked l o m;
    }

-- They are so of any program whose every answer is right, in any stage. (They are proved of whatever an office may do, by a
-- relation as Office has it; a contract can't range over these, and names the programs.)
abbrev pub RightPrograms : Type 0
RightPrograms = (can : Stage) (f : Program) → Right can (runs f) → EightStatements can (runs f)
