-- What is so of each parcel, whatever happened: the invariant that carries what is promised of parcels. It sets against the
-- steps that the parcel took in truth what each office's book has of it, and what each slip of it tells that was given out.
-- `books o` is the book of office o, `ms` the steps of the parcel, the first one first, and `IsOut s` says that the slip s was
-- given out.
use Rattle.std.specs.Prelude.{◌≡◌, ℕ, suc, ◌<◌, ◌≤◌, true, List, length, Some, slice_index_or}
use Rattle.parcels.specs.Book.{origin, Book, has, own, leaves_it_here, was_sent_on, was_handed_out}
use Rattle.parcels.specs.Calls.{Stage, Limits, slip_from}
use Rattle.parcels.specs.declared.Kind.{Kind}
use Rattle.parcels.specs.declared.Kind.TheVariants.{SentOn, ComeIn}
use Rattle.parcels.specs.declared.Slip.{Slip}
use Rattle.parcels.specs.declared.Entry.{Entry}
use Rattle.promises.specs.Truth.{truth, in_truth, Move}
use Rattle.promises.specs.World.{Said, IsGiven}
use Rattle.promises.specs.Promise.{GoodLimits, no_move, some_handed_out, Happened, unknown, in_turn}

-- the step of this number was taken: it is of this kind, and this office made it
abbrev pub IsStep : List Move → ℕ → Kind → ℕ → Type 0
IsStep ms n kind o = (n < length ms) × (slice_index_or ms n no_move ≡ record { kind = kind; office = o })

-- for which office it is, and its amount, are as the book of its origin has them, in the entry `home`
abbrev pub SameGoal : Entry → ℕ → ℕ → Type 0
SameGoal home dest amount = (dest ≡ home.dest) × (amount ≡ home.amount)

-- a parcel is paid for at its origin only, and only if it was handed out
abbrev pub MayBePaid : List Move → ℕ → ℕ → Type 0
MayBePaid ms p o = (origin p ≡ o) × (some_handed_out ms ≡ true)

-- What an office's book has of the parcel: a step that the office made, and the last one of all where the parcel is here. Where
-- it was sent on, its slip was given out; where it was handed out, it was for this office; where it was paid for, it might be. For
-- which office it is, and its amount, are as its origin's book has them.
pub record EntryTrue (ms : List Move) (IsOut : Slip → Type 0) (home : Entry) (p o : ℕ) (e : Entry) : Type 0 where
  pub made : IsStep ms e.step e.kind o
  pub here : leaves_it_here e.kind ≡ true → suc e.step ≡ length ms
  pub slip_out : was_sent_on e.kind ≡ true → IsOut (slip_from o e)
  pub handed_out : was_handed_out e.kind ≡ true → e.dest ≡ o
  pub paid : e.paid ≡ true → MayBePaid ms p o
  pub goal : SameGoal home e.dest e.amount

-- What a slip tells: the step by which the parcel was sent on, by the office that the slip is from. If another step came behind
-- it, that is coming in, at the office that the slip is for: so a slip of an older step is spent there. For which office the
-- parcel is, and its amount, are as its origin's book has them.
pub record SlipTrue (ms : List Move) (home : Entry) (s : Slip) : Type 0 where
  pub sent : IsStep ms s.step SentOn s.from
  pub came : suc s.step < length ms → IsStep ms (suc s.step) ComeIn s.to
  pub goal : SameGoal home s.dest s.amount

-- The parcel's steps come in turn. Each is in the book of the office that made it, or a later one is. What books have of the
-- parcel is true, and so are its slips, of which no two tell the same step.
pub record Way (books : ℕ → Book) (IsOut : Slip → Type 0) (p : ℕ) (ms : List Move) : Type 0 where
  pub in_turn : in_turn (origin p) (Some unknown) ms ≡ true
  pub in_book : (n o : ℕ) (kind : Kind) → IsStep ms n kind o → (has (books o) p ≡ true) × (n ≤ (own (books o) p).step)
  pub entries : (o : ℕ) → has (books o) p ≡ true → EntryTrue ms IsOut (own (books (origin p)) p) p o (own (books o) p)
  pub slips : (s : Slip) → IsOut s → s.key ≡ p → SlipTrue ms (own (books (origin p)) p) s
  pub no_two : (s t : Slip) → IsOut s → IsOut t → s.key ≡ p → t.key ≡ p → s.step ≡ t.step → s ≡ t

-- so it is of every parcel, by what was taken everywhere
abbrev pub WaysTrue : Limits → List Said → Type 0
WaysTrue l xs = (p : ℕ) → Way (truth l xs) (λ s. IsGiven s xs) p (in_truth l xs p)

-- whatever happened
abbrev pub EachWay : Type 0
EachWay = (can : Stage) (l : Limits) (xs : List Said) → GoodLimits can l → Happened l xs → WaysTrue l xs
