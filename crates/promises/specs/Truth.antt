-- What is true of books and parcels, by the calls that were taken at all offices.
use Rattle.std.specs.Prelude.{ℕ, ◌-◌, Bool, List, [], ◌∷◌, ◌++◌, length, Ok, Err, Option, option_map, slice_get, ◌==◌}
use Rattle.parcels.specs.Book.{pick, Book}
use Rattle.parcels.specs.Calls.{Limits, after, new_key, not_refused}
use Rattle.parcels.specs.declared.Kind.{Kind}
use Rattle.parcels.specs.declared.Kind.TheVariants.{Accepted, SentOn, ComeIn, HandedOut}
use Rattle.parcels.specs.declared.Step.{Step}
use Rattle.parcels.specs.declared.Call.{Call}
use Rattle.parcels.specs.declared.Call.TheVariants.{Accept, Send, SlipAgain, TakeIn, HandOut, Pay, WhereIs, Here, Sums}
use Rattle.parcels.specs.declared.Answer.{Answer}
use Rattle.wire.specs.Calls.{Reading}
use Rattle.promises.specs.World.{Said}

-- an office's book after it answered a row of bytes: a call that was not refused was taken
abbrev pub book_then : Limits → ℕ → Book → Reading → Answer → Book
book_then l o b (Ok c) a = pick (not_refused a) (after l o b c) b
book_then l o b (Err e) a = b

-- an office's book in truth, by all that was said: at the start it is empty
unfoldable pub truth : Limits → List Said → ℕ → Book
truth l [] o = []
truth l (x ∷ xs) o = pick (x.at == o) (book_then l o (truth l xs o) x.reading x.answer) (truth l xs o)

-- a step that a parcel took in truth; its number is its place in the list of them
pub record Move : Type 0 where
  pub kind : Kind
  pub office : ℕ

-- one step, if it was taken
abbrev pub one_move : Bool → Kind → ℕ → List Move
one_move taken kind o = pick taken (record { kind = kind; office = o } ∷ []) []

-- the step of this parcel that a call makes which an office with this book takes: none if the call is about another parcel, or
-- makes no step
abbrev pub move_of : ℕ → Book → Call → ℕ → List Move
move_of o b (Accept dest amount) p = one_move (new_key o b == p) Accepted o
move_of o b (Send key to) p = one_move (key == p) SentOn o
move_of o b (SlipAgain key) p = []
move_of o b (TakeIn s) p = one_move (s.key == p) ComeIn o
move_of o b (HandOut key) p = one_move (key == p) HandedOut o
move_of o b (Pay key) p = []
move_of o b (WhereIs key) p = []
move_of o b (Here from) p = []
move_of o b Sums p = []

-- the same by what was answered: where a call was refused, and where a row is no call, no step is made
abbrev pub move_then : ℕ → Book → Reading → Answer → ℕ → List Move
move_then o b (Ok c) a p = pick (not_refused a) (move_of o b c p) []
move_then o b (Err e) a p = []

-- the steps of a parcel in truth, by all that was said, the oldest first
unfoldable pub in_truth : Limits → List Said → ℕ → List Move
in_truth l [] p = []
in_truth l (x ∷ xs) p = in_truth l xs p ++ move_then x.at (truth l xs x.at) x.reading x.answer p

-- the last of a parcel's steps, if it took one; its number is its place among them
abbrev pub last_of : List Move → Option Step
last_of ms = option_map (λ m. record { number = length ms - 1; kind = m.kind; office = m.office }) (slice_get ms (length ms - 1))
