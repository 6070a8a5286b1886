-- What a caller from C is told as one number, and what that means.
use Rattle.std.specs.Prelude.{◌≡◌, ℕ, zero, suc, ◌+◌, ◌*◌, ◌/◌, ◌%◌, true, false, List, Ok, Err, Some, None, Option, Result}
use Rattle.parcels.specs.Numbers.{reason_number}
use Rattle.parcels.specs.Book.{pick}
use Rattle.rows.specs.Layout.{words_for}
use Rattle.book.specs.Opening.{in_range}
use Rattle.book.specs.Ready.{Ready}
use Rattle.book.specs.declared.opening.Opening.{Opening}
use Rattle.parcels.specs.declared.Refusal.{Refusal}
use Rattle.moves.specs.Stage.{stage_limits}
use Rattle.session.specs.Opening.{Opens}
use Rattle.session.specs.Exchanging.{Begins, Heard, Ticked, Replies, Hears, lent_for_news, lent_for_tick}
use Rattle.session.specs.declared.Replied.{Replied}

-- how many words an office with these limits asks for; 0 where they are out of range
abbrev pub words_asked : ℕ → ℕ → ℕ → ℕ
words_asked offices own parcels = pick (in_range offices own parcels) (words_for parcels) 0

-- the lowest byte of what is told is one number; what stands above it counts in these
abbrev pub above_byte : ℕ
above_byte = 256

-- 0 for an office that opened; for one that didn't, its refusal
abbrev pub opened_number : Result Opening Refusal → ℕ
opened_number (Ok _) = 0
opened_number (Err e) = above_byte * e.place + reason_number e.reason

-- an office was opened, or refused, and this number tells which
pub record OpensNumbered (offices own parcels : ℕ) (m m' : List ℕ) (n : ℕ) : Type 0 where
  pub outcome : Result Opening Refusal
  pub opens : Opens offices own parcels m m' outcome
  pub begins : Begins offices own parcels m m' outcome
  pub number : n ≡ opened_number outcome

-- what a number says of a call: nothing was done; or how many bytes its answer took, and how many letters were sent
abbrev pub replied_by : ℕ → Option Replied
replied_by zero = None
replied_by (suc n) = Some (record { answer = suc n % above_byte; letters = suc n / above_byte })

-- what a number says of a letter that was heard, or of a tick: nothing was done; or how many letters were sent
abbrev pub heard_by : ℕ → Option ℕ
heard_by zero = None
heard_by (suc n) = Some n

-- a call that comes with these limits is done as the number says, where they are in range; else nothing is done
abbrev pub RepliesNumbered : ℕ → ℕ → ℕ → List ℕ → List ℕ → List ℕ → List ℕ → List ℕ → List ℕ → ℕ → List ℕ → Type 0
RepliesNumbered offices own parcels m bytes out out' lent lent' n m' =
    (in_range offices own parcels ≡ true → Replies (stage_limits offices parcels) own m bytes out out' lent lent' (replied_by n) m')
    × (in_range offices own parcels ≡ false → (n ≡ 0) × (m' ≡ m) × (out' ≡ out) × (lent' ≡ lent))

-- a letter is heard as the number says
abbrev pub HearsNumbered : ℕ → ℕ → ℕ → List ℕ → List ℕ → List ℕ → List ℕ → ℕ → List ℕ → Type 0
HearsNumbered offices own parcels m letter lent lent' n m' =
    (in_range offices own parcels ≡ true → Hears (lent_for_news (stage_limits offices parcels)) (Heard (stage_limits offices parcels) own m letter) m lent lent' (heard_by n) m')
    × (in_range offices own parcels ≡ false → (n ≡ 0) × (m' ≡ m) × (lent' ≡ lent))

-- the clock ticks as the number says
abbrev pub TicksNumbered : ℕ → ℕ → ℕ → List ℕ → List ℕ → List ℕ → ℕ → List ℕ → Type 0
TicksNumbered offices own parcels m lent lent' n m' =
    (in_range offices own parcels ≡ true → Hears (lent_for_tick (stage_limits offices parcels)) (Ticked (stage_limits offices parcels) own m) m lent lent' (heard_by n) m')
    × (in_range offices own parcels ≡ false → (n ≡ 0) × (m' ≡ m) × (lent' ≡ lent))
