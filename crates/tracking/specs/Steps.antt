-- Where each parcel is: its last step in truth, and the last one that exchanges tell of.
use Rattle.std.specs.Prelude.{◌≡◌, ℕ, List, [], Option, Some, None, ◌==◌, true}
use Rattle.parcels.specs.Book.{Book, has, own}
use Rattle.parcels.specs.Calls.{Limits}
use Rattle.parcels.specs.declared.Step.{Step}
use Rattle.rows.specs.Layout.{book_at}
use Rattle.promises.specs.Truth.{in_truth, Move, one_move, last_of}
use Rattle.promises.specs.Beside.{step_in, steps_told}
use Rattle.world.specs.declared.Exchange.{Exchange}
use Rattle.world.specs.declared.World.{World}
use Rattle.world.specs.Journal.{history}
use Rattle.world.specs.View.{memory_of}
use Rattle.tracking.specs.declared.Told.{Told}

-- where a parcel is, by limits and what was said within them: its last step in truth
abbrev pub last_step : Limits → List Exchange → ℕ → Option Step
last_step l xs p = last_of (in_truth l (history xs) p)

-- the last step that exchanges tell of
abbrev pub last_told : List Exchange → ℕ → Option Step
last_told xs p = last_of (steps_told (history xs) p)

-- the step of this parcel, of what an exchange tells of
abbrev pub told_move : Option Told → ℕ → List Move
told_move None p = []
told_move (Some t) p = one_move (t.key == p) t.kind t.office

-- this is all that an exchange tells of, for each parcel
abbrev pub Tells : Exchange → Option Told → Type 0
Tells x t = (p : ℕ) → step_in x.at x.reading x.answer p ≡ told_move t p

-- the office that made this step of a parcel has the parcel by it in its memory
abbrev pub IsHeld : World → ℕ → Step → Type 0
IsHeld w p s = let b : Book = book_at (memory_of w s.office) in (has b p ≡ true) × ((own b p).step ≡ s.number) × ((own b p).kind ≡ s.kind)
