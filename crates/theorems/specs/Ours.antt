-- The office that runs, as everything that can happen takes it: what its contracts say, by their own definitions.
use Rattle.std.specs.Prelude.{◌≡◌, ℕ, ◌<◌, List}
use Rattle.parcels.specs.Calls.{Limits}
use Rattle.rows.specs.Layout.{book_at}
use Rattle.session.specs.Exchanging.{Begun, Called, Heard, Ticked}
use Rattle.promises.specs.World.{Memory, Said, Office}
use Rattle.promises.specs.Truth.{truth}

-- what opening a session, and a call, a letter and a tick there come to
abbrev pub ours : Office
ours = record { Opened = Begun; Called = Called; Heard = Heard; Ticked = Ticked }

-- what each office has in memory means its book in truth, by what was said everywhere
pub record BooksAreTrue (l : Limits) (xs : List Said) (memory : ℕ → Memory) : Type 0 where
  pub each : (o : ℕ) → o < l.offices → book_at (memory o) ≡ truth l xs o
