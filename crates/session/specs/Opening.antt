-- Opening an office.
use Rattle.std.specs.Prelude.{◌≡◌, ℕ, ◌<◌, true, false, ◌⊎◌, List, length, Ok, Err, Result}
use Rattle.parcels.specs.declared.Refusal.{Refusal}
use Rattle.rows.specs.Layout.{words_for}
use Rattle.book.specs.Opening.{in_range, bad_limits, small_memory}
use Rattle.book.specs.Opened.{Opens as OpensWith}
use Rattle.book.specs.Keeping.{LaidOut}
use Rattle.book.specs.declared.opening.Opening.{Opening}

-- an office was opened over memory: what it keeps, and its empty book in the memory's first words
pub record Opened (offices own parcels : ℕ) (m m' : List ℕ) (x : Opening) : Type 0 where
  pub limits : OpensWith offices own parcels (Ok x)
  pub laid_out : LaidOut own parcels m m'

-- an office opens where its limits are in range and the memory is as large as they ask for; else it is refused, by the first
-- of these that is wrong, and the memory stays as it was
abbrev pub Opens : ℕ → ℕ → ℕ → List ℕ → List ℕ → Result Opening Refusal → Type 0
Opens offices own parcels m m' (Ok x) = Opened offices own parcels m m' x
Opens offices own parcels m m' (Err e) =
    (m' ≡ m)
    × (((in_range offices own parcels ≡ false) × (e ≡ bad_limits))
    ⊎ ((in_range offices own parcels ≡ true) × (length m < words_for parcels) × (e ≡ small_memory)))
