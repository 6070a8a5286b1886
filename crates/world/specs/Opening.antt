-- Opening a world: all its offices, or none.
use Rattle.std.specs.Prelude.{◌≡◌, ℕ, true, false, [], Ok, Err, Result}
use Rattle.book.specs.Opening.{in_range}
use Rattle.moves.specs.Stage.{stage_limits}
use Rattle.world.specs.declared.CannotHappen.{CannotHappen}
use Rattle.world.specs.declared.CannotHappen.TheVariants.{BadLimits, NoOffice, NoSuchCall, NeverGiven, NeverSent, NoMemory}
use Rattle.world.specs.declared.World.{World}
use Rattle.world.specs.View.{limits_of, letters_of, journal_of}

-- where an office can be opened with these limits, all are, and nothing was sent or said yet
abbrev pub Opens : ℕ → ℕ → Result World CannotHappen → Type 0
Opens offices parcels (Ok w) = (in_range offices 0 parcels ≡ true) × (limits_of w ≡ stage_limits offices parcels) × (letters_of w ≡ []) × (journal_of w ≡ [])
Opens offices parcels (Err BadLimits) = in_range offices 0 parcels ≡ false
Opens offices parcels (Err NoMemory) = in_range offices 0 parcels ≡ true
Opens offices parcels (Err NoOffice) = ⊥
Opens offices parcels (Err NoSuchCall) = ⊥
Opens offices parcels (Err NeverGiven) = ⊥
Opens offices parcels (Err NeverSent) = ⊥
