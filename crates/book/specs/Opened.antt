-- What opening comes to.
use Rattle.std.specs.Prelude.{◌≡◌, ℕ, true, false, Ok, Err, Result}
use Rattle.parcels.specs.declared.Refusal.{Refusal}
use Rattle.book.specs.Opening.{in_range, bad_limits}
use Rattle.book.specs.declared.opening.Opening.{Opening}

-- what opens keeps its limits, where they are in range; else it is refused
abbrev pub Opens : ℕ → ℕ → ℕ → Result Opening Refusal → Type 0
Opens offices own parcels (Ok x) = (in_range offices own parcels ≡ true) × (x.offices ≡ offices) × (x.own ≡ own) × (x.parcels ≡ parcels)
Opens offices own parcels (Err e) = (in_range offices own parcels ≡ false) × (e ≡ bad_limits)
