-- What an office is opened with, and which of it is in range.
use Rattle.std.specs.Prelude.{ℕ, Bool, ◌&&◌, nat_le, nat_lt}
use Rattle.parcels.specs.Numbers.{fewest_offices, most_offices, most_parcels}
use Rattle.parcels.specs.declared.Reason.TheVariants.{BadOpening}
use Rattle.parcels.specs.declared.Refusal.{Refusal}

-- how many offices there are, this one's number, and its limit of parcels are all in range
abbrev pub in_range : ℕ → ℕ → ℕ → Bool
in_range offices own parcels = (nat_le fewest_offices offices && nat_le offices most_offices) && (nat_lt own offices && nat_le parcels most_parcels)

-- limits out of range
abbrev pub bad_limits : Refusal
bad_limits = record { reason = BadOpening; place = 1 }

-- memory smaller than the limits ask for
abbrev pub small_memory : Refusal
small_memory = record { reason = BadOpening; place = 0 }
