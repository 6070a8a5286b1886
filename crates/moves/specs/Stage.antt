-- The stage that this post is in.
use Rattle.std.specs.Prelude.{ℕ}
use Rattle.parcels.specs.Calls.{Limits, thin}
use Rattle.book.specs.declared.opening.Opening.{Opening}

-- so many offices, each with this limit of parcels: paying, and where a parcel is, can't be done yet
abbrev pub stage_limits : ℕ → ℕ → Limits
stage_limits offices parcels = record { can = thin; offices = offices; parcels = parcels }

-- the same of what an office was opened with
abbrev pub limits_of : Opening → Limits
limits_of x = stage_limits x.offices x.parcels
