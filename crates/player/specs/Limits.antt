-- How large a world may be to be played.
use Rattle.std.specs.Prelude.{ℕ, Bool, ◌&&◌, nat_le}

-- the most offices of a world that is played
abbrev pub most_played_offices : ℕ
most_played_offices = 4

-- the most parcels of each
abbrev pub most_played_parcels : ℕ
most_played_parcels = 64

-- the most letters that are sent in it
abbrev pub most_played_letters : ℕ
most_played_letters = 256

-- whether a world is small enough to be played
abbrev pub small : ℕ → ℕ → Bool
small offices parcels = nat_le offices most_played_offices && nat_le parcels most_played_parcels
