-- What offices have in memory, all together, and what they were opened with.
use Rattle.std.specs.Prelude.{◌≡◌, ℕ, ◌<◌, true, false, List, [], length, map, Ok, Err, Result, vec_items, slice_index_or}
use Rattle.rows.specs.Layout.{words_for}
use Rattle.book.specs.Opening.{in_range}
use Rattle.book.specs.declared.opening.Opening.{Opening}
use Rattle.moves.specs.Stage.{stage_limits}
use Rattle.promises.specs.World.{Memory}
use Rattle.session.specs.Exchanging.{Begun}
use Rattle.world.specs.declared.CannotHappen.{CannotHappen}
use Rattle.world.specs.declared.CannotHappen.TheVariants.{BadLimits, NoOffice, NoSuchCall, NeverGiven, NeverSent, NoMemory}
use Rattle.world.specs.declared.station.Station.{Station}

-- the words of an office
abbrev pub words_of : Station → Memory
words_of x = vec_items x.memory

-- the memory of each office, by its number; none where there is no such office
abbrev pub memory_at : List Station → ℕ → Memory
memory_at xs o = slice_index_or (map words_of xs) o []

-- an office was opened with these limits
abbrev pub IsOpened : Opening → ℕ → ℕ → ℕ → Type 0
IsOpened x offices own parcels = (x.offices ≡ offices) × (x.own ≡ own) × (x.parcels ≡ parcels)

-- each office was opened with its number, and with how many there are
abbrev pub Numbered : List Station → ℕ → ℕ → Type 0
Numbered xs offices parcels = (k : ℕ) (d : Station) → k < length xs → IsOpened (slice_index_or xs k d).opening offices k parcels

-- what an office opens with: as many words as its limits ask for, with an empty book; else why it can't be opened
abbrev pub OpensStation : ℕ → ℕ → ℕ → Result Station CannotHappen → Type 0
OpensStation offices own parcels (Ok x) = (in_range offices own parcels ≡ true) × IsOpened x.opening offices own parcels × Begun (stage_limits offices parcels) own (words_of x) × (length (words_of x) ≡ words_for parcels)
OpensStation offices own parcels (Err BadLimits) = in_range offices own parcels ≡ false
OpensStation offices own parcels (Err NoMemory) = in_range offices own parcels ≡ true
OpensStation offices own parcels (Err NoOffice) = ⊥
OpensStation offices own parcels (Err NoSuchCall) = ⊥
OpensStation offices own parcels (Err NeverGiven) = ⊥
OpensStation offices own parcels (Err NeverSent) = ⊥
