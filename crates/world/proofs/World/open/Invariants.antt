use Rattle.std.proofs.Common.{◌≡◌, ℕ, ◌<◌, true, get_or, vec_items, vec_len}
use Rattle.book.specs.Opening.{in_range}
use Rattle.moves.specs.Stage.{stage_limits}
use Rattle.session.specs.Exchanging.{Begun}
use Rattle.world.specs.declared.station.Station.{Station}
use Rattle.world.specs.Stations.{words_of, IsOpened}
use Rattle.world.proofs.World.open.Given as goal

-- those below `own` are open, each with its number and an empty book
abbrev pub invariant-loop-own : goal.invariant-loop-own
invariant-loop-own l =
    (vec_len l.opened ≡ l.own)
    × ((k : ℕ) (d : Station) → k < l.own → IsOpened (get_or (vec_items l.opened) k d).opening l.offices k l.parcels × Begun (stage_limits l.offices l.parcels) k (words_of (get_or (vec_items l.opened) k d)))
    × (0 < l.own → in_range l.offices 0 l.parcels ≡ true)
