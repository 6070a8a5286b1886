-- What was said, and what happened, by the journal of a world and its offices' memory.
use Rattle.std.specs.Prelude.{List, [], ◌∷◌, ◌++◌}
use Rattle.letters.specs.Envelope.{Letter}
use Rattle.promises.specs.World.{Said, World}
use Rattle.world.specs.declared.Exchange.{Exchange}
use Rattle.world.specs.declared.station.Station.{Station}
use Rattle.world.specs.Stations.{memory_at}

-- all that was said, the last first, by a journal that has the oldest first
unfoldable pub history : List Exchange → List Said
history [] = []
history (x ∷ xs) = history xs ++ (record { at = x.at; reading = x.reading; answer = x.answer } ∷ [])

-- the world of these offices, these letters and this journal
abbrev pub world_of : List Station → List Letter → List Exchange → World
world_of ss ls xs = record { memory = memory_at ss; sent = ls; said = history xs }
