use Rattle.std.proofs.Common.{◌≡◌, length}
use Rattle.world.specs.View.{limits_of}
use Rattle.player.specs.Run.{at_of, Goes}
use Rattle.player.proofs.report.Playing.run.Given as goal

abbrev pub invariant-loop-line : goal.invariant-loop-line
invariant-loop-line l =
    record {
      goes : Goes (limits_of l.initial.player.world) (at_of l.initial.self l.initial.player) (at_of l.self l.player);
      limits : limits_of l.player.world ≡ limits_of l.initial.player.world;
      budget : l.self.budget ≡ l.initial.self.budget;
    }

abbrev pub decreases-loop-line : goal.decreases-loop-line
decreases-loop-line l = length l.self.lines.rest.now
