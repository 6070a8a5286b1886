use Rattle.std.proofs.Common.{◌≡◌, length}
use Rattle.player.specs.Cut.{text_of}
use Rattle.player.specs.Run.{Passes}
use Rattle.player.proofs.report.Playing.open.Given as goal

abbrev pub invariant-loop-line : goal.invariant-loop-line
invariant-loop-line l =
    record {
      passed : Passes (text_of l.initial.self.lines) (text_of l.self.lines);
      budget : l.self.budget ≡ l.initial.self.budget;
      shown : l.self.shown ≡ l.initial.self.shown;
    }

abbrev pub decreases-loop-line : goal.decreases-loop-line
decreases-loop-line l = length l.self.lines.rest.now
