use Rattle.std.proofs.Common.{◌≡◌, ◌+◌}
use Rattle.world.specs.View.{journal_of}
use Rattle.player.specs.Happen.{SameLetters}
use Rattle.player.proofs.happen.Player.all_tick.Given as goal

abbrev pub invariant-loop-at : goal.invariant-loop-at
invariant-loop-at l = SameLetters l.initial.self.world l.self.world × (journal_of l.self.world ≡ journal_of l.initial.self.world) × (l.self.budget + l.at ≡ l.initial.self.budget)
