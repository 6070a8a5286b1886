use Rattle.std.proofs.Common.{◌≡◌, ◌≤◌}
use Rattle.player.proofs.happen.Player.hear_all.Given as goal

abbrev pub invariant-loop-letter : goal.invariant-loop-letter
invariant-loop-letter g l =
    (l.self ≡ l.initial.self) × ((goal.iterator-loop-letter g).remaining l.letter-iterator ≤ (goal.iterator-loop-letter g).remaining l.initial.letter-iterator)
