use Rattle.std.proofs.Common.{take}
use Rattle.tracking.proofs.Steps.{TellsFirst}
use Rattle.tracking.proofs.steps_by.Given as goal

abbrev pub invariant-loop-said : goal.invariant-loop-said
invariant-loop-said l = TellsFirst l.said-index (take l.said-index l.journal) l.steps
