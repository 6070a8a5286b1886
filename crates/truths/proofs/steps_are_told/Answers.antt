use Rattle.truths.proofs.Moves.{told_in_truth}
use Rattle.truths.proofs.steps_are_told.Goals as goal

pub returns : goal.returns
returns c = told_in_truth
