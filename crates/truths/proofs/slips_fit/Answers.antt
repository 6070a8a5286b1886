use Rattle.truths.proofs.Steps.{slips_fit}
use Rattle.truths.proofs.slips_fit.Goals as goal

pub returns : goal.returns
returns c = slips_fit
