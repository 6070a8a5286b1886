use Rattle.laws.proofs.Steps.{stay_fit}
use Rattle.laws.proofs.steps_stay_fit.Goals as goal

pub returns : goal.returns
returns c = stay_fit
