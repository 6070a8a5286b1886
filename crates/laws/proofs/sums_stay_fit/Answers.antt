use Rattle.laws.proofs.Sums.{sums_stay_fit}
use Rattle.laws.proofs.sums_stay_fit.Goals as goal

pub returns : goal.returns
returns c = sums_stay_fit
