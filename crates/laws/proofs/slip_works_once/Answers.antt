use Rattle.laws.proofs.Calls.{slip_once}
use Rattle.laws.proofs.slip_works_once.Goals as goal

pub returns : goal.returns
returns c = slip_once
