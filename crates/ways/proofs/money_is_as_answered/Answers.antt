use Rattle.ways.proofs.Money.{money_told}
use Rattle.ways.proofs.money_is_as_answered.Goals as goal

pub returns : goal.returns
returns c = money_told
