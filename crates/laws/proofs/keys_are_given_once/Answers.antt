use Rattle.laws.proofs.Keys.{keys_once}
use Rattle.laws.proofs.keys_are_given_once.Goals as goal

pub returns : goal.returns
returns c = keys_once
