use Rattle.truths.proofs.Keys.{no_key_twice}
use Rattle.truths.proofs.no_key_is_given_twice.Goals as goal

pub returns : goal.returns
returns c = no_key_twice
