use Rattle.ways.proofs.Paid.{no_more_paid}
use Rattle.ways.proofs.no_more_is_paid.Goals as goal

pub returns : goal.returns
returns c = no_more_paid
