use Rattle.ways.proofs.Each.{each_way}
use Rattle.ways.proofs.ways_are_true.Goals as goal

pub returns : goal.returns
returns c = each_way
