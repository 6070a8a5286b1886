use Rattle.parcels.specs.Calls.{thin}
use Rattle.theorems.specs.Ours.{ours}
use Rattle.ways.proofs.Programs.{eight}
use Rattle.theorems.proofs.Promises.{answers_right}
use Rattle.theorems.proofs.eight_statements_hold.Goals as goal

pub returns : goal.returns
returns c = eight thin ours answers_right
