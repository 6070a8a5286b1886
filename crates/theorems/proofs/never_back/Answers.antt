use Rattle.parcels.specs.Calls.{thin}
use Rattle.ways.proofs.Programs.{never_back}
use Rattle.theorems.specs.Ours.{ours}
use Rattle.theorems.proofs.Promises.{answers_right}
use Rattle.theorems.proofs.never_back.Goals as goal

pub returns : goal.returns
returns c = never_back thin ours answers_right
