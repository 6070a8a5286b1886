use Rattle.parcels.specs.Calls.{thin}
use Rattle.ways.proofs.Programs.{old_letters}
use Rattle.theorems.specs.Ours.{ours}
use Rattle.theorems.proofs.Promises.{answers_right}
use Rattle.theorems.proofs.old_letters_change_nothing.Goals as goal

pub returns : goal.returns
returns c = old_letters thin ours answers_right
