use Rattle.ways.proofs.Further.{go_further}
use Rattle.ways.proofs.parcels_can_go_further.Goals as goal

pub returns : goal.returns
returns c = go_further
