use Rattle.ways.proofs.Follow.{handed_out_stays}
use Rattle.ways.proofs.nothing_follows_handing_out.Goals as goal

pub returns : goal.returns
returns c = handed_out_stays
