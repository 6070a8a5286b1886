use Rattle.ways.proofs.Follow.{where_it_was_for}
use Rattle.ways.proofs.parcels_get_where_they_were_for.Goals as goal

pub returns : goal.returns
returns c = where_it_was_for
