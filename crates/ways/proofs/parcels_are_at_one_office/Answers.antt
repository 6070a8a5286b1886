use Rattle.ways.proofs.Follow.{not_at_two}
use Rattle.ways.proofs.parcels_are_at_one_office.Goals as goal

pub returns : goal.returns
returns c = not_at_two
