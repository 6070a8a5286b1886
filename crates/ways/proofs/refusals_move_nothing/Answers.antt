use Rattle.ways.proofs.Programs.{refused_moves}
use Rattle.ways.proofs.refusals_move_nothing.Goals as goal

pub returns : goal.returns
returns c = refused_moves
