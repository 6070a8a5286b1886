use Rattle.ways.proofs.Programs.{right_programs}
use Rattle.ways.proofs.right_programs_keep_all_eight.Goals as goal

pub returns : goal.returns
returns c = right_programs
