use Rattle.std.proofs.Common.{rules, Ok}
use Rattle.lines.specs.declared.Line.TheVariants.{Blank}
use Rattle.lines.proofs.Back.{reads_written}
use Rattle.lines.proofs.Unique.{blank_reads}
use Rattle.lines.proofs.read_line.Goals as goal

pub returns-then-at_end-clause-written : goal.returns-then-at_end-clause-written
returns-then-at_end-clause-written c = reads_written c.args.line.now (Ok Blank) (blank_reads c.args.line.now (search rules))
