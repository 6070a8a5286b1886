use Rattle.std.proofs.lemmas.Bool.{false≢true}
use Rattle.lines.proofs.Unique.{none_left}
use Rattle.lines.proofs.read_whole.Goals as goal

-- something is left behind what was read, so no line is written so
pub returns-in_err-end-clause-reads : goal.returns-in_err-end-clause-reads
returns-in_err-end-clause-reads c line h =
    absurd (false≢true (c.in_err-end.ensures.1 (none_left c.in_ok-line.line line _ _ c.in_ok-line.ensures.value (c.in_ok-line.ensures.reads line h) h)))
