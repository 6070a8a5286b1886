use Rattle.std.proofs.Common.{sym}
use Rattle.lines.proofs.Said.{behind_at}
use Rattle.lines.proofs.read_at.Goals as goal

pub returns-clause-reads : goal.returns-clause-reads
returns-clause-reads c line h =
    c.read_at_office.ensures.reads line (rw (c.in_ok-expect_mark.ensures.after, c.in_ok-at.ensures.after) (behind_at line _ _ _ h (sym c.in_ok-at.ensures.value.1)))
