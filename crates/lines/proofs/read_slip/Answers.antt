use Rattle.std.proofs.Common.{sym, ◌∙◌}
use Rattle.lines.proofs.read_slip.Goals as goal

pub returns-clause-reads : goal.returns-clause-reads
returns-clause-reads c slip h =
    c.read_way.ensures.reads slip (sym h.1 ∙ sym c.in_ok-key.ensures.value.1) (rw (c.in_ok-expect_mark.ensures.after, c.in_ok-key.ensures.after) h.2.1)
