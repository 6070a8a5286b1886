use Rattle.std.proofs.Common.{refl}
use Rattle.std.proofs.lemmas.Bool.{false≢true}
use Rattle.lines.proofs.read_take_in.Goals as goal

pub returns-in_err-expect-clause-reads : goal.returns-in_err-expect-clause-reads
returns-in_err-expect-clause-reads c slip h = absurd (false≢true (c.in_err-expect.ensures.value.1 h.1.0))

pub returns-in_err-slip-clause-reads : goal.returns-in_err-slip-clause-reads
returns-in_err-slip-clause-reads c slip h =
    let read = c.in_err-slip.ensures.reads slip (rw c.in_ok-expect.ensures.after h.1.1) in
    absurd (cc)

pub returns-clause-value : goal.returns-clause-value
returns-clause-value c = (refl, (c.in_ok-expect.ensures.value.0 refl, rw (← c.in_ok-expect.ensures.after) c.in_ok-slip.ensures.value))

pub returns-clause-reads : goal.returns-clause-reads
returns-clause-reads c slip h =
    let read = c.in_ok-slip.ensures.reads slip (rw c.in_ok-expect.ensures.after h.1.1) in
    cc
