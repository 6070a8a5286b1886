use Rattle.std.proofs.Common.{sym, ◌∙◌}
use Rattle.lines.proofs.Said.{line_from, beginning_of}
use Rattle.lines.proofs.read_form.Goals as goal

pub returns-in-None-clause-reads : goal.returns-in-None-clause-reads
returns-in-None-clause-reads c line h =
    let none = sym c.at_number.ensures ∙ c.if-at_number.false in
    let b = beginning_of line _ _ _ (line_from line c.args.reader.now c.requires none h) in
    absurd (c.in-None.ensures.only b.0 (c.word.ensures.value ∙ b.1))
