use Rattle.std.proofs.Common.{refl, sym, ◌∙◌, ap}
use Rattle.lines.specs.Forms.{deed_word}
use Rattle.lines.proofs.Said.{stand_from, called, deed_of}
use Rattle.lines.proofs.read_at_office.Goals as goal

pub returns-in_err-call-in-Some-Call-clause-reads :
    goal.returns-in_err-call-in-Some-Call-clause-reads
returns-in_err-call-in-Some-Call-clause-reads c line h =
    let k = called line c.in-Some-Call.name c.args.at c.args.reader.now h (sym c.word.ensures.value ∙ (c.in-Some-Call.ensures.value ∙ ap deed_word c.in-Some-Call.field-0-is)) in
    let read = c.in_err-call-in-Some-Call.ensures.reads k.0 (rw c.word.ensures.after k.2) in
    absurd (cc)

pub returns-in_ok-call-in-Some-Call-clause-value :
    goal.returns-in_ok-call-in-Some-Call-clause-value
returns-in_ok-call-in-Some-Call-clause-value c =
    (refl, stand_from _ _ _ _ (sym c.word.ensures.value ∙ (c.in-Some-Call.ensures.value ∙ ap deed_word c.in-Some-Call.field-0-is)) (rw (← c.word.ensures.after) c.in_ok-call-in-Some-Call.ensures.value))

pub returns-in_ok-call-in-Some-Call-clause-reads :
    goal.returns-in_ok-call-in-Some-Call-clause-reads
returns-in_ok-call-in-Some-Call-clause-reads c line h =
    let k = called line c.in-Some-Call.name c.args.at c.args.reader.now h (sym c.word.ensures.value ∙ (c.in-Some-Call.ensures.value ∙ ap deed_word c.in-Some-Call.field-0-is)) in
    let read = c.in_ok-call-in-Some-Call.ensures.reads k.0 (rw c.word.ensures.after k.2) in
    rw k.1 (cc)

pub returns-in-None-clause-reads : goal.returns-in-None-clause-reads
returns-in-None-clause-reads c line h =
    let d = deed_of line _ _ _ h in
    absurd (c.in-None.ensures.only d.0 (c.word.ensures.value ∙ d.1))
