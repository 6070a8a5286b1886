use Rattle.std.proofs.Common.{Option, sym, subst}
use Rattle.wire.specs.Answers.{ReadsPart}
use Rattle.wire.proofs.Parts.{wrong_length, by_numbers}
use Rattle.wire.proofs.answer.read_part.Goals as goal

pub returns-in_err-read_numbers : goal.returns-in_err-read_numbers
returns-in_err-read_numbers g c =
    subst (λ (r : Option g.row.T.Denot). ReadsPart g.T.Numbers.fits g.T.Numbers.values c.args.body.now r) (sym c.from_residual.ensures)
    (wrong_length g.T.Numbers.fits g.T.Numbers.values g.met.T.Numbers.small g.row.N g.met.T.Numbers.count c.args.body.now c.in_err-read_numbers.ensures)

pub returns : goal.returns
returns g c =
    by_numbers g.T.Numbers.fits g.T.Numbers.values g.met.T.Numbers.small g.row.N g.met.T.Numbers.count c.args.body.now c.in_ok-read_numbers.field-0 c.from_numbers.result c.in_ok-read_numbers.ensures c.from_numbers.ensures
