use Rattle.std.proofs.Common.{ℕ, None, Option, sym, subst}
use Rattle.parcels.specs.declared.Answer.{Answer}
use Rattle.wire.specs.Answers.{Tagged}
use Rattle.wire.proofs.AnswerReadings.{no_rest, no_two}
use Rattle.wire.proofs.answer.read_tagged.Goals as goal

pub returns-in_err-read_part-in-4 : goal.returns-in_err-read_part-in-4
returns-in_err-read_part-in-4 c =
    subst (λ (r : Option Answer). Tagged c.args.tag c.args.body.now r) (sym c.from_residual-in_err-read_part-in-4.ensures)
    (subst (λ (tag : ℕ). Tagged tag c.args.body.now None) (sym c.in-4.is) (no_rest c.args.body.now c.in_err-read_part-in-4.ensures))

pub returns-in_err-m-in-5 : goal.returns-in_err-m-in-5
returns-in_err-m-in-5 c =
    subst (λ (r : Option Answer). Tagged c.args.tag c.args.body.now r) (sym c.from_residual-in_err-m-in-5.ensures)
    (subst (λ (tag : ℕ). Tagged tag c.args.body.now None) (sym c.in-5.is) (no_two c.args.body.now c.in_err-m-in-5.ensures))
