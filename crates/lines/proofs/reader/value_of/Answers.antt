use Rattle.std.proofs.Common.{◌∙◌, arith}
use Rattle.lines.proofs.Decimal.{all_digits, too_large}
use Rattle.lines.proofs.reader.value_of.Goals as goal

pub returns-in_err-checked_mul : goal.returns-in_err-checked_mul
returns-in_err-checked_mul c =
    let least = too_large c.args.digits.now c.loop-d.d-index c.loop-d.value c.from-digit.result c.loop-d-test.true (c.from-digit.ensures ∙ c.saturating_sub.ensures) c.loop-d.invariant.1 in
    rw c.from_residual.ensures (λ low. c.in_err-checked_mul.ensures (omega (arith, least, low)))

pub returns-in_err-value : goal.returns-in_err-value
returns-in_err-value c =
    let least = too_large c.args.digits.now c.loop-d.d-index c.loop-d.value c.from-digit.result c.loop-d-test.true (c.from-digit.ensures ∙ c.saturating_sub.ensures) c.loop-d.invariant.1 in
    rw c.from_residual-in_err-value.ensures (λ low. c.in_err-value.ensures (omega (arith, least, low, c.in_ok-checked_mul.ensures)))

pub returns : goal.returns
returns c =
    let same = all_digits c.args.digits.now c.loop-d.d-index c.loop-d.value c.loop-d-test.false c.loop-d.invariant.1 in
    (omega (arith, same, c.loop-d.invariant.0), same)
