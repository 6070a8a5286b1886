use Rattle.std.proofs.Common.{◌≡◌, ◌^◌, ◌<◌, drop, fold}
use Rattle.lines.specs.Decimal.{with_digit, value_of}
use Rattle.lines.proofs.reader.value_of.Given as goal

-- the digits to come, after the value so far, give the whole value
abbrev pub invariant-loop-d : goal.invariant-loop-d
invariant-loop-d l = (l.value < 2 ^ 32) × (fold with_digit l.value (drop l.d-index l.digits) ≡ value_of l.digits)
