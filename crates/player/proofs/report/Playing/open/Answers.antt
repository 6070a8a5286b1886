use Rattle.std.proofs.Common.{rules, Ok, Err, inl, refl}
use Rattle.lines.specs.declared.Line.TheVariants.{Opening}
use Rattle.player.specs.Run.{none, blank, opened, too_large, refused}
use Rattle.player.proofs.Run.{bad_first, still_passes}
use Rattle.player.proofs.report.Playing.open.Goals as goal

pub loop-line-init : goal.loop-line-init
loop-line-init c = record { passed = none; budget = refl; shown = refl }

pub loop-line-preserved : goal.loop-line-preserved
loop-line-preserved c =
    record { passed = blank c.in-Some.line.now c.loop-line.invariant.passed (search rules) (search rules); budget = c.loop-line.invariant.budget; shown = c.loop-line.invariant.shown }

pub returns-in_err-read_line-clause-value : goal.returns-in_err-read_line-clause-value
returns-in_err-read_line-clause-value c =
    bad_first c.in-Some.line.now (Err c.in_err-read_line.field-0.0) _ _ c.loop-line.invariant.passed (search rules) (search rules) refl (search rules)

pub returns-then-not-is_small-clause-value : goal.returns-then-not-is_small-clause-value
returns-then-not-is_small-clause-value c =
    bad_first c.in-Some.line.now (Ok (Opening c.in-Opening.offices c.in-Opening.parcels)) _ (Err c.into.result) c.loop-line.invariant.passed (search rules) (search rules) (too_large (search rules)) (search rules)

pub returns-in_err-open-in-Opening-clause-value : goal.returns-in_err-open-in-Opening-clause-value
returns-in_err-open-in-Opening-clause-value c =
    bad_first c.in-Some.line.now (Ok (Opening c.in-Opening.offices c.in-Opening.parcels)) _ _ c.loop-line.invariant.passed (search rules) (search rules) (refused {e = c.in_err-open-in-Opening.field-0.0} (search rules) (search rules)) (search rules)

pub returns-in-Opening-clause-value : goal.returns-in-Opening-clause-value
returns-in-Opening-clause-value c = (
  Ok (Opening c.in-Opening.offices c.in-Opening.parcels),
  record { before = _; line = c.in-Some.line.now; passed = c.loop-line.invariant.passed; takes = search rules; reads = search rules },
  opened (search rules) (search rules),
)

pub returns-clause-value : goal.returns-clause-value
returns-clause-value c = inl (refl, still_passes c.loop-line.invariant.passed (search rules), search rules)
