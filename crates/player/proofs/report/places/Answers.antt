use Rattle.std.proofs.Common.{sym, ap, ◌∙◌, ◌++◌}
use Rattle.player.specs.Report.{place_line}
use Rattle.player.proofs.Places.{one_more}
use Rattle.player.proofs.report.places.Goals as goal

pub loop-key-preserved : goal.loop-key-preserved
loop-key-preserved c = c.in_ok-show_place.ensures ∙ ap (λ t. t ++ place_line c.in-Some.key.now c.in-Some.step.now) c.loop-key.invariant ∙ sym (one_more c.loop-key.yielded (c.in-Some.key, c.in-Some.step))
