use Rattle.std.proofs.Common.{rules}
use Rattle.player.specs.Cut.{text_of}
use Rattle.player.specs.Run.{at_of}
use Rattle.player.specs.Report.{no_world, world}
use Rattle.player.proofs.Run.{bad_file, plays}
use Rattle.player.proofs.report.Playing.play.Goals as goal

pub returns-in_err-world-clause-value : goal.returns-in_err-world-clause-value
returns-in_err-world-clause-value c =
    rw (c.open.ensures.shown, c.requires) (no_world c.from_residual.result (text_of c.open.new.self.lines) (bad_file c.in_err-world.field-0.0 _ c.in_err-world.ensures.value (search rules)))

pub returns-clause-value : goal.returns-clause-value
returns-clause-value c =
    world {b = at_of c.run.new.self c.run.new.player} (plays {v = c.new.result.world} c.args.self.now.budget _ _ c.in_ok-world.ensures.value (search rules) (search rules) (search rules) c.run.ensures.value)
