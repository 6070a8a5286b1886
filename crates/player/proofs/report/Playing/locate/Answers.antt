use Rattle.std.proofs.Common.{rules, string_bytes}
use Rattle.player.specs.Cut.{text_of}
use Rattle.player.specs.Run.{at_of}
use Rattle.player.specs.Report.{no_world, world}
use Rattle.player.proofs.Run.{bad_file, plays, unshown_places}
use Rattle.player.proofs.report.Playing.locate.Goals as goal

pub returns-in_err-world-clause-value : goal.returns-in_err-world-clause-value
returns-in_err-world-clause-value c =
    rw (c.open.ensures.shown, c.requires) (no_world c.from_residual.result (text_of c.open.new.self.lines) (bad_file c.in_err-world.field-0.0 _ c.in_err-world.ensures.value (search rules)))

pub returns-in_err-self-clause-value : goal.returns-in_err-self-clause-value
returns-in_err-self-clause-value c =
    unshown_places {b = at_of c.run-ran.new.self c.run-ran.new.player} c.in_err-self.field-0.0 _ _ (plays {v = c.new-player.result.world} c.args.self.now.budget _ _ c.in_ok-world.ensures.value (search rules) (search rules) (search rules) c.run-ran.ensures.value) (search rules) (search rules) (search rules)

pub returns-clause-value : goal.returns-clause-value
returns-clause-value c =
    world {b = at_of c.run-ran.new.self c.run-ran.new.player} (string_bytes c.in_ok-self.field-0) (plays {v = c.new-player.result.world} c.args.self.now.budget _ _ c.in_ok-world.ensures.value (search rules) (search rules) (search rules) c.run-ran.ensures.value) (search rules)
