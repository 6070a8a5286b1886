use Rattle.std.proofs.Common.{string_bytes}
use Rattle.player.specs.Cut.{text_of}
use Rattle.player.proofs.report.play.Goals as goal

pub returns : goal.returns
returns c = (
  c.play-ran.result,
  text_of c.play-ran.new.self.lines,
  string_bytes c.play-ran.new.self.shown,
  rw (c.new-playing.ensures.lines, c.new-playing.ensures.budget) at c.play-ran.ensures.value,
  rw (c.play-ran.ensures.budget, c.new-playing.ensures.budget) at c.conclude.ensures,
)
