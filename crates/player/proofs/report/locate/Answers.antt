use Rattle.std.proofs.Common.{string_bytes}
use Rattle.player.specs.Cut.{text_of}
use Rattle.player.proofs.report.locate.Goals as goal

pub returns : goal.returns
returns c = (
  c.locate-ran.result,
  text_of c.locate-ran.new.self.lines,
  string_bytes c.locate-ran.new.self.shown,
  rw (c.new-playing.ensures.lines, c.new-playing.ensures.budget) at c.locate-ran.ensures.value,
  rw (c.locate-ran.ensures.budget, c.new-playing.ensures.budget) at c.conclude.ensures,
)
