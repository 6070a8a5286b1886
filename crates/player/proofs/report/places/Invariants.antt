use Rattle.std.proofs.Common.{◌≡◌, map, string_bytes}
use Rattle.std.specs.Map.Iter.{deref_pair}
use Rattle.player.specs.Report.{place_lines}
use Rattle.player.proofs.report.places.Given as goal

abbrev pub invariant-loop-key : goal.invariant-loop-key
invariant-loop-key l = string_bytes l.shown ≡ place_lines (map deref_pair l.yielded)
