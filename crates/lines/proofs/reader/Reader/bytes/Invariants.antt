use Rattle.std.proofs.Common.{length}
use Rattle.lines.proofs.Bytes.{IsReadTo}
use Rattle.lines.proofs.reader.Reader.bytes.Given as goal

abbrev pub invariant-loop-bytes : goal.invariant-loop-bytes
invariant-loop-bytes l = IsReadTo l.initial.self l.bytes.items l.self

abbrev pub decreases-loop-bytes : goal.decreases-loop-bytes
decreases-loop-bytes l = length l.self
