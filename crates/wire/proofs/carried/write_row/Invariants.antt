use Rattle.std.proofs.Common.{◌+◌, ◌*◌, ◌∷◌, take}
use Rattle.wire.specs.Layout.{in_row, Written}
use Rattle.wire.proofs.carried.write_row.Given as goal

-- the first byte and the numbers below `i` are written
abbrev pub invariant-loop-i : goal.invariant-loop-i
invariant-loop-i g l = Written (l.first ∷ in_row g.row.W (take l.i l.n-items)) l.fn.out l.out (1 + g.row.W * l.i)
