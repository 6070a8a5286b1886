use Rattle.std.proofs.Common.{◌≡◌, ◌≤◌, ◌*◌}
use Rattle.parcels.specs.Numbers.{four_bytes}
use Rattle.parcels.specs.Book.{collected, paid_out}
use Rattle.tally.proofs.Rows.{first_rows}
use Rattle.tally.proofs.Sums.of.Given as goal

abbrev pub invariant-loop-done : goal.invariant-loop-done
invariant-loop-done l =
    record {
      collected : l.sums.collected ≡ collected (first_rows l.memory l.done);
      paid_out : l.sums.paid_out ≡ paid_out (first_rows l.memory l.done);
      collected_fits : l.sums.collected ≤ four_bytes * l.done;
      paid_out_fits : l.sums.paid_out ≤ four_bytes * l.done;
    }
