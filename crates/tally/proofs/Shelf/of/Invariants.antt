use Rattle.std.proofs.Common.{◌≡◌, ◌≤◌}
use Rattle.parcels.specs.Book.{how_many_here, first_here}
use Rattle.tally.specs.Told.{next_from}
use Rattle.tally.proofs.Rows.{first_rows}
use Rattle.tally.proofs.Shelf.of.Given as goal

abbrev pub invariant-loop-done : goal.invariant-loop-done
invariant-loop-done l =
    record {
      count : l.shelf.count ≡ how_many_here (first_rows l.memory l.done);
      first : next_from l.shelf.first ≡ first_here (first_rows l.memory l.done) l.from;
      few : l.shelf.count ≤ l.done;
    }
