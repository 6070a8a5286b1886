use Rattle.std.proofs.Common.{arith}
use Rattle.book.proofs.Changes.{changed}
use Rattle.book.proofs.tree.change.Goals as goal

pub returns : goal.returns
returns c own parcels sound =
    changed own parcels c.args.memory.now c.write_entry.new.memory c.args.entry sound (omega arith) c.write_entry.auto.memory c.args.row c.requires.found c.write_entry.ensures
