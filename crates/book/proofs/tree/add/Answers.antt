use Rattle.std.proofs.Common.{arith}
use Rattle.book.proofs.Changes.{added, rows_left}
use Rattle.book.proofs.Kept.{leads_nowhere}
use Rattle.book.proofs.tree.add.Goals as goal

pub hang-requires-clause-room : goal.hang-requires-clause-room
hang-requires-clause-room c = rows_left c.args.opening.parcels c.args.memory.now c.requires.room

pub hang-requires-clause-within : goal.hang-requires-clause-within
hang-requires-clause-within c = (leads_nowhere c.args.memory.now c.requires.sound.tree c.args.entry.key (omega arith) c.args.end c.requires.found).0

pub returns : goal.returns
returns c =
    added c.args.opening.own c.args.opening.parcels c.args.memory.now c.hang.new.memory c.args.entry c.requires.sound (omega arith) c.hang.auto.memory c.args.end c.requires.found
    (rows_left c.args.opening.parcels c.args.memory.now c.requires.room) c.hang.ensures
