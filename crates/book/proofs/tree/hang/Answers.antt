use Rattle.book.proofs.Kept.{accepted_within}
use Rattle.book.proofs.tree.hang.Goals as goal

pub counted-head-requires-clause-accepted : goal.counted-head-requires-clause-accepted
counted-head-requires-clause-accepted c =
    rw c.read_head.ensures (accepted_within c.args.opening.own c.args.opening.parcels c.args.memory.now c.requires.sound)
