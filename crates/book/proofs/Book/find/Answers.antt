use Rattle.book.proofs.Kept.{once}
use Rattle.book.proofs.Book.find.Goals as goal

pub returns-clause-once : goal.returns-clause-once
returns-clause-once c = once c.args.self.now.memory.now c.args.self.now.sound.tree
