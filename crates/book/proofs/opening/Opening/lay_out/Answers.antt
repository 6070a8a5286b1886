use Rattle.std.proofs.Common.{arith}
use Rattle.book.proofs.Empty.{laid_out}
use Rattle.book.proofs.opening.Opening.lay_out.Goals as goal

pub returns : goal.returns
returns c =
    laid_out c.args.self.now.own c.args.self.now.parcels c.args.memory.now c.clear.new.memory (omega (arith, c.words.ensures.value, c.if-memory-words.false))
    c.clear.auto.memory c.clear.ensures
