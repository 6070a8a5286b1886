use Rattle.std.proofs.Common.{◌≡◌, Ok}
use Rattle.lines.proofs.Said.{only_take}
use Rattle.lines.proofs.read_call.Goals as goal

pub returns-in-Take-clause-reads : goal.returns-in-Take-clause-reads
returns-in-Take-clause-reads c = rw (c.in-Take.is, ← c.set_example.ensures) (only_take (λ x. c.read_take_in.result ≡ Ok x) _ _ c.read_take_in.ensures.reads)
