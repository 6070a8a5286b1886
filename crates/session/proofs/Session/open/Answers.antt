use Rattle.std.proofs.Common.{arith, rules}
use Rattle.session.proofs.Begun.{begun}
use Rattle.session.proofs.Session.open.Goals as goal

pub returns-clause-begun : goal.returns-clause-begun
returns-clause-begun c =
    begun c.args.offices c.args.own c.args.parcels c.args.memory.now c.lay_out.new.memory c.in_ok-opening.opening (search rules) c.lay_out.auto.memory (λ i. omega (arith, c.type_inv.memory i))
