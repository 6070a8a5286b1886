use Rattle.std.proofs.Common.{◌≡◌, ℕ, ◌*◌, ◌<◌, length, ap, refl, arith, rules}
use Rattle.std.proofs.lemmas.List.{length-set}
use Rattle.wire.proofs.Writing.{one_more}
use Rattle.wire.proofs.carried.write_row.Goals as goal

pub loop-i-preserved : goal.loop-i-preserved
loop-i-preserved g c =
    let count : length c.numbers.result ≡ g.row.N = search rules in
    let room : g.row.W * length c.numbers.result < length c.loop-i.out = omega (arith, ap (λ (k : ℕ). g.row.W * k) count, length-set c.args.out.now 0 c.args.first) in
    one_more g.row.W c.loop-i.i c.numbers.result c.loop-i.out (omega arith) refl room c.loop-i.invariant c.write_number.ensures
