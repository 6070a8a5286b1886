use Rattle.std.proofs.Common.{◌≡◌, ℕ, List, length, refl, arith}
use Rattle.wire.proofs.Numbers.{value, filled_up, held}
use Rattle.wire.proofs.number.read_number.Goals as goal

pub returns : goal.returns
returns c =
    let bs : List ℕ = c.args.part.now in
    let read : c.join.result ≡ value bs = filled_up bs _ (length bs) _ refl c.requires c.copy_from_slice.ensures.after c.join.ensures in
    let (bytes, fits) = held (length bs) bs c.join.result refl (λ i. omega (arith, c.type_inv.part i)) read in
    record { bytes = bytes; fits = fits }
