use Rattle.std.proofs.Common.{◌≡◌, ℕ, ◌*◌, ◌^◌, ◌<◌, List, length, get_or, take, drop, sym, ap, ◌∙◌, arith, rules}
use Rattle.wire.specs.Layout.{little_endian}
use Rattle.wire.proofs.Arrays.{each_made}
use Rattle.wire.proofs.Values.{in_row_each, all_below_each}
use Rattle.wire.proofs.number.read_numbers.Goals as goal

pub returns : goal.returns
returns g c =
    let part : List ℕ = c.args.part.now in
    let ns : List ℕ = c.from_fn.result in
    let count : length ns ≡ g.row.N = c.from_fn.ensures.items.long in
    let each : (i : ℕ) → i < length ns → (take g.row.W (drop (g.row.W * i) part) ≡ little_endian g.row.W (get_or ns i 0)) × (get_or ns i 0 < 256 ^ g.row.W) =
    λ i h. each_made _ (λ j n. (take g.row.W (drop (g.row.W * j) part) ≡ little_endian g.row.W n) × (n < 256 ^ g.row.W)) _ (λ j n q called. search rules) ns _ c.from_fn.ensures.items i 0 (omega arith) in
    (count, all_below_each (256 ^ g.row.W) ns (λ i h. (each i h).1), in_row_each g.row.W ns part (c.if-part.false ∙ ap (λ (k : ℕ). g.row.W * k) (sym count)) (λ i h. (each i h).0))
