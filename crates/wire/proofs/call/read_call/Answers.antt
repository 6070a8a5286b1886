use Rattle.std.proofs.Common.{◌≡◌, ◌∷◌, ◌<◌, ℕ, List, sym, subst, rules, arith}
use Rattle.std.specs.List.{All}
use Rattle.std.proofs.lemmas.List.Elements.{All-from_get_or, All-rest}
use Rattle.wire.specs.Calls.{Reads}
use Rattle.wire.proofs.CallReadings.{from_tagged, one_reading, reads_written}
use Rattle.wire.proofs.call.read_call.Goals as goal

pub returns : goal.returns
returns c =
    let row : List ℕ = c.args.row.now in
    let first : ℕ = c.in-Some.first.now in
    let body : List ℕ = c.in-Some.body.now in
    let split : row ≡ first ∷ body = search rules in
    let small : All (λ b. b < 256) row = All-from_get_or (λ b. b < 256) row 0 (λ i _. omega (arith, c.type_inv.row i)) in
    let value : Reads row c.read_tagged.result =
    subst (λ (bytes : List ℕ). Reads bytes c.read_tagged.result) (sym split) (from_tagged first body c.read_tagged.result (All-rest (λ b. b < 256) first body row split small) c.read_tagged.ensures) in
    record { value = value; written = reads_written row c.read_tagged.result value; only = λ s. one_reading row c.read_tagged.result s value }
