use Rattle.std.proofs.Common.{ℕ, ◌<◌, Result, Ok, Err, refl, arith}
use Rattle.std.proofs.lemmas.Nat.{and_le_r}
use Rattle.std.specs.Result.{IsOk}
use Rattle.parcels.specs.Numbers.{kind_number, ByNumber}
use Rattle.parcels.specs.declared.Kind.{Kind}
use Rattle.parcels.specs.declared.Kind.TheVariants.{Accepted, SentOn, ComeIn, HandedOut}
use Rattle.parcels.specs.declared.UnknownNumber.{UnknownNumber}
use Rattle.rows.proofs.kind_of.Goals as goal

-- each number of two bits is the number of a kind
some_kind : (n : ℕ) (r : Result Kind UnknownNumber) → n < 4 → ByNumber kind_number n r → IsOk r
some_kind n (Ok kind) small is = refl
some_kind n (Err e) small (_, none) = absurd (let a = none Accepted in let b = none SentOn in let c = none ComeIn in let d = none HandedOut in omega arith)

pub unwrap-requires : goal.unwrap-requires
unwrap-requires c = some_kind c.from.result c.try_from.result (omega (arith, c.from.ensures, and_le_r c.args.marks 3)) c.try_from.ensures
