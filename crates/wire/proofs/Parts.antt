-- What a part of a row holds, for things of any kind whose values fit eight bytes each.
use Rattle.std.proofs.Common.{◌≡◌, ℕ, ◌*◌, Bool, true, List, length, Some, None, Option, sym, ap, ◌∙◌}
use Rattle.parcels.specs.Numbers.{eight_bytes, all_below}
use Rattle.wire.specs.Layout.{in_row, Holds}
use Rattle.wire.specs.Answers.{ReadsPart}
use Rattle.wire.specs.Carried.{FromNumbers}
use Rattle.wire.proofs.Values.{length_in_row, same_values}

module _ {X : Type 0} (can : X → Bool) (values : X → List ℕ) (small : (x : X) → can x ≡ true → all_below eight_bytes (values x) ≡ true) (n : ℕ) (count : (x : X) → length (values x) ≡ n) (part : List ℕ) where
  pub wrong_length : Holds 8 n part None → ReadsPart can values part None
  wrong_length differ x fits e = differ (ap length e ∙ length_in_row 8 (values x) ∙ ap (λ k. 8 * k) (count x))

  pub by_numbers : (ns : List ℕ) (r : Option X) → Holds 8 n part (Some ns) → FromNumbers can values ns r → ReadsPart can values part r
  by_numbers ns (Some x) (long, low, held) (fits, same) = (fits, held ∙ ap (in_row 8) (sym same))
  by_numbers ns None (long, low, held) none = λ x fits e. none x fits (same_values 8 (values x) ns (small x fits) low (count x ∙ sym long) (sym e ∙ held))
