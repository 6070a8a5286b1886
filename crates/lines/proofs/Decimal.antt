-- How a value grows with each digit.
use Rattle.std.proofs.Common.{◌≡◌, ℕ, ◌+◌, ◌-◌, ◌*◌, ◌<◌, ◌≤◌, List, [], ◌∷◌, length, get_or, drop, fold, sym, ap, ◌∙◌, subst, le_refl, add-one, arith, drop_of_length-le, drop-cons}
use Rattle.lines.specs.Decimal.{with_digit, value_of}

pub grows : (n : ℕ) (ds : List ℕ) → n ≤ fold with_digit n ds
grows n [] = le_refl n
grows n (d ∷ ds) = omega (arith, grows (with_digit n d) ds)

-- after the digit at i, where d is what it stands for
pub one_digit : (ds : List ℕ) (i n d : ℕ) → i < length ds → d ≡ get_or ds i 0 - 48 → fold with_digit n (drop i ds) ≡ value_of ds → fold with_digit (n * 10 + d) (drop (i + 1) ds) ≡ value_of ds
one_digit ds i n d h e inv =
    ap (λ x. fold with_digit (n * 10 + x) (drop (i + 1) ds)) e ∙ ap (λ j. fold with_digit (with_digit n (get_or ds i 0)) (drop j ds)) (add-one i) ∙ sym (ap (fold with_digit n) (drop-cons ds i 0 h)) ∙ inv

-- after the last digit
pub all_digits : (ds : List ℕ) (i n : ℕ) → length ds ≤ i → fold with_digit n (drop i ds) ≡ value_of ds → n ≡ value_of ds
all_digits ds i n h inv = sym (ap (fold with_digit n) (drop_of_length-le ds h)) ∙ inv

-- the whole value is no smaller than that with the digit at i
pub too_large : (ds : List ℕ) (i n d : ℕ) → i < length ds → d ≡ get_or ds i 0 - 48 → fold with_digit n (drop i ds) ≡ value_of ds → n * 10 + d ≤ value_of ds
too_large ds i n d h e inv = subst (λ v. n * 10 + d ≤ v) (one_digit ds i n d h e inv) (grows (n * 10 + d) (drop (i + 1) ds))
