-- What is left of a line when a token was taken.
use Rattle.std.proofs.Common.{◌≡◌, ℕ, suc, ◌+◌, Bool, true, false, List, [], ◌∷◌, drop, refl, arith}
use Rattle.std.specs.List.{prefix_len}
use Rattle.lines.specs.Tokens.{first_passes, is_blank, without_blanks}

pub drop-one_more : (n b : ℕ) (bs : List ℕ) → drop (1 + n) (b ∷ bs) ≡ drop n bs
drop-one_more n b bs = let e : 1 + n ≡ suc n = omega arith in rw e refl

none_first_by : (test : ℕ → Bool) (b : ℕ) (bs : List ℕ) (v : Bool) → test b ≡ v → first_passes test (drop (prefix_len test bs) bs) ≡ false → first_passes test (drop (prefix_len test (b ∷ bs)) (b ∷ bs)) ≡ false
none_first_by test b bs true e h = rw e (rw (drop-one_more (prefix_len test bs) b bs) h)
none_first_by test b bs false e h = rw e e

-- behind the bytes at the front that pass a test stands none that does
none_first : (test : ℕ → Bool) (bs : List ℕ) → first_passes test (drop (prefix_len test bs) bs) ≡ false
none_first test [] = refl
none_first test (b ∷ bs) = none_first_by test b bs (test b) refl (none_first test bs)

-- no blank is left at the front
pub no_blank_first : (bs : List ℕ) → first_passes is_blank (without_blanks bs) ≡ false
no_blank_first bs = none_first is_blank bs
