-- Numbers in so many bytes, low byte first: which number bytes hold, and that no other has the same bytes.
use Rattle.std.proofs.Common.{◌≡◌, ℕ, zero, suc, ◌+◌, ◌-◌, ◌*◌, ◌/◌, ◌%◌, ◌^◌, ◌<◌, ◌≤◌, List, [], ◌∷◌, ◌++◌, length, get_or, take, drop, replicate, sym, refl, ap, ◌∙◌, pow-suc, arith}
use Rattle.std.specs.Int.{w64, from_le_bytes}
use native.Mathlib.Nat.{div-div-eq-div-mul}
use Rattle.std.proofs.lemmas.List.{drop_more, drop_all, drop-replicate, length-append, length-replicate}
use Rattle.std.proofs.lemmas.List.Elements.{All-from_get_or, All-head, All-tail}
use Rattle.std.specs.List.{All}
use Rattle.wire.specs.Layout.{little_endian}

-- the number that bytes hold
unfoldable pub value : List ℕ → ℕ
value [] = 0
value (b ∷ bs) = b + 256 * value bs

pub little_endian_value : (bs : List ℕ) → All (λ b. b < 256) bs → little_endian (length bs) (value bs) ≡ bs
unfolding little_endian value
little_endian_value [] h = refl
little_endian_value (b ∷ bs) h =
    let first : b < 256 = All-head (λ c. c < 256) b bs h in
    let low : (b + 256 * value bs) % 256 ≡ b = omega arith in
    let high : (b + 256 * value bs) / 256 ≡ value bs = omega arith in
    rw (low, high, little_endian_value bs (All-tail (λ c. c < 256) b bs h))

pub little_endian_8 : (n : ℕ) →
    little_endian 8 n
    ≡ n % 256 ∷ (n / 256 % 256 ∷ (n / 65536 % 256 ∷ (n / 16777216 % 256 ∷ (n / 4294967296 % 256 ∷ (n / 1099511627776 % 256 ∷ (n / 281474976710656 % 256 ∷ (n / 72057594037927936 % 256 ∷ [])))))))
unfolding little_endian
little_endian_8 n = simp div-div-eq-div-mul

-- the number that bytes hold from some place on, byte by byte
pub value_from : (bs : List ℕ) (i : ℕ) → i < length bs → value (drop i bs) ≡ get_or bs i 0 + 256 * value (drop (i + 1) bs)
unfolding value
value_from bs i h = ap value (drop_more bs i 0 h)

pub value_end : (bs : List ℕ) (i : ℕ) → length bs ≤ i → value (drop i bs) ≡ 0
unfolding value
value_end bs i h = ap value (drop_all i bs h)

-- zeros behind bytes leave their number as it is
pub value_zeros : (bs : List ℕ) (k : ℕ) → value (bs ++ replicate k 0) ≡ value bs
unfolding value
value_zeros [] zero = refl
value_zeros [] (suc k) = omega (arith, value_zeros [] k)
value_zeros (b ∷ bs) k = omega (arith, value_zeros bs k)

pub value_small : (bs : List ℕ) → All (λ b. b < 256) bs → value bs < 256 ^ length bs
unfolding value
value_small [] h = omega arith
value_small (b ∷ bs) h = omega (arith, All-head (λ c. c < 256) b bs h, value_small bs (All-tail (λ c. c < 256) b bs h), pow-suc 256 (length bs))

-- eight bytes by the library's words
from_le_bytes_value : (bs : List ℕ) → length bs ≡ 8 → from_le_bytes w64 bs ≡ value bs
from_le_bytes_value bs long =
    omega (
      arith,
      value_from bs 0 (omega arith),
      value_from bs 1 (omega arith),
      value_from bs 2 (omega arith),
      value_from bs 3 (omega arith),
      value_from bs 4 (omega arith),
      value_from bs 5 (omega arith),
      value_from bs 6 (omega arith),
      value_from bs 7 (omega arith),
      value_end bs 8 (omega arith),
    )

-- the number of at most eight bytes, filled up with zeros
pub filled_up : (bs ys : List ℕ) (w n : ℕ) → length bs ≡ w → w ≤ 8 → ys ≡ bs → n ≡ from_le_bytes w64 (ys ++ drop w (replicate 8 0)) → n ≡ value bs
filled_up bs ys w n long room copied read =
    let more : List ℕ = replicate (8 - w) 0 in
    let zeros : drop w (replicate 8 0) ≡ more = drop-replicate w 8 0 in
    let count : length more ≡ 8 - w = length-replicate (8 - w) 0 in
    let whole : length (bs ++ more) ≡ 8 = omega (arith, length-append bs more, count) in
    read ∙ ap (λ (front : List ℕ). from_le_bytes w64 (front ++ drop w (replicate 8 0))) copied ∙ ap (λ (rest : List ℕ). from_le_bytes w64 (bs ++ rest)) zeros ∙ from_le_bytes_value (bs ++ more) whole ∙ value_zeros bs (8 - w)

-- so many bytes are those of the number that they hold, and it fits them
pub held : (k : ℕ) (bs : List ℕ) (n : ℕ) → length bs ≡ k → ((i : ℕ) → get_or bs i 0 < 256) → n ≡ value bs → (bs ≡ little_endian k n) × (n < 256 ^ k)
held k bs n long low e =
    let small : All (λ b. b < 256) bs = All-from_get_or (λ b. b < 256) bs 0 (λ i _. low i) in
    (sym (little_endian_value bs small) ∙ rw (long, e), rw (sym long, e) (value_small bs small))

-- the front of a number's bytes is the number in fewer
pub take_little_endian : (k m n : ℕ) → k ≤ m → take k (little_endian m n) ≡ little_endian k n
unfolding little_endian
take_little_endian zero m n h = refl
take_little_endian (suc k) zero n h = absurd (omega arith)
take_little_endian (suc k) (suc m) n h = ap (λ rest. n % 256 ∷ rest) (take_little_endian k m (n / 256) (omega arith))
