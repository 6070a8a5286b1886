-- Bytes written into lent ones, part behind part.
use Rattle.std.proofs.Common.{◌≡◌, ℕ, ◌+◌, ◌<◌, ◌≤◌, List, [], ◌∷◌, ◌++◌, length, get_or, take, drop, ◌-◌, ◌*◌, sym, ap, ◌∙◌, append_assoc, mul-suc, arith}
use borrow.Rule.Slice.PartMut.{put_mid}
use Rattle.std.proofs.lemmas.List.{length-append, length-drop, length-take-le, take_at, drop_at, drop-drop, take_more}
use Rattle.std.proofs.lemmas.Nat.{mul-le}
use Rattle.wire.specs.Layout.{little_endian, in_row, Written}
use Rattle.wire.proofs.Values.{length_little_endian, in_row_push}

-- a part more
pub and_part : {front before after : List ℕ} (i k : ℕ) (ys zs : List ℕ) → Written front before after i → ys ≡ zs → length zs ≡ k → Written (front ++ zs) before (put_mid i k after ys) (i + k)
and_part {front} {before} {after} i k ys zs w e long =
    record {
      count = omega (arith, w.count, length-append front zs);
      filled =
          let low : take i after ≡ front = ap (take i) w.filled ∙ take_at front (drop i before) i (sym w.count) in
          let high : drop i after ≡ drop i before = ap (drop i) w.filled ∙ drop_at front (drop i before) i (sym w.count) in
          let rest : drop k (drop i after) ≡ drop (i + k) before = ap (drop k) high ∙ drop-drop k i before in
          rw (low, e, rest) (sym (append_assoc front zs (drop (i + k) before)));
    }

-- a number more, in so many bytes, behind a first byte and the numbers before it
pub one_more : {b n : ℕ} {before ys : List ℕ} (k i : ℕ) (ns after : List ℕ) → i < length ns → n ≡ get_or ns i 0 → k * length ns < length after
    → Written (b ∷ in_row k (take i ns)) before after (1 + k * i) → ys ≡ little_endian (length (take (1 + k * i + k - (1 + k * i)) (drop (1 + k * i) after))) n
    → Written (b ∷ in_row k (take (i + 1) ns)) before (put_mid (1 + k * i) (1 + k * i + k - (1 + k * i)) after ys) (1 + k * (i + 1))
one_more {b} {n} {before} {ys} k i ns after h is room w written =
    let within : 1 + k * i + k ≤ length after = omega (arith, mul-suc k i, mul-le k (i + 1) k (length ns) (omega arith) (omega arith)) in
    let far : 1 + k * i + k - (1 + k * i) ≡ k = omega arith in
    let long : length (take (1 + k * i + k - (1 + k * i)) (drop (1 + k * i) after)) ≡ k = omega (arith, length-drop (1 + k * i) after, length-take-le (1 + k * i + k - (1 + k * i)) (drop (1 + k * i) after) (omega (arith, length-drop (1 + k * i) after))) in
    let next : take (i + 1) ns ≡ take i ns ++ (n ∷ []) = take_more ns i 0 h ∙ ap (λ v. take i ns ++ (v ∷ [])) (sym is) in
    let bytes : in_row k (take (i + 1) ns) ≡ in_row k (take i ns) ++ little_endian k n = ap (in_row k) next ∙ in_row_push k (take i ns) n in
    let count : 1 + k * i + k ≡ 1 + k * (i + 1) = omega (arith, mul-suc k i) in
    rw (far, bytes, sym count) (and_part (1 + k * i) k ys (little_endian k n) w (written ∙ ap (λ (m : ℕ). little_endian m n) long) (length_little_endian k n))
