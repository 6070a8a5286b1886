-- Values one behind the other: how many bytes they take, and that no other values have the same bytes.
use Rattle.std.proofs.Common.{◌≡◌, ℕ, zero, suc, ◌+◌, ◌*◌, ◌/◌, ◌^◌, ◌<◌, true, ltb, List, [], ◌∷◌, ◌++◌, length, get_or, take, drop, sym, refl, ap, ◌∙◌, subst, pow-suc, mul-suc, arith, ltb-true}
use Rattle.std.proofs.lemmas.List.{append-nil, append_assoc, length-append, length-drop, length-take-le, nil_from_length, take-append-drop, drop-drop, take_at, drop_at, drop_more}
use Rattle.std.proofs.lemmas.Bool.{and_parts, and_from, lt-ltb}
use Rattle.parcels.specs.Numbers.{all_below}
use Rattle.wire.specs.Layout.{little_endian, in_row}
use Rattle.wire.proofs.Numbers.{value, value_small, little_endian_value}
use Rattle.std.specs.List.{All}
use Rattle.std.proofs.lemmas.List.Elements.{All-take, All-drop}

pub length_little_endian : (k n : ℕ) → length (little_endian k n) ≡ k
unfolding little_endian
length_little_endian zero n = refl
length_little_endian (suc k) n = ap suc (length_little_endian k (n / 256))

pub length_in_row : (k : ℕ) (vs : List ℕ) → length (in_row k vs) ≡ k * length vs
length_in_row k [] = omega arith
length_in_row k (v ∷ vs) = omega (arith, length-append (little_endian k v) (in_row k vs), length_little_endian k v, length_in_row k vs, mul-suc k (length vs))

value_little_endian : (k n : ℕ) → n < 256 ^ k → value (little_endian k n) ≡ n
unfolding little_endian value
value_little_endian zero n h = omega arith
value_little_endian (suc k) n h =
    let high : n / 256 < 256 ^ k = omega (arith, pow-suc 256 k) in
    omega (arith, value_little_endian k (n / 256) high)

same_number : (k m n : ℕ) → m < 256 ^ k → n < 256 ^ k → little_endian k m ≡ little_endian k n → m ≡ n
same_number k m n small low e = sym (value_little_endian k m small) ∙ ap value e ∙ value_little_endian k n low

-- values that fit so many bytes each are known by their bytes
pub same_values : (k : ℕ) (vs ws : List ℕ) → all_below (256 ^ k) vs ≡ true → all_below (256 ^ k) ws ≡ true → length vs ≡ length ws → in_row k vs ≡ in_row k ws → vs ≡ ws
same_values k [] [] small low long e = refl
same_values k [] (w ∷ ws) small low long e = absurd (omega arith)
same_values k (v ∷ vs) [] small low long e = absurd (omega arith)
same_values k (v ∷ vs) (w ∷ ws) small low long e =
    let p = and_parts (ltb v (256 ^ k)) (all_below (256 ^ k) vs) small in
    let q = and_parts (ltb w (256 ^ k)) (all_below (256 ^ k) ws) low in
    let first : little_endian k v ≡ little_endian k w = sym (take_at (little_endian k v) (in_row k vs) k (length_little_endian k v)) ∙ ap (take k) e ∙ take_at (little_endian k w) (in_row k ws) k (length_little_endian k w) in
    let rest : in_row k vs ≡ in_row k ws = sym (drop_at (little_endian k v) (in_row k vs) k (length_little_endian k v)) ∙ ap (drop k) e ∙ drop_at (little_endian k w) (in_row k ws) k (length_little_endian k w) in
    let here : v ≡ w = same_number k v w (ltb-true v (256 ^ k) p.0) (ltb-true w (256 ^ k) q.0) first in
    let there : vs ≡ ws = same_values k vs ws p.1 q.1 (omega arith) rest in
    cc

-- one value more at the end
pub in_row_push : (k : ℕ) (vs : List ℕ) (v : ℕ) → in_row k (vs ++ (v ∷ [])) ≡ in_row k vs ++ little_endian k v
in_row_push k [] v = append-nil (little_endian k v)
in_row_push k (x ∷ xs) v = ap (λ rest. little_endian k x ++ rest) (in_row_push k xs v) ∙ sym (append_assoc (little_endian k x) (in_row k xs) (little_endian k v))

-- values one by one
pub next_value : {rest : List ℕ} (ns : List ℕ) (i : ℕ) → i < length ns → drop (i + 1) ns ≡ rest → drop i ns ≡ get_or ns i 0 ∷ rest
next_value ns i h e = drop_more ns i 0 h ∙ ap (λ rest. get_or ns i 0 ∷ rest) e

-- values by the bytes of each
pub in_row_each : (k : ℕ) (ns part : List ℕ) → length part ≡ k * length ns → ((i : ℕ) → i < length ns → take k (drop (k * i) part) ≡ little_endian k (get_or ns i 0)) → part ≡ in_row k ns
in_row_each k [] part long each = nil_from_length part (omega arith)
in_row_each k (n ∷ ns) part long each =
    let none : k * 0 ≡ 0 = omega arith in
    let first : take k part ≡ little_endian k n = ap (λ at. take k (drop at part)) (sym none) ∙ each 0 (omega arith) in
    let shorter : length (drop k part) ≡ k * length ns = omega (arith, length-drop k part, mul-suc k (length ns)) in
    let later : (i : ℕ) → k + k * i ≡ k * suc i = λ i. omega (arith, mul-suc k i) in
    let rest : drop k part ≡ in_row k ns =
    in_row_each k ns (drop k part) shorter (λ i h. ap (take k) (drop-drop (k * i) k part) ∙ ap (λ at. take k (drop at part)) (later i) ∙ each (suc i) (omega arith)) in
    sym (take-append-drop k part) ∙ ap (λ front. front ++ drop k part) first ∙ ap (λ more. little_endian k n ++ more) rest

pub all_below_each : (n : ℕ) (vs : List ℕ) → ((i : ℕ) → i < length vs → get_or vs i 0 < n) → all_below n vs ≡ true
all_below_each n [] each = refl
all_below_each n (v ∷ vs) each = and_from (ltb v n) (all_below n vs) (lt-ltb v n (each 0 (omega arith))) (all_below_each n vs (λ i h. each (suc i) (omega arith)))

-- the values, so many of so many bytes each, that bytes hold
pub values_of : ℕ → ℕ → List ℕ → List ℕ
values_of k zero bs = []
values_of k (suc n) bs = value (take k bs) ∷ values_of k n (drop k bs)

pub values_held : (k n : ℕ) (bs : List ℕ) → length bs ≡ k * n → All (λ b. b < 256) bs → (length (values_of k n bs) ≡ n) × (all_below (256 ^ k) (values_of k n bs) ≡ true) × (in_row k (values_of k n bs) ≡ bs)
unfolding values_of
values_held k zero bs long small = (refl, refl, sym (nil_from_length bs (omega arith)))
values_held k (suc n) bs long small =
    let count : length (take k bs) ≡ k = length-take-le k bs (omega (arith, mul-suc k n)) in
    let first : All (λ b. b < 256) (take k bs) = All-take (λ b. b < 256) k bs small in
    let fits : value (take k bs) < 256 ^ k = subst (λ (w : ℕ). value (take k bs) < 256 ^ w) count (value_small (take k bs) first) in
    let here : little_endian k (value (take k bs)) ≡ take k bs = ap (λ (w : ℕ). little_endian w (value (take k bs))) (sym count) ∙ little_endian_value (take k bs) first in
    let (rest, low, held) = values_held k n (drop k bs) (omega (arith, length-drop k bs, mul-suc k n)) (All-drop (λ b. b < 256) k bs small) in (
      ap suc rest,
      and_from (ltb (value (take k bs)) (256 ^ k)) (all_below (256 ^ k) (values_of k n (drop k bs))) (lt-ltb (value (take k bs)) (256 ^ k) fits) low,
      ap (λ front. front ++ in_row k (values_of k n (drop k bs))) here ∙ ap (λ more. take k bs ++ more) held ∙ take-append-drop k bs,
    )
