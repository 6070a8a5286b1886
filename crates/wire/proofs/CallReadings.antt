-- What a row of bytes is read as: the bytes of a call tell which it is, and no row has two readings.
use Rattle.std.proofs.Common.{◌≡◌, ℕ, zero, suc, ◌*◌, ◌<◌, ◌≤◌, min, true, List, [], ◌∷◌, ◌++◌, length, get_or, take, drop, replicate, Ok, Err, sym, refl, ap, ◌∙◌, subst, inl, inr, arith, rules}
use Rattle.std.proofs.lemmas.List.{append-nil, nil_from_length, drop_all, length-append, length-replicate, length-take-le, take-append-drop, take-take, take_all, take-append-le, get_or-take, get_or_append_left}
use Rattle.std.proofs.lemmas.List.Elements.{All-take, All-append, All-replicate}
use Rattle.std.specs.List.{All}
use Rattle.std.proofs.lemmas.Bool.{cases_lt}
use Rattle.parcels.specs.Numbers.{four_bytes, all_below, call_number, call_values}
use Rattle.parcels.specs.declared.Slip.{Slip}
use Rattle.parcels.specs.declared.Call.{Call}
use Rattle.parcels.specs.declared.Call.TheVariants.{Accept, Send, SlipAgain, TakeIn, HandOut, Pay, WhereIs, Here, Sums}
use Rattle.wire.specs.Layout.{in_row, readable, call_bytes}
use Rattle.wire.specs.declared.call.UnreadableCall.{UnreadableCall}
use Rattle.wire.specs.Calls.{Reading, call_count, IsCall, FitsUntil, Reads, ReadsWritten, OnlyReading, Tagged}
use Rattle.wire.proofs.Values.{length_in_row, same_values, values_of, values_held, next_value}

-- how many values the call with this number has
field_count : ℕ → ℕ
field_count k = get_or (2 ∷ (2 ∷ (1 ∷ (6 ∷ (1 ∷ (1 ∷ (1 ∷ (1 ∷ [])))))))) k 0

count_fields : (c : Call) → length (call_values c) ≡ field_count (call_number c)
unfolding field_count
count_fields c = search rules

-- the call with this number and these values
call_of : ℕ → List ℕ → Call
call_of k vs =
    let v : ℕ → ℕ = λ i. get_or vs i 0 in
    let slip : Slip = record { key = v 0; step = v 1; from = v 2; to = v 3; dest = v 4; amount = v 5 } in
    get_or (Accept (v 0) (v 1) ∷ (Send (v 0) (v 1) ∷ (SlipAgain (v 0) ∷ (TakeIn slip ∷ (HandOut (v 0) ∷ (Pay (v 0) ∷ (WhereIs (v 0) ∷ (Here (v 0) ∷ [])))))))) k Sums

call_again : (c : Call) → call_of (call_number c) (call_values c) ≡ c
unfolding call_of
call_again c = search rules

same_length : (c d : Call) → call_number c ≡ call_number d → length (call_bytes c) ≡ length (call_bytes d)
same_length c d e =
    let same : length (call_values c) ≡ length (call_values d) = count_fields c ∙ ap field_count e ∙ sym (count_fields d) in
    omega (arith, length_in_row 4 (call_values c), length_in_row 4 (call_values d))

-- the bytes of a call tell which it is
pub same_call : (c d : Call) → readable c ≡ true → readable d ≡ true → call_bytes c ≡ call_bytes d → c ≡ d
same_call c d fits small e =
    let number : call_number c ≡ call_number d = ap (λ bs. get_or bs 0 0) e in
    let values : call_values c ≡ call_values d =
    same_values 4 (call_values c) (call_values d) fits small (count_fields c ∙ ap field_count number ∙ sym (count_fields d)) (ap (drop 1) e) in
    sym (call_again c) ∙ ap (λ k. call_of k (call_values c)) number ∙ ap (call_of (call_number d)) values ∙ call_again d

-- where two fronts of a row are the longest that some call begins with, they are as long
not_below : (row : List ℕ) (j k : ℕ) → FitsUntil row j → FitsUntil row k → k ≤ j
not_below row j k f g = elim (cases_lt j k) [ inl h ↦ absurd (f.no_longer k h g.within g.begins) | inr h ↦ h ]

abbrev pub unreadable_at : ℕ → UnreadableCall
unreadable_at k = record { place = k }

-- no row has two readings
pub one_reading : (row : List ℕ) (r s : Reading) → Reads row r → Reads row s → r ≡ s
one_reading row (Ok c) (Ok d) (fits, e) (small, f) = ap Ok (same_call c d fits small (sym e ∙ f))
one_reading row (Ok c) (Err _) r (none, f) = absurd (none c r)
one_reading row (Err _) (Ok c) (none, f) r = absurd (none c r)
one_reading row (Err d) (Err e) (_, f) (_, g) = ap (λ (k : ℕ). Err (unreadable_at k)) (let a = not_below row d.place e.place f g in let b = not_below row e.place d.place g f in omega arith)

pub reads_written : (row : List ℕ) (r : Reading) → Reads row r → ReadsWritten row r
reads_written row r reads c fits = (λ e. one_reading row r (Ok c) reads (fits, e), λ e. (subst (λ (s : Reading). Reads row s) e reads).1)

-- the first byte of a row with which a call begins is the call's number
number_first : (d : Call) (row rest : List ℕ) (j : ℕ) → 0 < j → j ≤ length row → call_bytes d ≡ take j row ++ rest → call_number d ≡ get_or row 0 0
number_first d row rest j some within e =
    let one : 0 < length (take j row) = omega (arith, length-take-le j row within) in
    ap (λ bs. get_or bs 0 0) e ∙ get_or_append_left (take j row) rest 0 0 one ∙ get_or-take j row 0 0 some

all_of : (row : List ℕ) → row ≡ take (length row) row ++ []
all_of row = sym (append-nil (take (length row) row) ∙ take_all (length row) row (omega arith))

-- a row and a call that agree as far as both go
record Agree (row : List ℕ) (c : Call) (k : ℕ) : Type 0 where
  pub fits : readable c ≡ true
  pub far : k ≡ min (length row) (length (call_bytes c))
  pub same : take k row ≡ take k (call_bytes c)

-- then each call that begins with more of the row has the same number, and is as long
as_long : (row rest : List ℕ) (c d : Call) (j k : ℕ) → Agree row c k → 0 < j → j ≤ length row → call_bytes d ≡ take j row ++ rest → length (call_bytes d) ≡ length (call_bytes c)
as_long row rest c d j k a some within e =
    let one : 0 < k = omega (arith, a.far) in
    let number : call_number c ≡ get_or row 0 0 = sym (get_or-take k (call_bytes c) 0 0 one) ∙ ap (λ bs. get_or bs 0 0) (sym a.same) ∙ get_or-take k row 0 0 one in
    same_length d c (number_first d row rest j some within e ∙ sym number)

fits_until : (row : List ℕ) (c : Call) (k : ℕ) → Agree row c k → FitsUntil row k
fits_until row c k a =
    record {
      within = omega (arith, a.far);
      begins = (c, a.fits, (drop k (call_bytes c), sym (take-append-drop k (call_bytes c)) ∙ ap (λ bs. bs ++ drop k (call_bytes c)) (sym a.same)));
      no_longer = λ j more within (d, _, (rest, e)).
          let long : length (call_bytes d) ≡ length (call_bytes c) = as_long row rest c d j k a (omega arith) within e in
          omega (arith, a.far, ap length e, length-append (take j row) rest, length-take-le j row within);
    }

no_call : (row : List ℕ) (c : Call) (k : ℕ) → Agree row c k → (length row ≡ length (call_bytes c) → ⊥) → (d : Call) → IsCall row d → ⊥
no_call row c k a differ d (_, e) =
    differ
    (ap length e
    ∙ as_long row [] c d (length row) k a (omega (arith, ap length e)) (omega arith) (sym e ∙ all_of row))

-- a row whose first byte no call has
pub no_number : (row : List ℕ) → ((c : Call) → 0 < length row → call_number c ≡ get_or row 0 0 → ⊥) → Reads row (Err (unreadable_at 0))
no_number row none =
    let begins_none : (d : Call) (rest : List ℕ) (j : ℕ) → 0 < j → j ≤ length row → call_bytes d ≡ take j row ++ rest → ⊥ =
    λ d rest j some within e. none d (omega arith) (number_first d row rest j some within e) in (
      λ d (_, e). begins_none d [] (length row) (omega (arith, ap length e)) (omega arith) (sym e ∙ all_of row),
      record {
        within = omega arith;
        begins = (Sums, refl, (8 ∷ [], refl));
        no_longer = λ j more within (d, _, (rest, e)). begins_none d rest j more within e;
      },
    )

-- a row of no bytes is no call, and ends at place 0
pub no_bytes : (row : List ℕ) → length row ≡ 0 → Reads row (Err (unreadable_at 0))
no_bytes row empty = no_number row (λ d some e. omega arith)

pub no_bytes_written : (row : List ℕ) → length row ≡ 0 → ReadsWritten row (Err (unreadable_at 0))
no_bytes_written row empty = reads_written row (Err (unreadable_at 0)) (no_bytes row empty)

pub no_bytes_only : (row : List ℕ) → length row ≡ 0 → OnlyReading row (Err (unreadable_at 0))
no_bytes_only row empty = λ s. one_reading row (Err (unreadable_at 0)) s (no_bytes row empty)

number_small : (c : Call) → call_number c < call_count
number_small c = search rules

-- lists of so many values, value by value
one_listed : (vs : List ℕ) → length vs ≡ 1 → vs ≡ get_or vs 0 0 ∷ []
one_listed vs long = next_value vs 0 (omega arith) (drop_all 1 vs (omega arith))

two_listed : (vs : List ℕ) → length vs ≡ 2 → vs ≡ get_or vs 0 0 ∷ (get_or vs 1 0 ∷ [])
two_listed vs long = next_value vs 0 (omega arith) (next_value vs 1 (omega arith) (drop_all 2 vs (omega arith)))

six_listed : (vs : List ℕ) → length vs ≡ 6 → vs ≡ get_or vs 0 0 ∷ (get_or vs 1 0 ∷ (get_or vs 2 0 ∷ (get_or vs 3 0 ∷ (get_or vs 4 0 ∷ (get_or vs 5 0 ∷ [])))))
six_listed vs long =
    next_value vs 0 (omega arith) (next_value vs 1 (omega arith) (next_value vs 2 (omega arith) (next_value vs 3 (omega arith) (next_value vs 4 (omega arith) (next_value vs 5 (omega arith) (drop_all 6 vs (omega arith)))))))

-- some call has this number and these values
some_call : (k : ℕ) (vs : List ℕ) → k < call_count → length vs ≡ field_count k → (c : Call) × (call_number c ≡ k) × (call_values c ≡ vs)
unfolding field_count call_of
some_call zero vs h long = (call_of 0 vs, refl, sym (two_listed vs long))
some_call (suc zero) vs h long = (call_of 1 vs, refl, sym (two_listed vs long))
some_call (suc (suc zero)) vs h long = (call_of 2 vs, refl, sym (one_listed vs long))
some_call (suc (suc (suc zero))) vs h long = (call_of 3 vs, refl, sym (six_listed vs long))
some_call (suc (suc (suc (suc zero)))) vs h long = (call_of 4 vs, refl, sym (one_listed vs long))
some_call (suc (suc (suc (suc (suc zero))))) vs h long = (call_of 5 vs, refl, sym (one_listed vs long))
some_call (suc (suc (suc (suc (suc (suc zero)))))) vs h long = (call_of 6 vs, refl, sym (one_listed vs long))
some_call (suc (suc (suc (suc (suc (suc (suc zero))))))) vs h long = (call_of 7 vs, refl, sym (one_listed vs long))
some_call (suc (suc (suc (suc (suc (suc (suc (suc zero)))))))) vs h long = (call_of 8 vs, refl, sym (nil_from_length vs long))
some_call (suc (suc (suc (suc (suc (suc (suc (suc (suc k))))))))) vs h long = absurd (omega arith)

-- a row that is cut off within the fields of a call, or goes on behind them, is none, and fits until there
cut_or_longer : (c : Call) (body : List ℕ) (k : ℕ) → readable c ≡ true → (length body ≡ 4 * length (call_values c) → ⊥) → k ≡ suc (min (length body) (4 * length (call_values c)))
    → take (min (length body) (4 * length (call_values c))) body ≡ take (min (length body) (4 * length (call_values c))) (in_row 4 (call_values c))
    → Reads (call_number c ∷ body) (Err (unreadable_at k))
cut_or_longer c body k fits differ far same =
    let row : List ℕ = call_number c ∷ body in
    let long : length (in_row 4 (call_values c)) ≡ 4 * length (call_values c) = length_in_row 4 (call_values c) in
    let agreed : take k row ≡ take k (call_bytes c) = ap (λ j. take j row) far ∙ ap (λ rest. call_number c ∷ rest) same ∙ sym (ap (λ j. take j (call_bytes c)) far) in
    let a : Agree row c k = record { fits = fits; far = omega arith; same = agreed } in
    (no_call row c k a (λ e. differ (omega arith)), fits_until row c k a)

-- the bytes of a body, filled up with zeros or cut to so many fields
filled : ℕ → List ℕ → List ℕ
filled n body = take (4 * n) (body ++ replicate (4 * n) 0)

module _ (n : ℕ) (body : List ℕ) where
  filled_length : length (filled n body) ≡ 4 * n
  unfolding filled
  filled_length =
      let zeros : List ℕ = replicate (4 * n) 0 in
      let count : length zeros ≡ 4 * n = length-replicate (4 * n) 0 in
      length-take-le (4 * n) (body ++ zeros) (omega (arith, length-append body zeros, count))

  filled_small : All (λ b. b < 256) body → All (λ b. b < 256) (filled n body)
  unfolding filled
  filled_small small = All-take (λ b. b < 256) (4 * n) (body ++ replicate (4 * n) 0) (All-append (λ b. b < 256) body (replicate (4 * n) 0) small (All-replicate (λ b. b < 256) (4 * n) 0 (omega arith)))

  filled_front : (m : ℕ) → m ≤ 4 * n → m ≤ length body → take m (filled n body) ≡ take m body
  unfolding filled
  filled_front m low within = take-take m (4 * n) (body ++ replicate (4 * n) 0) low ∙ take-append-le m body (replicate (4 * n) 0) within

-- the call with this number whose fields the body begins, or is begun by
begun : (first : ℕ) (body : List ℕ) → first < call_count → All (λ b. b < 256) body
    → (c : Call) × (call_number c ≡ first) × (readable c ≡ true) × (take (min (length body) (4 * length (call_values c))) body ≡ take (min (length body) (4 * length (call_values c))) (in_row 4 (call_values c)))
begun first body h small =
    let n : ℕ = field_count first in
    let (long, low, held) = values_held 4 n (filled n body) (filled_length n body) (filled_small n body small) in
    let (c, number, values) = some_call first (values_of 4 n (filled n body)) h long in
    (c, number, ap (all_below four_bytes) values ∙ low, begun_by c body n values long held)
  where
    begun_by : (c : Call) (bs : List ℕ) (k : ℕ) → call_values c ≡ values_of 4 k (filled k bs) → length (values_of 4 k (filled k bs)) ≡ k → in_row 4 (values_of 4 k (filled k bs)) ≡ filled k bs
        → take (min (length bs) (4 * length (call_values c))) bs ≡ take (min (length bs) (4 * length (call_values c))) (in_row 4 (call_values c))
    begun_by c bs k values long held =
        let m : ℕ = min (length bs) (4 * length (call_values c)) in
        let count : length (call_values c) ≡ k = ap length values ∙ long in
        sym (ap (take m) (ap (in_row 4) values ∙ held) ∙ filled_front k bs m (omega arith) (omega arith))

-- what a row is, by its first byte and those behind it
pub from_tagged : (first : ℕ) (body : List ℕ) (r : Reading) → All (λ b. b < 256) body → Tagged first body r → Reads (first ∷ body) r
from_tagged first body (Ok c) small (number, fits, is) = (fits, ap (λ b. b ∷ body) (sym number) ∙ ap (λ rest. call_number c ∷ rest) is)
from_tagged first body (Err d) small (place, unknown) =
    elim (cases_lt first call_count) [
      | inl h ↦
          let (c, number, fits, same) = begun first body h small in
          let (differ, far) = place c number in
          subst (λ (b : ℕ). Reads (b ∷ body) (Err d)) number (cut_or_longer c body d.place fits differ far same)
      | inr h ↦ subst (λ (j : ℕ). Reads (first ∷ body) (Err (unreadable_at j))) (sym (unknown h)) (no_number (first ∷ body) (λ c _ e. omega (arith, number_small c)))
    ]
