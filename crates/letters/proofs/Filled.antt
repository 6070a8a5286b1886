-- A letter that was put into an envelope: the bytes then, and what is read from them.
use Rattle.std.proofs.Common.{◌≡◌, ℕ, ◌+◌, ◌*◌, ◌^◌, ◌<◌, ◌≤◌, List, ◌++◌, length, take, drop, refl, sym, ap, ◌∙◌, append_assoc, arith}
use borrow.Rule.Slice.PartMut.{put_mid}
use Rattle.std.proofs.lemmas.List.{length-append, length-drop, length-take-le, take_at, drop_at, drop-drop, take-append-drop}
use Rattle.std.proofs.lemmas.Nat.{from_le_bytes-to_le_bytes_4}
use Rattle.letters.specs.Envelope.{Letter, lent_for_letter, letter_in, filled, envelope_at}

-- a part more, behind those that were written
put_behind : (front e ys : List ℕ) (i k : ℕ) → length front ≡ i → put_mid i k (front ++ drop i e) ys ≡ front ++ (ys ++ drop (i + k) e)
put_behind front e ys i k long = rw (take_at front (drop i e) i long, drop_at front (drop i e) i long, drop-drop k i e) refl

-- bytes 8 to 15, and what is behind them
kept_free : (e : List ℕ) → drop 8 e ≡ take 8 (drop 8 e) ++ drop 16 e
kept_free e = sym (take-append-drop 8 (drop 8 e)) ∙ ap (λ z. take 8 (drop 8 e) ++ z) (drop-drop 8 8 e)

-- the head's parts and the letter, written one after the other
pub filled_up : (e a b t : List ℕ) (n : ℕ) → length e ≡ lent_for_letter → length a ≡ 4 → length b ≡ 4 → n ≡ length t →
    put_mid 16 n (put_mid 4 4 (a ++ drop 4 e) b) t ≡ a ++ (b ++ (take 8 (drop 8 e) ++ (t ++ drop (16 + length t) e)))
filled_up e a b t n room one two is =
    let front : List ℕ = a ++ (b ++ take 8 (drop 8 e)) in
    let head : put_mid 4 4 (a ++ drop 4 e) b ≡ front ++ drop 16 e =
    put_behind a e b 4 4 one ∙ ap (λ z. a ++ (b ++ z)) (kept_free e) ∙ rw (append_assoc a (b ++ take 8 (drop 8 e)) (drop 16 e), append_assoc b (take 8 (drop 8 e)) (drop 16 e)) refl in
    let long : length front ≡ 16 = omega (arith, length-append a (b ++ take 8 (drop 8 e)), length-append b (take 8 (drop 8 e)), length-take-le 8 (drop 8 e) (omega (arith, length-drop 8 e))) in
    rw (head, is) (put_behind front e t 16 (length t) long ∙ rw (append_assoc a (b ++ take 8 (drop 8 e)) (t ++ drop (16 + length t) e), append_assoc b (take 8 (drop 8 e)) (t ++ drop (16 + length t) e)) refl)

-- what is read from an envelope that was filled
pub letter_back : (x : Letter) (e : List ℕ) → length e ≡ lent_for_letter → x.to < 2 ^ 32 → length x.text < 2 ^ 32 → letter_in (filled x e) ≡ x
letter_back x e room to len =
    let free : length (take 8 (drop 8 e)) ≡ 8 = length-take-le 8 (drop 8 e) (omega (arith, length-drop 8 e)) in
    let text : take (length x.text) (drop 8 (take 8 (drop 8 e) ++ (x.text ++ drop (16 + length x.text) e))) ≡ x.text =
    ap (take (length x.text)) (drop_at (take 8 (drop 8 e)) (x.text ++ drop (16 + length x.text) e) 8 free) ∙ take_at x.text (drop (16 + length x.text) e) (length x.text) refl in
    rw (from_le_bytes-to_le_bytes_4 x.to to, from_le_bytes-to_le_bytes_4 (length x.text) len, text) refl

-- the envelope that was filled among lent bytes
pub envelope_there : (lent ys : List ℕ) (nth n : ℕ) → n ≡ lent_for_letter → lent_for_letter * nth ≤ length lent → length ys ≡ lent_for_letter → envelope_at (put_mid (lent_for_letter * nth) n lent ys) nth ≡ ys
envelope_there lent ys nth n is room long =
    let start : ℕ = lent_for_letter * nth in
    let rest : List ℕ = ys ++ drop lent_for_letter (drop start lent) in
    rw (is, drop_at (take start lent) rest start (length-take-le start lent room)) (take_at ys (drop lent_for_letter (drop start lent)) lent_for_letter long)
