-- Bytes that are read one after the other.
use Rattle.std.proofs.Common.{◌≡◌, ℕ, ◌^◌, List, [], ◌∷◌, ◌++◌, length, refl, sym, ap, ◌∙◌, subst, append_assoc, arith}
use Rattle.std.proofs.lemmas.Bool.{false≢true}
use Rattle.std.specs.Char.{is_ascii_digit}
use Rattle.lines.specs.Tokens.{behind, first_number, HasNumberBelow, Stand, byte_tokens}

-- what was read up to now, and what is left
pub record IsReadTo (start : List ℕ) (read left : List ℕ) : Type 0 where
  pub to : (vs end : List ℕ) → Stand (byte_tokens vs) left end → Stand (byte_tokens (read ++ vs)) start end
  pub from : (vs : List ℕ) → Stand (byte_tokens vs) start [] → (ws : List ℕ) × Stand (byte_tokens ws) left [] × (vs ≡ read ++ ws)

-- where bytes stand, and not nothing, one stands first
pub first_of : (ws left : List ℕ) → (length left ≡ 0 → ⊥) → Stand (byte_tokens ws) left [] → HasNumberBelow (2 ^ 8) left × ((vs : List ℕ) × Stand (byte_tokens vs) (behind is_ascii_digit left) [] × (ws ≡ first_number left ∷ vs))
first_of [] left some r = absurd (some (ap length r))
first_of (w ∷ ws) left some r = (r.0, (ws, r.2, ap (λ n. n ∷ ws) (sym r.1)))

-- where nothing is left, none stands
pub none_of : (ws left : List ℕ) → length left ≡ 0 → Stand (byte_tokens ws) left [] → ws ≡ []
none_of [] left e r = refl
none_of (w ∷ ws) [] e r = absurd (false≢true r.0.0)
none_of (w ∷ ws) (b ∷ bs) e r = absurd (omega arith)

pub IsReadTo-none : (start : List ℕ) → IsReadTo start [] start
IsReadTo-none start = record { to = λ vs end r. r; from = λ vs r. (vs, r, refl) }

-- with one byte more
pub IsReadTo-more : (start read left : List ℕ) → IsReadTo start read left → HasNumberBelow (2 ^ 8) left → (length left ≡ 0 → ⊥) → IsReadTo start (read ++ first_number left ∷ []) (behind is_ascii_digit left)
IsReadTo-more start read left h one some = record {
  to = λ vs end r. subst (λ xs. Stand (byte_tokens xs) start end) (sym (append_assoc read (first_number left ∷ []) vs)) (h.to (first_number left ∷ vs) end (one, refl, r));
  from = λ vs r.
      let before = h.from vs r in
      let next = first_of before.0 left some before.1 in
      (next.1.0, next.1.1, before.2 ∙ ap (λ xs. read ++ xs) next.1.2 ∙ sym (append_assoc read (first_number left ∷ []) next.1.0));
}
