-- Letters in envelopes, one behind the other: how many, and each by its number.
use Rattle.std.proofs.Common.{◌≡◌, ℕ, zero, suc, ◌<◌, List, [], ◌∷◌, ◌++◌, length, get_or, refl, sym, ap, ◌∙◌, subst, inl, inr, arith}
use Rattle.std.proofs.lemmas.List.{length-append, get_or_append_left}
use Rattle.std.proofs.lemmas.Bool.{cases_lt}
use Rattle.std.proofs.Math.Seq.{get_or-append_seam}
use Rattle.letters.specs.Envelope.{Letter, letter_in, envelope_at, first_letters, letters_in}

pub length_letters : (bs : List ℕ) (n : ℕ) → length (first_letters bs n) ≡ n
unfolding first_letters
length_letters bs zero = refl
length_letters bs (suc n) = omega (arith, length-append (first_letters bs n) (letter_in (envelope_at bs n) ∷ []), length_letters bs n)

pub nth_letter : (bs : List ℕ) (n k : ℕ) (d : Letter) → k < n → get_or (first_letters bs n) k d ≡ letter_in (envelope_at bs k)
unfolding first_letters
nth_letter bs zero k d low = absurd (omega (arith, low))
nth_letter bs (suc n) k d low =
    let before : List Letter = first_letters bs n in
    let last : Letter = letter_in (envelope_at bs n) in
    elim (cases_lt k n) [
      | inl h ↦ get_or_append_left before (last ∷ []) d k (omega (arith, h, length_letters bs n)) ∙ nth_letter bs n k d h
      | inr h ↦
          let here : k ≡ n = omega (arith, low, h) in
          subst (λ j. get_or (before ++ (last ∷ [])) j d ≡ letter_in (envelope_at bs k)) (length_letters bs n ∙ sym here)
          (get_or-append_seam before last [] d ∙ ap (λ j. letter_in (envelope_at bs j)) (sym here))
    ]

-- no bytes are no letters
pub none_in : (bs : List ℕ) → bs ≡ [] → letters_in bs ≡ []
unfolding first_letters
none_in bs e = rw e refl
