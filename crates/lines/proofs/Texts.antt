-- What is written of a line's bytes.
use Rattle.std.proofs.Common.{◌≡◌, ℕ, ◌+◌, ◌<◌, List, [], ◌∷◌, ◌++◌, length, take, get_or, codes, decimal, sym, ap, ◌∙◌, append_assoc}
use Rattle.std.proofs.lemmas.List.{append-nil, take_more}
use Rattle.lines.specs.Texts.{rest_text}
use Rattle.lines.specs.Tokens.{byte_tokens}

bytes_text-append : (vs : List ℕ) (b : ℕ) → rest_text (byte_tokens (vs ++ b ∷ [])) ≡ rest_text (byte_tokens vs) ++ (codes " " ++ decimal b)
bytes_text-append [] b = ap (λ xs. codes " " ++ xs) (append-nil (decimal b))
bytes_text-append (v ∷ vs) b = ap (λ xs. codes " " ++ (decimal v ++ xs)) (bytes_text-append vs b) ∙ ap (λ xs. codes " " ++ xs) (sym (append_assoc (decimal v) (rest_text (byte_tokens vs)) (codes " " ++ decimal b)))

pub bytes_text-more : (vs : List ℕ) (i : ℕ) → i < length vs → rest_text (byte_tokens (take i vs)) ++ (codes " " ++ decimal (get_or vs i 0)) ≡ rest_text (byte_tokens (take (i + 1) vs))
bytes_text-more vs i h = sym (ap (λ xs. rest_text (byte_tokens xs)) (take_more vs i 0 h) ∙ bytes_text-append (take i vs) (get_or vs i 0))
