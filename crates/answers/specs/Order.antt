-- In which order an answer's text tells its values: in that in which its bytes carry them.
use Rattle.std.specs.Prelude.{◌≡◌, ℕ, List, [], ◌∷◌, ◌++◌, codes, decimal}
use Rattle.parcels.specs.Numbers.{answer_values}
use Rattle.parcels.specs.declared.Answer.{Answer}
use Rattle.parcels.specs.declared.Answer.TheVariants.{Refused, Number, Given, At, NothingHeard, Two}
use Rattle.answers.specs.Texts.{answer_text}

-- the words before each value of an answer, or alone where it has none
abbrev pub answer_words : Answer → List (List ℕ)
answer_words (Refused r) = codes "refused " ∷ (codes " at " ∷ [])
answer_words (Number n) = codes "" ∷ []
answer_words (Given s) = codes "slip " ∷ (codes ": " ∷ (codes " " ∷ (codes " " ∷ (codes " " ∷ (codes " " ∷ [])))))
answer_words (At s) = codes "step " ∷ (codes ", kind " ∷ (codes ", office " ∷ []))
answer_words NothingHeard = codes "nothing heard" ∷ []
answer_words (Two m n) = codes "" ∷ (codes " " ∷ [])

-- words, each with its value behind it
abbrev pub with_values : List (List ℕ) → List ℕ → List ℕ
with_values [] vs = []
with_values (w ∷ ws) [] = w
with_values (w ∷ []) (v ∷ vs) = w ++ decimal v
with_values (w ∷ (x ∷ ws)) (v ∷ vs) = w ++ (decimal v ++ with_values (x ∷ ws) vs)

-- each answer's text is made from the values that its bytes are made from, in their order
abbrev pub MadeFromValues : Type 0
MadeFromValues = (a : Answer) → answer_text a ≡ with_values (answer_words a) (answer_values a)
