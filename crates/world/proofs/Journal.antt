-- The journal and what was said: one exchange more, and slips that were given out.
use Rattle.std.proofs.Common.{◌≡◌, ℕ, ◌+◌, ◌<◌, ◌⊎◌, List, [], ◌∷◌, ◌++◌, length, get_or, take, drop, Ok, sym, refl, ap, ◌∙◌, subst, inl, inr, append_assoc, append-nil, arith}
use Rattle.std.proofs.lemmas.List.{take_more, take-append-drop}
use Rattle.std.proofs.lemmas.List.Elements.{Contains-append_right}
use Rattle.std.specs.List.{Contains, HoldsAt}
use Rattle.parcels.specs.declared.Slip.{Slip}
use Rattle.parcels.specs.declared.Call.TheVariants.{Sums}
use Rattle.parcels.specs.declared.Answer.TheVariants.{Given, NothingHeard}
use Rattle.promises.specs.World.{Said, IsGiven}
use Rattle.world.specs.declared.Exchange.{Exchange}
use Rattle.world.specs.Journal.{history}

abbrev pub said_of : Exchange → Said
said_of x = record { at = x.at; reading = x.reading; answer = x.answer }

history_append : (xs ys : List Exchange) → history (xs ++ ys) ≡ history ys ++ history xs
unfolding history
history_append [] ys = sym (append-nil (history ys))
history_append (x ∷ xs) ys = ap (λ h. h ++ (said_of x ∷ [])) (history_append xs ys) ∙ append_assoc (history ys) (history xs) (said_of x ∷ [])

pub history_push : (xs : List Exchange) (x : Exchange) → history (xs ++ (x ∷ [])) ≡ said_of x ∷ history xs
unfolding history
history_push xs x = history_append xs (x ∷ [])

given_append : (s : Slip) (xs ys : List Said) → IsGiven s (xs ++ ys) → IsGiven s xs ⊎ IsGiven s ys
unfolding IsGiven
given_append s [] ys g = inr g
given_append s (x ∷ xs) ys (inl e) = inl (inl e)
given_append s (x ∷ xs) ys (inr g) = elim (given_append s xs ys g) [ inl h ↦ inl (inr h) | inr h ↦ inr h ]

given_later : (s : Slip) (xs ys : List Said) → IsGiven s ys → IsGiven s (xs ++ ys)
unfolding IsGiven
given_later s [] ys g = g
given_later s (x ∷ xs) ys g = inr (given_later s xs ys g)

-- a slip was given out just where one of the exchanges has it for its answer
pub given_by : (s : Slip) (xs : List Exchange) → IsGiven s (history xs) → (x : Exchange) × Contains xs x × (x.answer ≡ Given s)
unfolding IsGiven history
given_by s [] g = elim g [ ]
given_by s (x ∷ xs) g =
    elim (given_append s (history xs) (said_of x ∷ []) g) [
      | inl h ↦ let (y, there, e) = given_by s xs h in (y, Contains-append_right (x ∷ []) xs y there, e)
      | inr (inl e) ↦ (x, (0, omega arith, refl), e)
      | inr (inr none) ↦ elim none [ ]
    ]

pub given_at : (s : Slip) (xs : List Exchange) (i : ℕ) → i < length xs → HoldsAt (λ x. x.answer ≡ Given s) xs i → IsGiven s (history xs)
unfolding IsGiven
given_at s xs i h e =
    let d : Exchange = record { at = 0; reading = Ok Sums; answer = NothingHeard } in
    let here : IsGiven s (history (take (i + 1) xs)) = rw (take_more xs i d h, history_push (take i xs) (get_or xs i d)) (inl (e d)) in
    let all : IsGiven s (history (take (i + 1) xs ++ drop (i + 1) xs)) = rw (history_append (take (i + 1) xs) (drop (i + 1) xs)) (given_later s (history (drop (i + 1) xs)) (history (take (i + 1) xs)) here) in
    subst (λ (ys : List Exchange). IsGiven s (history ys)) (take-append-drop (i + 1) xs) all
