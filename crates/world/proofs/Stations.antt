-- The offices of a world: what one of them did, all together.
use Rattle.std.proofs.Common.{◌≡◌, ℕ, ◌<◌, Bool, true, false, eqb, eqb-true, List, [], ◌∷◌, length, map, get_or, set, refl, sym, ap, ◌∙◌, subst, arith}
use Rattle.std.proofs.lemmas.List.{get_or-map, map-set, get_or-set_same, get_or-set_other, length-map, length-set}
use Rattle.std.proofs.lemmas.Bool.Decides.{nat_tests}
use mathlib.Core.Path.{fun_ext}
use Rattle.parcels.specs.Book.{pick}
use Rattle.parcels.specs.Calls.{Limits}
use Rattle.book.specs.declared.opening.Opening.{Opening}
use Rattle.moves.specs.Stage.{stage_limits, limits_of}
use Rattle.promises.specs.World.{Memory, with_memory}
use Rattle.session.specs.Exchanging.{Begun}
use Rattle.world.specs.declared.station.Station.{Station}
use Rattle.world.specs.Stations.{words_of, memory_at, IsOpened, Numbered}

-- the memory of an office that is there
pub memory_there : (ss : List Station) (o : ℕ) (x : Station) → o < length ss → get_or ss o x ≡ x → memory_at ss o ≡ words_of x
memory_there ss o x there is = get_or-map words_of ss o x [] there ∙ ap words_of is

-- what is so of an office that is there, whatever stands for those that are not, is so of its memory
pub begun_at : (l : Limits) (ss : List Station) (o : ℕ) → o < length ss → ((d : Station) → Begun l o (words_of (get_or ss o d))) → Begun l o (memory_at ss o)
begun_at l [] o there begins = absurd (omega arith)
begun_at l (x ∷ xs) o there begins = subst (Begun l o) (sym (get_or-map words_of (x ∷ xs) o x [] there)) (begins x)

-- one office's memory changed
pub memory_set : (ss : List Station) (o : ℕ) (y : Station) → o < length ss → memory_at (set ss o y) ≡ with_memory (memory_at ss) o (words_of y)
memory_set ss o y there = fun_ext (λ q. ap (λ ms. get_or ms q []) (map-set words_of ss o y) ∙ at q (eqb q o) refl)
  where
    at : (q : ℕ) (t : Bool) → eqb q o ≡ t → get_or (set (map words_of ss) o (words_of y)) q [] ≡ pick t (words_of y) (memory_at ss q)
    at q true e =
        subst (λ k. get_or (set (map words_of ss) o (words_of y)) k [] ≡ words_of y) (sym (eqb-true q o e)) (get_or-set_same (map words_of ss) o (words_of y) [] (omega (arith, there, length-map ss words_of)))
    at q false e = get_or-set_other (map words_of ss) o q (words_of y) [] (grind (arith, nat_tests))

-- it keeps its number
pub numbered_set : (ss : List Station) (o n p : ℕ) (x y : Station) → o < length ss → get_or ss o x ≡ x → y.opening ≡ x.opening → Numbered ss n p → Numbered (set ss o y) n p
numbered_set ss o n p x y there is same numbered k d low = at (eqb k o) refl
  where
    at : (t : Bool) → eqb k o ≡ t → IsOpened (get_or (set ss o y) k d).opening n k p
    at true e =
        let k_is : k ≡ o = eqb-true k o e in
        let opened : IsOpened (get_or ss o x).opening n o p = numbered o x there in
        subst (λ j. IsOpened (get_or (set ss o y) j d).opening n j p) (sym k_is)
        (subst (λ (s : Station). IsOpened s.opening n o p) (sym (get_or-set_same ss o y d there)) (subst (λ (z : Opening). IsOpened z n o p) (ap (λ (s : Station). s.opening) is ∙ sym same) opened))
    at false e =
        subst (λ (s : Station). IsOpened s.opening n k p) (sym (get_or-set_other ss o k y d (grind (arith, nat_tests)))) (numbered k d (omega (arith, low, length-set ss o y)))

-- what is so of an office by what it was opened with and by its words is so of it by the world's limits and its number there
pub done_there : (ss : List Station) (o n p : ℕ) (x : Station) (P : Limits → ℕ → Memory → Type 0) → o < length ss → get_or ss o x ≡ x → Numbered ss n p → P (limits_of x.opening) x.opening.own (words_of x) → P (stage_limits n p) o (memory_at ss o)
done_there ss o n p x P there is numbered so =
    let opened : IsOpened x.opening n o p = subst (λ (s : Station). IsOpened s.opening n o p) is (numbered o x there) in
    let limits : limits_of x.opening ≡ stage_limits n p = ap (λ k. stage_limits k x.opening.parcels) opened.0 ∙ ap (stage_limits n) opened.2 in
    rw (memory_there ss o x there is, ← limits, ← opened.1) so
