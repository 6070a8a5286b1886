-- Lists of a parcel's steps: that they come in turn, also with one more behind them; which step is which; and that none comes
-- behind the one by which the parcel was handed out.
use Rattle.std.proofs.Common.{◌≡◌, ℕ, zero, suc, Bool, true, false, eqb, eq-eqb, eqb-true, ◌<◌, ◌⊎◌, inl, inr, is_some, List, [], ◌∷◌, ◌++◌, length, slice_get, slice_index_or, ◌-◌, Some, None, Option, refl, sym, ap, ◌∙◌, subst, arith}
use Rattle.std.proofs.lemmas.Option.{slice_get-get_or}
use Rattle.std.proofs.lemmas.Bool.{or_cases, or_left, or_right}
use Rattle.parcels.specs.Book.{pick, was_handed_out}
use Rattle.parcels.specs.declared.Step.{Step}
use Rattle.parcels.specs.declared.Kind.{Kind}
use Rattle.parcels.specs.declared.Kind.TheVariants.{Accepted, SentOn, ComeIn, HandedOut}
use Rattle.promises.specs.Truth.{Move, last_of}
use Rattle.promises.specs.Promise.{no_move, some_handed_out, Whereabouts, unknown, at_office, on_the_way, gone, goes_on, in_turn}
use Rattle.promises.specs.Way.{IsStep}

-- where a parcel is in its way after a step of this kind, which this office made
abbrev pub way_by : Kind → ℕ → Whereabouts
way_by Accepted o = at_office o
way_by SentOn o = on_the_way
way_by ComeIn o = at_office o
way_by HandedOut o = gone

-- whether a step of the second kind can come next after one of the first, each made by an office
abbrev pub follows : ℕ → Kind → ℕ → Kind → ℕ → Bool
follows home k o next q = is_some (goes_on home (way_by k o) next q)

-- no step comes after a parcel was handed out
none_more : (home : ℕ) (k : Kind) (o : ℕ) → goes_on home gone k o ≡ None
none_more home Accepted o = refl
none_more home SentOn o = refl
none_more home ComeIn o = refl
none_more home HandedOut o = refl

-- what a test lets through is so
let_through : (home : ℕ) (t : Bool) (w : Whereabouts) (ms : List Move) → in_turn home (pick t (Some w) None) ms ≡ true → pick t (Some w) None ≡ Some w
unfolding in_turn
let_through home true w ms h = refl
let_through home false w ms h = absurd (cc)

-- where steps come in turn, the first one goes on from where the parcel was, and it leaves the parcel where it tells
on_from : (home : ℕ) (w : Whereabouts) (k : Kind) (o : ℕ) (ms : List Move) → in_turn home (goes_on home w k o) ms ≡ true → goes_on home w k o ≡ Some (way_by k o)
unfolding in_turn
on_from home unknown Accepted o ms h = let_through home (eqb o home) (at_office o) ms h
on_from home (at_office q) SentOn o ms h = let_through home (eqb o q) on_the_way ms h
on_from home (at_office q) HandedOut o ms h = let_through home (eqb o q) gone ms h
on_from home on_the_way ComeIn o ms h = refl
on_from home gone k o ms h = absurd (cc (none_more home k o))
on_from home w k o ms h = cc

-- a step that is not the first of a list is one of the rest, of a number less by one
later : (s : Move) (ms : List Move) (n : ℕ) (k : Kind) (o : ℕ) → IsStep (s ∷ ms) (suc n) k o → IsStep ms n k o
later s ms n k o is = (omega arith, is.1)

earlier : (s : Move) (ms : List Move) (n : ℕ) (k : Kind) (o : ℕ) → IsStep ms n k o → IsStep (s ∷ ms) (suc n) k o
earlier s ms n k o is = (omega arith, is.1)

-- the first step of a parcel that took none yet is that it is accepted, at its origin
pub turn_first : (home : ℕ) (ms : List Move) → length ms ≡ 0 → in_turn home (Some unknown) (ms ++ record { kind = Accepted; office = home } ∷ []) ≡ true
unfolding in_turn
turn_first home [] none = subst (λ t. in_turn home (pick t (Some (at_office home)) None) [] ≡ true) (sym (eq-eqb home home refl)) refl
turn_first home (m ∷ ms) none = absurd (omega arith)

-- it is no other
first_is : (home : ℕ) (k : Kind) (o : ℕ) (ms : List Move) → in_turn home (goes_on home unknown k o) ms ≡ true → (k ≡ Accepted) × (o ≡ home)
unfolding in_turn
first_is home Accepted o ms h = go (eqb o home) refl h
  where
    go : (t : Bool) → eqb o home ≡ t → in_turn home (pick t (Some (at_office o)) None) ms ≡ true → (Accepted ≡ Accepted) × (o ≡ home)
    go true same h = (refl, eqb-true o home same)
    go false other h = absurd (cc)
first_is home k o ms h = absurd (cc)

pub begins : (home : ℕ) (ms : List Move) → in_turn home (Some unknown) ms ≡ true → 0 < length ms → IsStep ms 0 Accepted home
unfolding in_turn
begins home [] h some = absurd (omega arith)
begins home (m ∷ ms) h some = let (kind, at) = first_is home m.kind m.office ms h in (omega arith, λ i. record { kind = kind i; office = at i })

-- so a step that comes in turn behind none is that one
pub first_made : (home : ℕ) (ms : List Move) (m : Move) → in_turn home (Some unknown) (ms ++ m ∷ []) ≡ true → length ms ≡ 0 → (m.kind ≡ Accepted) × (m.office ≡ home)
unfolding in_turn
first_made home [] m h none = first_is home m.kind m.office [] h
first_made home (s ∷ ms) m h none = absurd (omega arith)

-- steps that have come so far are in turn
ends : (home : ℕ) (w : Option Whereabouts) → is_some w ≡ true → in_turn home w [] ≡ true
unfolding in_turn
ends home None h = absurd (cc)
ends home (Some w) h = refl

-- one more step goes on from the last one, if it can come next
turn_more : (home : ℕ) (w : Option Whereabouts) (ms : List Move) (n : ℕ) (k : Kind) (o : ℕ) (m : Move) → in_turn home w ms ≡ true → IsStep ms n k o → suc n ≡ length ms → follows home k o m.kind m.office ≡ true →
    in_turn home w (ms ++ m ∷ []) ≡ true
unfolding in_turn
turn_more home None ms n k o m h is last next = absurd (cc)
turn_more home (Some w) [] n k o m h is last next = absurd (omega arith)
turn_more home (Some w) (s ∷ ms) (suc n) k o m h is last next = turn_more home (goes_on home w s.kind s.office) ms n k o m h (later s ms n k o is) (omega arith) next
turn_more home (Some w) (s ∷ []) zero k o m h is last next =
    subst (λ v. in_turn home v (m ∷ []) ≡ true) (sym (on_from home w s.kind s.office [] h ∙ ap (λ x. Some (way_by x.kind x.office)) is.1)) (ends home (goes_on home (way_by k o) m.kind m.office) next)
turn_more home (Some w) (s ∷ t ∷ ms) zero k o m h is last next = absurd (omega arith)

pub turn_next : (home : ℕ) (ms : List Move) (n : ℕ) (k : Kind) (o : ℕ) (m : Move) → in_turn home (Some unknown) ms ≡ true → IsStep ms n k o → suc n ≡ length ms → follows home k o m.kind m.office ≡ true →
    in_turn home (Some unknown) (ms ++ m ∷ []) ≡ true
turn_next home = turn_more home (Some unknown)

-- steps stay what they are, whatever comes behind them
pub step_still : (ms more : List Move) (n : ℕ) (k : Kind) (o : ℕ) → IsStep ms n k o → IsStep (ms ++ more) n k o
step_still [] more n k o is = absurd (omega arith)
step_still (s ∷ ms) more zero k o is = (omega arith, is.1)
step_still (s ∷ ms) more (suc n) k o is = earlier s (ms ++ more) n k o (step_still ms more n k o (later s ms n k o is))

-- one more step is the last one
pub step_new : (ms : List Move) (k : Kind) (o : ℕ) → IsStep (ms ++ record { kind = k; office = o } ∷ []) (length ms) k o
step_new [] k o = (omega arith, refl)
step_new (s ∷ ms) k o = earlier s (ms ++ record { kind = k; office = o } ∷ []) (length ms) k o (step_new ms k o)

-- and each other one was there before
pub step_was : (ms : List Move) (m : Move) (n : ℕ) (k : Kind) (o : ℕ) → IsStep (ms ++ m ∷ []) n k o → IsStep ms n k o ⊎ ((n ≡ length ms) × (m ≡ record { kind = k; office = o }))
step_was [] m zero k o is = inr (refl, is.1)
step_was [] m (suc n) k o is = absurd (omega arith)
step_was (s ∷ ms) m zero k o is = inl (omega arith, is.1)
step_was (s ∷ ms) m (suc n) k o is =
    elim (step_was ms m n k o (later s (ms ++ m ∷ []) n k o is)) [
      | inl old ↦ inl (earlier s ms n k o old)
      | inr new ↦ inr (ap suc new.0, new.1)
    ]

-- what was handed out stays handed out
pub handed_still : (ms more : List Move) → some_handed_out ms ≡ true → some_handed_out (ms ++ more) ≡ true
unfolding some_handed_out
handed_still [] more h = absurd (cc)
handed_still (s ∷ ms) more h =
    elim (or_cases (was_handed_out s.kind) (some_handed_out ms) h) [
      | inl now ↦ or_left (was_handed_out s.kind) (some_handed_out (ms ++ more)) now
      | inr after ↦ or_right (was_handed_out s.kind) (some_handed_out (ms ++ more)) (handed_still ms more after)
    ]

-- and where it was, it was by the steps that came first or by those behind them
pub handed_by : (ms more : List Move) → some_handed_out (ms ++ more) ≡ true → (some_handed_out ms ≡ true) ⊎ (some_handed_out more ≡ true)
unfolding some_handed_out
handed_by [] more out = inr out
handed_by (s ∷ ms) more out =
    elim (or_cases (was_handed_out s.kind) (some_handed_out (ms ++ more)) out) [
      | inl now ↦ inl (or_left (was_handed_out s.kind) (some_handed_out ms) now)
      | inr after ↦ elim (handed_by ms more after) [ inl some ↦ inl (or_right (was_handed_out s.kind) (some_handed_out ms) some) | inr others ↦ inr others ]
    ]

-- a parcel was handed out, if one of its steps is of that kind
pub step_handed : (ms : List Move) (n : ℕ) (k : Kind) (o : ℕ) → IsStep ms n k o → was_handed_out k ≡ true → some_handed_out ms ≡ true
unfolding some_handed_out
step_handed [] n k o is out = absurd (omega arith)
step_handed (s ∷ ms) zero k o is out = or_left (was_handed_out s.kind) (some_handed_out ms) (ap (λ m. was_handed_out m.kind) is.1 ∙ out)
step_handed (s ∷ ms) (suc n) k o is out = or_right (was_handed_out s.kind) (some_handed_out ms) (step_handed ms n k o (later s ms n k o is) out)

-- a step is of one kind, and one office made it
pub step_same : (ms : List Move) (n n' : ℕ) (k k' : Kind) (o o' : ℕ) → IsStep ms n k o → IsStep ms n' k' o' → n ≡ n' → (k ≡ k') × (o ≡ o')
step_same ms n n' k k' o o' one other at =
    let same : record { kind = k; office = o } ≡ record { kind = k'; office = o' } = sym one.1 ∙ ap (λ i. slice_index_or ms i no_move) at ∙ other.1 in
    (ap (λ (m : Move). m.kind) same, ap (λ (m : Move). m.office) same)

-- where steps come in turn, none comes behind the one by which the parcel is handed out
gone_ends : (home : ℕ) (w : Whereabouts) (k : Kind) (o : ℕ) (ms : List Move) → was_handed_out k ≡ true → in_turn home (goes_on home w k o) ms ≡ true → ms ≡ []
unfolding in_turn
gone_ends home w HandedOut o [] out h = refl
gone_ends home w HandedOut o (s ∷ ms) out h = absurd (cc (on_from home w HandedOut o (s ∷ ms) h, none_more home s.kind s.office))
gone_ends home w k o ms out h = absurd (cc)

nothing_behind : (ms more : List Move) → ms ++ more ≡ [] → more ≡ []
nothing_behind [] more h = h
nothing_behind (s ∷ ms) more h = cc

-- so nothing comes behind steps of which one is that
pub none_behind : (home : ℕ) (w : Option Whereabouts) (ms more : List Move) → in_turn home w (ms ++ more) ≡ true → some_handed_out ms ≡ true → more ≡ []
unfolding in_turn some_handed_out
none_behind home None ms more h out = absurd (cc)
none_behind home (Some w) [] more h out = absurd (cc)
none_behind home (Some w) (s ∷ ms) more h out =
    elim (or_cases (was_handed_out s.kind) (some_handed_out ms) out) [
      | inl now ↦ nothing_behind ms more (gone_ends home w s.kind s.office (ms ++ more) now h)
      | inr after ↦ none_behind home (goes_on home w s.kind s.office) ms more h after
    ]

pub handed_out : (k : Kind) → was_handed_out k ≡ true → k ≡ HandedOut
handed_out HandedOut h = refl
handed_out k h = cc

-- and the parcel was handed out by the last one
pub handed_last : (home : ℕ) (w : Option Whereabouts) (ms : List Move) → in_turn home w ms ≡ true → some_handed_out ms ≡ true → (n o : ℕ) × (suc n ≡ length ms) × IsStep ms n HandedOut o
unfolding in_turn some_handed_out
handed_last home None ms h out = absurd (cc)
handed_last home (Some w) [] h out = absurd (cc)
handed_last home (Some w) (s ∷ ms) h out =
    elim (or_cases (was_handed_out s.kind) (some_handed_out ms) out) [
      | inl now ↦ (0, s.office, sym (ap (λ x. suc (length x)) (gone_ends home w s.kind s.office ms now h)), (omega arith, ap (λ k. record { kind = k; office = s.office }) (handed_out s.kind now)))
      | inr after ↦ let (n, o, last, is) = handed_last home (goes_on home w s.kind s.office) ms h after in (suc n, o, ap suc last, earlier s ms n HandedOut o is)
    ]

-- the last of a parcel's steps is a step, behind which there is none
pub last_is : (ms : List Move) (s : Step) → last_of ms ≡ Some s → IsStep ms s.number s.kind s.office × (suc s.number ≡ length ms)
last_is [] s is = absurd (cc)
last_is (m ∷ ms) s is =
    let n : ℕ = length (m ∷ ms) - 1 in
    let last : Move = slice_index_or (m ∷ ms) n no_move in
    let found : slice_get (m ∷ ms) n ≡ Some last = slice_get-get_or (m ∷ ms) n no_move (omega arith) in
    let at : s ≡ record { number = n; kind = last.kind; office = last.office } = cc (is, found) in
    subst (λ (x : Step). IsStep (m ∷ ms) x.number x.kind x.office × (suc x.number ≡ length (m ∷ ms))) (sym at) ((omega arith, refl), omega arith)
