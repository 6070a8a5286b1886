-- One exchange more: the last steps that are told of by it and those before.
use Rattle.std.proofs.Common.{◌≡◌, ℕ, ◌+◌, ◌-◌, ◌<◌, ◌≤◌, Bool, true, false, cond, List, [], ◌∷◌, ◌++◌, length, take, get_or, Some, None, Option, MatchOption, option_map, unwrap_or, slice_get, sym, refl, ap, ◌∙◌, ◌==◌, append-nil, arith}
use Rattle.std.specs.Ordering.{nat_cmp}
use Rattle.std.specs.BTreeMap.{BTreeMap, get, is_at, Updates}
use Rattle.std.proofs.lemmas.Bool.Decides.{nat_tests}
use Rattle.std.proofs.lemmas.List.{length-append, take_more}
use Rattle.std.proofs.lemmas.Option.{slice_get_read, slice_get-get_or}
use Rattle.std.proofs.Math.Seq.{get_or-append_seam}
use Rattle.parcels.specs.declared.Kind.{Kind}
use Rattle.parcels.specs.declared.Step.{Step}
use Rattle.promises.specs.Truth.{Move, one_move, last_of}
use Rattle.promises.specs.Beside.{steps_told}
use Rattle.world.specs.declared.Exchange.{Exchange}
use Rattle.world.specs.Journal.{history}
use Rattle.world.proofs.Journal.{history_push}
use Rattle.tracking.specs.declared.Told.{Told}
use Rattle.tracking.specs.Steps.{last_told, told_move, Tells}

-- a map has the last steps by so many exchanges, which tell of no more steps of a parcel than they are
pub record TellsFirst (count : ℕ) (xs : List Exchange) (steps : BTreeMap ℕ Step) : Type 0 where
  pub last : (q : ℕ) → get nat_cmp steps q ≡ last_told xs q
  pub few : (q : ℕ) → length (steps_told (history xs) q) ≤ count

pub none_told : (steps : BTreeMap ℕ Step) → steps.entries ≡ [] → TellsFirst 0 [] steps
unfolding steps_told history
none_told steps e = record { last = λ q. rw e; few = λ q. omega arith }

-- the steps by one exchange more
told_more : (xs : List Exchange) (x : Exchange) (t : Option Told) (p : ℕ) → Tells x t → steps_told (history (xs ++ x ∷ [])) p ≡ steps_told (history xs) p ++ told_move t p
unfolding steps_told
told_more xs x t p tells = ap (λ h. steps_told h p) (history_push xs x) ∙ ap (λ ms. steps_told (history xs) p ++ ms) (tells p)

-- of steps, one more is the last
last_grown : (ms : List Move) (m : Move) → last_of (ms ++ m ∷ []) ≡ Some (record { number = length ms; kind = m.kind; office = m.office })
last_grown ms m =
    let one_less : length (ms ++ m ∷ []) - 1 ≡ length ms = omega (arith, length-append ms (m ∷ [])) in
    let found : slice_get (ms ++ m ∷ []) (length ms) ≡ Some m = slice_get_read (ms ++ m ∷ []) (length (ms ++ m ∷ [])) (length ms) m refl (omega (arith, length-append ms (m ∷ []))) (sym (get_or-append_seam ms m [] m)) in
    rw (one_less, found)

-- steps that are some have a last one
last_there : (m : Move) (ms : List Move) → (y : Move) × (last_of (m ∷ ms) ≡ Some (record { number = length (m ∷ ms) - 1; kind = y.kind; office = y.office }))
last_there m ms =
    let found : slice_get (m ∷ ms) (length (m ∷ ms) - 1) ≡ Some (get_or (m ∷ ms) (length (m ∷ ms) - 1) m) = slice_get-get_or (m ∷ ms) (length (m ∷ ms) - 1) m (omega arith) in
    (get_or (m ∷ ms) (length (m ∷ ms) - 1) m, rw found)

-- the number of one more, by the last one, is how many steps there are
pub next_number : (ms : List Move) (last : Option Step) (n : ℕ) → last ≡ last_of ms → MatchOption last (n ≡ 0) (λ s. n ≡ s.number + 1) → n ≡ length ms
next_number [] None n e is = is
next_number [] (Some s) n e is = cc
next_number (m ∷ ms) None n e is = let there = last_there m ms in cc (there.1, e)
next_number (m ∷ ms) (Some s) n e is =
    let number : s.number ≡ length (m ∷ ms) - 1 = ap (λ o. unwrap_or (option_map (λ (z : Step). z.number) o) 0) (e ∙ (last_there m ms).1) in
    omega (arith, number, is)

-- which key a look-up in the map finds
same_key : (k q : ℕ) → is_at (nat_cmp k) q ≡ (k == q)
same_key k q = grind (arith, nat_tests)

last_more : (ms : List Move) (b : Bool) (k : Kind) (o : ℕ) → last_of (ms ++ one_move b k o) ≡ cond b (Some (record { number = length ms; kind = k; office = o })) (last_of ms)
last_more ms true k o = last_grown ms _
last_more ms false k o = ap last_of (append-nil ms)

at_most_one : (b : Bool) (k : Kind) (o : ℕ) → length (one_move b k o) ≤ 1
at_most_one true k o = omega arith
at_most_one false k o = omega arith

-- where a test of two keys succeeds, what stands for one of them stands for the other
at_same_key : (k q : ℕ) (f : ℕ → Option Step) (r : Option Step) → cond (k == q) (f k) r ≡ cond (k == q) (f q) r
at_same_key k q f r = grind (arith, nat_tests)

-- an exchange that tells of no step
pub kept : (xs : List Exchange) (i : ℕ) (d : Exchange) (t : Option Told) (steps : BTreeMap ℕ Step) → i < length xs → Tells (get_or xs i d) t → t ≡ None →
    TellsFirst i (take i xs) steps → TellsFirst (i + 1) (take (i + 1) xs) steps
kept xs i d t steps inside tells none before =
    let same : (q : ℕ) → steps_told (history (take (i + 1) xs)) q ≡ steps_told (history (take i xs)) q = λ q. ap (λ ys. steps_told (history ys) q) (take_more xs i d inside) ∙ told_more (take i xs) (get_or xs i d) t q tells ∙ rw none (append-nil (steps_told (history (take i xs)) q)) in
    record { last = λ q. before.last q ∙ ap last_of (sym (same q)); few = λ q. omega (arith, ap length (same q), before.few q) }

-- one that tells of a step, which is put in for its parcel
pub put : (xs : List Exchange) (i : ℕ) (d : Exchange) (t : Option Told) (s : Told) (old new : BTreeMap ℕ Step) (n : ℕ) → i < length xs → Tells (get_or xs i d) t → t ≡ Some s →
    n ≡ length (steps_told (history (take i xs)) s.key) → Updates nat_cmp old new s.key (Some (record { number = n; kind = s.kind; office = s.office })) →
    TellsFirst i (take i xs) old → TellsFirst (i + 1) (take (i + 1) xs) new
put xs i d t s old new n inside tells some number updates before =
    let more : (q : ℕ) → steps_told (history (take (i + 1) xs)) q ≡ steps_told (history (take i xs)) q ++ one_move (s.key == q) s.kind s.office = λ q. ap (λ ys. steps_told (history ys) q) (take_more xs i d inside) ∙ told_more (take i xs) (get_or xs i d) t q tells ∙ rw some refl in
    let one : (q : ℕ) → Option Step = λ q. Some (record { number = length (steps_told (history (take i xs)) q); kind = s.kind; office = s.office }) in
    let found : (q : ℕ) → get nat_cmp new q ≡ cond (s.key == q) (one s.key) (last_told (take i xs) q) = λ q. updates.0 q ∙ rw (same_key s.key q, before.last q, number) in
    record {
      last = λ q. found q ∙ at_same_key s.key q one (last_told (take i xs) q) ∙ sym (ap last_of (more q) ∙ last_more (steps_told (history (take i xs)) q) (s.key == q) s.kind s.office);
      few = λ q. omega (arith, ap length (more q), length-append (steps_told (history (take i xs)) q) (one_move (s.key == q) s.kind s.office), at_most_one (s.key == q) s.kind s.office, before.few q);
    }
