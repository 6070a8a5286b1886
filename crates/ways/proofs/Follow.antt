-- What follows from what is so of each parcel's way: what is promised of its steps, where it is, and for which office it was.
use Rattle.std.proofs.Common.{◌≡◌, ℕ, ◌&&◌, suc, ◌≤◌, true, eqb, eqb-true, eq-eqb, inl, inr, List, [], ◌∷◌, ◌++◌, length, Some, refl, sym, ap, ◌∙◌, subst, append-nil, append_assoc, arith}
use Rattle.std.proofs.lemmas.Bool.{cases_Bool, and_parts, cases_lt, false_from_ne_true}
use Rattle.parcels.specs.Book.{origin, has, own, leaves_it_here, is_here}
use Rattle.parcels.specs.Calls.{Limits}
use Rattle.parcels.specs.declared.Step.{Step}
use Rattle.parcels.specs.declared.Entry.{Entry}
use Rattle.promises.specs.Truth.{move_then, truth, in_truth, Move}
use Rattle.promises.specs.World.{Said, IsGiven}
use Rattle.promises.specs.Promise.{Happened, unknown, in_turn, StepsInTurn, NotAtTwo, WhereItWasFor}
use Rattle.promises.specs.Way.{IsStep, Way, WaysTrue}
use Rattle.promises.specs.Beside.{StepsStay, HandedOutStays, LastHeld, OneHasLast}
use Rattle.truths.proofs.Keys.{office_there}
use Rattle.truths.proofs.Moves.{steps_more}
use Rattle.ways.proofs.Turns.{step_same, none_behind, last_is}
use Rattle.ways.proofs.Each.{each_way}

-- a parcel is accepted first, at its origin, and then its steps come in turn
pub steps_in_turn : StepsInTurn
steps_in_turn can l xs p g h = (each_way can l xs g h p).in_turn

-- a parcel that is here is here by its last step, so it is at one office at most
pub not_at_two : NotAtTwo
not_at_two can l xs p g h o q here there =
    let ways : WaysTrue l xs = each_way can l xs g h in
    let (known, stays) = and_parts (has (truth l xs o) p) (leaves_it_here (own (truth l xs o) p).kind) here in
    let (known', stays') = and_parts (has (truth l xs q) p) (leaves_it_here (own (truth l xs q) p).kind) there in
    let entry = (ways p).entries o known in
    let entry' = (ways p).entries q known' in
    (step_same (in_truth l xs p) _ _ _ _ o q entry.made entry'.made (omega (arith, entry.here stays, entry'.here stays'))).1

-- a parcel that was handed out was for that office, and had this amount from the start
pub where_it_was_for : WhereItWasFor
where_it_was_for can l xs p g h o known out =
    let e = (each_way can l xs g h p).entries o known in
    (sym e.goal.0 ∙ e.handed_out (rw out refl), sym e.goal.1)

-- the office that made a parcel's last step has it in its book by that step, and no other one does
module _ (l : Limits) (xs : List Said) (p : ℕ) (way : Way (truth l xs) (λ s. IsGiven s xs) p (in_truth l xs p)) (happened : Happened l xs) (last : Step)
    (made : IsStep (in_truth l xs p) last.number last.kind last.office) (end : suc last.number ≡ length (in_truth l xs p)) where
  in_book : (has (truth l xs last.office) p ≡ true) × (last.number ≤ (own (truth l xs last.office) p).step)
  in_book = way.in_book last.number last.office last.kind made

  -- an office that has it in its book by its last step made that one
  by_last : (o : ℕ) → has (truth l xs o) p ≡ true → last.number ≤ (own (truth l xs o) p).step → ((own (truth l xs o) p).kind ≡ last.kind) × (o ≡ last.office)
  by_last o known late =
      let e : Entry = own (truth l xs o) p in
      let entry = way.entries o known in
      step_same (in_truth l xs p) e.step last.number e.kind last.kind o last.office entry.made made (omega (arith, entry.made.0))

  -- so it is here just where that step was made here, and left it here
  is_at : (o : ℕ) → is_here (truth l xs o) p ≡ (eqb o last.office && leaves_it_here last.kind)
  is_at o =
      elim (cases_Bool (eqb o last.office)) [
        | inl same ↦
            let at : o ≡ last.office = eqb-true o last.office same in
            let (there, late) = in_book in
            rw same (rw at (rw there (ap leaves_it_here (by_last last.office there late).0)))
        | inr other ↦
            rw other (false_from_ne_true (is_here (truth l xs o) p) (λ here.
            let (known, stays) = and_parts (has (truth l xs o) p) (leaves_it_here (own (truth l xs o) p).kind) here in
            let entry = way.entries o known in
            let same : eqb o last.office ≡ true = eq-eqb o last.office (by_last o known (omega (arith, entry.here stays))).1 in
            cc))
      ]

  held_last : LastHeld l xs p last
  held_last =
      record {
        there = office_there happened last.office p in_book.0;
        held = in_book.0;
        step = omega (arith, (way.entries last.office in_book.0).made.0, in_book.1);
        kind = (by_last last.office in_book.0 in_book.1).0;
        others = λ o known other. elim (cases_lt (own (truth l xs o) p).step last.number) [
          | inl early ↦ early
          | inr late ↦ let same : eqb o last.office ≡ true = eq-eqb o last.office (by_last o known late).1 in absurd (cc)
        ];
        here = is_at;
      }

pub last_held : OneHasLast
last_held can l xs p g h last is = let (made, end) = last_is (in_truth l xs p) last is in held_last l xs p (each_way can l xs g h p) h last made end

-- steps stay, and others come behind them only
pub steps_stay : StepsStay
steps_stay l xs [] p = ([], sym (append-nil (in_truth l xs p)))
steps_stay l xs (y ∷ ys) p =
    let (more, is) = steps_stay l xs ys p in
    let next : List Move = move_then y.at (truth l (ys ++ xs) y.at) y.reading y.answer p in
    (more ++ next, steps_more l (ys ++ xs) y.at y.reading y.answer p ∙ ap (λ ms. ms ++ next) is ∙ append_assoc (in_truth l xs p) more next)

-- none comes behind the one by which a parcel was handed out
pub handed_out_stays : HandedOutStays
handed_out_stays can l xs ys p g h out =
    let ways : WaysTrue l (ys ++ xs) = each_way can l (ys ++ xs) g h in
    let (more, is) = steps_stay l xs ys p in
    let none : more ≡ [] = none_behind (origin p) (Some unknown) (in_truth l xs p) more (subst (λ ms. in_turn (origin p) (Some unknown) ms ≡ true) is (ways p).in_turn) out in
    is ∙ ap (λ m. in_truth l xs p ++ m) none ∙ append-nil (in_truth l xs p)
