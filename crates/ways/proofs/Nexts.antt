-- Which steps an office may make, by its book, where what is so of each parcel was so before: it accepts a parcel under a new key; one
-- that is here leaves, sent on or handed out; or it takes one in, with a slip that was given out and works.
use Rattle.std.proofs.Common.{◌≡◌, ℕ, suc, ◌<◌, true, false, ◌&&◌, eqb, eqb-true, eq-eqb, List, [], ◌∷◌, ◌++◌, length, Some, refl, sym, ap, ◌∙◌, subst, inl, inr, arith}
use Rattle.std.proofs.lemmas.Bool.{cases_Bool, and_parts}
use Rattle.std.proofs.lemmas.Bool.Decides.{nat_tests}
use Rattle.parcels.specs.Book.{Book, origin, has, own, leaves_it_here, was_handed_out}
use Rattle.parcels.specs.Calls.{accepted_entry, left_entry, came_entry, slip_works}
use Rattle.parcels.specs.declared.Kind.{Kind}
use Rattle.parcels.specs.declared.Kind.TheVariants.{Accepted, SentOn, ComeIn}
use Rattle.parcels.specs.declared.Slip.{Slip}
use Rattle.parcels.specs.declared.Entry.{Entry}
use Rattle.promises.specs.Truth.{Move}
use Rattle.promises.specs.Promise.{unknown, in_turn}
use Rattle.promises.specs.Way.{IsStep, EntryTrue, SlipTrue, Way}
use Rattle.ways.proofs.Turns.{follows, turn_first, turn_next, begins, step_same}
use Rattle.ways.proofs.Makes.{IsNext}

-- a step by which a parcel is sent on doesn't leave it here
not_both : (k : Kind) → leaves_it_here k ≡ true → k ≡ SentOn → ⊥
not_both k here is = absurd (cc (here, ap leaves_it_here is))

-- a parcel that took a step was accepted first, so it is in the book of its origin
pub begun_at_home : {books : ℕ → Book} {IsOut : Slip → Type 0} {p : ℕ} {ms : List Move} → Way books IsOut p ms → 0 < length ms → has (books (origin p)) p ≡ true
begun_at_home {p = p} {ms = ms} was some = (was.in_book 0 (origin p) Accepted (begins (origin p) ms was.in_turn some)).0

module _ (books : ℕ → Book) (IsOut : Slip → Type 0) (o : ℕ) where
  -- a new key: its parcel took no step, or it would be in the book of the office that the key tells
  untouched : (p : ℕ) (ms : List Move) → origin p ≡ o → has (books o) p ≡ false → Way books IsOut p ms → length ms ≡ 0
  untouched p ms ours new was =
      elim (cases_Bool (eqb (length ms) 0)) [
        | inl none ↦ eqb-true (length ms) 0 none
        | inr some ↦
            let there : has (books o) p ≡ true = subst (λ q. has (books q) p ≡ true) ours (begun_at_home was (grind (arith, nat_tests))) in
            absurd (cc)
      ]

  pub accepts_next : (p dest amount : ℕ) (ms : List Move) → origin p ≡ o → has (books o) p ≡ false → Way books IsOut p ms → IsNext books IsOut p ms o (accepted_entry o p dest amount)
  accepts_next p dest amount ms ours new was =
      let none : length ms ≡ 0 = untouched p ms ours new was in
      record {
        next = sym none;
        turn = subst (λ q. in_turn (origin p) (Some unknown) (ms ++ record { kind = Accepted; office = q } ∷ []) ≡ true) ours (turn_first (origin p) ms none);
        not_elsewhere = λ q _ there _. omega (arith, none, (was.entries q there).made.0);
        comes = λ s out is _. absurd (omega (arith, none, (was.slips s out is).sent.0));
        handed_out = λ is. absurd (cc);
        paid = λ is. absurd (cc);
        goal = λ some. absurd (omega (arith, none));
      }

  -- a parcel that is here leaves: its last step was made here, so no other office has it, and no slip tells that step
  pub leaves_next : (p : ℕ) (ms : List Move) (kind : Kind) (to : ℕ) → has (books o) p ≡ true → leaves_it_here (own (books o) p).kind ≡ true → follows (origin p) (own (books o) p).kind o kind o ≡ true →
      (was_handed_out kind ≡ true → (own (books o) p).dest ≡ o) → Way books IsOut p ms → IsNext books IsOut p ms o (left_entry kind to (own (books o) p))
  leaves_next p ms kind to there here goes out was =
      let e : Entry = own (books o) p in
      let now : EntryTrue ms IsOut (own (books (origin p)) p) p o e = was.entries o there in
      let last : suc e.step ≡ length ms = now.here here in
      record {
        next = last;
        turn = turn_next (origin p) ms e.step e.kind o (record { kind = kind; office = o }) was.in_turn now.made last goes;
        not_elsewhere = λ q other had at.
            let old : EntryTrue ms IsOut (own (books (origin p)) p) p q (own (books q) p) = was.entries q had in
            let same : eqb o q ≡ true = eq-eqb o q (step_same ms e.step (own (books q) p).step e.kind (own (books q) p).kind o q now.made old.made (omega (arith, old.here at, last))).1 in
            absurd (cc);
        comes = λ s out is behind.
            let told : SlipTrue ms (own (books (origin p)) p) s = was.slips s out is in
            absurd (not_both e.kind here (step_same ms e.step s.step e.kind SentOn o s.from now.made told.sent (omega (arith, behind, last))).0);
        handed_out = out;
        paid = now.paid;
        goal = λ _. now.goal;
      }

  -- a slip that works tells the last step: were there a later one, the office would know it
  works_last : (p : ℕ) (ms : List Move) (s : Slip) → IsOut s → s.key ≡ p → s.to ≡ o → (has (books o) p ≡ true → (own (books o) p).step < s.step) → Way books IsOut p ms → suc s.step ≡ length ms
  works_last p ms s out is to newer was =
      let told : SlipTrue ms (own (books (origin p)) p) s = was.slips s out is in
      elim (cases_Bool (eqb (suc s.step) (length ms))) [
        | inl last ↦ eqb-true (suc s.step) (length ms) last
        | inr before ↦
            let came : IsStep ms (suc s.step) ComeIn s.to = told.came (grind (arith, nat_tests, told.sent.0)) in
            let (there, low) = was.in_book (suc s.step) o ComeIn (subst (λ q. IsStep ms (suc s.step) ComeIn q) to came) in
            absurd (omega (arith, low, newer there))
      ]

  pub comes_next : (ms : List Move) (s : Slip) → IsOut s → slip_works o (books o) s ≡ true → Way books IsOut s.key ms → IsNext books IsOut s.key ms o (came_entry o s (has (books o) s.key && (own (books o) s.key).paid))
  comes_next ms s out works was =
      let p : ℕ = s.key in
      let told : SlipTrue ms (own (books (origin p)) p) s = was.slips s out refl in
      let to : s.to ≡ o = eqb-true s.to o (and_parts (eqb s.to o) _ works).0 in
      let last : suc s.step ≡ length ms = works_last p ms s out refl to (λ there. grind (arith, nat_tests)) was in
      record {
        next = last;
        turn = turn_next (origin p) ms s.step SentOn s.from (record { kind = ComeIn; office = o }) was.in_turn told.sent last refl;
        not_elsewhere = λ q _ had at.
            let old : EntryTrue ms IsOut (own (books (origin p)) p) p q (own (books q) p) = was.entries q had in
            not_both (own (books q) p).kind at (step_same ms (own (books q) p).step s.step (own (books q) p).kind SentOn q s.from old.made told.sent (omega (arith, old.here at, last))).0;
        comes = λ t other is behind. (refl, ap (λ (u : Slip). u.to) (was.no_two t s other out is refl (omega (arith, behind, last))) ∙ to);
        handed_out = λ is. absurd (cc);
        paid = λ is. let (there, had) = and_parts (has (books o) p) (own (books o) p).paid is in (was.entries o there).paid had;
        goal = λ _. told.goal;
      }
