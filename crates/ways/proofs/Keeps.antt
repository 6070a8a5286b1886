-- Whatever an office does by an answer, what is so of each parcel stays so: one makes a step, or is paid for, or nothing of it
-- changes; and nothing changes of any other.
use Rattle.std.proofs.Common.{◌≡◌, ℕ, true, false, eqb, eqb-true, eq-eqb, List, [], ◌∷◌, ◌++◌, refl, sym, ap, ◌∙◌, subst, inl, inr, append-nil}
use Rattle.std.proofs.lemmas.Bool.{cases_Bool}
use Rattle.parcels.specs.Book.{Book, has, own, with_own}
use Rattle.parcels.specs.Calls.{Limits, paid_entry}
use Rattle.parcels.specs.declared.Slip.{Slip}
use Rattle.parcels.specs.declared.Entry.{Entry}
use Rattle.parcels.specs.declared.Answer.{Answer}
use Rattle.parcels.specs.declared.Answer.TheVariants.{Given}
use Rattle.wire.specs.Calls.{Reading}
use Rattle.promises.specs.Truth.{book_then, move_then, truth, in_truth, Move, one_move}
use Rattle.promises.specs.World.{Said, IsGiven}
use Rattle.promises.specs.Way.{MayBePaid, Way, WaysTrue}
use Rattle.laws.proofs.Books.{own_key, own_put, own_other, has_put, has_new}
use Rattle.truths.proofs.Books.{and_said, truth_here, truth_elsewhere, each_truth}
use Rattle.truths.proofs.Moves.{steps_more}
use Rattle.ways.proofs.Stays.{paid_as, Stays, way_stays}
use Rattle.ways.proofs.Makes.{shown, IsNext, way_makes}
use Rattle.ways.proofs.Does.{Does, nothing, makes, pays, OneStep}

-- what is left where it was stays
as_it_was : (b : Book) (ms : List Move) (p o : ℕ) → Stays b b ms p o
as_it_was b ms p o = record { has_same = refl; is_paid = (own b p).paid; own_same = refl; pays = λ is. inl is }

-- so does what is had of a parcel, where an entry of another one is put in
put_elsewhere : (b : Book) (e : Entry) (ms : List Move) (p o : ℕ) → eqb e.key p ≡ false → Stays b (with_own b e) ms p o
put_elsewhere b e ms p o other =
    record { has_same = rw (has_put b e p, other); is_paid = (own b p).paid; own_same = own_other b e p other; pays = λ is. inl is }

-- it is paid for
put_paid : (b : Book) (key : ℕ) (ms : List Move) (p o : ℕ) → has b key ≡ true → (key ≡ p → MayBePaid ms p o) → Stays b (with_own b (paid_entry (own b key))) ms p o
put_paid b key ms p o there may =
    let e : Entry = paid_entry (own b key) in
    let is : e.key ≡ key = own_key b key there in
    elim (cases_Bool (eqb e.key p)) [
      | inl same ↦
          let at : key ≡ p = sym is ∙ eqb-true e.key p same in
          let paid : own (with_own b e) e.key ≡ paid_as true (own b key) = own_put b e in
          record {
            has_same = rw (has_put b e p, same) (sym (subst (λ k. has b k ≡ true) at there));
            is_paid = true;
            own_same = subst (λ k. own (with_own b e) k ≡ paid_as true (own b key)) (is ∙ at) paid ∙ ap (λ k. paid_as true (own b k)) at;
            pays = λ _. inr (may at);
          }
      | inr other ↦ put_elsewhere b e ms p o other
    ]

module _ (l : Limits) (xs : List Said) (o : ℕ) (r : Reading) (a : Answer) (was : WaysTrue l xs) where
  abbrev said : List Said
  said = and_said o r a xs

  abbrev IsOut : Slip → Type 0
  IsOut s = IsGiven s xs

  abbrev IsOut' : Slip → Type 0
  IsOut' s = IsGiven s said

  still : (s : Slip) → IsOut s → IsOut' s
  unfolding IsGiven
  still s out = inr out

  -- a parcel that makes no step
  stays : (p : ℕ) → move_then o (truth l xs o) r a p ≡ [] → Stays (truth l xs o) (book_then l o (truth l xs o) r a) (in_truth l xs p) p o → ((s : Slip) → s.key ≡ p → a ≡ Given s → IsGiven s xs) →
      Way (truth l said) IsOut' p (in_truth l said p)
  unfolding IsGiven
  stays p none same old =
      let ms : List Move = in_truth l xs p in
      let steps : in_truth l said p ≡ ms = steps_more l xs o r a p ∙ ap (λ more. ms ++ more) none ∙ append-nil ms in
      subst (Way (truth l said) IsOut' p) (sym steps)
      (way_stays (truth l xs) (truth l said) IsOut IsOut' p ms (each_truth l xs o r a (λ q b. Stays (truth l xs q) b ms p q) same (λ q _. as_it_was (truth l xs q) ms p q)) still
      (λ s out is. elim out [ inl new ↦ old s is new | inr before ↦ before ])
      (was p))

  -- the parcel that makes a step
  makes_step : (e : Entry) → OneStep l xs o r a e → IsNext (truth l xs) IsOut e.key (in_truth l xs e.key) o e → Way (truth l said) IsOut' e.key (in_truth l said e.key)
  unfolding IsGiven
  makes_step e x next =
      let p : ℕ = e.key in
      let ms : List Move = in_truth l xs p in
      let b : truth l said o ≡ with_own (truth l xs o) e = truth_here l xs o r a ∙ x.book in
      let steps : in_truth l said p ≡ ms ++ shown e o ∷ [] = steps_more l xs o r a p ∙ ap (λ more. ms ++ more) (x.step p ∙ ap (λ t. one_move t e.kind o) (eq-eqb p p refl)) in
      subst (Way (truth l said) IsOut' p) (sym steps)
      (way_makes (truth l xs) (truth l said) IsOut IsOut' p ms o e next
      record {
        has_mine = ap (λ b. has b p) b ∙ has_new (truth l xs o) e;
        own_mine = ap (λ b. own b p) b ∙ own_put (truth l xs o) e;
        has_others = λ q other. ap (λ b. has b p) (truth_elsewhere l xs q o r a other);
        own_others = λ q other. ap (λ b. own b p) (truth_elsewhere l xs q o r a other);
        still = still;
        out = λ is. inl (x.slip_out is);
        new = λ s out _. elim out [ inl new ↦ inr (x.slip s new) | inr before ↦ inl before ];
      }
      (was p))

  -- a slip that is given out by this is of the parcel that makes the step
  slip_of : (e : Entry) → OneStep l xs o r a e → (p : ℕ) → eqb e.key p ≡ false → (s : Slip) → s.key ≡ p → a ≡ Given s → IsGiven s xs
  slip_of e x p other s is new =
      let mine : s.key ≡ e.key = ap (λ (t : Slip). t.key) (x.slip s new).0 in
      let same : eqb e.key p ≡ true = eq-eqb e.key p (sym mine ∙ is) in
      absurd (cc)

-- by whatever an office does, what is so of each parcel stays so
pub keeps : (l : Limits) (xs : List Said) (o : ℕ) (r : Reading) (a : Answer) → Does l xs o r a → WaysTrue l xs → WaysTrue l (and_said o r a xs)
keeps l xs o r a (nothing x) was p =
    stays l xs o r a was p (x.step p) (subst (λ b. Stays (truth l xs o) b (in_truth l xs p) p o) (sym x.book) (as_it_was (truth l xs o) (in_truth l xs p) p o)) (λ s _. x.slip s)
keeps l xs o r a (makes e x next) was p =
    elim (cases_Bool (eqb e.key p)) [
      | inl same ↦ subst (λ q. Way (truth l (and_said o r a xs)) (λ s. IsGiven s (and_said o r a xs)) q (in_truth l (and_said o r a xs) q)) (eqb-true e.key p same) (makes_step l xs o r a was e x next)
      | inr other ↦
          stays l xs o r a was p (x.step p ∙ ap (λ t. one_move t e.kind o) other)
          (subst (λ b. Stays (truth l xs o) b (in_truth l xs p) p o) (sym x.book) (put_elsewhere (truth l xs o) e (in_truth l xs p) p o other))
          (slip_of l xs o r a was e x p other)
    ]
keeps l xs o r a (pays key n x) was p =
    stays l xs o r a was p refl
    (subst (λ b. Stays (truth l xs o) b (in_truth l xs p) p o) (sym x.book) (put_paid (truth l xs o) key (in_truth l xs p) p o x.there (λ is. subst (λ k. MayBePaid (in_truth l xs k) k o) is (x.ours, x.out))))
    (λ s _ is. absurd (cc))
