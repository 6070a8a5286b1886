-- A parcel that makes a step keeps its way: its office's book has the step, and no other has the parcel at its office; the slips of
-- it that were out are spent, where it came in, or are of older steps.
use Rattle.std.proofs.Common.{◌≡◌, ℕ, suc, ◌<◌, ◌≤◌, true, false, eqb, eqb-true, eq-eqb, List, [], ◌∷◌, ◌++◌, length, Some, refl, sym, ap, ◌∙◌, subst, ◌⊎◌, inl, inr, arith}
use Rattle.std.proofs.lemmas.Bool.{cases_Bool}
use Rattle.std.proofs.lemmas.Bool.Decides.{nat_tests}
use Rattle.std.proofs.lemmas.List.{length-append}
use Rattle.parcels.specs.Book.{Book, origin, has, own, leaves_it_here, was_sent_on, was_handed_out}
use Rattle.parcels.specs.Calls.{slip_from}
use Rattle.parcels.specs.declared.Kind.{Kind}
use Rattle.parcels.specs.declared.Kind.TheVariants.{Accepted, SentOn, ComeIn, HandedOut}
use Rattle.parcels.specs.declared.Slip.{Slip}
use Rattle.parcels.specs.declared.Entry.{Entry}
use Rattle.promises.specs.Truth.{Move}
use Rattle.promises.specs.Promise.{unknown, in_turn}
use Rattle.promises.specs.Way.{IsStep, SameGoal, MayBePaid, EntryTrue, SlipTrue, Way}
use Rattle.ways.proofs.Turns.{first_made, step_still, step_new, step_was, handed_still}

-- the step that an entry shows
abbrev pub shown : Entry → ℕ → Move
shown e o = record { kind = e.kind; office = o }

-- An entry shows a step that an office may make now: the parcel's next one, which goes on from the last. By no other office's book
-- is the parcel at that office. If a slip tells the last step, this one is coming in, at the office that the slip is for. It is
-- handed out only where it is for; it is paid for only where it may be; for which office it is, and its amount, stay.
pub record IsNext (books : ℕ → Book) (IsOut : Slip → Type 0) (p : ℕ) (ms : List Move) (o : ℕ) (e : Entry) : Type 0 where
  pub next : e.step ≡ length ms
  pub turn : in_turn (origin p) (Some unknown) (ms ++ shown e o ∷ []) ≡ true
  pub not_elsewhere : (q : ℕ) → eqb o q ≡ false → has (books q) p ≡ true → leaves_it_here (own (books q) p).kind ≡ true → ⊥
  pub comes : (s : Slip) → IsOut s → s.key ≡ p → suc s.step ≡ length ms → (e.kind ≡ ComeIn) × (s.to ≡ o)
  pub handed_out : was_handed_out e.kind ≡ true → e.dest ≡ o
  pub paid : e.paid ≡ true → MayBePaid ms p o
  pub goal : 0 < length ms → SameGoal (own (books (origin p)) p) e.dest e.amount

-- the office has the entry then, and other offices what they had; where the parcel was sent on, its slip is out now, and no other
-- that wasn't before
pub record Made (books books' : ℕ → Book) (IsOut IsOut' : Slip → Type 0) (p o : ℕ) (e : Entry) : Type 0 where
  pub has_mine : has (books' o) p ≡ true
  pub own_mine : own (books' o) p ≡ e
  pub has_others : (q : ℕ) → eqb o q ≡ false → has (books' q) p ≡ has (books q) p
  pub own_others : (q : ℕ) → eqb o q ≡ false → own (books' q) p ≡ own (books q) p
  pub still : (s : Slip) → IsOut s → IsOut' s
  pub out : was_sent_on e.kind ≡ true → IsOut' (slip_from o e)
  pub new : (s : Slip) → IsOut' s → s.key ≡ p → IsOut s ⊎ ((s ≡ slip_from o e) × (was_sent_on e.kind ≡ true))

sent_on_is : (k : Kind) → was_sent_on k ≡ true → k ≡ SentOn
sent_on_is Accepted h = absurd (cc)
sent_on_is SentOn h = refl
sent_on_is ComeIn h = absurd (cc)
sent_on_is HandedOut h = absurd (cc)

module _ (books books' : ℕ → Book) (IsOut IsOut' : Slip → Type 0) (p : ℕ) (ms : List Move) (o : ℕ) (e : Entry) (x : IsNext books IsOut p ms o e)
    (y : Made books books' IsOut IsOut' p o e) (was : Way books IsOut p ms) where
  abbrev more : List Move
  more = shown e o ∷ []

  -- what is so of this office's entry, and of those of others as they were, is so of each
  each_entry : (P : ℕ → Entry → Type 0) → P o e → ((q : ℕ) → eqb o q ≡ false → has (books q) p ≡ true → P q (own (books q) p)) → (q : ℕ) → has (books' q) p ≡ true → P q (own (books' q) p)
  each_entry P here elsewhere q there =
      elim (cases_Bool (eqb o q)) [
        | inl same ↦ subst (λ r. P r (own (books' r) p)) (eqb-true o q same) (subst (P o) (sym y.own_mine) here)
        | inr other ↦ subst (P q) (sym (y.own_others q other)) (elsewhere q other (sym (y.has_others q other) ∙ there))
      ]

  -- its goal stays as it was where it was accepted
  goal_stays : (dest amount : ℕ) → 0 < length ms → SameGoal (own (books (origin p)) p) dest amount → SameGoal (own (books' (origin p)) p) dest amount
  goal_stays dest amount some (to, for) =
      elim (cases_Bool (eqb o (origin p))) [
        | inl same ↦
            let home : own (books' (origin p)) p ≡ e = subst (λ q. own (books' q) p ≡ e) (eqb-true o (origin p) same) y.own_mine in
            let (d, a) = x.goal some in
            rw home (to ∙ sym d, for ∙ sym a)
        | inr other ↦ rw (y.own_others (origin p) other) (to, for)
      ]

  -- only at its origin is a step the first one
  far_begun : eqb o (origin p) ≡ false → 0 < length ms
  far_begun far =
      elim (cases_Bool (eqb (length ms) 0)) [
        | inl none ↦
            let at : o ≡ origin p = (first_made (origin p) ms (shown e o) x.turn (eqb-true (length ms) 0 none)).1 in
            let same : eqb o (origin p) ≡ true = eq-eqb o (origin p) at in
            absurd (cc)
        | inr some ↦ grind (arith, nat_tests)
      ]

  my_goal : SameGoal (own (books' (origin p)) p) e.dest e.amount
  my_goal =
      elim (cases_Bool (eqb o (origin p))) [
        | inl same ↦
            let home : own (books' (origin p)) p ≡ e = subst (λ q. own (books' q) p ≡ e) (eqb-true o (origin p) same) y.own_mine in
            rw home (refl, refl)
        | inr other ↦ goal_stays e.dest e.amount (far_begun other) (x.goal (far_begun other))
      ]

  now : IsStep (ms ++ more) e.step e.kind o
  now = subst (λ n. IsStep (ms ++ more) n e.kind o) (sym x.next) (step_new ms e.kind o)

  in_book : (n q : ℕ) (kind : Kind) → IsStep (ms ++ more) n kind q → (has (books' q) p ≡ true) × (n ≤ (own (books' q) p).step)
  in_book n q kind step = go (step_was ms (shown e o) n kind q step)
    where
      mine : n ≤ e.step → o ≡ q → (has (books' q) p ≡ true) × (n ≤ (own (books' q) p).step)
      mine low is = subst (λ r. (has (books' r) p ≡ true) × (n ≤ (own (books' r) p).step)) is (y.has_mine, rw (y.own_mine) low)

      go : IsStep ms n kind q ⊎ ((n ≡ length ms) × (shown e o ≡ record { kind = kind; office = q })) → (has (books' q) p ≡ true) × (n ≤ (own (books' q) p).step)
      go (inl old) =
          let (there, low) = was.in_book n q kind old in
          elim (cases_Bool (eqb o q)) [
            | inl same ↦ mine (omega (arith, old.0, x.next)) (eqb-true o q same)
            | inr other ↦ (y.has_others q other ∙ there, rw (y.own_others q other) low)
          ]
      go (inr (last, is)) = mine (omega (arith, last, x.next)) (ap (λ (m : Move). m.office) is)

  entries : (q : ℕ) → has (books' q) p ≡ true → EntryTrue (ms ++ more) IsOut' (own (books' (origin p)) p) p q (own (books' q) p)
  entries =
      each_entry (EntryTrue (ms ++ more) IsOut' (own (books' (origin p)) p) p)
      record {
        made = now;
        here = λ _. omega (arith, x.next, length-append ms more);
        slip_out = y.out;
        handed_out = x.handed_out;
        paid = λ is. let (at, gone) = x.paid is in (at, handed_still ms more gone);
        goal = my_goal;
      }
      (λ q other there.
      let old : EntryTrue ms IsOut (own (books (origin p)) p) p q (own (books q) p) = was.entries q there in
      record {
        made = step_still ms more (own (books q) p).step (own (books q) p).kind q old.made;
        here = λ is. absurd (x.not_elsewhere q other there is);
        slip_out = λ is. y.still (slip_from q (own (books q) p)) (old.slip_out is);
        handed_out = old.handed_out;
        paid = λ is. let (at, gone) = old.paid is in (at, handed_still ms more gone);
        goal = goal_stays (own (books q) p).dest (own (books q) p).amount (omega (arith, old.made.0)) old.goal;
      })

  old_slip : (s : Slip) → IsOut s → s.key ≡ p → SlipTrue (ms ++ more) (own (books' (origin p)) p) s
  old_slip s out is =
      let old : SlipTrue ms (own (books (origin p)) p) s = was.slips s out is in
      record {
        sent = step_still ms more s.step SentOn s.from old.sent;
        came = λ behind.
            elim (cases_Bool (eqb (suc s.step) (length ms))) [
              | inl last ↦
                  let at : suc s.step ≡ length ms = eqb-true (suc s.step) (length ms) last in
                  let (kind, to) = x.comes s out is at in
                  subst (λ q. IsStep (ms ++ more) (suc s.step) ComeIn q) (sym to) (subst (λ k. IsStep (ms ++ more) (suc s.step) k o) kind (subst (λ n. IsStep (ms ++ more) n e.kind o) (x.next ∙ sym at) now))
              | inr before ↦ step_still ms more (suc s.step) ComeIn s.to (old.came (grind (arith, nat_tests, length-append ms more, old.sent.0)))
            ];
        goal = goal_stays s.dest s.amount (omega (arith, old.sent.0)) old.goal;
      }

  new_slip : was_sent_on e.kind ≡ true → SlipTrue (ms ++ more) (own (books' (origin p)) p) (slip_from o e)
  new_slip is =
      record {
        sent = subst (λ k. IsStep (ms ++ more) e.step k o) (sent_on_is e.kind is) now;
        came = λ behind. absurd (omega (arith, x.next, length-append ms more));
        goal = my_goal;
      }

  slips : (s : Slip) → IsOut' s → s.key ≡ p → SlipTrue (ms ++ more) (own (books' (origin p)) p) s
  slips s out is = go (y.new s out is)
    where
      go : IsOut s ⊎ ((s ≡ slip_from o e) × (was_sent_on e.kind ≡ true)) → SlipTrue (ms ++ more) (own (books' (origin p)) p) s
      go (inl old) = old_slip s old is
      go (inr (new, sent)) = subst (SlipTrue (ms ++ more) (own (books' (origin p)) p)) (sym new) (new_slip sent)

  -- a slip that was out is of another step than the new one
  apart : (s t : Slip) → IsOut s → s.key ≡ p → t ≡ slip_from o e → s.step ≡ t.step → ⊥
  apart s t out is new same =
      let at : t.step ≡ e.step = ap (λ (u : Slip). u.step) new in
      let old : s.step < length ms = (was.slips s out is).sent.0 in
      omega (arith, at, old, same, x.next)

  no_two : (s t : Slip) → IsOut' s → IsOut' t → s.key ≡ p → t.key ≡ p → s.step ≡ t.step → s ≡ t
  no_two s t out out' is is' same = go (y.new s out is) (y.new t out' is')
    where
      go : IsOut s ⊎ ((s ≡ slip_from o e) × (was_sent_on e.kind ≡ true)) → IsOut t ⊎ ((t ≡ slip_from o e) × (was_sent_on e.kind ≡ true)) → s ≡ t
      go (inl old) (inl old') = was.no_two s t old old' is is' same
      go (inl old) (inr (new, _)) = absurd (apart s t old is new same)
      go (inr (new, _)) (inl old) = absurd (apart t s old is' new (sym same))
      go (inr (new, _)) (inr (new', _)) = new ∙ sym new'

  pub way_makes : Way books' IsOut' p (ms ++ more)
  way_makes = record { in_turn = x.turn; in_book = in_book; entries = entries; slips = slips; no_two = no_two }
