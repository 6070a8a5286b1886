-- The sums of each office's book are what was answered there: by each right answer they grow by just its number, where a parcel was
-- handed out or paid for, and else not at all. A parcel is paid for once, since its origin's book has then that it was.
use Rattle.std.proofs.Common.{◌≡◌, ℕ, ◌+◌, ◌≤◌, Bool, true, false, ◌&&◌, ◌||◌, eqb, eqb-true, eq-eqb, List, [], ◌∷◌, Some, Ok, refl, sym, ap, ◌∙◌, subst, inl, inr, arith}
use Rattle.std.proofs.lemmas.Bool.{cases_Bool, false_from_ne_true}
use mathlib.Core.Path.{fun_ext}
use Rattle.parcels.specs.Numbers.{most_parcels}
use Rattle.parcels.specs.Book.{pick, Book, origin, has, own, with_own, was_handed_out, collected_for, collected, paid_for, paid_out}
use Rattle.parcels.specs.Calls.{Limits, paid_entry}
use Rattle.parcels.specs.declared.Entry.{Entry}
use Rattle.parcels.specs.declared.Call.TheVariants.{Pay}
use Rattle.parcels.specs.declared.Answer.{Answer}
use Rattle.parcels.specs.declared.Answer.TheVariants.{Number}
use Rattle.wire.specs.Calls.{Reading}
use Rattle.promises.specs.Truth.{book_then, truth, in_truth, Move}
use Rattle.promises.specs.World.{Said}
use Rattle.promises.specs.Promise.{Happened, nothing_yet, and_then, unknown, over_offices}
use Rattle.promises.specs.Way.{WaysTrue}
use Rattle.promises.specs.Told.{collected_by, paid_by, told_sum, pays_for, times_paid, MoneyTold}
use Rattle.laws.proofs.Books.{own_key, own_put, own_other, has_put, has_new}
use Rattle.laws.proofs.Sums.{IsSum, collected_is, paid_out_is}
use Rattle.truths.proofs.Books.{and_said, each_truth}
use Rattle.ways.proofs.Turns.{none_behind, step_handed}
use Rattle.ways.proofs.Makes.{shown}
use Rattle.ways.proofs.Does.{NonePaid, Does, nothing, makes, pays}
use Rattle.ways.proofs.Each.{ways_true, does_one}
use Rattle.ways.proofs.Totals.{of_key}
use Rattle.ways.proofs.Paid.{no_more_paid}

-- an entry is put in: what it adds to a sum takes the place of what was added for its parcel
sum_put_at : {sum : Book → ℕ} {each : Entry → ℕ} → IsSum sum each → (x e : Entry) (xs : Book) (t : Bool) → eqb x.key e.key ≡ t → sum (with_own xs e) + of_key each xs e.key ≡ sum xs + each e →
    sum (pick t (e ∷ xs) (x ∷ with_own xs e)) + pick (t || has xs e.key) (each (pick t x (own xs e.key))) 0 ≡ sum (x ∷ xs) + each e
sum_put_at s x e xs true q h = omega (arith, s.more x xs, s.more e xs)
sum_put_at s x e xs false q h = omega (arith, s.more x xs, s.more x (with_own xs e), h)

sum_put : {sum : Book → ℕ} {each : Entry → ℕ} → IsSum sum each → (b : Book) (e : Entry) → sum (with_own b e) + of_key each b e.key ≡ sum b + each e
unfolding has own with_own
sum_put s [] e = omega (arith, s.none, s.more e [])
sum_put s (x ∷ xs) e = sum_put_at s x e xs (eqb x.key e.key) refl (sum_put s xs e)

-- so what its parcel adds grows by so much, and what another one adds stays
key_put : (each : Entry → ℕ) (b : Book) (e : Entry) (n p : ℕ) → each e ≡ n + of_key each b e.key → of_key each (with_own b e) p ≡ pick (eqb e.key p) n 0 + of_key each b p
key_put each b e n p more =
    elim (cases_Bool (eqb e.key p)) [
      | inl same ↦
          subst (λ k. of_key each (with_own b e) k ≡ pick (eqb e.key k) n 0 + of_key each b k) (eqb-true e.key p same) (rw (has_new b e, own_put b e, eq-eqb e.key e.key refl) more)
      | inr other ↦ rw (has_put b e p, other, own_other b e p other) (omega arith)
    ]

-- a parcel counts as one where it was paid for
abbrev counted_paid : Entry → ℕ
counted_paid e = pick e.paid 1 0

-- An office's book before and after an answer: its sums grow by what was answered; and a parcel counts once more where it was
-- paid for, which is at its origin.
record Grows (o : ℕ) (b b' : Book) (r : Reading) (a : Answer) : Type 0 where
  collected : collected b' ≡ collected_by r a + collected b
  paid_out : paid_out b' ≡ paid_by r a + paid_out b
  paid : (p : ℕ) → of_key counted_paid b' p ≡ pick (pays_for r a p) 1 0 + of_key counted_paid b p
  home : (p : ℕ) → pays_for r a p ≡ true → origin p ≡ o

-- a parcel adds nothing, if it isn't there or doesn't count
none_added : (there counts : Bool) (n : ℕ) → (there ≡ true → counts ≡ true → ⊥) → pick there (pick counts n 0) 0 ≡ 0
none_added true true n not = absurd (not refl refl)
none_added true false n not = refl
none_added false counts n not = refl

-- a parcel that stays paid for, or not, with its amount, adds what it did
same_added : (there paid : Bool) (n m : ℕ) → (there ≡ true → n ≡ m) → pick (there && paid) n 0 ≡ pick there (pick paid m 0) 0
same_added true true n m same = same refl
same_added true false n m same = refl
same_added false paid n m same = refl

module _ (o : ℕ) (b : Book) (r : Reading) (a : Answer) where
  -- nothing is answered of money, and the book stays
  same : collected_by r a ≡ 0 → NonePaid r a → Grows o b b r a
  same got spent =
      record { collected = omega (arith, got); paid_out = omega (arith, spent.amount); paid = λ p. rw (spent.of_none p) (omega arith); home = λ p is. absurd (cc (spent.of_none p)) }

  -- an entry is put in that adds what is answered
  puts : (e : Entry) (n : ℕ) → collected_for e ≡ collected_by r a + of_key collected_for b e.key → paid_for e ≡ paid_by r a + of_key paid_for b e.key → counted_paid e ≡ n + of_key counted_paid b e.key →
      ((p : ℕ) → pick (pays_for r a p) 1 0 ≡ pick (eqb e.key p) n 0) → ((p : ℕ) → pays_for r a p ≡ true → origin p ≡ o) → Grows o b (with_own b e) r a
  puts e n got spent more counts home =
      record {
        collected = omega (arith, sum_put collected_is b e, got);
        paid_out = omega (arith, sum_put paid_out_is b e, spent);
        paid = λ p. rw (counts p) (key_put counted_paid b e n p more);
        home = home;
      }

  -- a parcel makes a step: it wasn't handed out before, and stays paid for, or not, with the amount that it had
  moves : (e : Entry) → (has b e.key ≡ true → was_handed_out (own b e.key).kind ≡ true → ⊥) → e.paid ≡ (has b e.key && (own b e.key).paid) → (has b e.key ≡ true → e.amount ≡ (own b e.key).amount) →
      collected_by r a ≡ collected_for e → NonePaid r a → Grows o b (with_own b e) r a
  moves e new paid amount got spent =
      let there : Bool = has b e.key in
      let was : Entry = own b e.key in
      puts e 0 (omega (arith, got, none_added there (was_handed_out was.kind) was.amount new))
      (rw paid (omega (arith, spent.amount, same_added there was.paid e.amount was.amount amount)))
      (rw paid (omega (arith, same_added there was.paid 1 1 (λ _. refl))))
      (λ p. rw (spent.of_none p) (grind arith)) (λ p is. absurd (cc (spent.of_none p)))

-- so it goes on by whatever an office does
grows : (l : Limits) (xs : List Said) (o : ℕ) (r : Reading) (a : Answer) → WaysTrue l xs → Does l xs o r a → Grows o (truth l xs o) (book_then l o (truth l xs o) r a) r a
grows l xs o r a was (nothing x) = subst (λ b. Grows o (truth l xs o) b r a) (sym x.book) (same o (truth l xs o) r a x.got x.spent)
grows l xs o r a was (makes e x next) =
    let p : ℕ = e.key in
    let ms : List Move = in_truth l xs p in
    subst (λ b. Grows o (truth l xs o) b r a) (sym x.book)
    (moves o (truth l xs o) r a e
    (λ there out.
    let none : shown e o ∷ [] ≡ [] = none_behind (origin p) (Some unknown) ms (shown e o ∷ []) next.turn (step_handed ms (own (truth l xs o) p).step (own (truth l xs o) p).kind o ((was p).entries o there).made out) in
    cc)
    x.paid
    (λ there.
    let entry = (was p).entries o there in
    (next.goal (omega (arith, entry.made.0))).1 ∙ sym entry.goal.1)
    x.got x.spent)
grows l xs o r a was (pays key n x) =
    let b : Book = truth l xs o in
    let is : (own b key).key ≡ key = own_key b key x.there in
    subst (λ y. Grows o b y (Ok (Pay key)) (Number n)) (sym x.book)
    (puts o b (Ok (Pay key)) (Number n) (paid_entry (own b key)) 1 (rw (is, x.there) (omega arith)) (rw (is, x.there, x.new, x.amount) (omega arith)) (rw (is, x.there, x.new) (omega arith)) (λ p. rw is refl)
    (λ p at. subst (λ k. origin k ≡ o) (eqb-true key p at) x.ours))

-- One thing more is said, by which the office's book goes on so.
module _ (l : Limits) (xs : List Said) (o : ℕ) (r : Reading) (a : Answer) (more : Grows o (truth l xs o) (book_then l o (truth l xs o) r a) r a) where
  -- a sum that was what was answered still is, at each office
  sum_more : (sum : Book → ℕ) (by : Reading → Answer → ℕ) → sum (book_then l o (truth l xs o) r a) ≡ by r a + sum (truth l xs o) → ((q : ℕ) → sum (truth l xs q) ≡ told_sum by q xs) →
      (q : ℕ) → sum (truth l (and_said o r a xs) q) ≡ told_sum by q (and_said o r a xs)
  unfolding told_sum
  sum_more sum by new was =
      each_truth l xs o r a (λ q b. sum b ≡ told_sum by q (and_said o r a xs)) (rw (eq-eqb o o refl) (omega (arith, new, was o))) (λ q other. rw other (omega (arith, was q)))

  -- a parcel was paid for as often as it counts at its origin
  times_more : ((p : ℕ) → times_paid xs p ≡ of_key counted_paid (truth l xs (origin p)) p) → (p : ℕ) → times_paid (and_said o r a xs) p ≡ of_key counted_paid (truth l (and_said o r a xs) (origin p)) p
  unfolding times_paid
  times_more was p =
      each_truth l xs o r a (λ q b. origin p ≡ q → times_paid (and_said o r a xs) p ≡ of_key counted_paid b p)
      (λ at. omega (arith, more.paid p, was p, ap (λ q. of_key counted_paid (truth l xs q) p) at))
      (λ q other at.
      let none : pays_for r a p ≡ false = false_from_ne_true (pays_for r a p) (λ is. let same : eqb o q ≡ true = eq-eqb o q (sym (more.home p is) ∙ at) in cc) in
      rw none (omega (arith, was p, ap (λ q. of_key counted_paid (truth l xs q) p) at)))
      (origin p) refl

-- The sums are what was answered, and a parcel counts at its origin as often as it was paid for.
record AsTold (l : Limits) (xs : List Said) : Type 0 where
  collected : (o : ℕ) → collected (truth l xs o) ≡ told_sum collected_by o xs
  paid_out : (o : ℕ) → paid_out (truth l xs o) ≡ told_sum paid_by o xs
  times : (p : ℕ) → times_paid xs p ≡ of_key counted_paid (truth l xs (origin p)) p

-- so it is whatever happened
told_so : {l : Limits} {xs : List Said} → l.parcels ≤ most_parcels → Happened l xs → AsTold l xs
unfolding truth collected paid_out has told_sum times_paid
told_so limit nothing_yet = record { collected = λ _. refl; paid_out = λ _. refl; times = λ _. refl }
told_so {l} limit (and_then {xs} o r a before there fits known right) =
    let was : AsTold l xs = told_so limit before in
    let more : Grows o (truth l xs o) (book_then l o (truth l xs o) r a) r a = grows l xs o r a (ways_true limit before) (does_one limit before o r a known right) in
    record {
      collected = sum_more l xs o r a more collected collected_by more.collected was.collected;
      paid_out = sum_more l xs o r a more paid_out paid_by more.paid_out was.paid_out;
      times = times_more l xs o r a more was.times;
    }

-- and a parcel counts once at most, and no more is paid out than is collected, since that is so of the books
pub money_told : MoneyTold
money_told can l xs g h =
    let told : AsTold l xs = told_so g.2 h in
    record {
      collected_told = told.collected;
      paid_told = told.paid_out;
      once = λ p. grind (arith, told.times p);
      covered = omega (arith, ap (over_offices l.offices) (fun_ext told.collected), ap (over_offices l.offices) (fun_ext told.paid_out), no_more_paid can l xs g h);
    }
