-- How a parcel can go on from its last step, by the rules. What an office has of it names offices that are there, so the fields
-- of its slip are good.
use Rattle.std.proofs.Common.{◌≡◌, ℕ, ◌<◌, ◌≤◌, true, false, ◌&&◌, eqb, eq-eqb, lt-ltb, le-leb, inl, inr, List, None, refl, ap, ◌∙◌, arith}
use Rattle.std.proofs.lemmas.Bool.{cases_Bool}
use Rattle.std.proofs.lemmas.Bool.Decides.{nat_tests}
use Rattle.parcels.specs.Numbers.{most_amount}
use Rattle.parcels.specs.Book.{Book, origin, has, own, with_own, leaves_it_here, was_sent_on}
use Rattle.parcels.specs.Calls.{Limits, good_fields, checked, changed, new_key, slip_from, accepted_entry, sent_entry, handed_entry, came_entry, paid_entry, slip_works}
use Rattle.parcels.specs.Laws.{Each}
use Rattle.parcels.specs.declared.Slip.{Slip}
use Rattle.parcels.specs.declared.Entry.{Entry}
use Rattle.parcels.specs.declared.Call.{Call}
use Rattle.parcels.specs.declared.Call.TheVariants.{Accept, Send, TakeIn, HandOut, Pay}
use Rattle.parcels.specs.declared.Reason.TheVariants.{NotHere}
use Rattle.promises.specs.World.{Said}
use Rattle.promises.specs.Truth.{truth}
use Rattle.promises.specs.Promise.{Happened}
use Rattle.promises.specs.Beside.{LastHeld, CanGoFurther}
use Rattle.laws.proofs.Books.{own_key, each_put}
use Rattle.laws.proofs.Calls.{both_passed, can_hand_out, if_taken}
use Rattle.truths.proofs.Books.{each_book}
use Rattle.truths.proofs.Shelves.{shelves_and_sums}
use Rattle.ways.proofs.Follow.{last_held}

-- a parcel is for an office that is there; where it was sent on, it is on the way to one that is there, another than this one
abbrev GoesSomewhere : Limits → ℕ → Entry → Type 0
GoesSomewhere l o e = (e.dest < l.offices) × (was_sent_on e.kind ≡ true → (e.to < l.offices) × (eqb e.to o ≡ false))

module _ (l : Limits) (o : ℕ) (b : Book) (was : Each (GoesSomewhere l o) b) where
  -- an entry of this kind is put in
  put : (e : Entry) → GoesSomewhere l o e → Each (GoesSomewhere l o) (with_own b e)
  put e = each_put (GoesSomewhere l o) b e was

  -- so is each one after a call with good fields that its checks let through
  still_goes : (c : Call) → good_fields l o c ≡ true → checked l o b c ≡ None → Each (GoesSomewhere l o) (changed o b c)
  unfolding good_fields checked changed
  still_goes (Accept dest amount) good free = put (accepted_entry o (new_key o b) dest amount) (grind (arith, nat_tests), λ is. absurd (cc))
  still_goes (Send key to) good free =
      let (there, here) = both_passed (has b key) (leaves_it_here (own b key).kind) None NotHere free in
      put (sent_entry (own b key) to) ((was key there).0, λ _. (grind (arith, nat_tests), grind (arith, nat_tests)))
  still_goes (TakeIn s) good free = put (came_entry o s (has b s.key && (own b s.key).paid)) (grind (arith, nat_tests), λ is. absurd (cc))
  still_goes (HandOut key) good free = put (handed_entry o (own b key)) ((was key (can_hand_out l o b key free).0).0, λ is. absurd (cc))
  still_goes (Pay key) good free =
      let (there, ours) = both_passed (has b key) (eqb (origin key) o) _ NotHere free in
      put (paid_entry (own b key)) (was key there)
  still_goes c good free = was

-- so it is of each office's book, whatever happened
go_somewhere : {l : Limits} {xs : List Said} → Happened l xs → (o : ℕ) → Each (GoesSomewhere l o) (truth l xs o)
unfolding has
go_somewhere {l} = each_book (λ o. Each (GoesSomewhere l o)) (λ o key there. absurd (cc)) (λ o b c _ was. if_taken l o b c (λ x _. Each (GoesSomewhere l o) x) (λ _. was) (still_goes l o b was c))

-- where a slip of a parcel is for, it works if it is newer than what is known there
works : (b : Book) (s : Slip) (p : ℕ) → s.key ≡ p → (has b p ≡ true → (own b p).step < s.step) → slip_works s.to b s ≡ true
works b s p is newer =
    elim (cases_Bool (has b p)) [
      | inl there ↦ rw (eq-eqb s.to s.to refl, is, there, lt-ltb (own b p).step s.step (newer there)) refl
      | inr new ↦ rw (eq-eqb s.to s.to refl, is, new) refl
    ]

-- the office that made the last step has the parcel by it; so it can leave from there, and no other office has it by a later
-- step than its slip tells
pub go_further : CanGoFurther
unfolding good_fields checked
go_further can l xs p last g h is =
    let held : LastHeld l xs p last = last_held can l xs p g h last is in
    let b : Book = truth l xs last.office in
    let e : Entry = own b p in
    record {
      goal = (go_somewhere h last.office p held.held).0;
      sent = λ here may to there other. rw (may, lt-ltb to l.offices there, other, held.held, held.kind, here) refl;
      handed_out = λ here may for. rw (may, held.held, held.kind, here, eq-eqb e.dest last.office for) refl;
      slip = λ sent may. rw (may, held.held, held.kind, sent) refl;
      taken_in = λ sent may room.
          let (dest, way) = go_somewhere h last.office p held.held in
          let (to, other) = way (ap was_sent_on held.kind ∙ sent) in
          let fits : e.amount ≤ most_amount = (shelves_and_sums can l xs last.office g h).amounts p held.held in
          let key : e.key ≡ p = own_key b p held.held in
          let newer : slip_works e.to (truth l xs e.to) (slip_from last.office e) ≡ true = works (truth l xs e.to) (slip_from last.office e) p key (λ there. omega (arith, held.step, held.others e.to there other)) in
          rw (may, lt-ltb last.office l.offices held.there, lt-ltb e.to l.offices to, lt-ltb e.dest l.offices dest, le-leb e.amount most_amount fits, newer, key, room) refl;
    }
