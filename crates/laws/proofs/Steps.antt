-- How far steps go.
use Rattle.std.proofs.Common.{◌≡◌, ℕ, ◌<◌, ◌≤◌, true, false, eqb, le-ltb, List, sym, ◌∙◌, arith, zero-le, inl, inr}
use Rattle.std.proofs.lemmas.Bool.{cases_Bool}
use Rattle.std.proofs.lemmas.Bool.Decides.{nat_tests}
use Rattle.parcels.specs.Numbers.{four_bytes, all_below, call_values}
use Rattle.parcels.specs.Book.{Book, has, own, with_own, leaves_it_here, has_room}
use Rattle.parcels.specs.Calls.{Limits, after, accepted_entry, left_entry, came_entry, paid_entry, new_key, slip_works}
use Rattle.parcels.specs.Laws.{most_step, StepFits, StepsFit, StepsStayFit}
use Rattle.parcels.specs.declared.Kind.{Kind}
use Rattle.parcels.specs.declared.Kind.TheVariants.{Accepted, SentOn, ComeIn, HandedOut}
use Rattle.parcels.specs.declared.Slip.{Slip}
use Rattle.parcels.specs.declared.Entry.{Entry}
use Rattle.parcels.specs.declared.Call.{Call}
use Rattle.laws.proofs.Books.{own_key, put_is, each_put}
use Rattle.laws.proofs.Did.{Did, nothing, accepts, comes, leaves, pays, did, call_keeps}

-- a parcel that is at an office may still make a step
pub here_low : (e : Entry) → leaves_it_here e.kind ≡ true → StepFits e → e.step ≤ four_bytes
here_low e t low = go e.kind t low
  where
    go : (k : Kind) → leaves_it_here k ≡ true → e.step ≤ most_step k → e.step ≤ four_bytes
    go Accepted t low = omega (arith, low)
    go SentOn t low = absurd (cc)
    go ComeIn t low = low
    go HandedOut t low = absurd (cc)

-- each thing that a call does leaves none that goes further, where four bytes hold the step of a slip
kept : (l : Limits) (o : ℕ) (b : Book) {c : Call} {keys : List ℕ} {b' : Book} → Did l o b c keys b' → all_below four_bytes (call_values c) ≡ true → StepsFit b → StepsFit b'
kept l o b nothing small fit = fit
kept l o b (accepts dest amount room _) small fit = each_put StepFits b (accepted_entry o (new_key o b) dest amount) fit zero-le
kept l o b (comes s paid works room _) small fit = each_put StepFits b (came_entry o s paid) fit (grind (arith, nat_tests))
kept l o b (leaves key kind to there here most) small fit = each_put StepFits b (left_entry kind to (own b key)) fit (omega (arith, most, here_low (own b key) here (fit key there)))
kept l o b (pays key there) small fit = each_put StepFits b (paid_entry (own b key)) fit (fit key there)

pub stay_fit : StepsStayFit
unfolding has
stay_fit = record { empty = λ key there. absurd (cc); call = λ l o b c small. kept l o b (did l o b c) small }

-- an entry is put in whose step doesn't go back
up : (b : Book) (e : Entry) (key : ℕ) → (e.key ≡ key → (own b key).step ≤ e.step) → (own b key).step ≤ (own (with_own b e) key).step
up b e key no_lower = put_is b e key (λ x. (own b key).step ≤ x.step) no_lower (λ _. omega arith)

-- a slip that works is newer than what the book has of its parcel
newer : (o : ℕ) (b : Book) (s : Slip) → slip_works o b s ≡ true → has b s.key ≡ true → (own b s.key).step < s.step
newer o b s works there = grind (arith, nat_tests)

-- the step that a book has of a parcel never goes back, where no parcel has the next new key
pub rising : (l : Limits) (o : ℕ) (b : Book) {c : Call} {keys : List ℕ} {b' : Book} → Did l o b c keys b' → (has_room l.parcels b ≡ true → has b (new_key o b) ≡ false) → (key : ℕ) → has b key ≡ true →
    (own b key).step ≤ (own b' key).step
rising l o b nothing new key there = omega arith
rising l o b (accepts dest amount room _) new key there =
    up b (accepted_entry o (new_key o b) dest amount) key
    (λ is. let free : has b key ≡ false = rw (← is) (new room) in absurd (cc))
rising l o b (comes s paid works room _) new key there =
    up b (came_entry o s paid) key
    (λ is. let low : (own b s.key).step < s.step = newer o b s works (rw is there) in rw (← is) (omega (arith, low)))
rising l o b (leaves k kind to had here most) new key there = up b (left_entry kind to (own b k)) key (λ is. rw (← (sym (own_key b k had) ∙ is)) (omega arith))
rising l o b (pays k had) new key there = up b (paid_entry (own b k)) key (λ is. rw (← (sym (own_key b k had) ∙ is)) (omega arith))

-- so a slip that doesn't work at an office never will
pub never_works : (l : Limits) (o : ℕ) (b : Book) (c : Call) (s : Slip) → (has_room l.parcels b ≡ true → has b (new_key o b) ≡ false) → slip_works o b s ≡ false → slip_works o (after l o b c) s ≡ false
never_works l o b c s new old =
    elim (cases_Bool (eqb s.to o)) [
      | inl mine ↦
          let there : has b s.key ≡ true = grind (arith, nat_tests) in
          let late : s.step ≤ (own b s.key).step = grind (arith, nat_tests) in
          let up : (own b s.key).step ≤ (own (after l o b c) s.key).step = rising l o b (did l o b c) new s.key there in
          rw (mine, call_keeps l o b c s.key there) (le-ltb (own (after l o b c) s.key).step s.step (omega (arith, late, up)))
      | inr other ↦ rw other
    ]
