-- What a call does with a book is one of five things, so what is so of each of these is so of every call.
use Rattle.std.proofs.Common.{◌≡◌, ℕ, ◌+◌, ◌≤◌, Bool, true, ◌&&◌, ◌||◌, List, [], ◌∷◌, Some, None, Option, refl, arith}
use Rattle.std.proofs.lemmas.Bool.Decides.{nat_tests}
use Rattle.parcels.specs.Numbers.{four_bytes, most_amount}
use Rattle.parcels.specs.Book.{pick, Book, has, own, with_own, leaves_it_here, has_room, each_once}
use Rattle.parcels.specs.Calls.{Limits, good_fields, checked, after, changed, told, new_key, accepted_entry, left_entry, came_entry, paid_entry, slip_works}
use Rattle.parcels.specs.Laws.{most_step, number_in, keys_given}
use Rattle.parcels.specs.declared.Kind.{Kind}
use Rattle.parcels.specs.declared.Kind.TheVariants.{SentOn, HandedOut}
use Rattle.parcels.specs.declared.Slip.{Slip}
use Rattle.parcels.specs.declared.Entry.{Entry}
use Rattle.parcels.specs.declared.Call.{Call}
use Rattle.parcels.specs.declared.Call.TheVariants.{Accept, Send, SlipAgain, TakeIn, HandOut, Pay, WhereIs, Here, Sums}
use Rattle.parcels.specs.declared.Reason.{Reason}
use Rattle.parcels.specs.declared.Reason.TheVariants.{WrongSlip, OverLimit}
use Rattle.laws.proofs.Books.{still_has, once_put}
use Rattle.laws.proofs.Calls.{passed, both_passed, if_taken}

-- the book stays; a new parcel is accepted, and its key given out; one comes in with a slip; one that is here makes a step,
-- and leaves; or one is paid for. Only accepting gives a key out. No amount above the largest is brought, and sending on, handing
-- out and paying leave a parcel's amount as it was
pub data Did (l : Limits) (o : ℕ) (b : Book) : Call → List ℕ → Book → Type 0 where
  nothing : {c : Call} → Did l o b c [] b
  accepts : (dest amount : ℕ) → has_room l.parcels b ≡ true → amount ≤ most_amount → Did l o b (Accept dest amount) (new_key o b ∷ []) (with_own b (accepted_entry o (new_key o b) dest amount))
  comes : (s : Slip) (paid : Bool) → slip_works o b s ≡ true → (has b s.key || has_room l.parcels b) ≡ true → s.amount ≤ most_amount → Did l o b (TakeIn s) [] (with_own b (came_entry o s paid))
  leaves : {c : Call} (key : ℕ) (kind : Kind) (to : ℕ) → has b key ≡ true → leaves_it_here (own b key).kind ≡ true → most_step kind ≡ four_bytes + 1 →
      Did l o b c [] (with_own b (left_entry kind to (own b key)))
  pays : {c : Call} (key : ℕ) → has b key ≡ true → Did l o b c [] (with_own b (paid_entry (own b key)))

module _ (l : Limits) (o : ℕ) (b : Book) where
  -- three of them, where the checks of a call turn nothing away
  comes_free : (s : Slip) (paid : Bool) → s.amount ≤ most_amount → pick (slip_works o b s) (pick (has b s.key || has_room l.parcels b) None (Some OverLimit)) (Some WrongSlip) ≡ None →
      Did l o b (TakeIn s) [] (with_own b (came_entry o s paid))
  comes_free s paid low free =
      let (works, room) = passed (slip_works o b s) (pick (has b s.key || has_room l.parcels b) None (Some OverLimit)) WrongSlip free in
      comes s paid works (passed (has b s.key || has_room l.parcels b) None OverLimit room).0 low

  leaves_free : (c : Call) (key : ℕ) (kind : Kind) (to : ℕ) (rest : Option Reason) (r : Reason) → most_step kind ≡ four_bytes + 1 → pick (has b key && leaves_it_here (own b key).kind) rest (Some r) ≡ None →
      Did l o b c [] (with_own b (left_entry kind to (own b key)))
  leaves_free c key kind to rest r most free =
      let (there, here) = both_passed (has b key) (leaves_it_here (own b key).kind) rest r free in
      leaves key kind to there here most

  pays_free : (c : Call) (key : ℕ) (t : Bool) (rest : Option Reason) (r : Reason) → pick (has b key && t) rest (Some r) ≡ None → Did l o b c [] (with_own b (paid_entry (own b key)))
  pays_free c key t rest r free = pays key (both_passed (has b key) t rest r free).0

  -- each call does one of the five
  pub did : (c : Call) → Did l o b c (keys_given l o b c) (after l o b c)
  unfolding good_fields checked changed told
  did (Accept dest amount) =
      if_taken l o b (Accept dest amount) (λ x a. Did l o b (Accept dest amount) (number_in a) x) (λ _. nothing)
      (λ good free. accepts dest amount (passed (has_room l.parcels b) None OverLimit free).0 (grind (arith, nat_tests)))
  did (Send key to) = if_taken l o b (Send key to) (λ x _. Did l o b (Send key to) [] x) (λ _. nothing) (λ _. leaves_free (Send key to) key SentOn to _ _ refl)
  did (SlipAgain key) = if_taken l o b (SlipAgain key) (λ x _. Did l o b (SlipAgain key) [] x) (λ _. nothing) (λ _ _. nothing)
  did (TakeIn s) =
      if_taken l o b (TakeIn s) (λ x _. Did l o b (TakeIn s) [] x) (λ _. nothing)
      (λ good. comes_free s (has b s.key && (own b s.key).paid) (grind (arith, nat_tests)))
  did (HandOut key) = if_taken l o b (HandOut key) (λ x _. Did l o b (HandOut key) [] x) (λ _. nothing) (λ _. leaves_free (HandOut key) key HandedOut o _ _ refl)
  did (Pay key) = if_taken l o b (Pay key) (λ x _. Did l o b (Pay key) [] x) (λ _. nothing) (λ _. pays_free (Pay key) key _ _ _)
  did (WhereIs key) = if_taken l o b (WhereIs key) (λ x _. Did l o b (WhereIs key) [] x) (λ _. nothing) (λ _ _. nothing)
  did (Here from) = if_taken l o b (Here from) (λ x _. Did l o b (Here from) [] x) (λ _. nothing) (λ _ _. nothing)
  did Sums = if_taken l o b Sums (λ x _. Did l o b Sums [] x) (λ _. nothing) (λ _ _. nothing)

-- what is so of the book, and of it with any entry put in, is so of the one after a call
put_or_not : (l : Limits) (o : ℕ) (b : Book) {c : Call} {keys : List ℕ} {b' : Book} (P : Book → Type 0) → Did l o b c keys b' → P b → ((e : Entry) → P (with_own b e)) → P b'
put_or_not l o b P nothing same put = same
put_or_not l o b P (accepts dest amount room _) same put = put _
put_or_not l o b P (comes s paid works room _) same put = put _
put_or_not l o b P (leaves key kind to there here most) same put = put _
put_or_not l o b P (pays key there) same put = put _

-- so a parcel that a book has stays in it, whatever is called
pub call_keeps : (l : Limits) (o : ℕ) (b : Book) (c : Call) (key : ℕ) → has b key ≡ true → has (after l o b c) key ≡ true
call_keeps l o b c key h = put_or_not l o b (λ x. has x key ≡ true) (did l o b c) h (λ e. still_has b e key h)

-- and where each has one entry, each has one still
pub once_kept : (l : Limits) (o : ℕ) (b : Book) (c : Call) → each_once b ≡ true → each_once (after l o b c) ≡ true
once_kept l o b c once = put_or_not l o b (λ x. each_once x ≡ true) (did l o b c) once (λ e. once_put b e once)
