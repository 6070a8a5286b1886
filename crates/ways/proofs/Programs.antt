-- What follows for every office that answers right, whatever its program: what such offices live through happened, so what
-- is promised of that is so of them; what one tells of a parcel never goes back; and no letter changes what it can answer by
-- itself.
use Rattle.std.proofs.Common.{◌≡◌, ℕ, Bool, true, false, ◌&&◌, eqb, ltb, List, [], ◌++◌, Ok, Err, refl, sym, ap, ◌∙◌, inl, inr, arith, zero-le, append-nil}
use Rattle.std.proofs.lemmas.Bool.{cases_Bool}
use Rattle.std.proofs.lemmas.Bool.Decides.{nat_tests}
use Rattle.parcels.specs.Book.{pick, Book}
use Rattle.parcels.specs.Calls.{Stage, Limits, answered, not_refused, needs_news}
use Rattle.parcels.specs.declared.Call.{Call}
use Rattle.parcels.specs.declared.Call.TheVariants.{Accept, Send, SlipAgain, TakeIn, HandOut, Pay, WhereIs, Here, Sums}
use Rattle.parcels.specs.declared.Answer.{Answer}
use Rattle.parcels.specs.declared.Answer.TheVariants.{At}
use Rattle.wire.specs.Calls.{Reading}
use Rattle.wire.specs.Layout.{readable}
use Rattle.promises.specs.World.{Office, Said, Lived, opened, called, heard, ticked, row_readable, after_news}
use Rattle.promises.specs.Truth.{book_then, move_then, truth, in_truth}
use Rattle.promises.specs.Promise.{GoodLimits, step_told, row_asks_for, told_so_far, RightWhere, RightAnswer, Right, Happened, nothing_yet, and_then, LivedHappened, ParcelsSafe, NeverBack, OldLetters, RefusedMoves, EightStatements, runs, RightPrograms}
use Rattle.truths.proofs.Books.{each_truth}
use Rattle.truths.proofs.Moves.{steps_more}
use Rattle.truths.proofs.Spent.{slip_spent}
use Rattle.ways.proofs.Follow.{steps_in_turn, not_at_two, where_it_was_for}
use Rattle.ways.proofs.Paid.{no_more_paid}

-- each answer is right, so what was said happened
pub lived_happened : (can : Stage) (f : Office) → Right can f → LivedHappened can f
lived_happened can f right l w g (opened ms begins) = nothing_yet
lived_happened can f right l w g (called {w = u} o r m a ls v there fits known did) =
    and_then o r a (lived_happened can f right l u g v) there fits known (right l u o r m a ls g v there fits known did)
lived_happened can f right l w g (heard {w = u} x m ls v sent there did) = lived_happened can f right l u g v
lived_happened can f right l w g (ticked {w = u} o m ls v there did) = lived_happened can f right l u g v

-- an answer to a call that needs no news is as the book has it in truth
by_itself : (l : Limits) (xs : List Said) (o : ℕ) (c : Call) (a : Answer) → needs_news c ≡ false → RightAnswer l xs o c a → a ≡ answered l o (truth l xs o) c
by_itself l xs o (Accept dest amount) a own right = right
by_itself l xs o (Send key to) a own right = right
by_itself l xs o (SlipAgain key) a own right = right
by_itself l xs o (TakeIn s) a own right = right
by_itself l xs o (HandOut key) a own right = right
by_itself l xs o (Pay key) a own right = absurd (cc)
by_itself l xs o (WhereIs key) a own right = absurd (cc)
by_itself l xs o (Here from) a own right = right
by_itself l xs o Sums a own right = right

-- a letter changes nothing that was said, so both answers are by the same books
pub old_letters : (can : Stage) (f : Office) → Right can f → OldLetters can f
old_letters can f right l w x o c m n n' ls ms ms' a a' g v sent to there own fits known did first second =
    let late : Lived f l (after_news w x.to m ls) = heard x m ls v sent to did in
    let was : a ≡ answered l o (truth l w.said o) c = by_itself l w.said o c a own (right l w o (Ok c) n a ms g v there fits known first) in
    by_itself l w.said o c a' own (right l (after_news w x.to m ls) o (Ok c) n' a' ms' g late there fits known second) ∙ sym was

-- where a call's field can't carry a key, no call that was read asks for it
not_asked : (p : ℕ) (r : Reading) → row_readable r ≡ true → readable (WhereIs p) ≡ false → row_asks_for r p ≡ false
not_asked p (Ok (Accept dest amount)) fits far = refl
not_asked p (Ok (Send key to)) fits far = refl
not_asked p (Ok (SlipAgain key)) fits far = refl
not_asked p (Ok (TakeIn s)) fits far = refl
not_asked p (Ok (HandOut key)) fits far = refl
not_asked p (Ok (Pay key)) fits far = refl
not_asked p (Ok (WhereIs key)) fits far = grind (arith, nat_tests)
not_asked p (Ok (Here from)) fits far = refl
not_asked p (Ok Sums) fits far = refl
not_asked p (Err e) fits far = refl

-- an answer to a call that doesn't ask for a parcel tells nothing of it
not_told : (here asks more : Bool) (new r : ℕ) → asks ≡ false → pick ((here && asks) && more) new r ≡ r
not_told true asks more new r not = rw not
not_told false asks more new r not = refl

-- so nothing was told of such a key
none_told : {l : Limits} {xs : List Said} → Happened l xs → (o p : ℕ) → readable (WhereIs p) ≡ false → told_so_far xs o p ≡ 0
unfolding told_so_far
none_told nothing_yet o p far = refl
none_told (and_then {xs} q r a before there fits known right) o p far =
    let was : ℕ = told_so_far xs o p in
    not_told (eqb q o) (row_asks_for r p) (ltb was (step_told a)) (step_told a) was (not_asked p r fits far) ∙ none_told before o p far

-- a right answer tells of no step before one that was told; and where the key is one that no call that was read asks for, none
-- was told
pub never_back : (can : Stage) (f : Office) → Right can f → NeverBack can f
unfolding RightWhere
never_back can f right l w o p s m ls g v there did =
    elim (cases_Bool (readable (WhereIs p))) [
      | inl fits ↦ (right l w o (Ok (WhereIs p)) m (At s) ls g v there fits tt did).4
      | inr far ↦ rw (none_told (lived_happened can f right l w g v) o p far) zero-le
    ]

-- a call that is turned away leaves the book of the office that it came to as it was
book_stays : (l : Limits) (o : ℕ) (b : Book) (r : Reading) (a : Answer) → not_refused a ≡ false → book_then l o b r a ≡ b
book_stays l o b (Ok c) a away = rw away
book_stays l o b (Err e) a away = refl

-- and it makes no step
no_step : (l : Limits) (o : ℕ) (b : Book) (r : Reading) (a : Answer) (p : ℕ) → not_refused a ≡ false → move_then o b r a p ≡ []
no_step l o b (Ok c) a p away = rw away
no_step l o b (Err e) a p away = refl

pub refused_moves : RefusedMoves
refused_moves l xs o r a away = (
  each_truth l xs o r a (λ q b. b ≡ truth l xs q) (book_stays l o (truth l xs o) r a away) (λ q _. refl),
  λ p. steps_more l xs o r a p ∙ ap (λ ms. in_truth l xs p ++ ms) (no_step l o (truth l xs o) r a p away) ∙ append-nil (in_truth l xs p),
)

-- the first four, of all parcels of a post
pub parcels_safe : (can : Stage) (l : Limits) (xs : List Said) → GoodLimits can l → Happened l xs → ParcelsSafe l xs
parcels_safe can l xs g h =
    record {
      in_turn = λ p. steps_in_turn can l xs p g h;
      at_one = λ p. not_at_two can l xs p g h;
      covered = no_more_paid can l xs g h;
      was_for = λ p. where_it_was_for can l xs p g h;
    }

-- all eight
pub eight : (can : Stage) (f : Office) → Right can f → EightStatements can f
eight can f right =
    let happened : LivedHappened can f = lived_happened can f right in
    record {
      parcels = λ l w g v. parcels_safe can l w.said g (happened l w g v);
      never_back = never_back can f right;
      old_letters = old_letters can f right;
      slips = λ l w g v. slip_spent can l w.said g (happened l w g v);
      refused = refused_moves;
    }

-- so they are of an office that runs a program
pub right_programs : RightPrograms
right_programs can f right = eight can (runs f) right
