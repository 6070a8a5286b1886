-- Each office's book is the one that it has in truth: what was taken is what changes books.
use Rattle.std.proofs.Common.{◌≡◌, ℕ, ◌<◌, true, Ok, Err, refl, sym, ap, ◌∙◌}
use mathlib.Core.Logic.{∥∥₁_elim}
use denote.Struct.Props.{props}
use Rattle.parcels.specs.Book.{pick, Book}
use Rattle.parcels.specs.Calls.{Limits, after, told, answered, not_refused}
use Rattle.parcels.specs.declared.Call.{Call}
use Rattle.parcels.specs.declared.Call.TheVariants.{Accept, Send, SlipAgain, TakeIn, HandOut, Pay, WhereIs, Here, Sums}
use Rattle.parcels.specs.declared.Answer.{Answer}
use Rattle.wire.specs.Calls.{Reading}
use Rattle.rows.specs.Layout.{book_at}
use Rattle.session.specs.Answering.{reply, book_after}
use Rattle.promises.specs.Truth.{book_then, truth}
use Rattle.promises.specs.World.{World, Lived}
use Rattle.laws.proofs.Calls.{if_taken}
use Rattle.truths.proofs.Books.{truth_here, truth_elsewhere}
use Rattle.theorems.specs.Ours.{ours, BooksAreTrue}
use Rattle.theorems.proofs.Happened.{everywhere}

-- a call that its checks let through is answered by no refusal
told_taken : (o : ℕ) (b : Book) (c : Call) → not_refused (told o b c) ≡ true
unfolding told
told_taken o b (Accept dest amount) = refl
told_taken o b (Send key to) = refl
told_taken o b (SlipAgain key) = refl
told_taken o b (TakeIn s) = refl
told_taken o b (HandOut key) = refl
told_taken o b (Pay key) = refl
told_taken o b (WhereIs key) = refl
told_taken o b (Here from) = refl
told_taken o b Sums = refl

-- so it was taken just where it changes the book
taken_call : (l : Limits) (o : ℕ) (b : Book) (c : Call) → pick (not_refused (answered l o b c)) (after l o b c) b ≡ after l o b c
taken_call l o b c = if_taken l o b c (λ x a. pick (not_refused a) x b ≡ x) (λ _. refl) (λ _ _. rw (told_taken o b c))

-- by what an office answered, the book goes on in truth as its own does
goes_on : (l : Limits) (o : ℕ) (b : Book) (r : Reading) (a : Answer) → a ≡ reply l o b r → book_then l o b r a ≡ book_after l o b r
goes_on l o b (Ok c) a h = ap (λ x. book_then l o b (Ok c) x) h ∙ taken_call l o b c
goes_on l o b (Err e) a h = refl

-- the book that each office has in memory is the one that it has in truth
book_true : {l : Limits} {w : World} → Lived ours l w → (o : ℕ) → o < l.offices → book_at (w.memory o) ≡ truth l w.said o
unfolding truth
book_true {l} =
    everywhere (λ xs o m. book_at m ≡ truth l xs o)
    (λ o m x. x.opened.laid_out.empty)
    (λ xs o m r a n done _ h. done.after ∙ sym (goes_on l o (book_at m) r a done.answer) ∙ ap (λ b. book_then l o b r a) h ∙ sym (truth_here l xs o r a))
    (λ xs o q m r a other h. h ∙ sym (truth_elsewhere l xs o q r a other))

-- the same, where it is known that something happened, and not what
pub book_true_now : (l : Limits) (w : World) → ∥ Lived ours l w ∥₁ → BooksAreTrue l w.said w.memory
book_true_now l w v = record { each = λ o there. ∥∥₁_elim v (hlevel props) (λ x. book_true x o there) }
