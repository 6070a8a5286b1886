-- What calls come to.
use Rattle.std.specs.Prelude.{◌≡◌, false, Ok, Err, Result}
use Rattle.parcels.specs.Calls.{answered, after, not_refused}
use Rattle.parcels.specs.declared.Call.{Call}
use Rattle.parcels.specs.declared.Refusal.{Refusal}
use Rattle.parcels.specs.declared.Answer.{Answer}
use Rattle.parcels.specs.declared.Answer.TheVariants.{Refused}
use Rattle.book.specs.View.{book_in}
use Rattle.book.specs.Keeping.{SameElsewhere}
use Rattle.book.specs.declared.Book.{Book as Lent}
use Rattle.moves.specs.Stage.{limits_of}

-- an answer, by what a call came to: what it gives, or why it was turned away
abbrev pub answer_by : {X : Type 0} → (X → Answer) → Result X Refusal → Answer
answer_by f (Ok x) = f x
answer_by f (Err e) = Refused e

-- a call came to a book: its answer and the book after it are those of the rules. Where it was turned away, no word
-- changed; else none of those that are kept free or stand behind the book's rows
pub record Handled (c : Call) (x : Lent) (a : Answer) (y : Lent) : Type 0 where
  pub answer : a ≡ answered (limits_of x.opening) x.opening.own (book_in x) c
  pub after : book_in y ≡ after (limits_of x.opening) x.opening.own (book_in x) c
  pub same : not_refused a ≡ false → y.memory.now ≡ x.memory.now
  pub elsewhere : SameElsewhere x.memory.now y.memory.now
