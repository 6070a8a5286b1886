-- What is so of a world, whatever happened in it.
use Rattle.std.specs.Prelude.{ℕ}
use Rattle.promises.specs.Promise.{Happened, ParcelsSafe}
use Rattle.promises.specs.Beside.{HasLast}
use Rattle.promises.specs.Told.{MoneyAsAnswered}
use Rattle.theorems.specs.Ours.{BooksAreTrue}
use Rattle.world.specs.declared.World.{World}
use Rattle.world.specs.Journal.{history}
use Rattle.world.specs.View.{limits_of, journal_of, memory_of}

-- That what was said in it happened is a fact (`∥ .. ∥₁`: which way is not kept), so what follows of that and has one proof at
-- most can be had from it. What each office has in memory means its book in truth. Each parcel's steps came in turn, it is at one
-- office at most, if it was handed out that was where it was for, and no more was paid out than was collected. The
-- office that made its last step has it so in its book, and no other office does. The sums of each book are what was
-- answered, and no parcel was paid for twice.
pub data Safe (w : World) : Type 0 where
  all_of : ∥ Happened (limits_of w) (history (journal_of w)) ∥₁ → BooksAreTrue (limits_of w) (history (journal_of w)) (memory_of w) → ParcelsSafe (limits_of w) (history (journal_of w)) →
      ((p : ℕ) → HasLast (limits_of w) (history (journal_of w)) p) → MoneyAsAnswered (limits_of w) (history (journal_of w)) → Safe w
