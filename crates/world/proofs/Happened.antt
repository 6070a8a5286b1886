-- What a world holds happened, within good limits, and its offices' books are true.
use Rattle.std.proofs.Common.{ℕ, List, vec_items, vec_len}
use mathlib.Core.Logic.{∥∥₁_elim, ∥∥₁_map}
use denote.Struct.Props.{props}
use Rattle.parcels.specs.Calls.{Limits, thin}
use Rattle.promises.specs.Promise.{GoodLimits, Happened, ParcelsSafe}
use Rattle.promises.specs.Beside.{HasLast}
use Rattle.promises.specs.World.{Said}
use Rattle.promises.specs.Told.{MoneyAsAnswered}
use Rattle.ways.proofs.Follow.{last_held}
use Rattle.ways.proofs.Money.{money_told}
use Rattle.ways.proofs.Programs.{parcels_safe}
use Rattle.theorems.specs.Ours.{BooksAreTrue}
use Rattle.theorems.proofs.Promises.{lived_happened}
use Rattle.theorems.proofs.Truth.{book_true_now}
use Rattle.world.specs.declared.World.{World}
use Rattle.world.specs.Journal.{history, world_of}
use Rattle.world.specs.View.{limits_of, letters_of, journal_of, memory_of}
use Rattle.world.specs.Safe.{Safe, all_of}
use Rattle.world.proofs.Happens.{good_limits}

pub good_world : (w : World) → GoodLimits thin (limits_of w)
good_world w = good_limits (vec_len w.stations) w.parcels w.good

pub happened_in : (w : World) → ∥ Happened (limits_of w) (history (journal_of w)) ∥₁
happened_in w = ∥∥₁_map w.lived (λ v. lived_happened (limits_of w) (world_of (vec_items w.stations) (letters_of w) (journal_of w)) (good_world w) v)

books_true : (w : World) → BooksAreTrue (limits_of w) (history (journal_of w)) (memory_of w)
books_true w = book_true_now (limits_of w) (world_of (vec_items w.stations) (letters_of w) (journal_of w)) w.lived

-- what is so of all that happened, and has one proof at most, is so of a world
module _ (w : World) where
  abbrev l : Limits
  l = limits_of w

  abbrev xs : List Said
  xs = history (journal_of w)

  parcels : ParcelsSafe l xs
  parcels = ∥∥₁_elim (happened_in w) (hlevel props) (λ h. parcels_safe thin l xs (good_world w) h)

  last : (p : ℕ) → HasLast l xs p
  last p s is = ∥∥₁_elim (happened_in w) (hlevel props) (λ h. last_held thin l xs p (good_world w) h s is)

  money : MoneyAsAnswered l xs
  money = ∥∥₁_elim (happened_in w) (hlevel props) (λ h. money_told thin l xs (good_world w) h)

  pub kept_safe : Safe w
  kept_safe = all_of (happened_in w) (books_true w) parcels last money
