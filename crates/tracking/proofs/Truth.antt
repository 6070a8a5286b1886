-- What the journal of a world tells of is so in truth.
use Rattle.std.proofs.Common.{◌≡◌, ℕ, Some, Ok, Err, Result, IfOk, sym, ap, ◌∙◌}
use Rattle.std.specs.Ordering.{nat_cmp}
use Rattle.std.specs.BTreeMap.{BTreeMap, get}
use mathlib.Core.Logic.{∥∥₁_elim}
use denote.Struct.Props.{props}
use Rattle.parcels.specs.Calls.{thin}
use Rattle.parcels.specs.declared.Step.{Step}
use Rattle.promises.specs.Truth.{last_of}
use Rattle.promises.specs.Beside.{LastHeld}
use Rattle.truths.proofs.Moves.{told_in_truth}
use Rattle.world.specs.declared.World.{World}
use Rattle.world.specs.Journal.{history}
use Rattle.world.specs.View.{limits_of, journal_of}
use Rattle.world.specs.Safe.{Safe, all_of}
use Rattle.world.proofs.Happened.{good_world, happened_in, kept_safe}
use Rattle.tracking.specs.Steps.{last_step, last_told, IsHeld}

pub told_last : (w : World) (p : ℕ) → last_told (journal_of w) p ≡ last_step (limits_of w) (journal_of w) p
told_last w p = ap last_of (∥∥₁_elim (happened_in w) (hlevel props) (λ h. told_in_truth thin (limits_of w) (history (journal_of w)) p (good_world w) h))

-- the office that made a last step has it in its book, which is what it has in memory
held : (w : World) (p : ℕ) (s : Step) → Safe w → last_step (limits_of w) (journal_of w) p ≡ Some s → IsHeld w p s
held w p s (all_of _ books _ last _) is =
    let x : LastHeld (limits_of w) (history (journal_of w)) p s = last p s is in
    rw (books.each s.office x.there) (x.held, x.step, x.kind)

-- so it is of each step in a map of those that exchanges tell of
pub told_held : {E : Type 0} (w : World) (r : Result (BTreeMap ℕ Step) E) → IfOk r (λ steps. (key : ℕ) → get nat_cmp steps key ≡ last_told (journal_of w) key) →
    IfOk r (λ steps. (key : ℕ) (step : Step) → get nat_cmp steps key ≡ Some step → IsHeld w key step)
told_held w (Ok steps) told = λ key s is. held w key s (kept_safe w) (sym (told_last w key) ∙ sym (told key) ∙ is)
told_held w (Err e) told = tt
