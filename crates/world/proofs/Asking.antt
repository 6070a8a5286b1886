-- What goes through bytes stays what it was: a call on its way to an office, and its answer.
use Rattle.std.proofs.Common.{◌≡◌, ℕ, ◌≤◌, true, List, length, take, drop, Ok, Err, Result, sym, refl, ap, ◌∙◌, subst, arith}
use Rattle.std.proofs.lemmas.List.{length-append, take_at}
use Rattle.parcels.specs.Calls.{Limits}
use Rattle.parcels.specs.declared.Call.{Call}
use Rattle.parcels.specs.declared.Answer.{Answer}
use Rattle.wire.specs.Layout.{readable, call_bytes, Written}
use Rattle.wire.specs.Calls.{Reading, Reads}
use Rattle.promises.specs.World.{row_readable}
use Rattle.wire.proofs.CallReadings.{one_reading}
use Rattle.world.specs.declared.Exchange.{Exchange}
use Rattle.world.specs.declared.CannotHappen.{CannotHappen}
use Rattle.world.specs.Outcome.{Handed, Came}

-- the part of the lent bytes that was written
module _ (bytes before after : List ℕ) (len : ℕ) (w : Written bytes before after len) where
  pub within : len ≤ length after
  within = omega (arith, w.count, ap length w.filled, length-append bytes (drop len before))

  pub front : take len after ≡ bytes
  front = ap (take len) w.filled ∙ take_at bytes (drop len before) len (sym w.count)

  pub all_there : len ≡ length (take len after)
  all_there = w.count ∙ ap length (sym front)

pub readable_as : (bytes : List ℕ) (r : Reading) → Reads bytes r → row_readable r ≡ true
readable_as bytes (Ok c) (fits, _) = fits
readable_as bytes (Err e) _ = refl

-- the bytes of a call are handed on as that call
pub handed_as : (l : Limits) (xs : List Exchange) (o : ℕ) (c : Call) (bytes : List ℕ) (a : Result Answer CannotHappen) (ys : List Exchange) → readable c ≡ true → bytes ≡ call_bytes c →
    Came l xs o bytes a ys → Handed l xs o (Ok c) a ys
handed_as l xs o c bytes a ys fits e (r, reads, h) = subst (λ (x : Reading). Handed l xs o x a ys) (one_reading bytes r (Ok c) reads (fits, e)) h
