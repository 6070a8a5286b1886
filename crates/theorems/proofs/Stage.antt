-- The stage: a call that can't be done yet is turned away as out of range, whatever the book has.
use Rattle.std.proofs.Common.{◌≡◌, ℕ, false, Some, ap, ◌∙◌}
use Rattle.parcels.specs.Numbers.{call_number}
use Rattle.parcels.specs.Book.{Book}
use Rattle.parcels.specs.Calls.{Limits, turned, refusal, told, answered, unless}
use Rattle.parcels.specs.declared.Reason.TheVariants.{OutOfRange}
use Rattle.parcels.specs.declared.Call.{Call}
use Rattle.parcels.specs.declared.Answer.{Answer}
use Rattle.parcels.specs.declared.Answer.TheVariants.{Refused}

pub turned_away : (l : Limits) (o : ℕ) (b : Book) (c : Call) → l.can (call_number c) ≡ false → turned l o b c ≡ Some OutOfRange
turned_away l o b c never = rw never

pub refused : (l : Limits) (o : ℕ) (b : Book) (c : Call) (a : Answer) → l.can (call_number c) ≡ false → a ≡ answered l o b c → a ≡ Refused (refusal c OutOfRange)
refused l o b c a never h = h ∙ ap (λ t. unless t (told o b c) (λ r. Refused (refusal c r))) (turned_away l o b c never)
