-- One lemma computes all answers of the example.
use Rattle.std.proofs.Common.{refl}
use Rattle.parcels.specs.Book.{has, own, with_own, accepted, how_many_here, first_here, collected, paid_out}
use Rattle.parcels.specs.Calls.{good_fields, checked, changed, told}
use Rattle.parcels.specs.Example.{answers, WayIsAnswered}

pub answered : WayIsAnswered
unfolding answers has own with_own accepted how_many_here first_here collected paid_out good_fields checked changed told
answered = refl
