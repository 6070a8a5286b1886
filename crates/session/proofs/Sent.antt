-- What was done sent no letter, and so none was written.
use Rattle.std.proofs.Common.{◌≡◌, ℕ, true, List, [], refl}
use Rattle.parcels.specs.Calls.{Limits}
use Rattle.parcels.specs.declared.Answer.{Answer}
use Rattle.wire.specs.Layout.{answer_bytes, Written}
use Rattle.wire.specs.Answers.{fits}
use Rattle.letters.specs.Envelope.{Letter, Posted}
use Rattle.session.specs.Exchanging.{RowCalled, Answered}

pub none_sent : (m lent : List ℕ) → (xs : List Letter) × ((m ≡ m) × (xs ≡ [])) × Posted xs 0 lent lent
none_sent m lent = ([], (refl, refl), (refl, refl))

pub answered : (l : Limits) (o : ℕ) (m bytes out out' lent : List ℕ) (a : Answer) (n : ℕ) (m' : List ℕ) → RowCalled l o m bytes a m' [] → fits a ≡ true →
    Written (answer_bytes a) out out' n → Answered l o m bytes out out' lent lent (record { answer = n; letters = 0 }) m'
answered l o m bytes out out' lent a n m' row fit written = record { answer = a; sent = ([], row, (refl, refl)); fit = fit; written = written }
