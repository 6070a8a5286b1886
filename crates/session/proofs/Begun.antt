-- An office that was opened has begun.
use Rattle.std.proofs.Common.{◌≡◌, ℕ, List, length, arith}
use Rattle.book.specs.declared.opening.Opening.{Opening}
use Rattle.moves.specs.Stage.{stage_limits}
use Rattle.session.specs.Opening.{Opened}
use Rattle.session.specs.Exchanging.{FewWords, WordsFit, Begun}

pub begun : (offices own parcels : ℕ) (m m' : List ℕ) (x : Opening) → Opened offices own parcels m m' x → length m' ≡ length m → WordsFit m' → FewWords parcels m → Begun (stage_limits offices parcels) own m'
begun offices own parcels m m' x is same words few = record { before = m; opening = x; opened = is; size = omega (arith, same, few); words = words }
