-- The run ends at the first byte that does not pass, which `position` gives, or at the end.
use Rattle.std.proofs.Common.{rules, sym, refl, ◌≡◌, true, false, arith}
use Rattle.std.proofs.lemmas.Iterator.{YieldsList-from_slice, IsFirst-from_position, index_from_first}
use Rattle.std.specs.List.{prefix_len}
use Rattle.lines.proofs.reader.run_len.Goals as goal

pub returns-clause-value : goal.returns-clause-value
returns-clause-value g c test h =
    let first = IsFirst-from_position _ _ _ (λ b. test b ≡ false) (λ b. test b ≡ true) c.position.ensures.ran (YieldsList-from_slice c.args.bytes.now c.iter.ensures.rest) (λ x q k. sym (h x.now false (search rules))) (λ x q k. (search rules, sym (h x.now true (search rules)))) in
    let index = index_from_first (prefix_len test) (λ b. test b ≡ false) (λ b. test b ≡ true) refl (λ x xs e. rw e refl) (λ x xs e. rw e (omega arith)) c.args.bytes.now c.position.result first in
    rw c.unwrap_or.ensures (sym index)
