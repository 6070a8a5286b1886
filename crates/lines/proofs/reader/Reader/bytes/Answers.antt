use Rattle.std.proofs.Common.{[], ◌≡◌, ◌∙◌, ap, sym, ◌++◌, subst, append-nil, rules, arith, refl}
use Rattle.lines.specs.Tokens.{Stand, byte_tokens}
use Rattle.lines.proofs.Bytes.{first_of, none_of, IsReadTo-more}
use Rattle.lines.proofs.reader.Reader.bytes.Goals as goal

pub returns-in_err-byte-clause-reads : goal.returns-in_err-byte-clause-reads
returns-in_err-byte-clause-reads c values r =
    let left = c.loop-bytes.invariant.from values r in
    absurd (c.in_err-byte.ensures.value (first_of left.0 c.loop-bytes.self (λ e. grind arith) left.1).0)

pub loop-bytes-preserved : goal.loop-bytes-preserved
loop-bytes-preserved c =
    rw (c.in_ok-push.ensures.items, c.in_ok-byte.ensures.after, c.in_ok-byte.ensures.value.1) (IsReadTo-more _ _ _ c.loop-bytes.invariant c.in_ok-byte.ensures.value.0 (λ e. grind arith))

pub returns-clause-value : goal.returns-clause-value
returns-clause-value c = subst (λ xs. Stand (byte_tokens xs) c.args.self.now c.loop-bytes.self) (append-nil c.loop-bytes.bytes.items) (c.loop-bytes.invariant.to [] c.loop-bytes.self refl)

pub returns-clause-reads : goal.returns-clause-reads
returns-clause-reads c values r =
    let left = c.loop-bytes.invariant.from values r in
    let none : left.0 ≡ [] = none_of left.0 c.loop-bytes.self (search rules) left.1 in
    sym (left.2 ∙ ap (λ xs. c.loop-bytes.bytes.items ++ xs) none ∙ append-nil c.loop-bytes.bytes.items)
