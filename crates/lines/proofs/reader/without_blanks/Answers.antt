use Rattle.std.proofs.Common.{rules, ◌≡◌, drop, length-drop}
use Rattle.std.proofs.Math.Seq.{take-length}
use Rattle.std.specs.List.{prefix_len}
use Rattle.lines.specs.Tokens.{is_blank}
use Rattle.lines.proofs.Tokens.{no_blank_first}
use Rattle.lines.proofs.reader.without_blanks.Goals as goal

pub returns-clause-no_blank : goal.returns-clause-no_blank
returns-clause-no_blank c =
    let stops : c.run_len.result ≡ prefix_len is_blank c.args.bytes.now = c.run_len.ensures.value is_blank (λ b r h. search rules) in
    rw (simp length-drop at (take-length (drop c.run_len.result c.args.bytes.now))) (rw stops (no_blank_first c.args.bytes.now))
