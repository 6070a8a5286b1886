use Rattle.std.proofs.Common.{ℕ, List, rules}
use Rattle.wire.specs.Answers.{ReadsAnswer}
use Rattle.wire.proofs.AnswerReadings.{one_answer, reads_written}
use Rattle.wire.proofs.answer.read_answer.Goals as goal

pub returns : goal.returns
returns c =
    let row : List ℕ = c.args.row.now in
    let value : ReadsAnswer row c.read_tagged.result = search rules in
    record { value = value; written = reads_written row c.read_tagged.result value; only = λ s. one_answer row c.read_tagged.result s value }
