use Rattle.std.proofs.Common.{◌∙◌, arith}
use Rattle.rows.proofs.Words.{entry_copied}
use Rattle.rows.proofs.write_entry.Goals as goal

pub returns : goal.returns
returns c =
    entry_copied c.args.memory.now c.copy_from_slice.new.self c.args.row _ _ c.args.entry c.row_start-at.ensures (omega arith)
    (c.copy_from_slice.ensures.after ∙ c.entry_words.ensures) c.requires
