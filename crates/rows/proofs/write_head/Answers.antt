use Rattle.std.proofs.Common.{◌∙◌}
use Rattle.rows.proofs.Words.{head_copied}
use Rattle.rows.proofs.write_head.Goals as goal

pub returns : goal.returns
returns c = head_copied c.args.memory.now c.copy_from_slice.new.self c.args.head (c.copy_from_slice.ensures.after ∙ c.head_words.ensures) c.requires
