use Rattle.rows.proofs.Words.{link_set}
use Rattle.rows.proofs.write_link.Goals as goal

pub returns : goal.returns
returns c = rw (← c.word_naming.ensures) (link_set c.args.memory.now c.args.link c.word.result c.word_naming.result c.word.ensures c.requires)
