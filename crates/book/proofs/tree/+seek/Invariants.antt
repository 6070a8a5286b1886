use Rattle.book.proofs.tree.+seek.Given as goal

abbrev pub decreases-seek : goal.decreases-seek
decreases-seek l = l.height
