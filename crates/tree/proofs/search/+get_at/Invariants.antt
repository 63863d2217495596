use Rattle.tree.proofs.search.+get_at.Given as goal

abbrev pub decreases-get_at : goal.decreases-get_at
decreases-get_at g l = l.l
