use Rattle.tree.proofs.search.+next_at.Given as goal

abbrev pub decreases-next_at : goal.decreases-next_at
decreases-next_at g l = l.l
