use Rattle.tree.proofs.insert.+put_at.Given as goal

abbrev pub decreases-put_at : goal.decreases-put_at
decreases-put_at g l = l.l
