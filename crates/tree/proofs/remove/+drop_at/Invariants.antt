use Rattle.tree.proofs.remove.+drop_at.Given as goal

abbrev pub decreases-drop_at : goal.decreases-drop_at
decreases-drop_at g l = l.l
