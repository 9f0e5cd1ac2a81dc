use Rattle.mg_btree.proofs.search.+descend.Given as goal

abbrev pub decreases-descend : goal.decreases-descend
decreases-descend g l = l.from
