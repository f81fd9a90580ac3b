use Rattle.mesh_store.proofs.tree.Tree.+for_edges.Given as goal

abbrev pub decreases-for_edges : goal.decreases-for_edges
decreases-for_edges l = l.depth
