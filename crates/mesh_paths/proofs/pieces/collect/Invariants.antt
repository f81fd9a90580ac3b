use Rattle.mesh_paths.specs.Private.Merging.{segments_to, IsMergedTo}
use Rattle.mesh_paths.proofs.pieces.collect.Given as goal

abbrev pub invariant-loop-k : goal.invariant-loop-k
invariant-loop-k l = IsMergedTo l.paths.points (segments_to l.paths l.k 0) l.pieces
