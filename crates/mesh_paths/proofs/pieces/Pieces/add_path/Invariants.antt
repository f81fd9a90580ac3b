use Rattle.mesh_paths.specs.Private.Merging.{segments_to, IsMergedTo}
use Rattle.mesh_paths.proofs.pieces.Pieces.add_path.Given as goal

abbrev pub invariant-loop-place : goal.invariant-loop-place
invariant-loop-place l = IsMergedTo l.paths.points (segments_to l.paths l.path l.place) l.self
