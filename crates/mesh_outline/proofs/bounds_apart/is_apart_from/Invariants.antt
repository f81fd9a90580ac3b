use Rattle.std.proofs.Common.{◌≡◌, take}
use Rattle.std.specs.List.{All}
use Rattle.mesh_plane.specs.Plane.{Edge}
use Rattle.mesh_apart.specs.Apart.{AreBoxesApart}
use Rattle.mesh_outline.specs.Private.Gathered.{box_of}
use Rattle.mesh_outline.proofs.bounds_apart.is_apart_from.Given as goal

-- the bounds are those given, and apart from each so far
abbrev pub invariant-loop-other : goal.invariant-loop-other
invariant-loop-other g l = record {
  same : l.bounds ≡ l.fn.bounds;
  far : All (λ (other : Edge). AreBoxesApart (box_of l.fn.bounds) (box_of other)) (take l.other-index l.following);
}
