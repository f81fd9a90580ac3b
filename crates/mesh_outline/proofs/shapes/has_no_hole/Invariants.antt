use Rattle.std.proofs.Common.{◌≢◌, take}
use Rattle.std.specs.List.{All}
use Rattle.mesh_outline.specs.declared.kind.ContourKind.{ContourKind}
use Rattle.mesh_outline.specs.declared.kind.ContourKind.TheVariants.{Hole}
use Rattle.mesh_outline.proofs.shapes.has_no_hole.Given as goal

-- none so far is
abbrev pub invariant-loop-kind : goal.invariant-loop-kind
invariant-loop-kind l = All (λ (kind : ContourKind). kind ≢ Hole) (take l.kind-index l.kinds)
