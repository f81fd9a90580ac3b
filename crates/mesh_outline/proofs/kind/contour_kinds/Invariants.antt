use Rattle.std.proofs.Common.{◌≡◌, false, map, take}
use Rattle.mesh_outline.specs.Kinds.{contour_kind}
use Rattle.mesh_outline.specs.Resolved.{DoAreasFit}
use Rattle.mesh_outline.proofs.kind.contour_kinds.Given as goal

-- the area of each path so far fits, and where no growth was refused the kinds are those of these paths
abbrev pub invariant-loop-index : goal.invariant-loop-index
invariant-loop-index g l = record {
  fit : DoAreasFit g.I.Wide.WideNumber.half (take l.index (g.S.IntShapeResource.paths l.source));
  kinds : l.refused ≡ false → l.kinds.items ≡ map contour_kind (take l.index (g.S.IntShapeResource.paths l.source));
}
