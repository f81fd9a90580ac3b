-- Lemmas over points and lists: the edges of the strokes of many paths are closed and safe.
use Rattle.std.proofs.Common.{◌≡◌, ℕ, ◌≤◌, ◌^◌, List, Bool, get_or, arith}
use Rattle.std.specs.Prelude.{pos, ◌≤ℤ◌}
use Rattle.std.specs.List.{All}
use Rattle.std.specs.List.Sorted.{IsPermutation}
use Rattle.std.proofs.lemmas.Int.{ints}
use Rattle.std.proofs.lemmas.List.Elements.{All-weaker}
use Rattle.mesh_plane.specs.Plane.{Point, Edge}
use Rattle.mesh_plane.specs.Winding.{IsBalanced}
use Rattle.mesh_num.specs.Segments.{SignedEdge}
use Rattle.mesh_lattice.specs.Clean.{IsProper}
use Rattle.mesh_lattice.specs.Reach.{AreEdgesSafe}
use Rattle.mesh_below.specs.Asked.{AreResolvable}
use Rattle.mesh_offset.specs.Built.{AreBuilt}
use Rattle.mesh_offset.specs.Padding.{ArePathsSafe}
use Rattle.mesh_offset.proofs.ManyPaths.{built_stays_safe, built_resolvable, built_closed}
use Rattle.mesh_stroke.specs.Drawn.{AreStroked}
use Rattle.mesh_stroke.specs.Strokes.{stroke_edges}
use Rattle.mesh_stroke.specs.Styles.{StrokeStyle, stroke_padding}
use Rattle.mesh_stroke.proofs.Promised.{are_stroked, stroke_balanced, stroke_proper}
use Rattle.mesh_stroke.proofs.Reach.{radius_covered}
use Rattle.mesh_stroke.specs.Resolved.{all_edges, HavePromisedEdges}
use Rattle.mesh_stroke.specs.Staying.{StaysSafe}

module _ (unit : ℕ) (style : StrokeStyle) (closed : Bool) (paths : List (List Point)) (least : 2 ^ 14 ≤ unit)
    (safe : ArePathsSafe unit (stroke_padding style) paths) where
  abbrev IsPromised : List Point → Type 0
  IsPromised path = AreStroked unit style closed path (stroke_edges unit style closed path)

  -- the edges of each path's stroke have what is promised of them
  pub promised : HavePromisedEdges unit style closed paths
  promised k d h = are_stroked unit least style closed (get_or paths k d) (safe k d h)

  each_balanced : All (λ (path : List Point). IsBalanced (stroke_edges unit style closed path)) paths
  each_balanced =
      All-weaker IsPromised (λ (path : List Point). IsBalanced (stroke_edges unit style closed path))
      (λ path p. p.balanced) paths promised

  each_safe : All (λ (path : List Point). AreEdgesSafe unit (stroke_edges unit style closed path)) paths
  each_safe =
      All-weaker IsPromised (λ (path : List Point). AreEdgesSafe unit (stroke_edges unit style closed path))
      (λ path p. p.safe) paths promised

  -- in whatever order they were built
  pub stays_safe : StaysSafe unit style closed paths
  stays_safe = built_stays_safe (stroke_edges unit style closed) unit paths each_safe

  -- what was built can be resolved
  pub resolvable : (ss held : List SignedEdge) → held ≡ ss → AreBuilt (stroke_edges unit style closed) paths ss
      → AreResolvable unit held
  resolvable = built_resolvable (stroke_edges unit style closed) unit paths each_safe each_balanced

-- what is resolved is proper and closes up, wherever the paths lie
module _ (unit : ℕ) (least : 2 ^ 14 ≤ unit) (style : StrokeStyle) (closed : Bool) where
  pub stroke_closed : (paths : List (List Point)) (built : List Edge)
      → IsPermutation built (all_edges unit style closed paths) → IsProper built × IsBalanced built
  stroke_closed =
      built_closed (stroke_edges unit style closed) (stroke_proper unit style closed)
      (stroke_balanced unit least style closed)

-- the padding of a stroke is at least 0
pub padding_least : (style : StrokeStyle) → pos 0 ≤ℤ stroke_padding style
padding_least style = omega (arith, ints, radius_covered style)
