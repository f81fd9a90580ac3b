-- Lemmas over points and lists: the edges of the strokes of many paths are closed and safe.
use Rattle.std.proofs.Common.{◌≡◌, ℕ, ◌≤◌, ◌^◌, List, get_or}
use Rattle.std.specs.List.{All}
use Rattle.std.specs.List.Sorted.{IsPermutation}
use Rattle.std.proofs.lemmas.List.Elements.{All-weaker}
use Rattle.mesh_plane.specs.Plane.{Edge}
use Rattle.mesh_plane.specs.Winding.{IsBalanced}
use Rattle.mesh_num.specs.Segments.{SignedEdge}
use Rattle.mesh_lattice.specs.Clean.{IsProper}
use Rattle.mesh_lattice.specs.Reach.{AreEdgesSafe}
use Rattle.mesh_below.specs.Asked.{AreResolvable}
use Rattle.mesh_arc.specs.declared.arc.ArcOptions.{ArcOptions}
use Rattle.mesh_join.specs.VariableStyles.{Vertex}
use Rattle.mesh_offset.specs.Built.{AreBuilt}
use Rattle.mesh_offset.proofs.ManyPaths.{built_stays_safe, built_resolvable, built_closed}
use Rattle.mesh_variable_stroke.specs.Drawn.{AreVariablyStroked}
use Rattle.mesh_variable_stroke.specs.VariableStrokes.{variable_stroke_edges}
use Rattle.mesh_variable_stroke.proofs.Promised.{are_variably_stroked, variable_balanced, variable_proper}
use Rattle.mesh_variable_stroke.specs.Resolved.{all_edges, HavePromisedEdges}
use Rattle.mesh_variable_stroke.specs.Staying.{StaysSafe}
use Rattle.mesh_variable_stroke.specs.Strokable.{ArePathsStrokable}
use Rattle.mesh_variable_stroke.proofs.Reach.{each_strokable}

module _ (unit : ℕ) (options : ArcOptions) (paths : List (List Vertex)) (least : 2 ^ 14 ≤ unit)
    (safe : ArePathsStrokable unit paths) where
  abbrev IsPromised : List Vertex → Type 0
  IsPromised path = AreVariablyStroked unit options path (variable_stroke_edges unit options path)

  -- the edges of each path's stroke have what is promised of them
  pub promised : HavePromisedEdges unit options paths
  promised k d h = are_variably_stroked unit least options (get_or paths k d) (each_strokable unit paths safe k d h)

  each_balanced : All (λ (path : List Vertex). IsBalanced (variable_stroke_edges unit options path)) paths
  each_balanced =
      All-weaker IsPromised (λ (path : List Vertex). IsBalanced (variable_stroke_edges unit options path))
      (λ path p. p.balanced) paths promised

  each_safe : All (λ (path : List Vertex). AreEdgesSafe unit (variable_stroke_edges unit options path)) paths
  each_safe =
      All-weaker IsPromised (λ (path : List Vertex). AreEdgesSafe unit (variable_stroke_edges unit options path))
      (λ path p. p.safe) paths promised

  -- in whatever order they were built
  pub stays_safe : StaysSafe unit options paths
  stays_safe = built_stays_safe (variable_stroke_edges unit options) unit paths each_safe

  -- what was built can be resolved
  pub resolvable : (ss held : List SignedEdge) → held ≡ ss → AreBuilt (variable_stroke_edges unit options) paths ss
      → AreResolvable unit held
  resolvable = built_resolvable (variable_stroke_edges unit options) unit paths each_safe each_balanced

-- what is resolved is proper and closes up, wherever the paths lie
module _ (unit : ℕ) (options : ArcOptions) where
  pub stroke_closed : (paths : List (List Vertex)) (built : List Edge)
      → IsPermutation built (all_edges unit options paths) → IsProper built × IsBalanced built
  stroke_closed =
      built_closed (variable_stroke_edges unit options) (variable_proper unit options) (variable_balanced unit options)
