-- Lemmas over points and lists: what the edges of each stroke of variable width are promised.
use Rattle.std.proofs.Common.{ℕ, ◌≤◌, ◌^◌, List, ◌∙◌}
use Rattle.std.specs.Prelude.{ℤ}
use Rattle.std.specs.List.{All, flat_map}
use Rattle.std.specs.List.Sorted.{IsPermutation}
use Rattle.std.proofs.lemmas.List.Elements.{All-map}
use Rattle.std.proofs.lemmas.List.Sorted.{IsPermutation-sym, All-permutation}
use Rattle.mesh_plane.specs.Plane.{Edge}
use Rattle.mesh_plane.specs.Winding.{IsBalanced, crossing_on}
use Rattle.mesh_plane.specs.Bounds.{IsSafe}
use Rattle.mesh_plane.proofs.Sums.{total_permutation}
use Rattle.mesh_plane.proofs.Balance.{balanced_permutation, growth, growth_odd, growth_of_pieces, balanced_by_growth}
use Rattle.mesh_plane.proofs.Crossings.{crossing_on_odd}
use Rattle.mesh_num.specs.Rectangle.{IsSafeWidened}
use Rattle.mesh_num.specs.Segments.{SignedEdge}
use Rattle.mesh_lattice.specs.Clean.{IsProper}
use Rattle.mesh_arc.specs.declared.arc.ArcOptions.{ArcOptions}
use Rattle.mesh_join.specs.VariableStyles.{Vertex}
use Rattle.mesh_offset.specs.Adding.{added_edges}
use Rattle.mesh_offset.specs.Built.{Adds}
use Rattle.mesh_offset.specs.Padding.{IsNear}
use Rattle.mesh_offset.proofs.Adding.{adds_edges}
use Rattle.mesh_offset.proofs.Padding.{ends_safe}
use Rattle.mesh_offset.proofs.ProperEdges.{proper_kept}
use Rattle.mesh_variable_stroke.specs.Chains.{circles_of, chains_of}
use Rattle.mesh_variable_stroke.specs.Drawn.{vertex_points, greatest_radius, AreStrokable, AreVariablyStroked}
use Rattle.mesh_variable_stroke.specs.VariableStrokes.{chain_edges, variable_stroke_edges, variable_stroke_pieces}
use Rattle.mesh_variable_stroke.proofs.Near.{variable_near}
use Rattle.mesh_variable_stroke.proofs.Sums.{variable_total}

points_safe : (unit : ℕ) (padding : ℤ) (vertices : List Vertex) → AreStrokable unit padding vertices → All (IsSafeWidened unit padding) (vertex_points vertices)
points_safe unit padding vertices h = All-map (IsSafeWidened unit padding) (λ (v : Vertex). v.point) vertices h

module _ (unit : ℕ) (options : ArcOptions) (vertices : List Vertex) where
  -- wherever the vertices lie, the edges of a stroke close up
  pub variable_balanced : IsBalanced (variable_stroke_edges unit options vertices)
  variable_balanced =
      balanced_by_growth (variable_stroke_edges unit options vertices)
      (λ g. variable_total (growth g) (growth_odd g) unit options vertices ∙ growth_of_pieces g (variable_stroke_pieces unit options vertices))

  -- and none of them ends where it starts
  pub variable_proper : IsProper (variable_stroke_edges unit options vertices)
  unfolding variable_stroke_edges
  variable_proper = proper_kept (flat_map (chain_edges unit options) (chains_of unit (circles_of vertices)))

module _ (unit : ℕ) (least : 2 ^ 14 ≤ unit) (options : ArcOptions) (vertices : List Vertex) where
  abbrev edges : List Edge
  edges = variable_stroke_edges unit options vertices

  abbrev EndsNear : Edge → Type 0
  EndsNear e = IsNear (greatest_radius vertices) (vertex_points vertices) e.0 × IsNear (greatest_radius vertices) (vertex_points vertices) e.1

  -- the edges of a stroke have all that is promised of them, where the vertices stay safe within the greatest radius
  pub are_variably_stroked : AreStrokable unit (greatest_radius vertices) vertices → AreVariablyStroked unit options vertices (variable_stroke_edges unit options vertices)
  are_variably_stroked safe = record {
    balanced = variable_balanced unit options vertices;
    near = variable_near unit least options vertices;
    safe = ends_safe unit (greatest_radius vertices) (vertex_points vertices) edges (points_safe unit (greatest_radius vertices) vertices safe) (variable_near unit least options vertices);
    sum = λ m q. variable_total (crossing_on m q) (crossing_on_odd m q) unit options vertices;
  }

  -- what is added has what is promised of the edges of the stroke
  pub adds_stroked : (old new : List SignedEdge) → AreStrokable unit (greatest_radius vertices) vertices → Adds old new (variable_stroke_edges unit options vertices) →
      AreVariablyStroked unit options vertices (added_edges old new)
  adds_stroked old new safe h = record {
    balanced = balanced_permutation edges (added_edges old new) permuted stroked.balanced;
    near = All-permutation EndsNear edges (added_edges old new) permuted stroked.near;
    safe = All-permutation (λ (e : Edge). IsSafe unit e.0 × IsSafe unit e.1) edges (added_edges old new) permuted stroked.safe;
    sum = λ m q. total_permutation (crossing_on m q) edges (added_edges old new) permuted ∙ stroked.sum m q;
  }
    where
      stroked : AreVariablyStroked unit options vertices edges
      stroked = are_variably_stroked safe

      permuted : IsPermutation edges (added_edges old new)
      permuted = IsPermutation-sym (added_edges old new) edges (adds_edges old new edges h)
