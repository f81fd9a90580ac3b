-- Lemmas over points and lists: the edges of operands, as segments that can be resolved.
use Rattle.std.proofs.Common.{◌≡◌, ℕ, List, [], ◌++◌}
use Rattle.std.specs.List.{flat_map}
use Rattle.mesh_plane.specs.Plane.{Point, Edge}
use Rattle.mesh_plane.specs.Winding.{boundary}
use Rattle.mesh_num.specs.Segments.{SignedEdge, edges_of, proper_edges}
use Rattle.mesh_lattice.specs.Reach.{ArePointsSafe}
use Rattle.mesh_lattice.specs.declared.fill.FillRule.{FillRule}
use Rattle.mesh_lattice.specs.declared.fill.FillRule.TheVariants.{Positive}
use Rattle.mesh_below.specs.Asked.{AreResolvable}
use Rattle.mesh_offset.specs.Adding.{AddsInSense, answer_edges, in_sense}
use Rattle.mesh_offset.specs.Built.{AddsClosed}
use Rattle.mesh_offset.proofs.Adding.{adds_more}
use Rattle.mesh_offset.proofs.Resolving.{adds_answer, contours_balanced, given_balanced, given_edges, given_safe, given_subjects}
use Rattle.mesh_boolean.specs.Booleans.{ArePathsInRange}
use Rattle.mesh_boolean.proofs.Ranges.{paths_edges_safe}

-- those of contours
pub paths_closed : (unit : ℕ) (paths : List (List Point)) (old new : List SignedEdge) → old ≡ [] → ArePathsInRange unit paths →
    AddsInSense Positive old new (flat_map boundary paths) → AddsClosed unit [] new (flat_map boundary paths)
paths_closed unit paths old new none safe added = record {
  balanced = contours_balanced paths;
  safe = paths_edges_safe unit paths safe;
  added = rw none at added;
}

-- those of one answer
pub one_closed : (unit : ℕ) (shapes : List (List (List Point))) (old new : List SignedEdge) → old ≡ [] → ArePointsSafe unit shapes →
    AddsInSense Positive old new (answer_edges shapes) → AddsClosed unit [] new (answer_edges shapes)
one_closed unit shapes old new none safe added = rw none at (adds_answer unit Positive shapes old new safe added)

-- those of two answers
pub both_closed : (unit : ℕ) (sense : FillRule) (first second : List (List (List Point))) (old mid new : List SignedEdge) → old ≡ [] →
    ArePointsSafe unit first → ArePointsSafe unit second → AddsInSense Positive old mid (answer_edges first) → AddsInSense sense mid new (answer_edges second) →
    AddsClosed unit [] new (answer_edges first ++ in_sense sense (answer_edges second))
both_closed unit sense first second old mid new none s t h k =
    adds_more unit [] mid new (answer_edges first) (in_sense sense (answer_edges second))
    (rw none at (adds_answer unit Positive first old mid s h)) (adds_answer unit sense second mid new t k)

module _ (unit : ℕ) (given : List Edge) (ss held : List SignedEdge) (same : held ≡ ss) (closed : AddsClosed unit [] ss given) where
  -- they can be resolved
  pub closed_resolvable : AreResolvable unit held
  closed_resolvable = record {
    subject = rw same (given_subjects unit ss given closed);
    balanced = rw same (given_balanced unit ss given closed);
    safe = rw same (given_safe unit ss given closed);
  }

  -- and are these edges
  pub closed_edges_are : edges_of held ≡ proper_edges given
  closed_edges_are = rw same (given_edges unit ss given closed)
