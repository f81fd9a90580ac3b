-- Lemmas over points and lists: edges of answers are closed and safe, and what is added of them can be resolved.
use Rattle.std.proofs.Common.{List, [], ◌∷◌, refl, ◌≡◌, map, arith, ℕ, ◌++◌, ◌∙◌, ap}
use Rattle.std.specs.List.{flat_map, All}
use Rattle.mesh_plane.specs.Plane.{Point, Edge}
use Rattle.mesh_plane.specs.Winding.{boundary, IsBalanced, total}
use Rattle.mesh_plane.proofs.Balance.{balanced_append, boundary_balanced, growth, growth_of_balanced, balanced_by_growth, growth_odd}
use Rattle.std.specs.Prelude.{ℤ, pos, ◌-ℤ◌}
use Rattle.mesh_plane.proofs.Whole.{linear}
use Rattle.mesh_lattice.specs.Split.{back}
use Rattle.mesh_lattice.specs.declared.fill.FillRule.{FillRule}
use Rattle.mesh_lattice.specs.declared.fill.FillRule.TheVariants.{Positive, Negative}
use Rattle.mesh_offset.specs.Adding.{in_sense}
use Rattle.mesh_offset.specs.Built.{AddsClosed}
use Rattle.std.proofs.lemmas.List.Elements.{All-map, All-weaker, All-filter}
use Rattle.mesh_plane.specs.Bounds.{IsSafe}
use Rattle.mesh_lattice.specs.Reach.{AreEdgesSafe, ArePointsSafe}
use Rattle.mesh_num.specs.Paths.{contours_of}
use Rattle.mesh_offset.specs.Adding.{answer_edges}
use Rattle.mesh_num.specs.Segments.{SignedEdge, segments_of, edges_of, proper_edges, IsSubject}
use Rattle.mesh_offset.specs.Adding.{added_edges}
use Rattle.mesh_below.proofs.AnswerPoints.{answer_edges_safe}
use Rattle.mesh_offset.proofs.ProperEdges.{proper_edges_total}
use Rattle.mesh_num.proofs.SegmentLists.{edges_of_segments}
use Rattle.mesh_num.proofs.Subjects.{segments_of_subjects}

pub contours_balanced : (contours : List (List Point)) → IsBalanced (flat_map boundary contours)
contours_balanced [] = λ p. refl
contours_balanced (contour ∷ contours) = balanced_append (boundary contour) (flat_map boundary contours) (boundary_balanced contour) (contours_balanced contours)

back_growth : (g : Point → ℤ) (es : List Edge) → total (growth g) (map back es) ≡ pos 0 -ℤ total (growth g) es
back_growth g [] = refl
back_growth g (e ∷ es) = omega (arith, linear, back_growth g es)

pub in_sense_balanced : (fill : FillRule) (es : List Edge) → IsBalanced es → IsBalanced (in_sense fill es)
in_sense_balanced Positive es h = h
in_sense_balanced Negative es h = balanced_by_growth (map back es) (λ g. omega (arith, linear, back_growth g es, growth_of_balanced es h g))

pub in_sense_safe : (unit : ℕ) (fill : FillRule) (es : List Edge) → AreEdgesSafe unit es → AreEdgesSafe unit (in_sense fill es)
in_sense_safe unit Positive es h = h
in_sense_safe unit Negative es h =
    All-map (λ (e : Edge). IsSafe unit e.0 × IsSafe unit e.1) back es
    (All-weaker (λ (e : Edge). IsSafe unit e.0 × IsSafe unit e.1) (λ (e : Edge). IsSafe unit e.1 × IsSafe unit e.0) (λ e s. (s.1, s.0)) es h)

-- the segments of an answer's edges are those of closed edges
pub adds_answer : (unit : ℕ) (fill : FillRule) (answer : List (List (List Point))) (old new : List SignedEdge) → ArePointsSafe unit answer →
    new ≡ old ++ segments_of (in_sense fill (answer_edges answer)) → AddsClosed unit old new (in_sense fill (answer_edges answer))
adds_answer unit fill answer old new safe h = record {
  balanced = in_sense_balanced fill (answer_edges answer) (contours_balanced (contours_of answer));
  safe = in_sense_safe unit fill (answer_edges answer) (answer_edges_safe unit answer safe);
  added = h;
}

pub built_balanced : (old built ss : List SignedEdge) → old ≡ [] → ss ≡ built → IsBalanced (added_edges old built) → IsBalanced (edges_of ss)
built_balanced old built ss e f h = rw f (rw e at h)

pub built_safe : (unit : ℕ) (old built ss : List SignedEdge) → old ≡ [] → ss ≡ built → AreEdgesSafe unit (added_edges old built) → AreEdgesSafe unit (edges_of ss)
built_safe unit old built ss e f h = rw f (rw e at h)

pub proper_balanced : (es : List Edge) → IsBalanced es → IsBalanced (proper_edges es)
proper_balanced es h = balanced_by_growth (proper_edges es) (λ g. proper_edges_total (growth g) (growth_odd g) es ∙ growth_of_balanced es h g)

module _ (unit : ℕ) (ss : List SignedEdge) (given : List Edge) (h : AddsClosed unit [] ss given) where
  pub given_edges : edges_of ss ≡ proper_edges given
  given_edges = ap edges_of h.added ∙ edges_of_segments given

  pub given_subjects : All IsSubject ss
  given_subjects = rw h.added (segments_of_subjects given)

  pub given_balanced : IsBalanced (edges_of ss)
  given_balanced = rw given_edges (proper_balanced given h.balanced)

  pub given_safe : AreEdgesSafe unit (edges_of ss)
  given_safe = rw given_edges (All-filter _ (λ (e : Edge). IsSafe unit e.0 × IsSafe unit e.1) given h.safe)
