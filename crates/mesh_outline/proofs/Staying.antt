-- Lemmas over points and lists: what is computed for an outline stays in the safe range.
use Rattle.std.proofs.Common.{ℕ, ◌≤◌, ◌^◌, Bool, not, List, [], ◌∷◌}
use Rattle.std.specs.Prelude.{ℤ}
use Rattle.std.specs.List.{All, AllZip, flat_map}
use Rattle.std.specs.List.Sorted.{IsPermutation}
use Rattle.std.proofs.lemmas.List.Elements.{All-nil, All-head, All-tail, All-append, All-filter, All-weaker}
use Rattle.std.proofs.lemmas.List.Sorted.{IsPermutation-sym, All-permutation}
use Rattle.mesh_plane.specs.Plane.{Point, Edge}
use Rattle.mesh_num.specs.Segments.{proper_edges}
use Rattle.mesh_plane.specs.Winding.{same_point}
use Rattle.mesh_join.specs.Cleaned.{cleaned_sections}
use Rattle.mesh_lattice.specs.Reach.{AreEdgesSafe}
use Rattle.mesh_lattice.proofs.SafeSplits.{IsSafeEdge}
use Rattle.mesh_below.proofs.AnswerPoints.{resolution_safe}
use Rattle.mesh_num.specs.Rectangle.{IsSafeWidened}
use Rattle.mesh_shapes.specs.Contours.{double_area}
use Rattle.mesh_join.specs.Joins.{outline_padding}
use Rattle.mesh_join.specs.Styles.{OffsetJoin, OutlineStyle, outer, inner}
use Rattle.mesh_outline.specs.Building.{IsMovable}
use Rattle.mesh_outline.specs.Kinds.{contour_kind}
use Rattle.mesh_outline.specs.Outline.{outline_edges}
use Rattle.mesh_offset.specs.Padding.{ArePathsSafe}
use Rattle.mesh_offset.specs.Adding.{answer_edges}
use Rattle.mesh_outline.specs.Resolved.{fill_for, IsAnswerAlone, Gives, Give}
use Rattle.mesh_outline.specs.Staying.{IsSafeAlone, StaysSafe}
use Rattle.mesh_outline.proofs.Promised.{cleaned_ring, cleaned_listed}
use Rattle.mesh_outline.proofs.Padding.{outer_accepted, inner_accepted, path_movable, outline_safe}
use Rattle.mesh_below.proofs.AnswerPoints.{answer_edges_safe}
use Rattle.mesh_offset.proofs.Resolving.{in_sense_safe}
use Rattle.mesh_offset.proofs.Staying.{safe_resolving}

-- the edges of an outline are safe, in whatever order
built_safe : (unit : ℕ) (style : OffsetJoin) (contour : List Point) → 2 ^ 14 ≤ unit → All (IsMovable unit style) contour → (built : List Edge) → IsPermutation built (outline_edges unit style contour) →
    AreEdgesSafe unit built
built_safe unit style contour least movable built same =
    All-permutation (IsSafeEdge unit) (outline_edges unit style contour) built (IsPermutation-sym built (outline_edges unit style contour) same)
    (outline_safe unit style contour (cleaned_sections contour) least (cleaned_ring contour) (cleaned_listed contour) movable)

alone_safe : (unit : ℕ) (style : OffsetJoin) (contours : List (List Point)) → 2 ^ 14 ≤ unit → All (λ (c : List Point). All (IsMovable unit style) c) contours → All (IsSafeAlone unit style) contours
alone_safe unit style contours least movable =
    All-weaker (λ (c : List Point). All (IsMovable unit style) c) (IsSafeAlone unit style)
    (λ (c : List Point) (m : All (IsMovable unit style) c). λ built same. safe_resolving unit built (built_safe unit style c least m built same))
    contours movable

answer_alone_safe : (unit : ℕ) (style : OffsetJoin) (fill : ℤ → Bool) (contour : List Point) (answer : List (List (List Point))) → 2 ^ 14 ≤ unit → All (IsMovable unit style) contour →
    IsAnswerAlone unit style fill contour answer → AreEdgesSafe unit (answer_edges answer)
answer_alone_safe unit style fill contour answer least movable a =
    answer_edges_safe unit answer (resolution_safe unit a.built fill _ answer a.resolution (built_safe unit style contour least movable a.built a.same)).1

gives_safe : (unit : ℕ) (style : OutlineStyle) (contour : List Point) (edges : List Edge) → 2 ^ 14 ≤ unit → All (IsSafeWidened unit (outline_padding style)) contour →
    Gives unit style contour edges → AreEdgesSafe unit edges
gives_safe unit style contour _ least safe (Gives.moved {way = way} {answer = answer} moves a) =
    in_sense_safe unit (fill_for (double_area contour)) (answer_edges answer)
    (answer_alone_safe unit way _ contour answer least (path_movable unit style (contour_kind contour) way contour moves safe) a)
gives_safe unit style contour _ least safe (Gives.ignored none) = All-nil (IsSafeEdge unit)

edges_safe : (unit : ℕ) (style : OutlineStyle) (contours : List (List Point)) (edges : List (List Edge)) → 2 ^ 14 ≤ unit → ArePathsSafe unit (outline_padding style) contours →
    AllZip (Gives unit style) contours edges → AreEdgesSafe unit (flat_map (λ (es : List Edge). es) edges)
edges_safe unit style [] [] least safe each = All-nil (IsSafeEdge unit)
edges_safe unit style [] (es ∷ edges) least safe each = absurd each
edges_safe unit style (contour ∷ contours) [] least safe each = absurd each
edges_safe unit style (contour ∷ contours) (es ∷ edges) least safe each =
    All-append (IsSafeEdge unit) es (flat_map (λ (es : List Edge). es) edges)
    (gives_safe unit style contour es least (All-head IsPathSafe contour contours safe) each.0)
    (edges_safe unit style contours edges least (All-tail IsPathSafe contour contours safe) each.1)
  where
    IsPathSafe : List Point → Type 0
    IsPathSafe c = All (IsSafeWidened unit (outline_padding style)) c

give_safe : (unit : ℕ) (style : OutlineStyle) (contours : List (List Point)) (given : List Edge) → 2 ^ 14 ≤ unit → ArePathsSafe unit (outline_padding style) contours →
    Give unit style contours given → AreEdgesSafe unit given
give_safe unit style contours given least safe give = rw give.joined (edges_safe unit style contours give.edges least safe give.each)

-- all edges, split segments and answers of an outline are safe where its contours stay safe
pub stays_safe : (unit : ℕ) (style : OutlineStyle) (contours : List (List Point)) → 2 ^ 14 ≤ unit → ArePathsSafe unit (outline_padding style) contours → StaysSafe unit style contours
stays_safe unit style contours least safe = record {
  outer_safe = alone_safe unit (outer style) contours least (outer_accepted unit style contours safe);
  inner_safe = alone_safe unit (inner style) contours least (inner_accepted unit style contours safe);
  together = λ (given : List Edge) (give : Give unit style contours given).
      safe_resolving unit (proper_edges given)
      (All-filter (λ (e : Edge). not (same_point e.0 e.1)) (IsSafeEdge unit) given (give_safe unit style contours given least safe give));
}
