-- Lemmas over points and lists: how far the answer of a stroke reaches.
use Rattle.std.proofs.Common.{◌≡◌, ℕ, ◌≤◌, ◌^◌, ⊎_elim, List, Bool, ◌∙◌, ap, arith}
use Rattle.std.specs.Prelude.{ℤ, pos, int_lt}
use Rattle.std.specs.List.{All, Contains}
use Rattle.std.proofs.lemmas.List.Elements.{All-weaker, All-contains_itself}
use Rattle.std.proofs.lemmas.List.Sorted.{IsPermutation-sym, All-permutation}
use Rattle.mesh_plane.specs.Plane.{Point, Edge}
use Rattle.mesh_plane.specs.Winding.{crossing_on, pieces_total}
use Rattle.mesh_plane.proofs.ClosedLists.{all_flat_map}
use Rattle.mesh_lattice.specs.Counted.{bit}
use Rattle.mesh_lattice.specs.Nearness.{IsFarFrom}
use Rattle.mesh_shapes.specs.Resolution.{Choices}
use Rattle.mesh_reach.specs.Reach.{HoldsNear}
use Rattle.mesh_reach.proofs.Pieces.{IsDrawnAlong, reached_more, drawn_more, held_by_one}
use Rattle.mesh_reach.proofs.Within.{at_itself, beside_drawn, near_or_far, nested}
use Rattle.mesh_stroke.specs.Paths.{path_edges}
use Rattle.mesh_stroke.specs.Regions.{AreStrokeRegionsBeyond, all_pieces}
use Rattle.mesh_stroke.specs.Resolved.{all_edges}
use Rattle.mesh_stroke.specs.Strokes.{stroke_edges, stroke_pieces}
use Rattle.mesh_stroke.specs.Styles.{StrokeStyle}
use Rattle.mesh_stroke.specs.Reach.{all_sections, WindsWithinReach}
use Rattle.mesh_stroke.specs.Reach.{stroke_reach}
use Rattle.mesh_stroke.proofs.ReachOfEdges.{stroke_along}
use Rattle.mesh_stroke.proofs.ReachOfPieces.{strokes_reach}

module _ (unit : ℕ) (least : 2 ^ 14 ≤ unit) (style : StrokeStyle) (closed : Bool) (paths : List (List Point)) where
  sections_listed :
      All (λ (path : List Point). All (Contains (all_sections closed paths)) (path_edges closed path)) paths
  sections_listed =
      nested (Contains (all_sections closed paths)) (path_edges closed) paths
      (All-contains_itself (all_sections closed paths))

  all_hold_near : All (HoldsNear (stroke_reach style closed) (all_sections closed paths))
      (all_pieces unit style closed paths)
  all_hold_near =
      all_flat_map (HoldsNear (stroke_reach style closed) (all_sections closed paths))
      (stroke_pieces unit style closed) paths
      (All-weaker (λ (path : List Point). All (Contains (all_sections closed paths)) (path_edges closed path))
      (λ (path : List Point). All (HoldsNear (stroke_reach style closed) (all_sections closed paths))
      (stroke_pieces unit style closed path))
      (λ path listed.
      All-weaker (HoldsNear (stroke_reach style closed) (path_edges closed path))
      (HoldsNear (stroke_reach style closed) (all_sections closed paths))
      (λ piece h m q held. reached_more (stroke_reach style closed) (stroke_reach style closed) m
      (path_edges closed path) (all_sections closed paths) q
      (omega arith) listed (h m q held)) (stroke_pieces unit style closed path)
      (strokes_reach unit least style closed path)) paths sections_listed)

  all_along : All (IsDrawnAlong (stroke_reach style closed) (all_sections closed paths))
      (all_edges unit style closed paths)
  all_along =
      all_flat_map (IsDrawnAlong (stroke_reach style closed) (all_sections closed paths))
      (stroke_edges unit style closed) paths
      (All-weaker (λ (path : List Point). All (Contains (all_sections closed paths)) (path_edges closed path))
      (λ (path : List Point). All (IsDrawnAlong (stroke_reach style closed) (all_sections closed paths))
      (stroke_edges unit style closed path))
      (λ path listed.
      All-weaker (IsDrawnAlong (stroke_reach style closed) (path_edges closed path))
      (IsDrawnAlong (stroke_reach style closed) (all_sections closed paths))
      (drawn_more (stroke_reach style closed) (stroke_reach style closed) (path_edges closed path)
      (all_sections closed paths) (omega arith) listed) (stroke_edges unit style closed path)
      (stroke_along unit least style closed path)) paths sections_listed)

pub stroke_answers_reach : (unit : ℕ) → 2 ^ 14 ≤ unit →
    (k : ℕ) (style : StrokeStyle) (closed : Bool) (choices : Choices) (paths : List (List Point))
    (answer : List (List (List Point))) →
    AreStrokeRegionsBeyond k unit style closed choices paths answer →
    WindsWithinReach k style closed choices paths answer
stroke_answers_reach unit least k style closed choices paths answer made no_area way m some q winds =
    ⊎_elim
    (beside_drawn k b m es q)
    (λ (far : IsFarFrom k m made.stroke.built q).
    at_itself k b m es q
    (held_by_one b m es q (all_pieces unit style closed paths) (all_hold_near unit least style closed paths)
    (λ (none : pieces_total (crossing_on m q) (all_pieces unit style closed paths) ≡ pos 0).
    winds (made.fills no_area way m some q far ∙ ap (λ (z : ℤ). bit (int_lt (pos 0) z)) none))))
    (near_or_far Along k m some made.stroke.built q
    (All-permutation Along (all_edges unit style closed paths) made.stroke.built
    (IsPermutation-sym made.stroke.built (all_edges unit style closed paths) made.stroke.same)
    (all_along unit least style closed paths)))
  where
    b : ℕ
    b = stroke_reach style closed

    es : List Edge
    es = all_sections closed paths

    Along : Edge → Type 0
    Along = IsDrawnAlong (stroke_reach style closed) (all_sections closed paths)
