-- Lemmas over points and lists: the edges of an outline lie along the sections of its contour.
use Rattle.std.proofs.Common.{◌≡◌, ◌≢◌, ℕ, ◌≤◌, ◌^◌, inl, inr, List, [], ◌∷◌, ◌++◌, Bool, true, false, not, cond, refl}
use Rattle.std.proofs.Common.{subst, map}
use Rattle.std.specs.Prelude.{unsigned_abs}
use Rattle.std.specs.List.{All, Contains, flat_map}
use Rattle.std.proofs.lemmas.List.Elements.{All-nil, All-cons, All-map, All-append, All-filter, All-weaker}
use Rattle.mesh_plane.specs.Plane.{Point, Edge}
use Rattle.mesh_plane.specs.Winding.{boundary, same_point}
use Rattle.mesh_plane.proofs.ClosedLists.{all_flat_map}
use Rattle.mesh_join.specs.Cleaned.{cleaned_sections}
use Rattle.mesh_join.specs.Styles.{OffsetJoin}
use Rattle.mesh_reach.specs.Joins.{rounded_reach}
use Rattle.mesh_reach.proofs.JoinPoints.{IsBy, by_more, by_itself, radius_covered}
use Rattle.mesh_reach.proofs.Pieces.{IsDrawnAlong, drawn_at_end}
use Rattle.mesh_outline.specs.Outline.{Section, SectionPair, top_edge, inner_edges, outer_edges, corner_edges}
use Rattle.mesh_outline.specs.Outline.{drawn_edges, section_of, parts, joined, outline_edges}
use Rattle.mesh_outline.specs.Reach.{outline_reach}
use Rattle.mesh_outline.proofs.Corners.{IsClosedProper}
use Rattle.mesh_outline.proofs.Promised.{cleaned_ring}
use Rattle.mesh_outline.proofs.ReachOfPoints.{IsCornerOf, Keeps, beside, join_at, corners_met, sections_listed}

module _ (unit : ℕ) (least : 2 ^ 14 ≤ unit) (style : OffsetJoin) (contour : List Edge)
    (ring : IsClosedProper contour) where
  top_along : (e : Edge) → e.0 ≢ e.1 → Contains contour e →
      IsDrawnAlong (outline_reach style) contour (top_edge (section_of unit style.offset e))
  top_along e apart listed = record {
    edge = e;
    listed = listed;
    start = inl (beside unit least style contour ring e e.0 apart);
    end = inr (beside unit least style contour ring e e.1 apart);
  }

  inner_along : (c : SectionPair) → IsCornerOf unit least style contour ring c →
      All (IsDrawnAlong (outline_reach style) contour) (inner_edges c)
  inner_along c h =
      let b : ℕ = outline_reach style in
      let Along : Edge → Type 0 = IsDrawnAlong b contour in
      let more = by_more (rounded_reach (unsigned_abs style.offset)) b c.0.b
      (radius_covered style.join.kind style.offset) in
      All-cons Along (c.0.b_top, c.0.b) ((c.1.a, c.1.a_top) ∷ [])
      (drawn_at_end b contour c.0.b h.end (c.0.b_top, c.0.b) (more c.0.b_top h.first, by_itself b c.0.b))
      (All-cons Along (c.1.a, c.1.a_top) []
      (drawn_at_end b contour c.0.b h.end (c.1.a, c.1.a_top)
      (subst (IsBy b c.0.b) h.met (by_itself b c.0.b), more c.1.a_top h.last))
      (All-nil Along))

  corner_along : (c : SectionPair) → IsCornerOf unit least style contour ring c × Keeps unit least style contour ring c
      → All (IsDrawnAlong (outline_reach style) contour) (corner_edges (parts style.offset) (joined unit style) c)
  corner_along c h = by (parts style.offset c) refl
    where
      By : Edge → Type 0
      By e = IsBy (outline_reach style) c.0.b e.0 × IsBy (outline_reach style) c.0.b e.1

      by : (t : Bool) → parts style.offset c ≡ t →
          All (IsDrawnAlong (outline_reach style) contour) (cond t (outer_edges (joined unit style) c) (inner_edges c))
      by true e =
          All-weaker By (IsDrawnAlong (outline_reach style) contour)
          (drawn_at_end (outline_reach style) contour c.0.b h.0.end) (outer_edges (joined unit style) c)
          (join_at unit least style contour ring c h.0 h.1 e)
      by false e = inner_along c h.0

  edges_along : All (IsDrawnAlong (outline_reach style) contour)
      (drawn_edges (parts style.offset) (joined unit style) (map (section_of unit style.offset) contour))
  unfolding drawn_edges
  edges_along =
      let Along : Edge → Type 0 = IsDrawnAlong (outline_reach style) contour in
      let all : List Section = map (section_of unit style.offset) contour in
      All-filter (λ (e : Edge). not (same_point e.0 e.1)) Along
      (map top_edge all ++ flat_map (corner_edges (parts style.offset) (joined unit style)) (boundary all))
      (All-append Along (map top_edge all) (flat_map (corner_edges (parts style.offset) (joined unit style))
      (boundary all))
      (All-map Along top_edge all
      (All-map (λ (s : Section). Along (top_edge s)) (section_of unit style.offset) contour
      (All-weaker (λ (e : Edge). (e.0 ≢ e.1) × Contains contour e)
      (λ (e : Edge). Along (top_edge (section_of unit style.offset e)))
      (λ e h. top_along e h.0 h.1) contour (sections_listed unit least style contour ring))))
      (all_flat_map Along (corner_edges (parts style.offset) (joined unit style)) (boundary all)
      (All-weaker (λ (c : SectionPair). IsCornerOf unit least style contour ring c
      × Keeps unit least style contour ring c)
      (λ (c : SectionPair). All Along (corner_edges (parts style.offset) (joined unit style) c))
      corner_along (boundary all) (corners_met unit least style contour ring))))

-- each edge of an outline lies along a section
pub outline_along : (unit : ℕ) → 2 ^ 14 ≤ unit → (style : OffsetJoin) (contour : List Point) →
    All (IsDrawnAlong (outline_reach style) (cleaned_sections contour)) (outline_edges unit style contour)
outline_along unit least style contour = edges_along unit least style (cleaned_sections contour) (cleaned_ring contour)
