-- Lemmas over points and lists: the pieces of an outline lie along the sections of its contour.
use Rattle.std.proofs.Common.{◌≡◌, ◌≢◌, ℕ, ◌≤◌, ◌^◌, inl, inr, List, [], ◌∷◌, Bool, true, false, cond, refl, arith}
use Rattle.std.specs.Prelude.{pos, map}
use Rattle.std.specs.List.{All, Contains, flat_map}
use Rattle.std.specs.Ordering.{int_eq}
use Rattle.std.proofs.lemmas.List.Elements.{All-nil, All-cons, All-map, All-append, All-weaker}
use Rattle.mesh_plane.specs.Plane.{Point, Edge}
use Rattle.mesh_plane.specs.Winding.{boundary, fan, crossing_on, pieces_total}
use Rattle.mesh_plane.proofs.ClosedLists.{all_flat_map}
use Rattle.mesh_plane.proofs.Whole.{linear}
use Rattle.mesh_join.specs.Cleaned.{cleaned_sections}
use Rattle.mesh_join.specs.Styles.{OffsetJoin}
use Rattle.mesh_reach.specs.Reach.{IsByEnd, HoldsNear}
use Rattle.mesh_reach.proofs.JoinPoints.{by_itself}
use Rattle.mesh_reach.proofs.Pieces.{IsAlong, fan_along, holds_near, held_by_one}
use Rattle.mesh_offset.specs.Drawing.{WindAsContourAndPieces}
use Rattle.mesh_outline.specs.Outline.{Section, SectionPair, strip, outer_edges, corner_pieces, drawn_pieces}
use Rattle.mesh_outline.specs.Outline.{section_of}
use Rattle.mesh_outline.specs.Outline.{parts, joined, outline_edges, outline_pieces}
use Rattle.mesh_outline.specs.Reach.{outline_reach, DifferWithinReach}
use Rattle.mesh_outline.proofs.Corners.{IsClosedProper}
use Rattle.mesh_outline.proofs.Promised.{cleaned_ring, has_promised_edges}
use Rattle.mesh_outline.proofs.ReachOfPoints.{IsCornerOf, Keeps, beside, join_at, corners_met, sections_listed}

module _ (unit : ℕ) (least : 2 ^ 14 ≤ unit) (style : OffsetJoin) (contour : List Edge)
    (ring : IsClosedProper contour) where
  -- ---- the strip of a section

  strip_along : (e : Edge) → e.0 ≢ e.1 → Contains contour e →
      IsAlong (outline_reach style) contour (strip (section_of unit style.offset e))
  strip_along e apart listed =
      let near = IsByEnd (outline_reach style) e in
      let s : Section = section_of unit style.offset e in
      record {
        edge = e;
        listed = listed;
        near =
            All-cons near s.a (s.a_top ∷ s.b_top ∷ s.b ∷ []) (inl (by_itself (outline_reach style) e.0))
            (All-cons near s.a_top (s.b_top ∷ s.b ∷ []) (inl (beside unit least style contour ring e e.0 apart))
            (All-cons near s.b_top (s.b ∷ []) (inr (beside unit least style contour ring e e.1 apart))
            (All-cons near s.b [] (inr (by_itself (outline_reach style) e.1)) (All-nil near))));
      }

  corner_along : (c : SectionPair) → IsCornerOf unit least style contour ring c × Keeps unit least style contour ring c
      → All (IsAlong (outline_reach style) contour) (corner_pieces (parts style.offset) (joined unit style) c)
  corner_along c h = by (parts style.offset c) refl
    where
      by : (t : Bool) → parts style.offset c ≡ t →
          All (IsAlong (outline_reach style) contour) (cond t (fan c.0.b (outer_edges (joined unit style) c)) [])
      by true e =
          fan_along (outline_reach style) contour c.0.b h.0.end (outer_edges (joined unit style) c)
          (join_at unit least style contour ring c h.0 h.1 e)
      by false e = All-nil (IsAlong (outline_reach style) contour)

  pieces_along : All (IsAlong (outline_reach style) contour)
      (drawn_pieces (parts style.offset) (joined unit style) (map (section_of unit style.offset) contour))
  unfolding drawn_pieces
  pieces_along =
      let Along : List Point → Type 0 = IsAlong (outline_reach style) contour in
      let all : List Section = map (section_of unit style.offset) contour in
      All-append Along (map strip all) (flat_map (corner_pieces (parts style.offset) (joined unit style))
      (boundary all))
      (All-map Along strip all
      (All-map (λ (s : Section). Along (strip s)) (section_of unit style.offset) contour
      (All-weaker (λ (e : Edge). (e.0 ≢ e.1) × Contains contour e)
      (λ (e : Edge). Along (strip (section_of unit style.offset e)))
      (λ e h. strip_along e h.0 h.1) contour (sections_listed unit least style contour ring))))
      (all_flat_map Along (corner_pieces (parts style.offset) (joined unit style)) (boundary all)
      (All-weaker (λ (c : SectionPair). IsCornerOf unit least style contour ring c
      × Keeps unit least style contour ring c)
      (λ (c : SectionPair). All Along (corner_pieces (parts style.offset) (joined unit style) c))
      corner_along (boundary all) (corners_met unit least style contour ring)))

module _ (unit : ℕ) (least : 2 ^ 14 ≤ unit) (style : OffsetJoin) (contour : List Point) where
  pub outlines_reach : All (HoldsNear (outline_reach style) (cleaned_sections contour))
      (outline_pieces unit style contour)
  outlines_reach = by (int_eq style.offset (pos 0))
    where
      Near : List Point → Type 0
      Near = HoldsNear (outline_reach style) (cleaned_sections contour)

      pieces : List (List Point)
      pieces =
          drawn_pieces (parts style.offset) (joined unit style)
          (map (section_of unit style.offset) (cleaned_sections contour))

      by : (t : Bool) → All Near (cond t [] pieces)
      by true = All-nil Near
      by false =
          All-weaker (IsAlong (outline_reach style) (cleaned_sections contour)) Near
          (holds_near (outline_reach style) (cleaned_sections contour)) pieces
          (pieces_along unit least style (cleaned_sections contour) (cleaned_ring contour))

  -- so is each point round which edges wind otherwise than the contour that wind as it does with the pieces
  pub pieces_differ_within : (es : List Edge) → WindAsContourAndPieces contour (outline_pieces unit style contour) es →
      DifferWithinReach style contour es
  pieces_differ_within es sum m q differ =
      held_by_one (outline_reach style) m (cleaned_sections contour) q
      (outline_pieces unit style contour) outlines_reach
      (λ (none : pieces_total (crossing_on m q) (outline_pieces unit style contour) ≡ pos 0).
      differ (omega (arith, linear, sum m q, none)))

  pub outline_edges_reach : DifferWithinReach style contour (outline_edges unit style contour)
  outline_edges_reach =
      pieces_differ_within (outline_edges unit style contour) (has_promised_edges unit style contour least).sum
