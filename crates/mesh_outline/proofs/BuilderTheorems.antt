-- Lemmas over points and lists: what holds of the edges that the builder adds.
use Rattle.std.proofs.Common.{◌≡◌, ◌∙◌, ℕ, ◌*◌, ◌≤◌, ◌^◌, true, cond, List, [], length, map, ap, arith}
use Rattle.std.specs.Prelude.{IsTrue, ℤ, pos, ◌+ℤ◌}
use Rattle.std.specs.Ordering.{int_eq}
use Rattle.std.proofs.Math.IntN.{+ℤ_idr}
use Rattle.std.specs.List.{All}
use Rattle.std.proofs.lemmas.List.{length-map}
use Rattle.std.proofs.lemmas.List.Elements.{All-weaker}
use Rattle.mesh_plane.specs.Bounds.{IsSafe}
use Rattle.mesh_plane.specs.Plane.{Edge, Point}
use Rattle.mesh_plane.specs.Winding.{boundary, crossing_on, pieces_total, winding}
use Rattle.mesh_num.specs.Segments.{SignedEdge}
use Rattle.mesh_join.proofs.JoinLaws.{KeepsJoint}
use Rattle.mesh_join.specs.Cleaned.{cleaned_sections}
use Rattle.mesh_join.specs.Joins.{offset_padding, has_few}
use Rattle.mesh_join.specs.Styles.{OffsetJoin}
use Rattle.mesh_offset.specs.Adding.{added, added_edges}
use Rattle.mesh_offset.specs.Built.{Adds}
use Rattle.mesh_offset.specs.Drawing.{AreDrawn}
use Rattle.mesh_offset.proofs.Drawn.{adds_drawn, drawn_safe, added_length}
use Rattle.mesh_outline.specs.Building.{IsMovable}
use Rattle.mesh_outline.specs.Outline.{Section, SectionPair, outer_edges, parts, joint_at}
use Rattle.mesh_outline.specs.Drawn.{WindAsContour}
use Rattle.mesh_outline.specs.Outline.{drawn_pieces, joined, section_of, outline_edges, outline_pieces}
use Rattle.mesh_outline.proofs.Corners.{corners_keep}
use Rattle.mesh_outline.proofs.OutlineWalk.{drawn_length}
use Rattle.mesh_outline.proofs.Promised.{cleaned_ring, has_promised_edges}

module _ (unit : ℕ) (style : OffsetJoin) (points : List Point) (least : 2 ^ 14 ≤ unit) where
  -- what is added has what is promised of the edges of the outline
  pub adds_promised : (old new : List SignedEdge) → Adds old new (outline_edges unit style points) →
      AreDrawn (offset_padding style) style.offset points (outline_pieces unit style points) (added_edges old new)
  adds_promised old new h =
      adds_drawn (offset_padding style) style.offset points (outline_pieces unit style points) (outline_edges unit style points) old new (has_promised_edges unit style points least) h

  -- at the offset 0 there are no pieces, so it winds as often as the contour
  pub adds_winding : style.offset ≡ pos 0 → (old new : List SignedEdge) → Adds old new (outline_edges unit style points) → WindAsContour points (added_edges old new)
  adds_winding none old new h m q =
      (adds_promised old new h).sum m q
      ∙ (ap (λ (pieces : List (List Point)). winding m q (boundary points) +ℤ pieces_total (crossing_on m q) pieces) no_pieces
      ∙ +ℤ_idr (winding m q (boundary points)))
    where
      no_pieces : outline_pieces unit style points ≡ []
      no_pieces =
          ap (λ (z : ℤ). cond (int_eq z (pos 0)) [] (drawn_pieces (parts style.offset) (joined unit style) (map (section_of unit style.offset) (cleaned_sections points)))) none

  pub adds_safe : (old new : List SignedEdge) → All (IsMovable unit style) points → Adds old new (outline_edges unit style points) →
      All (λ (e : Edge). IsSafe unit e.0 × IsSafe unit e.1) (added_edges old new)
  adds_safe old new movable h =
      drawn_safe unit (offset_padding style) style.offset points (outline_pieces unit style points) (added_edges old new) (adds_promised old new h) movable

  -- where joins of the style's kind have few edges, so has the outline
  pub outline_few : IsTrue (has_few style.join.kind) →
      length (outline_edges unit style points) ≤ 4 * length (cleaned_sections points)
  outline_few few =
      omega (
        arith,
        drawn_length (parts style.offset) (joined unit style) sections
            (All-weaker (λ (c : SectionPair). parts style.offset c ≡ true → KeepsJoint unit style.join (joint_at style.offset c))
            (λ (c : SectionPair). parts style.offset c ≡ true → length (outer_edges (joined unit style) c) ≤ 3) (λ c keeps parted. (keeps parted).few few) (boundary sections)
            (corners_keep unit style least (cleaned_sections points) (cleaned_ring points))),
        length-map (cleaned_sections points) (section_of unit style.offset),
      )
    where
      sections : List Section
      sections = map (section_of unit style.offset) (cleaned_sections points)

  pub adds_few : IsTrue (has_few style.join.kind) → (old new : List SignedEdge) → Adds old new (outline_edges unit style points) →
      length (added old new) ≤ 4 * length (cleaned_sections points)
  adds_few few old new h = omega (arith, added_length old new (outline_edges unit style points) h, outline_few few)
