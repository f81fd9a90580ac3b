-- Lemmas over points and lists: what the edges of each contour's outline are promised.
use Rattle.std.proofs.Common.{◌≡◌, ℕ, ◌≤◌, ◌^◌, Bool, true, false, cond, List, [], ◌∷◌, map, refl, sym, ◌∙◌, ap}
use Rattle.std.specs.Prelude.{ℤ, pos, ◌+ℤ◌, count_by}
use Rattle.std.specs.Ordering.{int_eq}
use Rattle.std.specs.List.{All, Contains}
use Rattle.std.proofs.lemmas.List.Elements.{All-nil, All-contains_itself}
use Rattle.mesh_plane.specs.Plane.{Point, Edge}
use Rattle.mesh_plane.specs.Winding.{boundary, winding, crossing_on, pieces_total, holds, IsBit}
use Rattle.mesh_plane.proofs.Crossings.{crossing_on_odd}
use Rattle.mesh_join.proofs.CleaningEnds.{cleaned_sections-ends}
use Rattle.mesh_join.proofs.CleaningSteps.{cleaned-none, cleaned-clean, cleaned-winding}
use Rattle.mesh_join.specs.Cleaned.{cleaned_sections, IsCleanContour}
use Rattle.mesh_join.specs.Styles.{OffsetJoin}
use Rattle.mesh_offset.specs.Drawing.{NeverTurnedRound}
use Rattle.mesh_outline.specs.Outline.{parts, joined, section_of, drawn_pieces, outline_pieces}
use Rattle.mesh_offset.specs.Drawing.{sided}
use Rattle.mesh_outline.specs.Drawn.{HasPromisedEdges}
use Rattle.mesh_outline.proofs.Corners.{IsClosedProper}
use Rattle.mesh_outline.proofs.OutlineCount.{outline_total, outline_balanced, outline_winding, pieces_wind}
use Rattle.mesh_outline.proofs.Padding.{outline_near}

-- the cleaned contour is a ring of edges with different ends
pub cleaned_ring : (points : List Point) → IsClosedProper (cleaned_sections points)
cleaned_ring points = by (cleaned_sections points) refl
  where
    by : (es : List Edge) → cleaned_sections points ≡ es → IsClosedProper es
    by [] e = record { proper = All-nil (λ (f : Edge). f.0 ≡ f.1 → ⊥); closed = All-nil (λ (c : Edge × Edge). c.0.1 ≡ c.1.0) }
    by (x ∷ xs) e =
        let clean : IsCleanContour (cleaned_sections points) =
        cleaned-clean points (λ h. let none : [] ≡ x ∷ xs = sym (cleaned-none points h) ∙ e in cc) in
        record { proper = rw e at clean.proper; closed = rw e at clean.closed }

-- the ends of its edges are points of the contour
pub cleaned_listed : (points : List Point) → All (λ (e : Edge). Contains points e.0 × Contains points e.1) (cleaned_sections points)
cleaned_listed points = cleaned_sections-ends (Contains points) points (All-contains_itself points)

-- no piece of an outline is turned round
pieces_never_turned : (unit : ℕ) (style : OffsetJoin) (points : List Point) → 2 ^ 14 ≤ unit → NeverTurnedRound style.offset (outline_pieces unit style points)
pieces_never_turned unit style points least m q = by (int_eq style.offset (pos 0))
  where
    side : List Point → Type 0
    side piece = IsBit (sided style.offset (winding m q (boundary piece)))

    by : (b : Bool) → All side (cond b [] (drawn_pieces (parts style.offset) (joined unit style) (map (section_of unit style.offset) (cleaned_sections points))))
    by true = All-nil side
    by false = pieces_wind m q unit style (cleaned_sections points) least (cleaned_ring points)

-- what is promised of the outline of one contour
pub has_promised_edges : (unit : ℕ) (style : OffsetJoin) (points : List Point) → 2 ^ 14 ≤ unit → HasPromisedEdges unit style points
has_promised_edges unit style points least =
    let ring = cleaned_ring points in
    record {
      balanced = outline_balanced unit style (cleaned_sections points) least ring;
      near = outline_near unit style points (cleaned_sections points) least ring (cleaned_listed points);
      sum =
          λ m q.
          outline_total unit style (cleaned_sections points) least ring (crossing_on m q) (crossing_on_odd m q)
          ∙ ap (λ (x : ℤ). x +ℤ pieces_total (crossing_on m q) (outline_pieces unit style points)) (cleaned-winding m q points);
      pieces = pieces_never_turned unit style points least;
      count =
          λ m q.
          outline_winding unit style (cleaned_sections points) least ring m q
          ∙ ap (λ (x : ℤ). x +ℤ sided style.offset (pos (count_by (holds m q) (outline_pieces unit style points)))) (cleaned-winding m q points);
    }
