-- Lemmas over edges: resolutions of lists that lie apart are together one of all edges.
use Rattle.std.proofs.Common.{◌≡◌, ℕ, ◌<◌, zero, suc, inl, inr, Bool, List, [], ◌∷◌, ◌++◌, length, get_or, sym, refl, subst, arith}
use Rattle.std.specs.Prelude.{ℤ, pos}
use Rattle.std.specs.List.{Contains, flat_map}
use Rattle.std.proofs.lemmas.List.Concat.{flat_map-append}
use Rattle.std.proofs.lemmas.List.Elements.{All-append}
use Rattle.mesh_plane.specs.Plane.{Point, Edge}
use Rattle.mesh_plane.specs.Winding.{boundary, winding}
use Rattle.mesh_lattice.specs.Boundary.{IsBoundary}
use Rattle.mesh_lattice.specs.Clean.{IsClean}
use Rattle.mesh_lattice.specs.Split.{EdgeSplit, after, IsLegal}
use Rattle.mesh_lattice.proofs.Each.{Each}
use Rattle.mesh_shapes.specs.Contours.{IsBegun}
use Rattle.mesh_shapes.specs.Resolution.{Choices, AreArranged, IsResolution}
use Rattle.mesh_apart.specs.Apart.{finer_box, IsWithin, Piece, IsBoxed, edges_in, LieApart}
use Rattle.mesh_apart.specs.Joined.{rings_of, IsJoint}
use Rattle.mesh_apart.proofs.Boundaries.{AreSegmentsOf, segments_left, clean_both, boundary_both}
use Rattle.mesh_apart.proofs.Pieces.{LiesIn, AreApart, IsAmong, past_each, each_from_all, apart_from_all, apart_back, each_lies}
use Rattle.mesh_apart.proofs.Splits.{AreSplitsIn, legal_in, after_apart, legal_first, legal_second, after_both}

pub joint : (first second : List Piece) → LieApart first second → (fill : ℤ → Bool) (options : Choices) (x y z : List (List (List Point)))
    → (r : IsResolution (edges_in first) fill options x) → (s : IsResolution (edges_in second) fill options y)
    → AreArranged options.clockwise (rings_of options (r.contours ++ s.contours)) z → IsJoint first second r s z
joint first second h fill options x y z r s arranged = record {
  resolution = record {
    splits = r.splits ++ s.splits;
    legal = legal_first es fs r.splits s.splits r.legal (after_apart second first back s.splits splits_second es lies_first) (legal_second es fs s.splits s.legal);
    clean = subst IsClean (sym segments) (clean_both first second apart (after r.splits es) (after s.splits fs) left_first left_second r.clean s.clean);
    contours = r.contours ++ s.contours;
    bounded =
        subst (λ (l : List Edge). IsBoundary l fill (flat_map boundary (r.contours ++ s.contours))) (sym segments)
        (subst (IsBoundary (after r.splits es ++ after s.splits fs) fill) (sym (flat_map-append boundary r.contours s.contours))
        (boundary_both first second apart (after r.splits es) (after s.splits fs) left_first left_second fill (flat_map boundary r.contours) (flat_map boundary s.contours) r.bounded s.bounded));
    begun = All-append (IsBegun options.all_vertices) r.contours s.contours r.begun s.begun;
    arranged = arranged;
  };
  splits = refl;
  segments = segments;
  contours = refl;
}
  where
    es : List Edge
    es = edges_in first

    fs : List Edge
    fs = edges_in second

    boxed_first : Each IsBoxed first
    boxed_first = each_from_all IsBoxed first h.first_boxed

    boxed_second : Each IsBoxed second
    boxed_second = each_from_all IsBoxed second h.second_boxed

    apart : AreApart first second
    apart = apart_from_all first second h.apart

    back : AreApart second first
    back = apart_back first second apart

    lies_first : Each (LiesIn first) es
    lies_first = each_lies first boxed_first

    left_first : AreSegmentsOf first (after r.splits es)
    left_first = segments_left first boxed_first r.splits r.legal

    left_second : AreSegmentsOf second (after s.splits fs)
    left_second = segments_left second boxed_second s.splits s.legal

    splits_first : AreSplitsIn first r.splits
    splits_first = legal_in first es r.splits r.legal lies_first

    splits_second : AreSplitsIn second s.splits
    splits_second = legal_in second fs s.splits s.legal (each_lies second boxed_second)

    segments : after (r.splits ++ s.splits) (es ++ fs) ≡ after r.splits es ++ after s.splits fs
    segments = after_both first second apart back es fs r.splits s.splits splits_first splits_second lies_first left_second.lie

-- ---- windings

among_contained : (m : ℕ) (ps : List Piece) (p : Piece) → Contains ps p → (z : Point) → IsWithin (finer_box m p.box) z → IsAmong m ps z
among_contained m ps p h z w = at ps h.0 h.1 h.2
  where
    at : (ps : List Piece) (k : ℕ) → k < length ps → get_or ps k p ≡ p → IsAmong m ps z
    at [] k low e = absurd (omega arith)
    at (q ∷ qs) zero low e = inl (subst (λ (r : Piece). IsWithin (finer_box m r.box) z) (sym e) w)
    at (q ∷ qs) (suc k) low e = inr (at qs k (omega arith) e)

pub others_none : (first second : List Piece) → LieApart first second → (ks : List EdgeSplit) → IsLegal (edges_in second) ks → (p : Piece) → Contains first p
    → (m : ℕ) → 0 < m → (z : Point) → IsWithin (finer_box m p.box) z → winding m z (after ks (edges_in second)) ≡ pos 0
others_none first second h ks legal p stands m some z w =
    (segments_left second (each_from_all IsBoxed second h.second_boxed) ks legal).past m z
    (past_each m some first second (apart_from_all first second h.apart) z (among_contained m first p stands z w))
