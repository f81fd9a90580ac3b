-- Lemmas over rings: where boxes have ways out, no ring of either list surrounds one of the other.
use Rattle.std.proofs.Common.{◌≡◌, inl, inr, Bool, true, false, not, List, [], ◌∷◌, ◌∙◌, ap}
use Rattle.std.specs.Prelude.{ℤ, pos, map, int_lt}
use Rattle.std.specs.Ordering.{int_eq}
use Rattle.std.specs.List.{All}
use Rattle.std.proofs.lemmas.Bool.{both_ways}
use Rattle.mesh_plane.specs.Plane.{Point, Edge}
use Rattle.mesh_plane.specs.Winding.{winding, boundary, holds}
use Rattle.mesh_lattice.specs.Clean.{IsProper}
use Rattle.mesh_lattice.specs.Split.{occurs, after}
use Rattle.mesh_lattice.proofs.Each.{Each, each_more, proper_of}
use Rattle.mesh_lattice.proofs.SoundSplits.{ProperEnds, legal_sound, after_proper}
use Rattle.mesh_shapes.specs.Contours.{IsBegun, StartIsLeast, double_area, side_point}
use Rattle.mesh_shapes.specs.Resolution.{Choices, Ring, ring_of, is_large, IsResolution}
use Rattle.mesh_shapes.proofs.ContoursKept.{vertices_winding}
use Rattle.mesh_apart.specs.Apart.{Piece, IsBoxed, edges_in, LieApart, IsOpen, AreOpen}
use Rattle.mesh_apart.specs.Joined.{rings_of, surrounds, has_smaller, IsHeldByOwn, HoldTheirOwn}
use Rattle.mesh_apart.proofs.Boundaries.{segments_left}
use Rattle.mesh_apart.proofs.Joins.{all_from_each, each_filter, each_map}
use Rattle.mesh_apart.proofs.Pieces.{each_from_all, LiesIn, IsAmong, among_middle}
use Rattle.mesh_apart.proofs.Rings.{contours_hold, contours_lie, and_last}
use Rattle.mesh_apart.proofs.Shapes.{each_both}
use Rattle.mesh_apart.proofs.Ways.{HasWayOut, way_out, closed_none}

-- a ring winds round no point with a way out past the pieces, and its side point lies in the box of one of them
record KeepsInside (ps : List Piece) (r : Ring) : Type 0 where
  closes : (z : Point) → HasWayOut ps z → winding 2 z (boundary r.0) ≡ pos 0
  side : IsAmong 2 ps r.1

side_among : (ps : List Piece) (c : List Point) → StartIsLeast c → Each (LiesIn ps) (boundary c) → IsAmong 2 ps (side_point c)
side_among ps [] some h = absurd some
side_among ps (p ∷ []) some h = among_middle ps (p, p) h.0
side_among ps (p ∷ x ∷ xs) some h = among_middle ps (p, x) h.0

contour_keeps : (ps : List Piece) (all : Bool) (c : List Point) → StartIsLeast c → Each (LiesIn ps) (boundary c) → Each ProperEnds (boundary c) → KeepsInside ps (ring_of all c)
contour_keeps ps all c some lies proper = record {
  closes = λ (z : Point) (way : HasWayOut ps z). vertices_winding all c 2 z proper ∙ closed_none ps z way c lies;
  side = side_among ps c some lies;
}

rings_keep : (ps : List Piece) → Each IsBoxed ps → IsProper (edges_in ps) → (fill : ℤ → Bool) (options : Choices) (x : List (List (List Point)))
    → (r : IsResolution (edges_in ps) fill options x) → Each (KeepsInside ps) (rings_of options r.contours)
rings_keep ps boxed proper fill options x r =
    each_filter (is_large options.least_area) (KeepsInside ps) (map (ring_of options.all_vertices) r.contours)
    (each_map (ring_of options.all_vertices) (KeepsInside ps) r.contours
    (each_both (λ (c : List Point). StartIsLeast c × Each (LiesIn ps) (boundary c)) (λ (c : List Point). Each ProperEnds (boundary c)) (λ (c : List Point). KeepsInside ps (ring_of options.all_vertices c))
    (λ (c : List Point) h k. contour_keeps ps options.all_vertices c h.0 h.1 k) r.contours
    (each_both (IsBegun options.all_vertices) (λ (c : List Point). Each (LiesIn ps) (boundary c)) (λ (c : List Point). StartIsLeast c × Each (LiesIn ps) (boundary c))
    (λ (c : List Point) h k. (h.at_least, k)) r.contours (each_from_all (IsBegun options.all_vertices) r.contours r.begun)
    (contours_lie ps left (segments_left ps boxed r.splits r.legal) fill r.contours r.bounded))
    (contours_hold ProperEnds left (λ (e : Edge) (o : occurs e left ≡ true). proper_of left proper_left e o) fill r.contours r.bounded)))
  where
    left : List Edge
    left = after r.splits (edges_in ps)

    proper_left : IsProper left
    proper_left = after_proper r.splits (legal_sound (edges_in ps) r.splits r.legal) (edges_in ps) proper

way_of : (ps qs : List Piece) → Each (λ (q : Piece). IsOpen ps q.box) qs → (z : Point) → IsAmong 2 qs z → HasWayOut ps z
way_of ps [] ways z h = absurd h
way_of ps (q ∷ qs) ways z (inl h) = way_out q.box z h ps ways.0
way_of ps (q ∷ qs) ways z (inr h) = way_of ps qs ways.1 z h

held_open : (ps qs : List Piece) → Each (λ (p : Piece). IsOpen qs p.box) ps → (rs ss : List Ring) → Each (KeepsInside ps) rs → Each (KeepsInside qs) ss → All (IsHeldByOwn rs ss) rs
held_open ps qs ways rs ss inside others =
    all_from_each (IsHeldByOwn rs ss) rs
    (each_more (KeepsInside ps) (IsHeldByOwn rs ss)
    (λ (r : Ring) h.
    inr (all_from_each (λ (k : Ring). surrounds k r ≡ true → has_smaller rs r k ≡ true) ss
    (each_more (KeepsInside qs) (λ (k : Ring). surrounds k r ≡ true → has_smaller rs r k ≡ true)
    (λ (k : Ring) g b. absurd (both_ways (surrounds k r) (never r h k g) b)) ss others))) rs inside)
  where
    never : (r : Ring) → KeepsInside ps r → (k : Ring) → KeepsInside qs k → surrounds k r ≡ false
    never r h k g =
        and_last (int_lt (pos 0) (double_area k.0)) (holds 2 r.1 k.0)
        (ap (λ (w : ℤ). not (int_eq w (pos 0))) (g.closes r.1 (way_of qs ps ways r.1 h.side)))

pub open_hold : (first second : List Piece) → LieApart first second → AreOpen first second → IsProper (edges_in first) → IsProper (edges_in second)
    → (fill : ℤ → Bool) (options : Choices) (x y : List (List (List Point)))
    → (r : IsResolution (edges_in first) fill options x) → (s : IsResolution (edges_in second) fill options y)
    → HoldTheirOwn (rings_of options r.contours) (rings_of options s.contours)
open_hold first second h ways proper_first proper_second fill options x y r s = record {
  by_first = held_open first second (each_from_all (λ (p : Piece). IsOpen second p.box) first ways.by_first) (rings_of options r.contours) (rings_of options s.contours) inside others;
  by_second = held_open second first (each_from_all (λ (q : Piece). IsOpen first q.box) second ways.by_second) (rings_of options s.contours) (rings_of options r.contours) others inside;
}
  where
    inside : Each (KeepsInside first) (rings_of options r.contours)
    inside = rings_keep first (each_from_all IsBoxed first h.first_boxed) proper_first fill options x r

    others : Each (KeepsInside second) (rings_of options s.contours)
    others = rings_keep second (each_from_all IsBoxed second h.second_boxed) proper_second fill options y s
