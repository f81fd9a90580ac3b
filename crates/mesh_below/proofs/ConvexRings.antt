-- Lemmas over edges and lists: the edges of a convex loop are the boundary of what they fill.
use Rattle.std.proofs.Common.{◌≡◌, ℕ, suc, ◌<◌, ◌+◌, Bool, true, false, cond, not, ◌&&◌, List, [], ◌∷◌, ◌++◌, map, length, refl, sym, ◌∙◌, ap, subst, arith}
use Rattle.std.specs.Prelude.{ℤ, pos, ◌+ℤ◌, ◌-ℤ◌, ◌*ℤ◌, Vec}
use Rattle.std.specs.List.{All, flat_map}
use Rattle.std.specs.declared.alloc.Global.{Global}
use Rattle.std.proofs.lemmas.List.{append-nil}
use Rattle.std.proofs.lemmas.List.Elements.{All-cons, All-head, All-nil, All-tail}
use Rattle.mesh_plane.specs.Plane.{Point, Edge}
use Rattle.mesh_plane.specs.Turning.{turns_at, first_or}
use Rattle.mesh_plane.specs.Winding.{boundary, crossing_on, route, same_point, winding, IsBalanced}
use Rattle.mesh_plane.proofs.Sums.{sum_of_map, sum_of_same}
use Rattle.mesh_plane.proofs.Whole.{one_mul}
use Rattle.mesh_lattice.specs.Boundary.{middle, rises, winding_beside, IsBoundary}
use Rattle.mesh_lattice.specs.Clean.{IsProper}
use Rattle.mesh_lattice.specs.Counted.{Counted, IsCountOf}
use Rattle.mesh_lattice.specs.Split.{back}
use Rattle.mesh_convex.specs.Convex.{edge_at, once_each, start_at, IsConvexLoop}
use Rattle.mesh_convex.proofs.Windings.{all_at, loop_beside}
use Rattle.mesh_boundary.specs.Private.CountedSides.{boundary_edge, counted_winding}
use Rattle.mesh_boundary.proofs.BoundaryCounted.{counted_boundary, emitted}
use Rattle.mesh_shapes.specs.Contours.{left_out, straight_points, turning_points, StartsOnce}
use Rattle.mesh_shapes.specs.Vectors.{RingVec, contour_edges}
use Rattle.mesh_below.specs.Private.ConvexRings.{IsConvexRing}
use Rattle.mesh_below.specs.Private.Rings.{AreRingsOf, IsWhole, Told}
use Rattle.mesh_below.proofs.Resolving.{all_occurs}

-- ---- the boundary

counted_once : (q : Point) (es : List Edge) → counted_winding q (once_each es) ≡ winding 2 q es
counted_once q es =
    sum_of_map (λ (k : Counted). k.1 *ℤ crossing_on 2 q k.0.0 k.0.1) (λ (e : Edge). (e, pos 1)) es
    ∙ sum_of_same (λ (e : Edge). pos 1 *ℤ crossing_on 2 q e.0 e.1) (λ (e : Edge). crossing_on 2 q e.0 e.1) (λ (e : Edge). one_mul (crossing_on 2 q e.0 e.1)) es

-- once to the left of an edge and not at all to the right
sides : (b : Bool) (w : ℤ) → w ≡ cond b (pos 0) (pos 1) → ◌≡◌ {A = ℤ × ℤ} (cond b (w +ℤ pos 1, w) (w, w -ℤ pos 1)) (pos 1, pos 0)
sides true w is = λ i. (is i +ℤ pos 1, is i)
sides false w is = λ i. (is i, is i -ℤ pos 1)

parts : (fill : ℤ → Bool) (e : Edge) → fill (pos 1) ≡ true → fill (pos 0) ≡ false → boundary_edge fill (pos 1, pos 0) e ≡ e ∷ []
parts fill e full empty = λ i. cond (full i && not (empty i)) (e ∷ []) (cond (empty i && not (full i)) (back e ∷ []) [])

one_emitted : (fill : ℤ → Bool) (es : List Edge) (e : Edge) → fill (pos 1) ≡ true → fill (pos 0) ≡ false → winding_beside es e ≡ cond (rises e) (pos 0) (pos 1)
    → emitted fill (once_each es) (e, pos 1) ≡ e ∷ []
one_emitted fill es e full empty is =
    ap (λ (s : ℤ × ℤ). boundary_edge fill s e) (sides (rises e) (counted_winding (middle e) (once_each es)) (counted_once (middle e) es ∙ is)) ∙ parts fill e full empty

each_itself : (g : Counted → List Edge) (es : List Edge) → All (λ (e : Edge). g (e, pos 1) ≡ e ∷ []) es → flat_map g (once_each es) ≡ es
each_itself g [] h = refl
each_itself g (e ∷ es) h = λ i. All-head (λ (e : Edge). g (e, pos 1) ≡ e ∷ []) e es h i ++ each_itself g es (All-tail (λ (e : Edge). g (e, pos 1) ≡ e ∷ []) e es h) i

-- the edges of a convex loop bound what other edges fill of which they are the counts
pub ring_boundary : (ring es : List Edge) (ks : List Counted) (fill : ℤ → Bool) → IsConvexRing ring ks fill → IsBalanced ring → fill (pos 0) ≡ false → IsCountOf es ks → IsProper es
    → IsBoundary es fill ring
ring_boundary ring es ks fill c balanced empty is proper =
    subst (IsBoundary es fill)
    (each_itself (emitted fill (once_each ring)) ring
    (all_at (λ (e : Edge). emitted fill (once_each ring) (e, pos 1) ≡ e ∷ []) ring
    (λ k h. one_emitted fill ring (edge_at ring k) c.fills empty (loop_beside ring c.loop balanced k h))))
    (subst (λ (list : List Counted). IsBoundary es fill (flat_map (emitted fill list) list)) c.once (counted_boundary es ks fill is proper))

-- ---- the contour

chain_route : (e : Edge) (es : List Edge) (z : Point) → ((k : ℕ) → suc k < length (e ∷ es) → (edge_at (e ∷ es) k).1 ≡ start_at (e ∷ es) (suc k))
    → ((k : ℕ) → suc k ≡ length (e ∷ es) → (edge_at (e ∷ es) k).1 ≡ z) → route e.0 (map (λ (f : Edge). f.0) es) z ≡ e ∷ es
chain_route e [] z chained closed = λ i. (e.0, sym (closed 0 refl) i) ∷ []
chain_route e (f ∷ es) z chained closed =
    λ i. (e.0, sym (chained 0 (omega arith)) i)
    ∷ chain_route f es z (λ k l. chained (suc k) (omega (arith, l))) (λ k l. closed (suc k) (ap suc l)) i

-- the edges of a loop are those of the contour of their starts
pub loop_boundary : (es : List Edge) → IsConvexLoop es → boundary (map (λ (e : Edge). e.0) es) ≡ es
loop_boundary [] c = refl
loop_boundary (e ∷ es) c = chain_route e es e.0 c.chained c.closed

pub ring_edges : (es : List Edge) (v : Vec Point Global) (closed : List (Vec Point Global)) → IsConvexLoop es → v.items ≡ map (λ (e : Edge). e.0) es → closed ≡ v ∷ [] → contour_edges closed ≡ es
ring_edges es v closed c points one = ap contour_edges one ∙ (append-nil (boundary v.items) ∙ (ap boundary points ∙ loop_boundary es c))

pub ring_proper : (es : List Edge) (v : Vec Point Global) (closed : List (Vec Point Global)) → IsConvexLoop es → v.items ≡ map (λ (e : Edge). e.0) es → closed ≡ v ∷ [] → IsProper es
    → All (λ (e : Edge). same_point e.0 e.1 ≡ false) (contour_edges closed)
ring_proper es v closed c points one proper =
    subst (All (λ (e : Edge). same_point e.0 e.1 ≡ false)) (sym (ring_edges es v closed c points one)) (all_occurs (λ (e : Edge). same_point e.0 e.1 ≡ false) es proper)

-- ---- contours that leave out no point

both_lengths : (a : Point) (xs : List Point) (z : Point) → length (turning_points a xs z) + length (straight_points a xs z) ≡ length xs
both_lengths a [] z = refl
both_lengths a (x ∷ xs) z = by (turns_at a x (first_or z xs)) (both_lengths x xs z)
  where
    by : (b : Bool) → length (turning_points x xs z) + length (straight_points x xs z) ≡ length xs →
        length (cond b (x ∷ turning_points x xs z) (turning_points x xs z)) + length (cond b (straight_points x xs z) (x ∷ straight_points x xs z)) ≡ suc (length xs)
    by true h = omega (arith, h)
    by false h = omega (arith, h)

no_length : {A : Type 0} (xs : List A) → length xs ≡ 0 → xs ≡ []
no_length [] h = refl
no_length (x ∷ xs) h = absurd (omega (arith, h))

none_left_out : (all : Bool) (c : List Point) → IsWhole all c → left_out all c ≡ []
none_left_out all [] whole = refl
none_left_out true (p ∷ xs) whole = refl
none_left_out false (p ∷ xs) whole =
    let kept = ap length whole in
    let both = both_lengths p xs p in
    no_length (straight_points p xs p) (omega (arith, kept, both))

none_start : (all : Bool) (ordered : List Edge) (cs : List (List Point)) → All (IsWhole all) cs → All (λ (c : List Point). All (StartsOnce ordered) (left_out all c)) cs
none_start all ordered [] h = All-nil (λ (c : List Point). All (StartsOnce ordered) (left_out all c))
none_start all ordered (c ∷ cs) h = All-cons (λ (c : List Point). All (StartsOnce ordered) (left_out all c)) c cs
    (subst (All (StartsOnce ordered)) (sym (none_left_out all c (All-head (IsWhole all) c cs h))) (All-nil (StartsOnce ordered)))
    (none_start all ordered cs (All-tail (IsWhole all) c cs h))

-- rings of whole contours are so among any edges
pub whole_among : (all : Bool) (least : ℕ) (given : List (Vec Point Global)) (rings : List RingVec) (told : Told) (edges ordered : List Edge)
    → AreRingsOf all least edges given rings told → AreRingsOf all least ordered given rings (told.0, told.0)
whole_among all least given rings told edges ordered k = record {
  contours = k.contours;
  same = k.same;
  begun = k.begun;
  rings_are = k.rings_are;
  are_whole = k.are_whole;
  start_once = λ t. none_start all ordered k.contours (k.are_whole t);
}
