-- Lemmas over points and lists: the way from a segment's end to its middle is parted from the edges that do not end there.
use Rattle.std.proofs.Common.{◌≡◌, inl, inr, ⊎_elim, true, false, List, [], ◌∷◌, refl, sym, ◌∙◌, ap, subst, arith}
use Rattle.std.specs.Prelude.{ℤ, pos, ◌+ℤ◌, ◌-ℤ◌, ◌*ℤ◌, ◌≤ℤ◌, ◌<ℤ◌}
use Rattle.std.proofs.lemmas.Bool.{both_ways}
use Rattle.std.proofs.lemmas.Int.{ints, by_lt_z}
use Rattle.mesh_plane.specs.Plane.{Point, Edge, plus, turn}
use Rattle.mesh_plane.proofs.Whole.{linear, mul_nonneg, mul_nonneg_nonpos, mul_nonpos_nonneg, mul_nonpos, nonneg_of_mul, nonpos_of_mul, mul_zero, one_mul}
use Rattle.mesh_plane.proofs.Ring.{ring, var, lit, ◌⊕◌, ◌⊖◌, ◌⊗◌}
use Rattle.mesh_plane.proofs.PointExprs.{point_var, coordinates, turned, scaled_point_expr}
use Rattle.mesh_plane.proofs.Crossings.{turn_flip}
use Rattle.mesh_plane.proofs.Grids.{scale}
use Rattle.mesh_lattice.specs.Clean.{IsOn, IsClean}
use Rattle.mesh_lattice.specs.Split.{occurs, is_end, IsBetween}
use Rattle.mesh_lattice.proofs.Boxes.{turn_start, start_box, on_back}
use Rattle.mesh_lattice.proofs.Ends.{decides_end, not_ends}
use Rattle.mesh_regions.proofs.SidesClear.{four_turns, meeting_of}
use Rattle.mesh_regions.proofs.SidesConstant.{Clear, on_left, on_right, ahead, behind, on_one_line}
use Rattle.mesh_regions.proofs.SidesPotential.{Parted, edge_left, edge_right, way_left, way_right, one_line}

-- ---- the turns of the way from `a` to the middle, on the grid 2

pub way_twice : (a b p : Point) → turn (scale (pos 2) a) (plus a b) (scale (pos 2) p) ≡ turn a b p +ℤ turn a b p
way_twice a b p =
    ring (coordinates (a ∷ b ∷ p ∷ []) [])
    (turned (scaled_point_expr (lit (pos 2)) (point_var 0)) (var 0 ⊕ var 2, var 1 ⊕ var 3) (scaled_point_expr (lit (pos 2)) (point_var 2)))
    (turned (point_var 0) (point_var 1) (point_var 2) ⊕ turned (point_var 0) (point_var 1) (point_var 2))
    refl

end_twice : (a p r : Point) → turn (scale (pos 2) p) (scale (pos 2) r) (scale (pos 2) a) ≡ (turn p r a +ℤ turn p r a) +ℤ (turn p r a +ℤ turn p r a)
end_twice a p r =
    let t = turned (point_var 1) (point_var 2) (point_var 0) in
    ring (coordinates (a ∷ p ∷ r ∷ []) [])
    (turned (scaled_point_expr (lit (pos 2)) (point_var 1)) (scaled_point_expr (lit (pos 2)) (point_var 2)) (scaled_point_expr (lit (pos 2)) (point_var 0)))
    ((t ⊕ t) ⊕ (t ⊕ t))
    refl

middle_twice : (a b p r : Point) → turn (scale (pos 2) p) (scale (pos 2) r) (plus a b) ≡ (turn p r a +ℤ turn p r b) +ℤ (turn p r a +ℤ turn p r b)
middle_twice a b p r =
    let t = turned (point_var 2) (point_var 3) (point_var 0) ⊕ turned (point_var 2) (point_var 3) (point_var 1) in
    ring (coordinates (a ∷ b ∷ p ∷ r ∷ []) [])
    (turned (scaled_point_expr (lit (pos 2)) (point_var 2)) (scaled_point_expr (lit (pos 2)) (point_var 3)) (var 0 ⊕ var 2, var 1 ⊕ var 3))
    (t ⊕ t)
    refl

-- the turn of the middle from an edge that starts at the end
pub start_twice : (a b r : Point) → turn (scale (pos 2) a) (scale (pos 2) r) (plus a b) ≡ turn a r b +ℤ turn a r b
start_twice a b r = omega (arith, linear, middle_twice a b a r, turn_start a r)

-- ---- an end on the line of an edge that has it on neither side

-- the place of `a` from `p` and from `r`, by the turns of these from the segment
from_start : (a b p r : Point) → (turn p r b *ℤ (a.0 -ℤ p.0) ≡ ((r.0 -ℤ p.0) *ℤ turn a b p) +ℤ ((b.0 -ℤ p.0) *ℤ turn p r a))
    × (turn p r b *ℤ (a.1 -ℤ p.1) ≡ ((r.1 -ℤ p.1) *ℤ turn a b p) +ℤ ((b.1 -ℤ p.1) *ℤ turn p r a))
from_start a b p r =
    let k = turned (point_var 2) (point_var 3) (point_var 1) in
    let t = turned (point_var 0) (point_var 1) (point_var 2) in
    let z = turned (point_var 2) (point_var 3) (point_var 0) in (
      ring (coordinates (a ∷ b ∷ p ∷ r ∷ []) []) (k ⊗ (var 0 ⊖ var 4)) (((var 6 ⊖ var 4) ⊗ t) ⊕ ((var 2 ⊖ var 4) ⊗ z)) refl,
      ring (coordinates (a ∷ b ∷ p ∷ r ∷ []) []) (k ⊗ (var 1 ⊖ var 5)) (((var 7 ⊖ var 5) ⊗ t) ⊕ ((var 3 ⊖ var 5) ⊗ z)) refl,
    )

from_last : (a b p r : Point) → (turn p r b *ℤ (a.0 -ℤ r.0) ≡ ((r.0 -ℤ p.0) *ℤ turn a b r) +ℤ ((b.0 -ℤ r.0) *ℤ turn p r a))
    × (turn p r b *ℤ (a.1 -ℤ r.1) ≡ ((r.1 -ℤ p.1) *ℤ turn a b r) +ℤ ((b.1 -ℤ r.1) *ℤ turn p r a))
from_last a b p r =
    let k = turned (point_var 2) (point_var 3) (point_var 1) in
    let t = turned (point_var 0) (point_var 1) (point_var 3) in
    let z = turned (point_var 2) (point_var 3) (point_var 0) in (
      ring (coordinates (a ∷ b ∷ p ∷ r ∷ []) []) (k ⊗ (var 0 ⊖ var 6)) (((var 6 ⊖ var 4) ⊗ t) ⊕ ((var 2 ⊖ var 6) ⊗ z)) refl,
      ring (coordinates (a ∷ b ∷ p ∷ r ∷ []) []) (k ⊗ (var 1 ⊖ var 7)) (((var 7 ⊖ var 5) ⊗ t) ⊕ ((var 3 ⊖ var 7) ⊗ z)) refl,
    )

between_of : (k s t z c d p a r : ℤ) → pos 0 <ℤ k → pos 0 ≤ℤ s → t ≤ℤ pos 0 → z ≡ pos 0
    → k *ℤ (a -ℤ p) ≡ ((r -ℤ p) *ℤ s) +ℤ (c *ℤ z) → k *ℤ (a -ℤ r) ≡ ((r -ℤ p) *ℤ t) +ℤ (d *ℤ z) → IsBetween p a r
between_of k s t z c d p a r some high low none e f =
    let ez : c *ℤ z ≡ pos 0 = ap (λ (x : ℤ). c *ℤ x) none ∙ mul_zero c in
    let fz : d *ℤ z ≡ pos 0 = ap (λ (x : ℤ). d *ℤ x) none ∙ mul_zero d in
    record {
      up = λ (h : p ≤ℤ r).
          (let x = mul_nonneg (r -ℤ p) s (omega (arith, linear)) high in
          let y = mul_nonneg_nonpos (r -ℤ p) t (omega (arith, linear)) low in
          let u = nonneg_of_mul k (a -ℤ p) some (omega (arith, linear)) in
          let v = nonpos_of_mul k (a -ℤ r) some (omega (arith, linear)) in
          (omega (arith, linear), omega (arith, linear)));
      down = λ (h : r ≤ℤ p).
          (let x = mul_nonpos_nonneg (r -ℤ p) s (omega (arith, linear)) high in
          let y = mul_nonpos (r -ℤ p) t (omega (arith, linear)) low in
          let u = nonpos_of_mul k (a -ℤ p) some (omega (arith, linear)) in
          let v = nonneg_of_mul k (a -ℤ r) some (omega (arith, linear)) in
          (omega (arith, linear), omega (arith, linear)));
    }

-- a point on an edge's line with both of the edge's ends on its own line's sides, or on that line, is on the edge
on_edge : (a b p r : Point) → turn p r a ≡ pos 0 → pos 0 <ℤ turn p r b → pos 0 ≤ℤ turn a b p → turn a b r ≤ℤ pos 0 → IsOn (p, r) a
on_edge a b p r flat some high low = record {
  on_line = flat;
  in_box = record {
    by_x = between_of (turn p r b) (turn a b p) (turn a b r) (turn p r a) (b.0 -ℤ p.0) (b.0 -ℤ r.0) p.0 a.0 r.0 some high low flat (from_start a b p r).0 (from_last a b p r).0;
    by_y = between_of (turn p r b) (turn a b p) (turn a b r) (turn p r a) (b.1 -ℤ p.1) (b.1 -ℤ r.1) p.1 a.1 r.1 some high low flat (from_start a b p r).1 (from_last a b p r).1;
  };
}

-- ---- parted

abbrev PartedEnd : Point → Point → Point → Point → Type 0
PartedEnd a b p r = Parted (scale (pos 2) a) (plus a b) (scale (pos 2) p) (scale (pos 2) r)

ahead_parted : (a b p r : Point) → (IsOn (p, r) a → ⊥) → pos 0 ≤ℤ turn p r a → pos 0 ≤ℤ turn p r b → pos 0 <ℤ (turn p r a +ℤ turn p r b) → PartedEnd a b p r
ahead_parted a b p r off x y some =
    by_lt_z (pos 0) (turn p r a)
    (λ (h : pos 0 <ℤ turn p r a). way_left (omega (arith, linear, end_twice a p r)) (omega (arith, linear, middle_twice a b p r)))
    (λ (h : turn p r a ≤ℤ pos 0).
    by_lt_z (pos 0) (turn a b r)
    (λ (k : pos 0 <ℤ turn a b r). edge_left (omega (arith, linear, way_twice a b p, four_turns a b p r)) (omega (arith, linear, way_twice a b r)))
    (λ (k : turn a b r ≤ℤ pos 0).
    by_lt_z (turn a b p) (pos 0)
    (λ (l : turn a b p <ℤ pos 0). edge_right (omega (arith, linear, way_twice a b p)) (omega (arith, linear, way_twice a b r, four_turns a b p r)))
    (λ (l : pos 0 ≤ℤ turn a b p). absurd (off (on_edge a b p r (omega (arith, linear)) (omega (arith, linear)) l k)))))

parted_turned : (q u p r : Point) → Parted q u r p → Parted q u p r
parted_turned q u p r (edge_left c d) = edge_left d c
parted_turned q u p r (edge_right c d) = edge_right d c
parted_turned q u p r (way_left a b) = way_right (omega (arith, linear, turn_flip p r q)) (omega (arith, linear, turn_flip p r u))
parted_turned q u p r (way_right a b) = way_left (omega (arith, linear, turn_flip p r q)) (omega (arith, linear, turn_flip p r u))
parted_turned q u p r (one_line c d a b) = one_line d c (omega (arith, linear, turn_flip p r q)) (omega (arith, linear, turn_flip p r u))

-- the way from an end of a segment to its middle is parted from an edge that keeps clear of the segment and is not on the end
pub end_parted : (a b p r : Point) → (IsOn (p, r) a → ⊥) → Clear a b p r → PartedEnd a b p r
end_parted a b p r off (on_left x y) = edge_left (omega (arith, linear, way_twice a b p)) (omega (arith, linear, way_twice a b r))
end_parted a b p r off (on_right x y) = edge_right (omega (arith, linear, way_twice a b p)) (omega (arith, linear, way_twice a b r))
end_parted a b p r off (ahead x y some) = ahead_parted a b p r off x y some
end_parted a b p r off (behind x y some) =
    parted_turned (scale (pos 2) a) (plus a b) (scale (pos 2) p) (scale (pos 2) r)
    (ahead_parted a b r p (λ (h : IsOn (r, p) a). off (on_back (r, p) a h)) (omega (arith, linear, turn_flip p r a)) (omega (arith, linear, turn_flip p r b))
    (omega (arith, linear, turn_flip p r a, turn_flip p r b)))
end_parted a b p r off (on_one_line x y u v) =
    one_line (omega (arith, linear, way_twice a b p)) (omega (arith, linear, way_twice a b r)) (omega (arith, linear, end_twice a p r)) (omega (arith, linear, middle_twice a b p r))

-- ---- in a clean list

scale_one : (p : Point) → scale (pos 1) p ≡ p
scale_one p = λ i. (one_mul p.0 i, one_mul p.1 i)

-- a segment's start is on no edge of which it is no end
pub start_off : (es : List Edge) → IsClean es → (s e : Edge) → occurs s es ≡ true → occurs e es ≡ true → is_end s.0 e ≡ false → IsOn (e.0, e.1) s.0 → ⊥
start_off es clean s e hs he apart on =
    let own : is_end s.0 s ≡ true = (decides_end s.0 s).1 (inl refl) in
    let meet = meeting_of es clean e s he hs (not_ends s.0 e s apart own) in
    let z = scale (pos 1) s.0 in
    let on_second : IsOn (scale (pos 1) s.0, scale (pos 1) s.1) z = record {
      on_line = turn_start (scale (pos 1) s.0) (scale (pos 1) s.1);
      in_box = start_box (scale (pos 1) s.0, scale (pos 1) s.1);
    } in
    let on_first : IsOn (scale (pos 1) e.0, scale (pos 1) e.1) z =
    subst (λ (f : Edge × Point). IsOn f.0 f.1) (λ i. ((sym (scale_one e.0) i, sym (scale_one e.1) i), sym (scale_one s.0) i)) on in
    both_ways (is_end s.0 e) apart
    ((decides_end s.0 e).1
    (⊎_elim
    (λ (h : z ≡ scale (pos 1) e.0). inl (sym (scale_one s.0) ∙ (h ∙ scale_one e.0)))
    (λ (h : z ≡ scale (pos 1) e.1). inr (sym (scale_one s.0) ∙ (h ∙ scale_one e.1)))
    (meet.at_end (pos 1) (omega (arith, ints)) z on_first on_second)))
