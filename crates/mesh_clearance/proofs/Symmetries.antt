-- Lemmas over points: edges stay apart when they change places, are turned about or are mirrored.
use Rattle.std.proofs.Common.{◌≡◌, ℕ, ◌+◌, ◌*◌, ◌<◌, ◌≤◌, refl, sym, ◌∙◌, ap, subst, arith, [], ◌∷◌, suc}
use Rattle.std.specs.Prelude.{ℤ, pos, neg_ℤ, ◌+ℤ◌, ◌-ℤ◌, ◌*ℤ◌, ◌≤ℤ◌, ◌<ℤ◌, unsigned_abs}
use Rattle.std.proofs.Math.Nat.{mul-le-mul_right}
use Rattle.std.proofs.lemmas.Int.{ints}
use Rattle.mesh_plane.specs.Plane.{Point, Edge, minus, turn, length_sq}
use Rattle.mesh_plane.specs.Winding.{refined}
use Rattle.mesh_plane.proofs.Crossings.{turn_flip}
use Rattle.mesh_plane.proofs.PointExprs.{point_var, coordinates, turned}
use Rattle.mesh_plane.proofs.Ring.{ring, var, neg, ◌⊖◌, ◌⊗◌}
use Rattle.mesh_plane.proofs.Whole.{linear}
use Rattle.mesh_lattice.specs.Clean.{IsOn, refined_edge}
use Rattle.mesh_lattice.specs.Split.{back, IsBetween}
use Rattle.mesh_clearance.specs.Clearance.{AreApart}

length_back : (p q : Point) → length_sq (minus p q) ≡ length_sq (minus q p)
length_back p q = λ i. same p.0 q.0 i * same p.0 q.0 i + same p.1 q.1 i * same p.1 q.1 i
  where
    same : (x y : ℤ) → unsigned_abs (x -ℤ y) ≡ unsigned_abs (y -ℤ x)
    same x y = omega (arith, ints)

pub apart_swapped : (t : ℕ) (e f : Edge) → AreApart t e f → AreApart t f e
apart_swapped t e f h m p q first second = let l = h m q p second first in omega (arith, l, length_back p q)

between_back : (a z b : ℤ) → IsBetween a z b → IsBetween b z a
between_back a z b h = record { up = h.down; down = h.up }

on_back : (a b z : Point) → IsOn (a, b) z → IsOn (b, a) z
on_back a b z h = record {
  on_line = let e = h.on_line in omega (arith, linear, turn_flip a b z, e);
  in_box = record { by_x = between_back a.0 z.0 b.0 h.in_box.by_x; by_y = between_back a.1 z.1 b.1 h.in_box.by_y };
}

pub apart_back : (t : ℕ) (e f : Edge) → AreApart t (back e) f → AreApart t e f
apart_back t e f h m p q first second = h m p q (on_back (refined m e.0) (refined m e.1) p first) second

-- a point with its coordinates exchanged
abbrev pub mirror : Point → Point
mirror p = (p.1, p.0)

abbrev pub mirror_edge : Edge → Edge
mirror_edge e = (mirror e.0, mirror e.1)

turn_mirrored : (a b z : Point) → turn (mirror a) (mirror b) (mirror z) ≡ neg_ℤ (turn a b z)
turn_mirrored a b z =
    ring (coordinates (a ∷ b ∷ z ∷ []) []) (turned (var 1, var 0) (var 3, var 2) (var 5, var 4)) (neg (turned (point_var 0) (point_var 1) (point_var 2))) refl

on_mirrored : (a b z : Point) → IsOn (a, b) z → IsOn (mirror a, mirror b) (mirror z)
on_mirrored a b z h = record {
  on_line = let e = h.on_line in omega (arith, linear, turn_mirrored a b z, e);
  in_box = record { by_x = h.in_box.by_y; by_y = h.in_box.by_x };
}

pub apart_mirrored : (t : ℕ) (e f : Edge) → AreApart t (mirror_edge e) (mirror_edge f) → AreApart t e f
apart_mirrored t e f h m p q first second =
    let l = h m (mirror p) (mirror q) (on_mirrored (refined m e.0) (refined m e.1) p first) (on_mirrored (refined m f.0) (refined m f.1) q second) in
    omega (arith, l)

pub apart_none : (t : ℕ) (e f : Edge) → t ≡ 0 → AreApart t e f
apart_none t e f none m p q first second =
    subst (λ (n : ℕ). n * (m * m) ≤ length_sq (minus p q)) (sym none) (omega arith)

pub apart_less : (s t : ℕ) (e f : Edge) → s ≤ t → AreApart t e f → AreApart s e f
apart_less s t e f less h m p q first second =
    let l = h m p q first second in
    let k = mul-le-mul_right (m * m) less in
    omega (arith, l, k)
