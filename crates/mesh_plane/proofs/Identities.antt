-- Lemmas over whole numbers: identities of the plane's products, for any coordinates.
use Rattle.std.proofs.Common.{◌≡◌, refl, [], ◌∷◌}
use Rattle.std.specs.Prelude.{ℤ, pos, ◌+ℤ◌, ◌-ℤ◌, ◌*ℤ◌, neg_ℤ}
use Rattle.mesh_plane.specs.Plane.{Point, opposite, cross, dot}
use Rattle.mesh_plane.proofs.Ring.{ring, var, lit, neg, ◌⊕◌, ◌⊖◌, ◌⊗◌, cross_of, dot_of}

-- (v·w)² + (v×w)² = |v|²|w|²
pub lagrange : (v w : Point) → (dot v w *ℤ dot v w) +ℤ (cross v w *ℤ cross v w) ≡ dot v v *ℤ dot w w
lagrange v w =
    let a = var 0 in
    let b = var 1 in
    let c = var 2 in
    let d = var 3 in
    ring (v.0 ∷ v.1 ∷ w.0 ∷ w.1 ∷ []) ((dot_of a b c d ⊗ dot_of a b c d) ⊕ (cross_of a b c d ⊗ cross_of a b c d)) (dot_of a b a b ⊗ dot_of c d c d) refl

-- |w|²(u·z) = (w·u)(w·z) + (w×u)(w×z)
pub dot_through : (w u z : Point) → dot w w *ℤ dot u z ≡ (dot w u *ℤ dot w z) +ℤ (cross w u *ℤ cross w z)
dot_through w u z =
    let a = var 0 in
    let b = var 1 in
    let c = var 2 in
    let d = var 3 in
    let e = var 4 in
    let f = var 5 in
    ring (w.0 ∷ w.1 ∷ u.0 ∷ u.1 ∷ z.0 ∷ z.1 ∷ []) (dot_of a b a b ⊗ dot_of c d e f) ((dot_of a b c d ⊗ dot_of a b e f) ⊕ (cross_of a b c d ⊗ cross_of a b e f)) refl

-- |u|²(w×z) = (u·w)(u×z) - (u×w)(u·z)
pub cross_through : (u w z : Point) → dot u u *ℤ cross w z ≡ (dot u w *ℤ cross u z) -ℤ (cross u w *ℤ dot u z)
cross_through u w z =
    let a = var 0 in
    let b = var 1 in
    let c = var 2 in
    let d = var 3 in
    let e = var 4 in
    let f = var 5 in
    ring (u.0 ∷ u.1 ∷ w.0 ∷ w.1 ∷ z.0 ∷ z.1 ∷ []) (dot_of a b a b ⊗ cross_of c d e f) ((dot_of a b c d ⊗ cross_of a b e f) ⊖ (cross_of a b c d ⊗ dot_of a b e f)) refl

-- (cx - sy)² + (sx + cy)² = (c² + s²)(x² + y²), for rotated directions of arcs and caps
pub rotation_length : (c s x y : ℤ) → (((c *ℤ x) -ℤ (s *ℤ y)) *ℤ ((c *ℤ x) -ℤ (s *ℤ y))) +ℤ (((s *ℤ x) +ℤ (c *ℤ y)) *ℤ ((s *ℤ x) +ℤ (c *ℤ y))) ≡ ((c *ℤ c) +ℤ (s *ℤ s)) *ℤ ((x *ℤ x) +ℤ (y *ℤ y))
rotation_length c s x y =
    let p = (var 0 ⊗ var 2) ⊖ (var 1 ⊗ var 3) in
    let q = (var 1 ⊗ var 2) ⊕ (var 0 ⊗ var 3) in
    ring (c ∷ s ∷ x ∷ y ∷ []) ((p ⊗ p) ⊕ (q ⊗ q)) (dot_of (var 0) (var 1) (var 0) (var 1) ⊗ dot_of (var 2) (var 3) (var 2) (var 3)) refl

-- v×w = -(w×v)
pub cross_flip : (v w : Point) → cross w v ≡ neg_ℤ (cross v w)
cross_flip v w =
    ring (v.0 ∷ v.1 ∷ w.0 ∷ w.1 ∷ []) (cross_of (var 2) (var 3) (var 0) (var 1)) (neg (cross_of (var 0) (var 1) (var 2) (var 3))) refl

pub cross_self : (v : Point) → cross v v ≡ pos 0
cross_self v = ring (v.0 ∷ v.1 ∷ []) (cross_of (var 0) (var 1) (var 0) (var 1)) (lit (pos 0)) refl

pub dot_swap : (v w : Point) → dot w v ≡ dot v w
dot_swap v w = ring (v.0 ∷ v.1 ∷ w.0 ∷ w.1 ∷ []) (dot_of (var 2) (var 3) (var 0) (var 1)) (dot_of (var 0) (var 1) (var 2) (var 3)) refl

-- ---- opposites

pub cross_opposites : (v w : Point) → cross (opposite v) (opposite w) ≡ cross v w
cross_opposites v w =
    ring (v.0 ∷ v.1 ∷ w.0 ∷ w.1 ∷ []) (cross_of (neg (var 0)) (neg (var 1)) (neg (var 2)) (neg (var 3))) (cross_of (var 0) (var 1) (var 2) (var 3)) refl

pub cross_opposite : (v w : Point) → cross (opposite v) w ≡ neg_ℤ (cross v w)
cross_opposite v w =
    ring (v.0 ∷ v.1 ∷ w.0 ∷ w.1 ∷ []) (cross_of (neg (var 0)) (neg (var 1)) (var 2) (var 3)) (neg (cross_of (var 0) (var 1) (var 2) (var 3))) refl

pub dot_opposite : (v w : Point) → dot (opposite v) w ≡ neg_ℤ (dot v w)
dot_opposite v w =
    ring (v.0 ∷ v.1 ∷ w.0 ∷ w.1 ∷ []) (dot_of (neg (var 0)) (neg (var 1)) (var 2) (var 3)) (neg (dot_of (var 0) (var 1) (var 2) (var 3))) refl
