-- Lemmas over points: safe circles lie near one another, and hold one another where the code says so.
use Rattle.std.proofs.Common.{◌≡◌, ℕ, ◌+◌, ◌*◌, ◌<◌, ◌≤◌, ◌⊎◌, inl, inr, refl, sym, ◌∙◌, ap, arith}
use Rattle.std.specs.Prelude.{ℤ, Bool, pos, true, false, ◌-ℤ◌, leb, int_le, ◌&&◌, ◌||◌, unsigned_abs}
use Rattle.std.proofs.lemmas.Bool.Decides.{leb_tells, Decides-and, Decides-int_eq}
use Rattle.std.proofs.lemmas.Int.{ints}
use Rattle.mesh_plane.specs.Bounds.{IsSafe}
use Rattle.mesh_plane.specs.Plane.{Point, plus, minus, length_sq}
use Rattle.mesh_plane.specs.Winding.{same_point}
use Rattle.mesh_num.proofs.Moving.{safe_difference, stays_safe}
use Rattle.mesh_circle.specs.Tangents.{IsWithinRadius}
use Rattle.mesh_circle.specs.Sections.{Circle, IsSafeCircle, IsContact, is_nested, has_no_section}

pub center_safe : (unit : ℕ) (c : Circle) → IsSafeCircle unit c → IsSafe unit c.center
center_safe unit c s = stays_safe unit c.radius c.center s.nonneg s.safe

-- the vector from a center to the other
pub centers_apart : (unit : ℕ) (a b : Circle) → IsSafeCircle unit a → IsSafeCircle unit b →
    IsSafe (2 * unit) (minus b.center a.center)
centers_apart unit a b s t = safe_difference unit b.center a.center (center_safe unit b t) (center_safe unit a s)

-- a point of a circle is safe
pub contact_safe : (unit : ℕ) (c : Circle) (v : Point) → IsSafeCircle unit c → IsWithinRadius c.radius v →
    IsSafe unit (plus c.center v)
contact_safe unit c v s w = record {
  x = record {
    low = omega (arith, ints, s.nonneg, s.safe.0.x.low, w.x);
    high = omega (arith, ints, s.nonneg, s.safe.1.x.high, w.x);
  };
  y = record {
    low = omega (arith, ints, s.nonneg, s.safe.0.y.low, w.y);
    high = omega (arith, ints, s.nonneg, s.safe.1.y.high, w.y);
  };
}

-- ---- what the code reads of circles

pub vector_made : (a b : Circle) (p q v : Point) (r s : ℤ) → ◌≡◌ {A = Circle} (record { center = p; radius = r }) a →
    ◌≡◌ {A = Circle} (record { center = q; radius = s }) b → v ≡ minus q p → v ≡ minus b.center a.center
vector_made a b p q v r s e f g =
    g ∙ (λ i. minus (ap (λ (c : Circle). c.center) f i) (ap (λ (c : Circle). c.center) e i))

pub nested_made : (a b : Circle) (p q v : Point) (r s : ℤ) (m d : ℕ) →
    ◌≡◌ {A = Circle} (record { center = p; radius = r }) a →
    ◌≡◌ {A = Circle} (record { center = q; radius = s }) b → v ≡ minus q p → m ≡ length_sq v → d ≡ unsigned_abs
    (r -ℤ s) →
    leb m (d * d) ≡ is_nested a b
nested_made a b p q v r s m d e f g h k =
    let x : m ≡ length_sq (minus b.center a.center) = h ∙ ap length_sq (vector_made a b p q v r s e f g) in
    let y : d ≡ unsigned_abs (a.radius -ℤ b.radius) =
    k ∙ (λ i. unsigned_abs (ap (λ (c : Circle). c.radius) e i -ℤ ap (λ (c : Circle). c.radius) f i)) in
    λ i. leb (x i) (y i * y i)

-- ---- points of a circle

-- the vector back to a moved point is the one that moved it
plus_minus : (c v : Point) → minus (plus c v) c ≡ v
plus_minus c v =
    let x : (minus (plus c v) c).0 ≡ v.0 = omega (arith, ints) in
    let y : (minus (plus c v) c).1 ≡ v.1 = omega (arith, ints) in
    λ i. (x i, y i)

pub contact_made : (c : Circle) (p v : Point) → p ≡ plus c.center v → IsWithinRadius c.radius v → IsContact c p
contact_made c p v e w = rw (e, plus_minus c.center v) w

-- ---- sections

-- of two circles with one center one holds the other
same_nested : (a b : Circle) → same_point a.center b.center ≡ true → is_nested a b ≡ true
same_nested a b e =
    let d : (a.center.0 ≡ b.center.0) × (a.center.1 ≡ b.center.1) =
    (Decides-and _ _ (Decides-int_eq a.center.0 b.center.0) (Decides-int_eq a.center.1 b.center.1)).0 e in
    let x : unsigned_abs (minus b.center a.center).0 ≡ 0 = omega (arith, ints, d.0) in
    let y : unsigned_abs (minus b.center a.center).1 ≡ 0 = omega (arith, ints, d.1) in
    let z : length_sq (minus b.center a.center) ≡ 0 = λ i. x i * x i + y i * y i in
    by z (leb_tells _ _)
  where
    by : {m n : ℕ} → m ≡ 0 → ((leb m n ≡ true) × (m ≤ n)) ⊎ ((leb m n ≡ false) × (n < m)) → leb m n ≡ true
    by z (inl l) = l.0
    by z (inr l) = absurd (omega (arith, z, l.1))

-- so the code need not compare the centers
pub no_section_made : (a b : Circle) (n : Bool) → (int_le a.radius (pos 1) && int_le b.radius (pos 1)) ≡ false →
    n ≡ is_nested a b → n ≡ has_no_section a b
no_section_made a b n e f = by (same_point a.center b.center) refl
  where
    by : (s : Bool) → same_point a.center b.center ≡ s → n ≡ has_no_section a b
    by true g =
        f ∙ same_nested a b g ∙ sym
        (λ i. g i || ((int_le a.radius (pos 1) && int_le b.radius (pos 1)) || is_nested a b))
    by false g = f ∙ sym (λ i. g i || (e i || is_nested a b))
