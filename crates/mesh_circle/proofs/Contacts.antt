-- Lemmas over whole numbers: no coordinate of a contact passes its radius, and no contact lies outside its circle by
-- a whole unit.
use Rattle.std.proofs.Common.{◌≡◌, ℕ, ◌+◌, ◌-◌, ◌*◌, ◌<◌, ◌≤◌, ◌⊎◌, inl, inr, sym, ◌∙◌, ap, arith, suc, zero, true}
use Rattle.std.proofs.Common.{false}
use Rattle.std.specs.Prelude.{ℤ, pos, negsuc, ◌≤ℤ◌, ◌+ℤ◌, ◌-ℤ◌, ◌*ℤ◌, unsigned_abs, leb}
use Rattle.std.proofs.Math.Nat.{mul-le-mul, mul-le-mul_left, mul-le-mul_right}
use Rattle.std.proofs.lemmas.Bool.Decides.{leb_tells}
use Rattle.std.proofs.lemmas.Int.{ints, unsigned_abs-mul}
use Rattle.mesh_plane.specs.Plane.{Point, length_sq, dot}
use Rattle.mesh_plane.proofs.Sizes.{dot_self, size_square, le_of_squares, lt_of_squares}
use Rattle.mesh_plane.proofs.Whole.{linear, multiplied}
use Rattle.mesh_plane.proofs.Rounding.{rounded_within, rounded_not_above}
use Rattle.mesh_sine.specs.Sine.{root}
use Rattle.mesh_sine.proofs.Roots.{root_is}
use Rattle.mesh_circle.specs.Tangents.{lift, tangent_length, left_normal, right_normal, normal_length, at_radius}
use Rattle.mesh_circle.specs.Tangents.{IsWithinRadius}

le_cancel : (k a b : ℕ) → 0 < k → a * k ≤ b * k → a ≤ b
le_cancel k a b some h = by (leb_tells a b)
  where
    by : ((leb a b ≡ true) × (a ≤ b)) ⊎ ((leb a b ≡ false) × (b < a)) → a ≤ b
    by (inl l) = l.1
    by (inr l) = let m : (b + 1) * k ≤ a * k = mul-le-mul_right k (omega (arith, l.1)) in absurd (omega (arith, m, h))

-- a rounded vector of at most the radius
pub within_circle : (r a b x y l : ℕ) → 0 < l → x * x + y * y ≤ l * l → 2 * (a * l) ≤ 2 * (r * x) + l →
    2 * (b * l) ≤ 2 * (r * y) + l → a ≤ r → b ≤ r →
    a * a + b * b < (r + 1) * (r + 1)
within_circle r zero b x y l some h p q ha hb = let s : b * b ≤ r * r = mul-le-mul hb hb in omega arith
within_circle r (suc a) zero x y l some h p q ha hb = let s : suc a * suc a ≤ r * r = mul-le-mul ha ha in omega arith
within_circle r (suc a) (suc b) x y l some h p q ha hb =
    let u : (2 * a + 1) * l ≤ 2 * r * x = omega (arith, p) in
    let w : (2 * b + 1) * l ≤ 2 * r * y = omega (arith, q) in
    let uu : (2 * a + 1) * l * ((2 * a + 1) * l) ≤ 2 * r * x * (2 * r * x) = mul-le-mul u u in
    let ww : (2 * b + 1) * l * ((2 * b + 1) * l) ≤ 2 * r * y * (2 * r * y) = mul-le-mul w w in
    let hh : 2 * r * (2 * r) * (x * x + y * y) ≤ 2 * r * (2 * r) * (l * l) = mul-le-mul_left (2 * r * (2 * r)) h in
    let sum : ((2 * a + 1) * (2 * a + 1) + (2 * b + 1) * (2 * b + 1)) * (l * l) ≤ 2 * r * (2 * r) * (l * l) =
    omega (arith, uu, ww, hh) in
    let square : 0 < l * l = mul-le-mul some some in
    let most : (2 * a + 1) * (2 * a + 1) + (2 * b + 1) * (2 * b + 1) ≤ 2 * r * (2 * r) =
    le_cancel (l * l) _ _ square sum in
    omega (arith, most, ha, hb)

-- ---- normals

-- the square of a vector that is made of a vector and of the same vector turned by a quarter
turned_square : (c s x y : ℤ) →
    ((((c *ℤ x) -ℤ (s *ℤ y)) *ℤ ((c *ℤ x) -ℤ (s *ℤ y))) +ℤ (((c *ℤ y) +ℤ (s *ℤ x)) *ℤ ((c *ℤ y) +ℤ (s *ℤ x))))
    ≡ ((c *ℤ c) +ℤ (s *ℤ s)) *ℤ ((x *ℤ x) +ℤ (y *ℤ y))
turned_square c s x y = simp multiplied (omega (arith, linear))

turned_back_square : (c s x y : ℤ) →
    ((((c *ℤ x) +ℤ (s *ℤ y)) *ℤ ((c *ℤ x) +ℤ (s *ℤ y))) +ℤ (((c *ℤ y) -ℤ (s *ℤ x)) *ℤ ((c *ℤ y) -ℤ (s *ℤ x))))
    ≡ ((c *ℤ c) +ℤ (s *ℤ s)) *ℤ ((x *ℤ x) +ℤ (y *ℤ y))
turned_back_square c s x y = simp multiplied (omega (arith, linear))

pos_same : {m n : ℕ} → pos m ≡ pos n → m ≡ n
pos_same e = ap unsigned_abs e

-- the root that it takes
tangent_square : (unit : ℕ) (v : Point) (delta : ℤ) → tangent_length unit v delta * tangent_length unit v delta
    ≤ (length_sq v - unsigned_abs delta * unsigned_abs delta) * (lift unit (length_sq v) * lift unit (length_sq v))
tangent_square unit v delta =
    (root_is ((length_sq v - unsigned_abs delta * unsigned_abs delta) *
    (lift unit (length_sq v) * lift unit (length_sq v)))).within

-- with the lifted difference of the radii it makes a triangle whose longest side is the lifted distance of the centers
triangle : (d t q l : ℕ) → d * d ≤ q → t * t ≤ (q - d * d) * (l * l) → (d * l * (d * l) + t * t) * q ≤ q * l * (q * l)
triangle d t q l h g =
    let r : ℕ = q - d * d in
    let e : r + d * d ≡ q = omega (arith, h) in
    let s : d * l * (d * l) + t * t ≤ (r + d * d) * (l * l) = omega (arith, g) in
    let m : (d * l * (d * l) + t * t) * q ≤ (r + d * d) * (l * l) * q = mul-le-mul_right q s in
    omega (arith, ap (λ (n : ℕ). n * (l * l) * q) e, m)

-- no normal is longer than that
pub left_normal_most : (unit : ℕ) (v : Point) (delta : ℤ) → unsigned_abs delta * unsigned_abs delta ≤ length_sq v →
    length_sq (left_normal unit v delta) ≤ normal_length unit v * normal_length unit v
left_normal_most unit v delta h =
    let l = lift unit (length_sq v) in
    let t = tangent_length unit v delta in
    let n = left_normal unit v delta in
    let c : ℤ = delta *ℤ pos l in
    let e : pos (length_sq n) ≡ ((c *ℤ c) +ℤ (pos t *ℤ pos t)) *ℤ dot v v =
    sym (dot_self n) ∙ turned_square c (pos t) v.0 v.1 in
    let k : length_sq n ≡ (unsigned_abs delta * l * (unsigned_abs delta * l) + t * t) * length_sq v =
    pos_same (e ∙ (λ i. (size_square c i +ℤ pos (t * t)) *ℤ dot_self v i)
    ∙ ap (λ (m : ℕ). pos ((m * m + t * t) * length_sq v)) (unsigned_abs-mul delta (pos l))) in
    omega (arith, k, triangle (unsigned_abs delta) t (length_sq v) l h (tangent_square unit v delta))

-- the one on the right neither: it is that of the vector mirrored
pub right_normal_most : (unit : ℕ) (v : Point) (delta : ℤ) → unsigned_abs delta * unsigned_abs delta ≤ length_sq v →
    length_sq (right_normal unit v delta) ≤ normal_length unit v * normal_length unit v
right_normal_most unit v delta h =
    let l = lift unit (length_sq v) in
    let t = tangent_length unit v delta in
    let n = right_normal unit v delta in
    let c : ℤ = delta *ℤ pos l in
    let e : pos (length_sq n) ≡ ((c *ℤ c) +ℤ (pos t *ℤ pos t)) *ℤ dot v v =
    sym (dot_self n) ∙ turned_back_square c (pos t) v.0 v.1 in
    let k : length_sq n ≡ (unsigned_abs delta * l * (unsigned_abs delta * l) + t * t) * length_sq v =
    pos_same (e ∙ (λ i. (size_square c i +ℤ pos (t * t)) *ℤ dot_self v i)
    ∙ ap (λ (m : ℕ). pos ((m * m + t * t) * length_sq v)) (unsigned_abs-mul delta (pos l))) in
    omega (arith, k, triangle (unsigned_abs delta) t (length_sq v) l h (tangent_square unit v delta))

-- ---- contacts

-- a normal that is no longer than `length`, made as long as a radius
module _ (length : ℕ) (some : 0 < length) (r : ℕ) (n : Point) (most : length_sq n ≤ length * length) where
  offset_x_most : unsigned_abs (at_radius length (pos r) n).0 ≤ r
  offset_x_most =
      rounded_within (pos r *ℤ n.0) length r some
      (omega (
        arith,
        unsigned_abs-mul (pos r) n.0,
        mul-le-mul_left r
            (le_of_squares (unsigned_abs n.0) length (omega (arith, most))),
      ))

  offset_y_most : unsigned_abs (at_radius length (pos r) n).1 ≤ r
  offset_y_most =
      rounded_within (pos r *ℤ n.1) length r some
      (omega (
        arith,
        unsigned_abs-mul (pos r) n.1,
        mul-le-mul_left r
            (le_of_squares (unsigned_abs n.1) length (omega (arith, most))),
      ))

  -- so the distance from the center, cut to a whole number, is at most the radius
  offset_within : length_sq (at_radius length (pos r) n) < (r + 1) * (r + 1)
  offset_within =
      within_circle r _ _ (unsigned_abs n.0) (unsigned_abs n.1) length some most
      (omega (arith, rounded_not_above (pos r *ℤ n.0) length, unsigned_abs-mul (pos r) n.0))
      (omega (arith, rounded_not_above (pos r *ℤ n.1) length, unsigned_abs-mul (pos r) n.1))
      offset_x_most offset_y_most

-- so a normal as long as a radius lies by the circle
pub at_radius_within : (length : ℕ) (r : ℤ) (n : Point) → pos 0 ≤ℤ r → 0 < length → length_sq n ≤ length * length →
    IsWithinRadius r (at_radius length r n)
at_radius_within length (pos r) n sign some most =
    let l : length_sq (at_radius length (pos r) n) < (r + 1) * (r + 1) = offset_within length some r n most in
    let k = (root_is (length_sq (at_radius length (pos r) n))).within in
    let s : root (length_sq (at_radius length (pos r) n)) < r + 1 = lt_of_squares _ (r + 1) (omega (arith, l, k)) in
    record {
      x = offset_x_most length some r n most;
      y = offset_y_most length some r n most;
      length = omega
          (arith, s);
    }
at_radius_within length (negsuc r) n sign some most = absurd (omega (arith, ints))
