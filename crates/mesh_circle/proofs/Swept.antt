-- Lemmas over points: what circles and arcs know of the points round a vertex.
use Rattle.std.proofs.Common.{◌≡◌, ◌≢◌, ℕ, ◌+◌, ◌*◌, ◌<◌, ◌≤◌, Bool, true, false, refl, sym, ◌∙◌, ap, map, arith}
use Rattle.std.specs.Prelude.{ℤ, pos, ◌<ℤ◌, ◌||◌}
use Rattle.std.proofs.lemmas.Bool.{true≢false}
use Rattle.std.proofs.lemmas.Int.{ints}
use Rattle.mesh_plane.specs.Bounds.{IsSafe}
use Rattle.mesh_plane.specs.Plane.{Point, minus, length_sq}
use Rattle.mesh_plane.specs.Winding.{same_point}
use Rattle.mesh_plane.proofs.Comparing.{decides_point}
use Rattle.mesh_sine.proofs.Roots.{root_by}
use Rattle.mesh_num.specs.Rectangle.{IsSafeWidened}
use Rattle.mesh_num.proofs.Moving.{safe_difference, stays_safe}
use Rattle.mesh_arc.specs.Arcs.{arc, clamped}
use Rattle.mesh_arc.specs.declared.arc.ArcDirection.TheVariants.{Counterclockwise}
use Rattle.mesh_arc.specs.declared.arc.ArcOptions.{ArcOptions}
use Rattle.mesh_join.specs.Joints.{IsApart}
use Rattle.mesh_circle.specs.Sweeps.{distance, bearing, point_round, polyline_points, east_of, west_of, is_central}
use Rattle.mesh_circle.specs.Sweeps.{IsSwept}

-- ---- distances

-- the root that the code takes
pub distance_by : (p q : Point) (r : ℕ) → r * r ≤ length_sq (minus q p) → length_sq (minus q p) < (r + 1) * (r + 1)
    → distance p q ≡ r
unfolding distance
distance_by p q r h l = root_by (length_sq (minus q p)) r h l

-- ---- what is safe

-- a center that stays safe does not move far
pub reach_small : (unit d : ℕ) (c : Point) → IsSafeWidened unit (pos d) c → d < unit
reach_small unit d c h = omega (arith, ints, h.0.x.low, h.1.x.high)

pub swept_from : (unit : ℕ) (c x y : Point) → IsSwept unit c x y → IsSafe (2 * unit) (minus x c)
swept_from unit c x y h = safe_difference unit x c h.from (stays_safe unit (pos (distance c x)) c (omega (arith, ints)) h.center)

pub swept_to : (unit : ℕ) (c x y : Point) → IsSwept unit c x y → IsSafe (2 * unit) (minus y c)
swept_to unit c x y h = safe_difference unit y c h.to (stays_safe unit (pos (distance c x)) c (omega (arith, ints)) h.center)

-- ---- what has a direction

-- an arc that is more than one edge begins and ends apart from its center
pub ends_apart : (c x y : Point) → is_central c x y ≡ false → (x ≢ c) × (y ≢ c)
ends_apart c x y h = (from h, to h)
  where
    from : is_central c x y ≡ false → x ≢ c
    from h e = absurd (true≢false (sym (ap (λ (b : Bool). b || same_point y c) ((decides_point x c).1 e)) ∙ h))

    any : (b : Bool) → (b || true) ≡ true
    any true = refl
    any false = refl

    to : is_central c x y ≡ false → y ≢ c
    to h e =
        let t : is_central c x y ≡ true =
        ap (λ (b : Bool). same_point x c || b) ((decides_point y c).1 e) ∙ any (same_point x c) in
        absurd (true≢false (sym t ∙ h))

pub from_seen : (unit : ℕ) (c x y : Point) → IsSwept unit c x y → is_central c x y ≡ false → IsApart unit c x
from_seen unit c x y h apart = record {
  safe = swept_from unit c x y h;
  differ = (ends_apart c x y apart).0;
}

pub to_seen : (unit : ℕ) (c x y : Point) → IsSwept unit c x y → is_central c x y ≡ false → IsApart unit c y
to_seen unit c x y h apart = record {
  safe = swept_to unit c x y h;
  differ = (ends_apart c x y apart).1;
}

-- the points by the arc that the code builds
pub points_are : (options now : ArcOptions) (unit : ℕ) (c x y : Point) (radius : ℤ) (from end : Point)
    → now ≡ clamped options → from ≡ bearing unit c x → end ≡ bearing unit c y
    → map (point_round unit c radius) (arc unit now Counterclockwise from end)
    ≡ polyline_points unit options c x y radius
unfolding polyline_points
points_are options now unit c x y radius from end o f e =
    ap (λ (k : ArcOptions). map at (arc unit k Counterclockwise from end)) o
    ∙ ap (λ (d : Point). map at (arc unit (clamped options) Counterclockwise d end)) f
    ∙ ap (λ (d : Point). map at (arc unit (clamped options) Counterclockwise (bearing unit c x) d)) e
  where
    at : Point → Point
    at = point_round unit c radius

-- ---- the points of a circle to the east and to the west

module _ (unit : ℕ) (c : Point) (radius : ℤ) (large : pos 1 <ℤ radius) where
  pub east_apart : east_of c radius ≢ c
  east_apart e = absurd (omega (arith, ints, large, ap (λ (p : Point). p.0) e))

  pub west_apart : west_of c radius ≢ c
  west_apart e = absurd (omega (arith, ints, large, ap (λ (p : Point). p.0) e))

  module _ (h : IsSafeWidened unit radius c) where
    pub east_safe : IsSafe unit (east_of c radius)
    east_safe = record {
      x = record { low = omega (arith, ints, large, h.0.x.low); high = omega (arith, ints, h.1.x.high) };
      y = record { low = omega (arith, ints, large, h.0.y.low); high = omega (arith, ints, large, h.1.y.high) };
    }

    pub west_safe : IsSafe unit (west_of c radius)
    west_safe = record {
      x = record { low = omega (arith, ints, h.0.x.low); high = omega (arith, ints, large, h.1.x.high) };
      y = record { low = omega (arith, ints, large, h.0.y.low); high = omega (arith, ints, large, h.1.y.high) };
    }

    center_safe : IsSafe unit c
    center_safe = stays_safe unit radius c (omega (arith, ints, large)) h

    pub east_seen : IsApart unit c (east_of c radius)
    east_seen = record {
      safe = safe_difference unit (east_of c radius) c east_safe center_safe;
      differ = east_apart;
    }

    pub west_seen : IsApart unit c (west_of c radius)
    west_seen = record {
      safe = safe_difference unit (west_of c radius) c west_safe center_safe;
      differ = west_apart;
    }
