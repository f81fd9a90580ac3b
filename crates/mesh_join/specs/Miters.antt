-- Miters: the moved sections of an outer corner run on to the peak in which they meet. A sharp peak is clipped by an
-- edge. Where the turn is slight, or a point would lie too far away or behind, the corner is bevelled.
use Rattle.std.specs.Prelude.{ℕ, Bool, ◌&&◌, ◌||◌, List, [], ◌∷◌, ◌/◌, ◌-◌, ◌^◌, min, max, ℤ, pos, ◌+ℤ◌, ◌-ℤ◌, ◌*ℤ◌}
use Rattle.std.specs.Prelude.{unsigned_abs, int_le, int_lt, if◌then◌else◌}
use Rattle.std.specs.List.{list_all}
use Rattle.std.specs.Ordering.{int_eq}
use Rattle.mesh_plane.specs.Plane.{Point, plus, minus, opposite, cross, dot}
use Rattle.mesh_plane.specs.Winding.{route}
use Rattle.mesh_num.specs.Direction.{scaled_direction}
use Rattle.mesh_num.specs.Quotient.{rounded_product}
use Rattle.mesh_join.specs.Joints.{Joint, runs_ahead}
use Rattle.mesh_sine.specs.Sine.{sin_cos}

-- what a miter is asked for, in angle bits: the sharpest angle that has a peak, and the turn below which it is a bevel
pub record MiterStyle : Type 0 where
  pub angle : ℕ
  pub min_turn : ℕ

-- the sharpest angle between two sections that has a peak: the angle asked for, at least 5 degrees and below half a
-- turn
abbrev pub sharpest : ℕ → ℕ
sharpest angle = min (max angle 59652323) (2 ^ 31 - 1)

-- the turn below which a miter is a bevel: the one asked for, at most half a turn
abbrev pub slightest : ℕ → ℕ
slightest min_turn = min min_turn (2 ^ 31)

-- the sine and the cosine of half the sharpest angle, times 2 ^ 30
unfoldable pub half_sharpest : ℕ → Point
half_sharpest angle = sin_cos (sharpest angle / 2)

-- how far a miter reaches from its corner in each coordinate, by the sine of half its sharpest angle: as the peak of
-- that angle does, and 2 for what is lost to rounding
abbrev pub reach : ℤ → ℤ → ℤ
reach sine radius =
    if int_eq radius (pos 0) then pos 0 else rounded_product (pos (unsigned_abs radius)) (pos (2 ^ 30)) sine +ℤ pos 2

-- how far a miter reaches from its corner in each coordinate
unfoldable pub miter_padding : ℕ → ℤ → ℤ
miter_padding angle radius = reach (half_sharpest angle).0 radius

-- whether the angle between two vectors is below one of at most half a turn, whose sine and cosine are given
abbrev pub is_angle_below : Point → Point → Point → Bool
is_angle_below sine v w = int_lt (sine.1 *ℤ pos (unsigned_abs (cross v w))) (sine.0 *ℤ dot v w)

-- whether the corner is bevelled at once: its directions are parallel, or it turns by less than the least turn
unfoldable pub is_slight : ℕ → Joint → Bool
is_slight min_turn j =
    int_eq (cross j.incoming j.outgoing) (pos 0)
    || is_angle_below (sin_cos (slightest min_turn)) j.incoming j.outgoing

-- whether the angle between the corner's sections is below the sharpest that has a peak
unfoldable pub is_sharp : ℕ → Joint → Bool
is_sharp angle j = is_angle_below (sin_cos (sharpest angle)) (opposite j.incoming) j.outgoing

-- how far the sections run on before a sharp peak is clipped, so that the ends of the edge that clips it are as far
-- away as the peak of the sharpest angle would be
unfoldable pub clip_reach : ℕ → ℤ → ℤ
clip_reach angle radius = rounded_product radius (half_sharpest angle).1 (half_sharpest angle).0

-- the ends of the edge that clips a sharp peak
unfoldable pub clip_points : ℕ → ℕ → Joint → List Point
clip_points angle unit j =
    plus j.first (scaled_direction unit (clip_reach angle j.radius) j.incoming)
    ∷ minus j.last (scaled_direction unit (clip_reach angle j.radius) j.outgoing) ∷ []

-- how much of the incoming direction leads from the first point to the peak: this over the product of both directions
abbrev pub peak_share : Joint → ℤ
peak_share j = cross (minus j.last j.first) j.outgoing

-- the point in which the moved sections meet
unfoldable pub peak : Joint → Point
peak j = (
  j.first.0 +ℤ rounded_product j.incoming.0 (peak_share j) (cross j.incoming j.outgoing),
  j.first.1 +ℤ rounded_product j.incoming.1 (peak_share j) (cross j.incoming j.outgoing),
)

-- the points of a miter before they are tested at the corner
abbrev pub miter_tip : ℕ → ℕ → Joint → List Point
miter_tip angle unit j = if is_sharp angle j then clip_points angle unit j else peak j ∷ []

-- whether a point is away from the corner by at most the padding in each coordinate
abbrev pub is_near : ℤ → Point → Point → Bool
is_near padding v p =
    (int_le (v.0 -ℤ padding) p.0 && int_le p.0 (v.0 +ℤ padding))
    && (int_le (v.1 -ℤ padding) p.1 && int_le p.1 (v.1 +ℤ padding))

-- whether the points can be used: each is near the corner, and no edge through them turns back round it
unfoldable pub are_usable : ℤ → Joint → List Point → Bool
are_usable padding j points =
    list_all (is_near padding j.center) points && list_all (runs_ahead j) (route j.first points j.last)

-- the points, if they can be used
abbrev pub usable : ℤ → Joint → List Point → List Point
usable padding j points = if are_usable padding j points then points else []

-- the points of a miter: none where it is a bevel
unfoldable pub miter_points : ℕ → ℕ → ℕ → Joint → List Point
miter_points angle min_turn unit j =
    if is_slight min_turn j then [] else usable (miter_padding angle j.radius) j (miter_tip angle unit j)
