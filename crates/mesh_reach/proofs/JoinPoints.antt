-- Lemmas over points: how far the points of joins lie from their corners.
use Rattle.std.proofs.Common.{◌∙◌, sym, ◌≡◌, ℕ, ◌*◌, ◌<◌, ◌≤◌, ◌^◌, Bool, true, false, cond, List, [], ◌∷◌, map, refl}
use Rattle.std.proofs.Common.{arith}
use Rattle.std.specs.Prelude.{ℤ, neg_ℤ, ◌+ℤ◌, ◌-ℤ◌, ◌&&◌, unsigned_abs}
use Rattle.std.specs.List.{All}
use Rattle.std.proofs.Math.Nat.{mul-le-mul}
use Rattle.std.proofs.lemmas.Bool.{true≢false}
use Rattle.std.proofs.lemmas.Int.{ints}
use Rattle.std.proofs.lemmas.List.Elements.{All-nil, All-cons, All-head, All-tail, All-map, All-weaker}
use Rattle.mesh_plane.specs.Plane.{Point, Edge, plus, minus, length_sq}
use Rattle.mesh_plane.specs.Winding.{same_point}
use Rattle.mesh_plane.proofs.ClosedLists.{route_all}
use Rattle.mesh_plane.proofs.Comparing.{decides_point}
use Rattle.mesh_plane.proofs.Sizes.{apart_some, size_neg}
use Rattle.mesh_num.specs.Direction.{IsFresh, IsShort, scaled_direction}
use Rattle.mesh_num.specs.Directed.{direction_of}
use Rattle.mesh_num.proofs.Directed.{direction_of_is}
use Rattle.mesh_num.proofs.Parts.{direction_short}
use Rattle.mesh_num.proofs.Scaling.{scaled_direction_length}
use Rattle.mesh_arc.specs.Arcs.{clamped}
use Rattle.mesh_arc.specs.declared.arc.ArcOptions.{ArcOptions}
use Rattle.mesh_arc.specs.declared.arc.ArcDirection.{ArcDirection}
use Rattle.mesh_arc.specs.declared.arc.ArcDirection.TheVariants.{Clockwise, Counterclockwise}
use Rattle.mesh_arc.proofs.Short.{arc_short}
use Rattle.mesh_join.specs.Joins.{join_edges, join_points, between}
use Rattle.mesh_join.specs.Joints.{Joint, IsWithinPadding, contact, runs_ahead}
use Rattle.mesh_join.specs.Miters.{miter_padding, miter_points}
use Rattle.mesh_join.specs.RoundJoins.{joint_arc, arc_point, used, round_points}
use Rattle.mesh_join.specs.Styles.{JoinStyle}
use Rattle.mesh_join.specs.declared.style.IntLineJoin.{IntLineJoin}
use Rattle.mesh_join.specs.declared.style.IntLineJoin.TheVariants.{Bevel, Miter, Round}
use Rattle.mesh_join.proofs.Bevels.{nothing_between}
use Rattle.mesh_join.proofs.JoinLaws.{KeepsJoint}
use Rattle.mesh_reach.specs.Joins.{rounded_reach, diagonal_reach, join_reach}
use Rattle.mesh_reach.proofs.Rounded.{scaled_length}

-- a point at most the root of `b / 2` from another
abbrev pub IsBy : ℕ → Point → Point → Type 0
IsBy b v p = 2 * length_sq (minus p v) ≤ b

pub by_more : (a b : ℕ) (v : Point) → a ≤ b → (p : Point) → IsBy a v p → IsBy b v p
by_more a b v l p h = omega arith

-- a point is no way from itself
pub by_itself : (b : ℕ) (v : Point) → IsBy b v v
by_itself b v =
    let e : unsigned_abs (v.0 -ℤ v.0) ≡ 0 = omega (arith, ints) in
    let f : unsigned_abs (v.1 -ℤ v.1) ≡ 0 = omega (arith, ints) in
    rw (e, f) (omega arith)

-- one that is no farther than rounding takes nothing is that point
pub none_by : (v p : Point) → IsBy (rounded_reach 0) v p → p ≡ v
none_by v p h = by (same_point p v) refl
  where
    by : (b : Bool) → same_point p v ≡ b → p ≡ v
    by true e = (decides_point p v).0 e
    by false e =
        let some : 0 < length_sq (minus p v) = apart_some p v
        (λ (same : p ≡ v). true≢false (sym ((decides_point p v).1 same) ∙ e)) in
        absurd (omega (arith, h, some))

-- ---- points beside a corner

moved_length : (v s : Point) → length_sq (minus (plus v s) v) ≡ length_sq s
moved_length v s =
    let x : (v.0 +ℤ s.0) -ℤ v.0 ≡ s.0 = omega (arith, ints) in
    let y : (v.1 +ℤ s.1) -ℤ v.1 ≡ s.1 = omega (arith, ints) in
    λ i. length_sq (x i, y i)

pub moved_by : (b : ℕ) (v s : Point) → 2 * length_sq s ≤ b → IsBy b v (plus v s)
moved_by b v s h = omega (arith, moved_length v s)

contact_length : (unit : ℕ) (r : ℤ) (sense : ArcDirection) (v n : Point) →
    length_sq (minus (contact unit r sense v n) v) ≡ length_sq (scaled_direction unit r n)
contact_length unit r Counterclockwise v n =
    let s = scaled_direction unit r n in
    let x : ((v.0 +ℤ s.1) -ℤ v.0) ≡ s.1 = omega (arith, ints) in
    let y : ((v.1 +ℤ neg_ℤ s.0) -ℤ v.1) ≡ neg_ℤ s.0 = omega (arith, ints) in
    rw (x, y, size_neg s.0) (omega arith)
contact_length unit r Clockwise v n =
    let s = scaled_direction unit r n in
    let x : ((v.0 -ℤ s.1) -ℤ v.0) ≡ neg_ℤ s.1 = omega (arith, ints) in
    let y : ((v.1 -ℤ neg_ℤ s.0) -ℤ v.1) ≡ s.0 = omega (arith, ints) in
    rw (x, y, size_neg s.1) (omega arith)

pub contact_by : (unit : ℕ) (r : ℤ) (sense : ArcDirection) (v n : Point) → 0 < unit → IsShort unit n →
    IsBy (rounded_reach (unsigned_abs r)) v (contact unit r sense v n)
contact_by unit r sense v n some short =
    omega (arith, contact_length unit r sense v n, scaled_length unit r n some short)

-- from the corner to a contact point leads some way
pub contact_leads : (unit : ℕ) (r : ℤ) (sense : ArcDirection) (v n : Point) → 2 ^ 14 ≤ unit → 1 ≤ unsigned_abs r →
    IsFresh unit n →
    0 < length_sq (minus (contact unit r sense v n) v)
contact_leads unit r sense v n least some fresh =
    omega (arith, contact_length unit r sense v n, scaled_direction_length unit r n (omega arith) some fresh)

-- ---- round joins

used_none : (j : Joint) (p : Point) → used j p [] ≡ []
unfolding used
used_none j p = refl

used_takes : (j : Joint) (p q : Point) (points : List Point) →
    (runs_ahead j (p, q) && runs_ahead j (q, j.last)) ≡ true → used j p (q ∷ points) ≡ q ∷ used j q points
unfolding used
used_takes j p q points h = rw h refl

used_skips : (j : Joint) (p q : Point) (points : List Point) →
    (runs_ahead j (p, q) && runs_ahead j (q, j.last)) ≡ false → used j p (q ∷ points) ≡ used j p points
unfolding used
used_skips j p q points h = rw h refl

-- the points that are used are among the given ones
used_all : (P : Point → Type 0) (j : Joint) (p : Point) (points : List Point) → All P points → All P (used j p points)
used_all P j p [] h = rw (used_none j p) (All-nil P)
used_all P j p (q ∷ points) h =
    by (runs_ahead j (p, q) && runs_ahead j (q, j.last)) refl (used_all P j p points (All-tail P q points h))
    (used_all P j q points (All-tail P q points h))
  where
    by : (b : Bool) → (runs_ahead j (p, q) && runs_ahead j (q, j.last)) ≡ b → All P (used j p points) →
        All P (used j q points) → All P (used j p (q ∷ points))
    by true e skipped taken =
        rw (used_takes j p q points e) (All-cons P q (used j q points) (All-head P q points h) taken)
    by false e skipped taken = rw (used_skips j p q points e) skipped

-- where the ends differ, some way leads from the corner to the first
module _ (unit : ℕ) (least : 2 ^ 14 ≤ unit) (j : Joint)
    (leads : same_point j.first j.last ≡ false → 0 < length_sq (minus j.first j.center)) where
  abbrev By : Point → Type 0
  By = IsBy (rounded_reach (unsigned_abs j.radius)) j.center

  arc_by : (d : Point) → IsShort unit d → By (arc_point unit j d)
  arc_by d short =
      moved_by (rounded_reach (unsigned_abs j.radius)) j.center (scaled_direction unit j.radius d)
      (scaled_length unit j.radius d (omega arith) short)

  round_points_by : (options : ArcOptions) → same_point j.first j.last ≡ false → All By (round_points options unit j)
  unfolding round_points joint_arc
  round_points_by options apart =
      let from : Point = direction_of unit (minus j.first j.center) in
      let short : IsShort unit from = direction_short (direction_of_is unit (minus j.first j.center) (leads apart)) in
      used_all By j j.first (map (arc_point unit j) (joint_arc options unit j))
      (All-map By (arc_point unit j) (joint_arc options unit j)
      (All-weaker (IsShort unit) (λ (d : Point). By (arc_point unit j d)) arc_by (joint_arc options unit j)
      (arc_short unit (clamped options) j.sense from (direction_of unit (minus j.last j.center)) short)))

  -- those between different ends
  pub round_between : (options : ArcOptions) →
      All (λ (p : Point). 2 * length_sq (minus p j.center) ≤ rounded_reach (unsigned_abs j.radius))
      (between j.first (round_points options unit j) j.last)
  round_between options = by (same_point j.first j.last) refl
    where
      by : (b : Bool) → same_point j.first j.last ≡ b → All By (cond b [] (round_points options unit j))
      by true e = All-nil By
      by false e = round_points_by options e

-- ---- points within a padding

pub within_by : (padding : ℤ) (v p : Point) → IsWithinPadding padding v p →
    IsBy (diagonal_reach (unsigned_abs padding)) v p
within_by padding v p w =
    let x : unsigned_abs (p.0 -ℤ v.0) ≤ unsigned_abs padding = omega (arith, ints, w.west, w.east) in
    let y : unsigned_abs (p.1 -ℤ v.1) ≤ unsigned_abs padding = omega (arith, ints, w.south, w.north) in
    omega (arith, mul-le-mul x x, mul-le-mul y y)

-- ---- each kind of join

-- the reach of each kind covers that of the radius
pub radius_covered : (kind : IntLineJoin) (radius : ℤ) → rounded_reach (unsigned_abs radius) ≤ join_reach kind radius
radius_covered Bevel radius = omega arith
radius_covered (Miter angle) radius = omega arith
radius_covered (Round options) radius = omega arith

module _ (unit : ℕ) (least : 2 ^ 14 ≤ unit) (j : Joint)
    (leads : same_point j.first j.last ≡ false → 0 < length_sq (minus j.first j.center)) where
  between_by : (kind : IntLineJoin) (min_turn : ℕ) → KeepsJoint unit (record { kind = kind; min_turn = min_turn }) j →
      All (IsBy (join_reach kind j.radius) j.center)
      (between j.first (join_points unit (record { kind = kind; min_turn = min_turn }) j) j.last)
  between_by Bevel min_turn keeps =
      rw (nothing_between j.first j.last) (All-nil (IsBy (rounded_reach (unsigned_abs j.radius)) j.center))
  between_by (Miter angle) min_turn keeps =
      All-weaker (IsWithinPadding (miter_padding angle j.radius) j.center)
      (IsBy (join_reach (Miter angle) j.radius) j.center)
      (λ p w. by_more (diagonal_reach (unsigned_abs (miter_padding angle j.radius))) (join_reach (Miter angle) j.radius)
      j.center (omega arith) p (within_by (miter_padding angle j.radius) j.center p w))
      (between j.first (miter_points angle min_turn unit j) j.last) keeps.near
  between_by (Round options) min_turn keeps = round_between unit least j leads options

  -- the edges of a join have their ends near the corner where their first and their last point are
  pub join_by : (style : JoinStyle) → KeepsJoint unit style j →
      IsBy (rounded_reach (unsigned_abs j.radius)) j.center j.first
      → IsBy (rounded_reach (unsigned_abs j.radius)) j.center j.last → All
      (λ (e : Edge). IsBy (join_reach style.kind j.radius) j.center e.0 × IsBy
      (join_reach style.kind j.radius) j.center e.1) (join_edges unit style j)
  join_by style keeps first last =
      let more = by_more (rounded_reach (unsigned_abs j.radius)) (join_reach style.kind j.radius) j.center
      (radius_covered style.kind j.radius) in
      route_all (IsBy (join_reach style.kind j.radius) j.center) j.first
      (between j.first (join_points unit style j) j.last) j.last
      (more j.first first) (between_by style.kind style.min_turn keeps) (more j.last last)
