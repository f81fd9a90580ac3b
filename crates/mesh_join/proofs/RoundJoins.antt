-- Lemmas over points: what the theory of outlines needs of round joins.
use Rattle.std.proofs.Common.{◌≡◌, ◌≢◌, ℕ, ◌*◌, ◌<◌, ◌≤◌, ◌^◌, Bool, true, false, refl, ap, sym, ◌∙◌, subst, arith, List, [], ◌∷◌, map, ⊎_elim}
use Rattle.std.specs.Prelude.{ℤ, pos, neg_ℤ, ◌+ℤ◌, ◌-ℤ◌, ◌*ℤ◌, ◌≤ℤ◌, cond, ◌&&◌, unsigned_abs}
use Rattle.std.specs.List.{All}
use Rattle.std.proofs.lemmas.Bool.{true≢false, and_parts, cases_lt}
use Rattle.std.proofs.lemmas.Int.{ints, unsigned_abs-mul}
use Rattle.std.proofs.lemmas.List.Elements.{All-nil, All-cons, All-head, All-tail}
use Rattle.mesh_plane.proofs.Comparing.{decides_point, test_at_most}
use Rattle.mesh_plane.proofs.Rounding.{rounded_within}
use Rattle.mesh_plane.proofs.Sizes.{size_neg, size_zero}
use Rattle.mesh_plane.specs.Plane.{Point, Edge, plus, minus, right_quarter, turn, length_sq}
use Rattle.mesh_plane.specs.Winding.{route, same_point}
use Rattle.mesh_num.specs.Direction.{IsShort, IsFresh, scaled, scaled_direction}
use Rattle.mesh_num.specs.Directed.{direction_of}
use Rattle.mesh_num.specs.Rectangle.{IsSafeWidened}
use Rattle.mesh_num.proofs.Directed.{direction_of_is}
use Rattle.mesh_num.proofs.Parts.{direction_short}
use Rattle.mesh_num.proofs.Scaling.{scaled_direction_bounded, scaled_direction_length}
use Rattle.mesh_arc.specs.Arcs.{arc, clamped, sense_of}
use Rattle.mesh_arc.specs.declared.arc.ArcOptions.{ArcOptions}
use Rattle.mesh_arc.specs.declared.arc.ArcDirection.{ArcDirection}
use Rattle.mesh_arc.specs.declared.arc.ArcDirection.TheVariants.{Clockwise, Counterclockwise}
use Rattle.mesh_arc.proofs.Short.{arc_short}
use Rattle.mesh_join.proofs.JoinLaws.{KeepsJoint, KeepsJoints}
use Rattle.mesh_join.specs.Joins.{between}
use Rattle.mesh_join.specs.Joints.{Joint, IsTurn, IsWithinPadding, contact, runs_ahead}
use Rattle.mesh_join.specs.RoundJoins.{joint_arc, arc_point, used, round_points, round_padding}
use Rattle.mesh_join.proofs.Joints.{contact_within, near_difference}
use Rattle.mesh_join.specs.Joints.{IsApart}
use Rattle.mesh_join.specs.Private.RoundJoins.{used_past}
use Rattle.mesh_join.specs.Styles.{JoinStyle}
use Rattle.mesh_join.specs.declared.style.IntLineJoin.TheVariants.{Round}

-- ---- the points that are used

used_none : (j : Joint) (p : Point) → used j p [] ≡ []
unfolding used
used_none j p = refl

used_takes : (j : Joint) (p q : Point) (points : List Point) → (runs_ahead j (p, q) && runs_ahead j (q, j.last)) ≡ true → used j p (q ∷ points) ≡ q ∷ used j q points
unfolding used
used_takes j p q points h = rw h refl

used_skips : (j : Joint) (p q : Point) (points : List Point) → (runs_ahead j (p, q) && runs_ahead j (q, j.last)) ≡ false → used j p (q ∷ points) ≡ used j p points
unfolding used
used_skips j p q points h = rw h refl

abbrev IsAhead : Joint → Edge → Type 0
IsAhead j e = pos 0 ≤ℤ (sense_of j.sense *ℤ turn j.center e.0 e.1)

-- the edges through them never turn back
used_ahead : (j : Joint) (p : Point) (points : List Point) → IsAhead j (p, j.last) → All (IsAhead j) (route p (used j p points) j.last)
used_ahead j p [] h = rw (used_none j p) (All-cons (IsAhead j) (p, j.last) [] h (All-nil (IsAhead j)))
used_ahead j p (q ∷ points) h = by (runs_ahead j (p, q) && runs_ahead j (q, j.last)) refl (used_ahead j p points h) (used_ahead j q points)
  where
    by : (b : Bool) → (runs_ahead j (p, q) && runs_ahead j (q, j.last)) ≡ b → All (IsAhead j) (route p (used j p points) j.last)
        → (IsAhead j (q, j.last) → All (IsAhead j) (route q (used j q points) j.last)) → All (IsAhead j) (route p (used j p (q ∷ points)) j.last)
    by true e skipped taken =
        let both = and_parts (runs_ahead j (p, q)) (runs_ahead j (q, j.last)) e in
        rw (used_takes j p q points e)
        (All-cons (IsAhead j) (p, q) (route q (used j q points) j.last) (test_at_most _ _ both.0) (taken (test_at_most _ _ both.1)))
    by false e skipped taken = rw (used_skips j p q points e) skipped

-- they are among the given ones
used_all : (P : Point → Type 0) (j : Joint) (p : Point) (points : List Point) → All P points → All P (used j p points)
used_all P j p [] h = rw (used_none j p) (All-nil P)
used_all P j p (q ∷ points) h = by (runs_ahead j (p, q) && runs_ahead j (q, j.last)) refl (used_all P j p points (All-tail P q points h)) (used_all P j q points (All-tail P q points h))
  where
    by : (b : Bool) → (runs_ahead j (p, q) && runs_ahead j (q, j.last)) ≡ b → All P (used j p points) → All P (used j q points) → All P (used j p (q ∷ points))
    by true e skipped taken = rw (used_takes j p q points e) (All-cons P q (used j q points) (All-head P q points h) taken)
    by false e skipped taken = rw (used_skips j p q points e) skipped

-- ---- both points lie apart from the corner

-- a direction times 0
scaled_nothing : (unit : ℕ) (r k : ℤ) → 0 < unit → unsigned_abs r ≡ 0 → scaled unit r k ≡ pos 0
scaled_nothing unit r k some z =
    let m : unsigned_abs (k *ℤ r) ≤ 0 * unit = omega (arith, unsigned_abs-mul k r, ap (λ (n : ℕ). unsigned_abs k * n) z) in
    size_zero (scaled unit r k) (omega (arith, rounded_within (k *ℤ r) unit 0 some m))

-- by a radius of 0 a point is moved to itself
contact_unmoved : (unit : ℕ) (r : ℤ) (sense : ArcDirection) (v n : Point) → 0 < unit → unsigned_abs r ≡ 0 → contact unit r sense v n ≡ v
contact_unmoved unit r sense v n some z = by sense
  where
    x : scaled unit r n.0 ≡ pos 0
    x = scaled_nothing unit r n.0 some z

    y : scaled unit r n.1 ≡ pos 0
    y = scaled_nothing unit r n.1 some z

    east : (v.0 +ℤ scaled unit r n.1) ≡ v.0
    east = omega (arith, ints, y)

    north : (v.1 +ℤ neg_ℤ (scaled unit r n.0)) ≡ v.1
    north = omega (arith, ints, x)

    west : (v.0 -ℤ scaled unit r n.1) ≡ v.0
    west = omega (arith, ints, y)

    south : (v.1 -ℤ neg_ℤ (scaled unit r n.0)) ≡ v.1
    south = omega (arith, ints, x)

    right : plus v (right_quarter (scaled_direction unit r n)) ≡ v
    right = λ i. (east i, north i)

    left : minus v (right_quarter (scaled_direction unit r n)) ≡ v
    left = λ i. (west i, south i)

    by : (sense : ArcDirection) → contact unit r sense v n ≡ v
    by Counterclockwise = right
    by Clockwise = left

-- so the radius of a turn whose points differ is not 0
radius_some : (unit : ℕ) (j : Joint) → 2 ^ 14 ≤ unit → IsTurn unit j → same_point j.first j.last ≡ false → 1 ≤ unsigned_abs j.radius
radius_some unit j least h apart =
    ⊎_elim
    (λ a. a)
    (λ a.
    let z : unsigned_abs j.radius ≡ 0 = omega arith in
    let f : j.first ≡ j.center = h.first ∙ contact_unmoved unit j.radius j.sense j.center j.incoming (omega arith) z in
    let l : j.last ≡ j.center = h.last ∙ contact_unmoved unit j.radius j.sense j.center j.outgoing (omega arith) z in
    let s : same_point j.first j.last ≡ true = (decides_point j.first j.last).1 (f ∙ sym l) in
    absurd (true≢false (sym s ∙ apart)))
    (cases_lt 0 (unsigned_abs j.radius))

-- a contact point is as far away as the direction times the radius is long
contact_length : (unit : ℕ) (r : ℤ) (sense : ArcDirection) (v n : Point) → length_sq (minus (contact unit r sense v n) v) ≡ length_sq (scaled_direction unit r n)
contact_length unit r Counterclockwise v n =
    let s = scaled_direction unit r n in
    let x : ((v.0 +ℤ s.1) -ℤ v.0) ≡ s.1 = omega (arith, ints) in
    let y : ((v.1 +ℤ neg_ℤ s.0) -ℤ v.1) ≡ neg_ℤ s.0 = omega (arith, ints) in
    rw (x, y, size_neg s.0) (omega arith)
contact_length unit r Clockwise v n =
    let s = scaled_direction unit r n in
    let x : ((v.0 -ℤ s.1) -ℤ v.0) ≡ neg_ℤ s.1 = omega (arith, ints) in
    let y : ((v.1 -ℤ neg_ℤ s.0) -ℤ v.1) ≡ s.0 = omega (arith, ints) in
    rw (x, y, size_neg s.1) (omega arith)

pub join_ends_apart : (unit : ℕ) (j : Joint) → 2 ^ 14 ≤ unit → IsTurn unit j → same_point j.first j.last ≡ false
    → (0 < length_sq (minus j.first j.center)) × (0 < length_sq (minus j.last j.center))
join_ends_apart unit j least h apart = (rw h.first (away j.incoming h.fresh_incoming), rw h.last (away j.outgoing h.fresh_outgoing))
  where
    away : (n : Point) → IsFresh unit n → 0 < length_sq (minus (contact unit j.radius j.sense j.center n) j.center)
    away n f =
        rw (contact_length unit j.radius j.sense j.center n)
        (scaled_direction_length unit j.radius n (omega arith) (radius_some unit j least h apart) f)

-- ---- the points are near

pub moved_within : (padding : ℤ) (v s : Point) → pos (unsigned_abs s.0) ≤ℤ padding → pos (unsigned_abs s.1) ≤ℤ padding → IsWithinPadding padding v (plus v s)
moved_within padding v s x y = record { west = omega (arith, ints); south = omega (arith, ints); east = omega (arith, ints); north = omega (arith, ints) }

pub arc_point_within : (unit : ℕ) (j : Joint) (d : Point) → 0 < unit → IsShort unit d → IsWithinPadding (round_padding j.radius) j.center (arc_point unit j d)
arc_point_within unit j d some short =
    let b = scaled_direction_bounded unit j.radius d some short in
    moved_within (round_padding j.radius) j.center (scaled_direction unit j.radius d) (omega (arith, ints, b.0)) (omega (arith, ints, b.1))

map_all : (P Q : Point → Type 0) (f : Point → Point) → ((d : Point) → P d → Q (f d)) → (ds : List Point) → All P ds → All Q (map f ds)
map_all P Q f means [] h = All-nil Q
map_all P Q f means (d ∷ ds) h = All-cons Q (f d) (map f ds) (means d (All-head P d ds h)) (map_all P Q f means ds (All-tail P d ds h))

points_near : (unit : ℕ) (options : ArcOptions) (j : Joint) → 2 ^ 14 ≤ unit → IsTurn unit j → same_point j.first j.last ≡ false
    → All (IsWithinPadding (round_padding j.radius) j.center) (round_points options unit j)
unfolding round_points joint_arc
points_near unit options j least h apart =
    let Near : Point → Type 0 = IsWithinPadding (round_padding j.radius) j.center in
    let from : Point = direction_of unit (minus j.first j.center) in
    let short : IsShort unit from = direction_short (direction_of_is unit (minus j.first j.center) (join_ends_apart unit j least h apart).0) in
    used_all Near j j.first (map (arc_point unit j) (joint_arc options unit j))
    (map_all (IsShort unit) Near (arc_point unit j) (λ d s. arc_point_within unit j d (omega arith) s) (joint_arc options unit j)
    (arc_short unit (clamped options) j.sense from (direction_of unit (minus j.last j.center)) short))

-- ---- what holds of round joins

-- the style of round joins
abbrev rounds : ArcOptions → ℕ → JoinStyle
rounds options min_turn = record { kind = Round options; min_turn = min_turn }

points_ahead : (unit : ℕ) (options : ArcOptions) (j : Joint) → IsTurn unit j → All (IsAhead j) (route j.first (round_points options unit j) j.last)
unfolding round_points
points_ahead unit options j h = used_ahead j j.first (map (arc_point unit j) (joint_arc options unit j)) h.no_turn_back

round_keeps_joint : (unit : ℕ) (options : ArcOptions) (min_turn : ℕ) (j : Joint) → 2 ^ 14 ≤ unit → IsTurn unit j → KeepsJoint unit (rounds options min_turn) j
round_keeps_joint unit options min_turn j least h = by (same_point j.first j.last) refl
  where
    points : List Point
    points = round_points options unit j

    by : (b : Bool) → same_point j.first j.last ≡ b → KeepsJoint unit (rounds options min_turn) j
    by true e =
        let n : between j.first points j.last ≡ [] = ap (λ (t : Bool). cond t [] points) e in
        record {
          never_turns_back = rw n (All-cons (IsAhead j) (j.first, j.last) [] h.no_turn_back (All-nil (IsAhead j)));
          near = rw n (All-nil (IsWithinPadding (round_padding j.radius) j.center));
          few = λ t. absurd (true≢false (sym t));
        }
    by false e =
        let n : between j.first points j.last ≡ points = ap (λ (t : Bool). cond t [] points) e in
        record {
          never_turns_back = rw n (points_ahead unit options j h);
          near = rw n (points_near unit options j least h e);
          few = λ t. absurd (true≢false (sym t));
        }

pub round_keeps : (unit : ℕ) (options : ArcOptions) (min_turn : ℕ) → 2 ^ 14 ≤ unit → KeepsJoints unit (rounds options min_turn)
round_keeps unit options min_turn least = record {
  covers = λ radius. omega (arith, ints);
  sized = λ radius. refl;
  joint = λ j _ _ h. round_keeps_joint unit options min_turn j least h;
}

-- ---- what the code knows of its points

differ_by_length : (p q : Point) → 0 < length_sq (minus p q) → p ≢ q
differ_by_length p q h e =
    let z : length_sq (minus q q) ≡ 0 = rw (nothing q.0, nothing q.1) (omega arith) in
    absurd (omega (arith, z, subst (λ (r : Point). 0 < length_sq (minus r q)) e h))
  where
    nothing : (a : ℤ) → (a -ℤ a) ≡ pos 0
    nothing a = omega (arith, ints)

-- the direction from the corner to either point can be asked for
pub first_apart : (unit : ℕ) (j : Joint) → 2 ^ 14 ≤ unit → IsTurn unit j → IsShort unit j.incoming → IsSafeWidened unit (round_padding j.radius) j.center
    → same_point j.first j.last ≡ false → IsApart unit j.center j.first
first_apart unit j least h short safe apart = record {
  safe = rw h.first (near_difference unit (round_padding j.radius) j.center _ safe (contact_within unit (round_padding j.radius) j.radius j.sense j.center j.incoming (omega arith) short (omega (arith, ints))));
  differ = differ_by_length j.first j.center (join_ends_apart unit j least h apart).0;
}

pub last_apart : (unit : ℕ) (j : Joint) → 2 ^ 14 ≤ unit → IsTurn unit j → IsShort unit j.outgoing → IsSafeWidened unit (round_padding j.radius) j.center
    → same_point j.first j.last ≡ false → IsApart unit j.center j.last
last_apart unit j least h short safe apart = record {
  safe = rw h.last (near_difference unit (round_padding j.radius) j.center _ safe (contact_within unit (round_padding j.radius) j.radius j.sense j.center j.outgoing (omega arith) short (omega (arith, ints))));
  differ = differ_by_length j.last j.center (join_ends_apart unit j least h apart).1;
}

-- ---- what one direction more gives

pub past_none : (unit : ℕ) (j : Joint) (last : Point) → used_past unit j last [] ≡ []
past_none unit j last = used_none j last

pub past_takes : (unit : ℕ) (j : Joint) (last d p : Point) → p ≡ arc_point unit j d
    → (runs_ahead j (last, p) && runs_ahead j (p, j.last)) ≡ true → (rest : List Point)
    → used_past unit j last (d ∷ rest) ≡ p ∷ used_past unit j p rest
past_takes unit j last d p e t rest =
    ap (λ (q : Point). used j last (q ∷ map (arc_point unit j) rest)) (sym e)
    ∙ used_takes j last p (map (arc_point unit j) rest) t

pub past_skips : (unit : ℕ) (j : Joint) (last d p : Point) → p ≡ arc_point unit j d
    → (runs_ahead j (last, p) && runs_ahead j (p, j.last)) ≡ false → (rest : List Point)
    → used_past unit j last (d ∷ rest) ≡ used_past unit j last rest
past_skips unit j last d p e t rest =
    ap (λ (q : Point). used j last (q ∷ map (arc_point unit j) rest)) (sym e)
    ∙ used_skips j last p (map (arc_point unit j) rest) t

-- the points by the arc that the code builds
pub points_are : (options now : ArcOptions) (unit : ℕ) (j : Joint) (from end : Point) → now ≡ clamped options
    → from ≡ direction_of unit (minus j.first j.center) → end ≡ direction_of unit (minus j.last j.center)
    → used j j.first (map (arc_point unit j) (arc unit now j.sense from end)) ≡ round_points options unit j
unfolding round_points joint_arc
points_are options now unit j from end o f e =
    ap (λ (k : ArcOptions). used j j.first (map (arc_point unit j) (arc unit k j.sense from end))) o
    ∙ ap (λ (d : Point). used j j.first (map (arc_point unit j) (arc unit (clamped options) j.sense d end))) f
    ∙ ap (λ (d : Point). used j j.first (map (arc_point unit j) (arc unit (clamped options) j.sense (direction_of unit (minus j.first j.center)) d))) e
