-- Lemmas over points: what the theory of outlines needs of miters.
use Rattle.std.proofs.Common.{◌≡◌, ℕ, ◌^◌, ◌≤◌, ◌*◌, ◌/◌, Bool, true, false, refl, sym, ap, arith, [], List, length, ◌∙◌}
use Rattle.std.specs.Prelude.{ℤ, pos, negsuc, ◌*ℤ◌, ◌≤ℤ◌, ◌+ℤ◌, ◌-ℤ◌, cond, zero, suc, ◌∷◌, unsigned_abs, ◌&&◌, int_le, Option, Some, None}
use Rattle.std.specs.List.{All, list_all}
use Rattle.std.specs.Ordering.{int_eq}
use Rattle.std.proofs.Math.Nat.{mul-le-mul_right}
use Rattle.std.proofs.Math.Bool.{and-true}
use Rattle.std.proofs.lemmas.Bool.{and_parts}
use Rattle.std.proofs.lemmas.Int.{ints}
use Rattle.std.proofs.lemmas.List.Elements.{All-nil, All-cons}
use Rattle.mesh_plane.specs.Plane.{Point, Edge, turn}
use Rattle.mesh_plane.specs.Winding.{route, same_point}
use Rattle.mesh_plane.proofs.Rounding.{rounded_at_least, rounded_at_most}
use Rattle.mesh_plane.proofs.Whole.{mul_le_mul_left}
use Rattle.mesh_plane.proofs.ClosedLists.{route_length}
use Rattle.mesh_plane.specs.Bounds.{IsSafe, IsWithin}
use Rattle.mesh_plane.proofs.Comparing.{test_at_most}
use Rattle.mesh_num.specs.Quotient.{rounded_product}
use Rattle.mesh_sine.proofs.Lengths.{sine_at_most}
use Rattle.mesh_sine.proofs.Small.{sine_not_small}
use Rattle.mesh_join.proofs.Bevels.{nothing_between}
use Rattle.mesh_num.specs.Rectangle.{IsSafeWidened}
use Rattle.mesh_num.specs.Segments.{segments_of}
use Rattle.mesh_join.proofs.Joints.{within_safe}
use Rattle.mesh_join.proofs.JoinLaws.{KeepsJoint, KeepsJoints}
use Rattle.mesh_join.specs.Joins.{between, through}
use Rattle.mesh_arc.specs.Arcs.{sense_of}
use Rattle.mesh_join.specs.Joints.{Joint, IsTurn, IsWithinPadding, NeverTurnsBack, runs_ahead}
use Rattle.mesh_join.specs.Private.Miters.{IsHalfSine}
use Rattle.mesh_join.specs.Miters.{sharpest, half_sharpest, reach, miter_padding, is_slight, is_near, are_usable, usable, miter_tip, miter_points, is_sharp, clip_points, peak}
use Rattle.mesh_join.specs.Styles.{JoinStyle}
use Rattle.mesh_join.specs.declared.style.IntLineJoin.TheVariants.{Miter}

-- ---- how far a miter reaches

pub half_sine : (angle : ℕ) → IsHalfSine (half_sharpest angle).0
unfolding half_sharpest
half_sine angle = record {
  least = sine_not_small (sharpest angle / 2) (omega arith) (omega arith);
  most = sine_at_most (sharpest angle / 2) (omega arith);
}

-- the quotient by a sine is at least the radius
product_covers : (r : ℕ) (s : ℤ) → IsHalfSine s → pos r ≤ℤ rounded_product (pos r) (pos (2 ^ 30)) s
product_covers r (pos d) h =
    rounded_at_least (pos r) (pos r *ℤ pos (2 ^ 30)) d (omega (arith, ints, h.least)) (mul_le_mul_left (pos r) (pos d) (pos (2 ^ 30)) (omega (arith, ints)) h.most)
product_covers r (negsuc d) h = absurd (omega (arith, ints, h.least))

-- and at most 64 times as much
product_most : (r : ℕ) (s : ℤ) → IsHalfSine s → rounded_product (pos r) (pos (2 ^ 30)) s ≤ℤ pos (64 * r)
product_most r (pos d) h =
    let l : (pos r *ℤ pos (2 ^ 24)) ≤ℤ (pos r *ℤ pos d) = mul_le_mul_left (pos r) (pos (2 ^ 24)) (pos d) (omega (arith, ints)) h.least in
    rounded_at_most (pos r *ℤ pos (2 ^ 30)) (pos (64 * r)) d (omega (arith, ints, h.least)) (omega (arith, ints))
product_most r (negsuc d) h = absurd (omega (arith, ints, h.least))

-- the reach of a radius other than 0
reach_is : (s radius : ℤ) → int_eq radius (pos 0) ≡ false → reach s radius ≡ rounded_product (pos (unsigned_abs radius)) (pos (2 ^ 30)) s +ℤ pos 2
reach_is s radius e = ap (λ (t : Bool). cond t (pos 0) (rounded_product (pos (unsigned_abs radius)) (pos (2 ^ 30)) s +ℤ pos 2)) e

reach_pos : (s : ℤ) (n : ℕ) → reach s (pos (suc n)) ≡ rounded_product (pos (suc n)) (pos (2 ^ 30)) s +ℤ pos 2
reach_pos s n = reach_is s (pos (suc n)) (grind (arith, ints))

reach_negsuc : (s : ℤ) (n : ℕ) → reach s (negsuc n) ≡ rounded_product (pos (suc n)) (pos (2 ^ 30)) s +ℤ pos 2
reach_negsuc s n = reach_is s (negsuc n) (grind (arith, ints))

reach_sized : (s radius : ℤ) → reach s (pos (unsigned_abs radius)) ≡ reach s radius
reach_sized s (pos n) = refl
reach_sized s (negsuc n) = reach_pos s n ∙ sym (reach_negsuc s n)

reach_covers : (s radius : ℤ) → IsHalfSine s → pos (unsigned_abs radius) ≤ℤ reach s radius
reach_covers s (pos zero) h = omega (arith, ints)
reach_covers s (pos (suc n)) h = rw (reach_pos s n) (omega (arith, ints, product_covers (suc n) s h))
reach_covers s (negsuc n) h = rw (reach_negsuc s n) (omega (arith, ints, product_covers (suc n) s h))

-- a reach fits the wide type
pub reach_fits : (half unit : ℕ) (s radius : ℤ) → half ≡ 8 * unit * unit → 2 ^ 14 ≤ unit → IsHalfSine s → unsigned_abs radius ≤ 2 * unit → IsWithin half (reach s radius)
reach_fits half unit s radius e least h l = by radius l
  where
    room : 2 ^ 17 * unit ≤ half
    room = omega (arith, mul-le-mul_right unit least)

    fits : (n : ℕ) (z : ℤ) → n ≤ 2 * unit → z ≡ rounded_product (pos n) (pos (2 ^ 30)) s +ℤ pos 2 → IsWithin half z
    fits n z m is = record {
      low = rw is (omega (arith, ints, product_covers n s h));
      high = rw is (omega (arith, ints, product_most n s h, room));
    }

    by : (radius : ℤ) → unsigned_abs radius ≤ 2 * unit → IsWithin half (reach s radius)
    by (pos zero) l = record { low = omega (arith, ints, room); high = omega (arith, ints, room) }
    by (pos (suc n)) l = fits (suc n) (reach s (pos (suc n))) l (reach_pos s n)
    by (negsuc n) l = fits (suc n) (reach s (negsuc n)) l (reach_negsuc s n)

covers : (angle : ℕ) (radius : ℤ) → pos (unsigned_abs radius) ≤ℤ miter_padding angle radius
unfolding miter_padding
covers angle radius = reach_covers (half_sharpest angle).0 radius (half_sine angle)

sized : (angle : ℕ) (radius : ℤ) → miter_padding angle (pos (unsigned_abs radius)) ≡ miter_padding angle radius
unfolding miter_padding
sized angle radius = reach_sized (half_sharpest angle).0 radius

-- ---- what points that can be used keep

-- the edges through the points never turn back, the points are near, and there are few
record KeepsWithin (padding : ℤ) (j : Joint) (points : List Point) : Type 0 where
  ahead : NeverTurnsBack j.sense j.center (through j.first points j.last)
  near : All (IsWithinPadding padding j.center) (between j.first points j.last)
  few : length (through j.first points j.last) ≤ 3

nothing_keeps : (unit : ℕ) (padding : ℤ) (j : Joint) (points : List Point) → IsTurn unit j → between j.first points j.last ≡ [] → KeepsWithin padding j points
nothing_keeps unit padding j points h e = record {
  ahead = rw e (All-cons Ahead (j.first, j.last) [] h.no_turn_back (All-nil Ahead));
  near = rw e (All-nil (IsWithinPadding padding j.center));
  few = rw e (omega arith);
}
  where
    Ahead : Edge → Type 0
    Ahead e = pos 0 ≤ℤ (sense_of j.sense *ℤ turn j.center e.0 e.1)

-- the style of miters
abbrev miters : ℕ → ℕ → JoinStyle
miters angle min_turn = record { kind = Miter angle; min_turn = min_turn }

-- a test of a list's elements says something of each
each : {X : Type 0} (test : X → Bool) (P : X → Type 0) → ((x : X) → test x ≡ true → P x) → (xs : List X) → list_all test xs ≡ true → All P xs
each test P means [] h = All-nil P
each test P means (x ∷ xs) h = All-cons P x xs (means x (and_parts (test x) (list_all test xs) h).0) (each test P means xs (and_parts (test x) (list_all test xs) h).1)

-- a point that passes the test is near
means_near : (padding : ℤ) (v p : Point) → is_near padding v p ≡ true → IsWithinPadding padding v p
means_near padding v p h =
    let x = and_parts (int_le (v.0 -ℤ padding) p.0 && int_le p.0 (v.0 +ℤ padding)) (int_le (v.1 -ℤ padding) p.1 && int_le p.1 (v.1 +ℤ padding)) h in
    let w = and_parts (int_le (v.0 -ℤ padding) p.0) (int_le p.0 (v.0 +ℤ padding)) x.0 in
    let t = and_parts (int_le (v.1 -ℤ padding) p.1) (int_le p.1 (v.1 +ℤ padding)) x.1 in
    record { west = test_at_most _ _ w.0; south = test_at_most _ _ t.0; east = test_at_most _ _ w.1; north = test_at_most _ _ t.1 }

tested_keep : (unit : ℕ) (padding : ℤ) (j : Joint) (points : List Point) → IsTurn unit j → length points ≤ 2 → are_usable padding j points ≡ true → KeepsWithin padding j points
unfolding are_usable
tested_keep unit padding j points h few u = by (same_point j.first j.last) refl
  where
    by : (t : Bool) → same_point j.first j.last ≡ t → KeepsWithin padding j points
    by true e = nothing_keeps unit padding j points h (ap (λ (t : Bool). cond t [] points) e)
    by false e =
        let n : between j.first points j.last ≡ points = ap (λ (t : Bool). cond t [] points) e in
        let both = and_parts (list_all (is_near padding j.center) points) (list_all (runs_ahead j) (route j.first points j.last)) u in
        record {
          ahead = rw n (each (runs_ahead j) (λ (e : Edge). pos 0 ≤ℤ (sense_of j.sense *ℤ turn j.center e.0 e.1)) (λ e t. test_at_most _ _ t) (route j.first points j.last) both.1);
          near = rw n (each (is_near padding j.center) (IsWithinPadding padding j.center) (means_near padding j.center) points both.0);
          few = rw n (omega (arith, route_length j.first points j.last));
        }

-- which points can be used
pub one_far : (padding : ℤ) (j : Joint) (p : Point) → is_near padding j.center p ≡ false → are_usable padding j (p ∷ []) ≡ false
unfolding are_usable
one_far padding j p e = rw e refl

pub one_near : (padding : ℤ) (j : Joint) (p : Point) (t : Bool) → is_near padding j.center p ≡ true → t ≡ (runs_ahead j (j.first, p) && runs_ahead j (p, j.last)) →
    are_usable padding j (p ∷ []) ≡ t
unfolding are_usable
one_near padding j p t e f = rw (e, f) (ap (λ (b : Bool). runs_ahead j (j.first, p) && b) (and-true (runs_ahead j (p, j.last))))

pub start_far : (padding : ℤ) (j : Joint) (p q : Point) → is_near padding j.center p ≡ false → are_usable padding j (p ∷ q ∷ []) ≡ false
unfolding are_usable
start_far padding j p q e = rw e refl

pub end_far : (padding : ℤ) (j : Joint) (p q : Point) → is_near padding j.center p ≡ true → is_near padding j.center q ≡ false → are_usable padding j (p ∷ q ∷ []) ≡ false
unfolding are_usable
end_far padding j p q e f = rw (e, f) refl

pub both_near : (padding : ℤ) (j : Joint) (p q : Point) (t : Bool) → is_near padding j.center p ≡ true → is_near padding j.center q ≡ true →
    t ≡ (runs_ahead j (j.first, p) && (runs_ahead j (p, q) && runs_ahead j (q, j.last))) → are_usable padding j (p ∷ q ∷ []) ≡ t
unfolding are_usable
both_near padding j p q t e f g = rw (e, f, g) (ap (λ (b : Bool). runs_ahead j (j.first, p) && (runs_ahead j (p, q) && b)) (and-true (runs_ahead j (q, j.last))))

pub usable_is : (padding : ℤ) (j : Joint) (points : List Point) → are_usable padding j points ≡ true → usable padding j points ≡ points
usable_is padding j points e = ap (λ (t : Bool). cond t points []) e

pub unusable_is : (padding : ℤ) (j : Joint) (points : List Point) → are_usable padding j points ≡ false → usable padding j points ≡ []
unusable_is padding j points e = ap (λ (t : Bool). cond t points []) e

pub points_slight : (angle min_turn unit : ℕ) (j : Joint) → is_slight min_turn j ≡ true → miter_points angle min_turn unit j ≡ []
unfolding miter_points
points_slight angle min_turn unit j e = ap (λ (t : Bool). cond t [] (usable (miter_padding angle j.radius) j (miter_tip angle unit j))) e

pub points_sharp : (angle min_turn unit : ℕ) (j : Joint) → is_slight min_turn j ≡ false → is_sharp angle j ≡ true →
    miter_points angle min_turn unit j ≡ usable (miter_padding angle j.radius) j (clip_points angle unit j)
unfolding miter_points
points_sharp angle min_turn unit j e f = rw (e, f) refl

pub points_blunt : (angle min_turn unit : ℕ) (j : Joint) → is_slight min_turn j ≡ false → is_sharp angle j ≡ false →
    miter_points angle min_turn unit j ≡ usable (miter_padding angle j.radius) j (peak j ∷ [])
unfolding miter_points
points_blunt angle min_turn unit j e f = rw (e, f) refl

-- what is joined where both points are one, and where they are not
pub nothing_joined : (a b : Point) (points : List Point) → same_point a b ≡ true → segments_of (through a points b) ≡ []
nothing_joined a b points e = rw e (rw e refl)

pub all_between : (a b : Point) (points : List Point) → same_point a b ≡ false → through a points b ≡ route a points b
all_between a b points e = ap (λ (t : Bool). route a (cond t [] points) b) e

-- a value that is there only where a test was passed
pub some_if : {A : Type 0} (b : Bool) (p q : A) → ◌≡◌ {A = Option A} (Some q) (cond b (Some p) None) → (b ≡ true) × (q ≡ p)
some_if true p q e = (refl, cc)
some_if false p q e = absurd (cc)

pub none_if : {A : Type 0} (b : Bool) (p : A) → ◌≡◌ {A = Option A} None (cond b (Some p) None) → b ≡ false
none_if true p e = absurd (cc)
none_if false p e = refl

-- a point that passes the test at a corner that stays safe is safe
pub tested_safe : (unit : ℕ) (padding to : ℤ) (v w p : Point) (b : Bool) → IsSafeWidened unit padding v → b ≡ is_near to w p → to ≡ padding → w ≡ v → b ≡ true → IsSafe unit p
tested_safe unit padding to v w p b s t e f passed = within_safe unit padding v p s (means_near padding v p (rw (e, f) at (sym t ∙ passed)))

usable_keeps : (unit : ℕ) (padding : ℤ) (j : Joint) (points : List Point) → IsTurn unit j → length points ≤ 2 → KeepsWithin padding j (usable padding j points)
usable_keeps unit padding j points h few = by (are_usable padding j points) refl
  where
    by : (t : Bool) → are_usable padding j points ≡ t → KeepsWithin padding j (cond t points [])
    by true u = tested_keep unit padding j points h few u
    by false u = nothing_keeps unit padding j [] h (nothing_between j.first j.last)

-- ---- the points of a miter

few_at_tip : (angle unit : ℕ) (j : Joint) → length (miter_tip angle unit j) ≤ 2
unfolding clip_points
few_at_tip angle unit j = by (is_sharp angle j)
  where
    by : (t : Bool) → length (cond t (clip_points angle unit j) (peak j ∷ [])) ≤ 2
    by true = omega arith
    by false = omega arith

miter_keeps_joint : (unit angle min_turn : ℕ) (j : Joint) → IsTurn unit j → KeepsJoint unit (miters angle min_turn) j
unfolding miter_points
miter_keeps_joint unit angle min_turn j h = record { never_turns_back = k.ahead; near = k.near; few = λ _. k.few }
  where
    by : (t : Bool) → KeepsWithin (miter_padding angle j.radius) j (cond t [] (usable (miter_padding angle j.radius) j (miter_tip angle unit j)))
    by true = nothing_keeps unit (miter_padding angle j.radius) j [] h (nothing_between j.first j.last)
    by false = usable_keeps unit (miter_padding angle j.radius) j (miter_tip angle unit j) h (few_at_tip angle unit j)

    k : KeepsWithin (miter_padding angle j.radius) j (miter_points angle min_turn unit j)
    k = by (is_slight min_turn j)

-- what holds of miters
pub miter_keeps : (unit angle min_turn : ℕ) → KeepsJoints unit (miters angle min_turn)
miter_keeps unit angle min_turn = record {
  covers = covers angle;
  sized = sized angle;
  joint = λ j _ _ h. miter_keeps_joint unit angle min_turn j h;
}
