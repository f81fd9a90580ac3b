-- Lemmas over points: how far the points of caps lie from their ends.
use Rattle.std.proofs.Common.{◌≡◌, ℕ, ◌*◌, ◌≤◌, ◌^◌, List, [], ◌∷◌, refl, arith}
use Rattle.std.specs.Prelude.{ℤ, ◌+ℤ◌, unsigned_abs}
use Rattle.std.specs.List.{All}
use Rattle.std.proofs.Math.Nat.{mul-le-mul}
use Rattle.std.proofs.lemmas.Int.{ints}
use Rattle.std.proofs.lemmas.List.Elements.{All-nil, All-cons, All-map, All-weaker}
use Rattle.mesh_plane.specs.Plane.{Point, Edge, plus, minus, dot, length_sq, right_quarter}
use Rattle.mesh_plane.proofs.ClosedLists.{route_all}
use Rattle.mesh_plane.proofs.Ring.{ring, var, neg, ◌⊕◌, ◌⊖◌, dot_of}
use Rattle.mesh_plane.proofs.Sizes.{dot_self}
use Rattle.mesh_num.specs.Direction.{IsFresh, IsShort, scaled_direction}
use Rattle.mesh_num.specs.Roots.{raised_root}
use Rattle.mesh_num.specs.Rotation.{turned_along}
use Rattle.mesh_num.proofs.Roots.{raised_root_reaches}
use Rattle.mesh_arc.specs.declared.arc.ArcDirection.TheVariants.{Clockwise, Counterclockwise}
use Rattle.mesh_join.specs.Joints.{Joint}
use Rattle.mesh_reach.specs.Joins.{rounded_reach}
use Rattle.mesh_reach.proofs.JoinPoints.{IsBy, by_more, moved_by, contact_by, contact_leads, round_between}
use Rattle.mesh_reach.proofs.Rounded.{scaled_length, turned_length}
use Rattle.mesh_stroke.specs.Caps.{CapKind, cap_points, cap_edges}
use Rattle.mesh_stroke.specs.CustomCaps.{greatest_length, custom_point}
use Rattle.mesh_stroke.specs.Ends.{half_turn}
use Rattle.mesh_stroke.specs.Reach.{cap_reach}

-- ---- square caps

right_corner : (v s : Point) → dot (minus (plus (plus v (right_quarter s)) s) v)
    (minus (plus (plus v (right_quarter s)) s) v) ≡ dot s s +ℤ dot s s
right_corner v s =
    let x = ((var 0 ⊕ var 3) ⊕ var 2) ⊖ var 0 in
    let y = ((var 1 ⊕ neg (var 2)) ⊕ var 3) ⊖ var 1 in
    ring (v.0 ∷ v.1 ∷ s.0 ∷ s.1 ∷ []) (dot_of x y x y)
    (dot_of (var 2) (var 3) (var 2) (var 3) ⊕ dot_of (var 2) (var 3) (var 2) (var 3)) refl

left_corner : (v s : Point) → dot (minus (plus (minus v (right_quarter s)) s) v)
    (minus (plus (minus v (right_quarter s)) s) v) ≡ dot s s +ℤ dot s s
left_corner v s =
    let x = ((var 0 ⊖ var 3) ⊕ var 2) ⊖ var 0 in
    let y = ((var 1 ⊖ neg (var 2)) ⊕ var 3) ⊖ var 1 in
    ring (v.0 ∷ v.1 ∷ s.0 ∷ s.1 ∷ []) (dot_of x y x y)
    (dot_of (var 2) (var 3) (var 2) (var 3) ⊕ dot_of (var 2) (var 3) (var 2) (var 3)) refl

twice_by : (b : ℕ) (v p s : Point) → dot (minus p v) (minus p v) ≡ dot s s +ℤ dot s s → 2 * length_sq s ≤ b →
    IsBy (2 * b) v p
twice_by b v p s e h = omega (arith, ints, e, dot_self (minus p v), dot_self s)

-- ---- custom caps

lengths_most : (most : ℕ) (points : List Point) → greatest_length points ≤ most →
    All (λ (p : Point). length_sq p ≤ most * most) points
unfolding greatest_length
lengths_most most [] h = All-nil (λ (p : Point). length_sq p ≤ most * most)
lengths_most most (p ∷ points) h =
    let a : raised_root (length_sq p) ≤ most = omega arith in
    let b : greatest_length points ≤ most = omega arith in
    All-cons (λ (q : Point). length_sq q ≤ most * most) p points
    (omega (arith, raised_root_reaches (length_sq p), mul-le-mul a a))
    (lengths_most most points b)

-- ---- each kind of cap

module _ (unit : ℕ) (least : 2 ^ 14 ≤ unit) (radius : ℤ) (some : 1 ≤ unsigned_abs radius) (v n : Point)
    (short : IsShort unit n) (fresh : IsFresh unit n) where
  abbrev j : Joint
  j = half_turn unit radius v n

  cap_points_by : (kind : CapKind) → All (λ (p : Point). 2 * length_sq (minus p v) ≤ cap_reach kind radius)
      (cap_points kind unit (half_turn unit radius v n))
  cap_points_by CapKind.Butt = All-nil (IsBy (rounded_reach (unsigned_abs radius)) v)
  cap_points_by CapKind.Square =
      let By : Point → Type 0 = IsBy (2 * rounded_reach (unsigned_abs radius)) v in
      let s = scaled_direction unit radius n in
      let long = scaled_length unit radius n (omega arith) short in
      All-cons By (plus (plus v (right_quarter s)) s) (plus (minus v (right_quarter s)) s ∷ [])
      (twice_by (rounded_reach (unsigned_abs radius)) v (plus (plus v (right_quarter s)) s) s (right_corner v s) long)
      (All-cons By (plus (minus v (right_quarter s)) s) []
      (twice_by (rounded_reach (unsigned_abs radius)) v (plus (minus v (right_quarter s)) s) s (left_corner v s) long)
      (All-nil By))
  cap_points_by (CapKind.Round options) =
      round_between unit least (half_turn unit radius v n)
      (λ _. contact_leads unit radius Counterclockwise v n least some fresh) options
  cap_points_by (CapKind.Custom points) =
      let By : Point → Type 0 = IsBy (rounded_reach (greatest_length points)) v in
      All-map By (custom_point unit (half_turn unit radius v n)) points
      (All-weaker (λ (p : Point). length_sq p ≤ greatest_length points * greatest_length points)
      (λ (p : Point). By (custom_point unit (half_turn unit radius v n) p))
      (λ p h. moved_by (rounded_reach (greatest_length points)) v (turned_along unit n p)
      (turned_length unit (greatest_length points) n p (omega arith) short h))
      points (lengths_most (greatest_length points) points (omega arith)))

  -- the edges of a cap have their ends near the end of the path
  pub cap_by : (b : ℕ) (kind : CapKind) → rounded_reach (unsigned_abs radius) ≤ b → cap_reach kind radius ≤ b →
      All (λ (e : Edge). (2 * length_sq (minus e.0 v) ≤ b) × (2 * length_sq (minus e.1 v) ≤ b))
      (cap_edges kind unit (half_turn unit radius v n))
  cap_by b kind covers reach =
      route_all (IsBy b v) j.first (cap_points kind unit j) j.last
      (by_more (rounded_reach (unsigned_abs radius)) b v covers j.first
      (contact_by unit radius Counterclockwise v n (omega arith) short))
      (All-weaker (IsBy (cap_reach kind radius) v) (IsBy b v) (by_more (cap_reach kind radius) b v reach)
      (cap_points kind unit j) (cap_points_by kind))
      (by_more (rounded_reach (unsigned_abs radius)) b v covers j.last
      (contact_by unit radius Clockwise v n (omega arith) short))
