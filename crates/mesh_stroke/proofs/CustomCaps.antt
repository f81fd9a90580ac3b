-- Lemmas over points: what the theory of strokes needs of custom caps, and what the code knows of their points.
use Rattle.std.proofs.Common.{◌≡◌, ℕ, suc, ◌+◌, ◌*◌, ◌<◌, ◌≤◌, List, [], ◌∷◌, ◌++◌, length, get_or, take}
use Rattle.std.proofs.Common.{drop, refl, sym, ap, subst, ◌∙◌, arith, length-append, drop-cons}
use Rattle.std.specs.Prelude.{ℤ, pos, unsigned_abs, max, nat_eq}
use Rattle.std.specs.List.{All}
use Rattle.std.proofs.Math.Nat.{mul-le-mul}
use Rattle.std.proofs.lemmas.Bool.{cond_both, true≢false}
use Rattle.std.proofs.lemmas.Int.{ints}
use Rattle.std.proofs.lemmas.List.Elements.{All-nil, All-cons, All-map}
use Rattle.std.proofs.lemmas.List.{take-append-drop, take_more}
use Rattle.mesh_plane.specs.Bounds.{IsSafe}
use Rattle.mesh_plane.specs.Plane.{Point, Edge, plus, length_sq}
use Rattle.mesh_plane.specs.Winding.{route}
use Rattle.mesh_plane.proofs.Sizes.{le_of_squares}
use Rattle.mesh_num.specs.Direction.{IsShort}
use Rattle.mesh_num.specs.Roots.{raised_root}
use Rattle.mesh_num.specs.Rotation.{turned_along}
use Rattle.mesh_num.proofs.Roots.{raised_root_reaches}
use Rattle.mesh_num.proofs.Rotations.{turned_along_within}
use Rattle.mesh_sine.specs.Sine.{root}
use Rattle.mesh_sine.proofs.Roots.{root_is}
use Rattle.mesh_num.specs.Segments.{SignedEdge, segments_of}
use Rattle.mesh_join.specs.Joints.{Joint, IsWithinPadding}
use Rattle.mesh_join.proofs.Drawing.{IsDrawn, each, through_one, each_ends}
use Rattle.mesh_join.proofs.Joints.{within_safe}
use Rattle.mesh_join.proofs.RoundJoins.{moved_within}
use Rattle.mesh_stroke.specs.Caps.{CapKind, IsCapped}
use Rattle.mesh_stroke.specs.CustomCaps.{greatest_length, custom_point, custom_points, custom_padding}
use Rattle.mesh_stroke.specs.Ends.{half_turn}
use Rattle.mesh_stroke.proofs.CapLaws.{KeepsEnd, KeepsEnds, keeps_by_half_turns}

-- ---- lengths of points

-- the squared length of a point that a coordinate type holds
pub square_most : (unit x y : ℕ) → x ≤ 2 * unit → y ≤ 2 * unit → x * x + y * y ≤ 8 * unit * unit
square_most unit x y h l = omega (arith, mul-le-mul h h, mul-le-mul l l)

-- a raised root of such a number
pub raised_root_most : (n unit : ℕ) → n ≤ 8 * unit * unit → 1 ≤ unit → raised_root n ≤ 4 * unit
unfolding raised_root
raised_root_most n unit h some =
    let a : root n ≤ 3 * unit = le_of_squares (root n) (3 * unit) (omega (arith, h, (root_is n).within)) in
    cond_both (nat_eq (root n * root n) n) (root n) (suc (root n)) (λ k. k ≤ 4 * unit)
    (λ _. omega (arith, a, some)) (λ _. omega (arith, a, some))

-- ---- the points are near

abbrev IsTurnedNear : ℕ → Point → Point → ℕ → Point → Type 0
IsTurnedNear unit v n most p = IsWithinPadding (pos most) v (plus v (turned_along unit n p))

pub points_near : (unit : ℕ) (v n : Point) (most : ℕ) (points : List Point) → 0 < unit → IsShort unit n
    → greatest_length points ≤ most → All (IsTurnedNear unit v n most) points
unfolding greatest_length
points_near unit v n most [] some short h = All-nil (IsTurnedNear unit v n most)
points_near unit v n most (p ∷ points) some short h =
    let r = raised_root (length_sq p) in
    let w : (unsigned_abs (turned_along unit n p).0 ≤ r) × (unsigned_abs (turned_along unit n p).1 ≤ r) =
    turned_along_within unit n p some short r (raised_root_reaches (length_sq p)) in
    let a : r ≤ most = omega arith in
    let b : greatest_length points ≤ most = omega arith in
    All-cons (IsTurnedNear unit v n most) p points
    (moved_within (pos most) v (turned_along unit n p) (omega (arith, ints, w.0, a)) (omega (arith, ints, w.1, a)))
    (points_near unit v n most points some short b)

-- each point is safe
pub point_safe : (unit : ℕ) (points : List Point) (j : Joint) (i : ℕ) (p : Point) → 0 < unit → IsShort unit j.incoming
    → IsCapped unit (CapKind.Custom points) j
    → i < length points → p ≡ get_or points i p → IsSafe unit (custom_point unit j p)
point_safe unit points j i p some short h lt e =
    within_safe unit (custom_padding points) j.center _ h.safe
    (subst (IsTurnedNear unit j.center j.incoming (greatest_length points)) (sym e)
    (points_near unit j.center j.incoming (greatest_length points) points some short (omega arith) i p lt))

-- ---- the greatest length, point by point

pub greatest_none : greatest_length [] ≡ 0
unfolding greatest_length
greatest_none = refl

pub greatest_more : (points : List Point) (p : Point)
    → greatest_length (points ++ (p ∷ [])) ≡ max (greatest_length points) (raised_root (length_sq p))
unfolding greatest_length
greatest_more [] p = omega arith
greatest_more (q ∷ points) p = omega (arith, greatest_more points p)

-- one point more is taken
pub greatest_next : (points : List Point) (i : ℕ) (p : Point) (greatest size : ℕ) → i < length points
    → p ≡ get_or points i p
    → greatest ≡ greatest_length (take i points) → size ≡ raised_root (length_sq p)
    → greatest_length (take (i + 1) points) ≡ max greatest size
greatest_next points i p greatest size lt e h l =
    ap greatest_length (take_more points i p lt ∙ ap (λ (d : Point). take i points ++ (d ∷ [])) (sym e))
    ∙ greatest_more (take i points) p
    ∙ (λ k. max (sym h k) (sym l k))

-- ---- what holds of custom caps

custom_keeps_half_turn : (unit : ℕ) (points : List Point) (radius : ℤ) (v n : Point) → 0 < unit → IsShort unit n
    → KeepsEnd unit (CapKind.Custom points) (half_turn unit radius v n)
custom_keeps_half_turn unit points radius v n some short = record {
  never_turns_back = λ stock. absurd (true≢false (sym stock));
  near =
      All-map (IsWithinPadding (pos (greatest_length points)) v) (λ (p : Point). plus v (turned_along unit n p)) points
      (points_near unit v n (greatest_length points) points some short (omega arith));
  few = λ few. absurd (true≢false (sym few));
}

pub custom_keeps : (unit : ℕ) (points : List Point) → 0 < unit → KeepsEnds unit (CapKind.Custom points)
custom_keeps unit points some =
    keeps_by_half_turns unit (CapKind.Custom points) (λ r. omega (arith, ints)) (λ few. refl)
    (λ radius v n short _ _. custom_keeps_half_turn unit points radius v n some short)

-- ---- where the vector has room for all edges of the cap, it has room for each of them

-- the points are those that were drawn, the next one and those after it
points_split : (points : List Point) (i : ℕ) (d : Point) → i < length points → d ≡ get_or points i d
    → take i points ++ (d ∷ drop (i + 1) points) ≡ points
points_split points i d lt e =
    let next : suc i ≡ i + 1 = omega arith in
    ap (λ (p : Point). take i points ++ (p ∷ drop (i + 1) points)) e
    ∙ ap (λ (rest : List Point). take i points ++ rest)
    (sym (drop-cons points i d lt ∙ ap (λ (k : ℕ). get_or points i d ∷ drop k points) next))
    ∙ take-append-drop i points

-- for the edge to the next point
pub room_for_next : (unit : ℕ) (j : Joint) (old : List SignedEdge) (room : ℕ) (points : List Point) (i : ℕ)
    (last : Point) (now : List SignedEdge) (capacity : ℕ) (d p : Point)
    → IsDrawn (each (custom_point unit j)) j.first j.last old room (take i points) last now capacity
    → i < length points → d ≡ get_or points i d → p ≡ custom_point unit j d
    → length old + length (segments_of (route j.first (custom_points points unit j) j.last)) ≤ room
    → length now + length (segments_of (route last [] p)) ≤ capacity
room_for_next unit j old room points i last now capacity d p h lt e q fits =
    subst (λ (r : Point). length now + length (segments_of (route last [] r)) ≤ capacity) (sym q)
    (omega (
      arith,
      fits,
      h.grown,
      ap length whole,
      length-append now (segments_of (route last [] next)),
      length-append (now ++ segments_of (route last [] next)) (segments_of rest),
      length-append old (segments_of (route j.first (custom_points points unit j) j.last)),
    ))
  where
    next : Point
    next = custom_point unit j d

    rest : List Edge
    rest = route next (custom_points (drop (i + 1) points) unit j) j.last

    whole : (now ++ segments_of (route last [] next)) ++ segments_of rest
        ≡ old ++ segments_of (route j.first (custom_points points unit j) j.last)
    whole =
        through_one now last next rest
        ∙ h.goes_on (d ∷ drop (i + 1) points)
        ∙ ap (λ (ds : List Point). old ++ segments_of (route j.first (custom_points ds unit j) j.last))
        (points_split points i d lt e)

-- and for the last one
pub room_for_last : (unit : ℕ) (j : Joint) (old : List SignedEdge) (room : ℕ) (drawn : List Point) (last : Point)
    (now : List SignedEdge) (capacity : ℕ)
    → IsDrawn (each (custom_point unit j)) j.first j.last old room drawn last now capacity
    → length old + length (segments_of (route j.first (custom_points drawn unit j) j.last)) ≤ room
    → length now + length (segments_of (route last [] j.last)) ≤ capacity
room_for_last unit j old room drawn last now capacity h fits =
    omega (
      arith,
      fits,
      h.grown,
      ap length (each_ends (custom_point unit j) j.first j.last old room drawn last now capacity h),
      length-append now (segments_of (route last [] j.last)),
      length-append old (segments_of (route j.first (custom_points drawn unit j) j.last)),
    )
