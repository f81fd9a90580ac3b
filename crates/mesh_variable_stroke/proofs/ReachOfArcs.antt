-- Lemmas over points and lists: circles and arcs, and what lies between them and their center.
use Rattle.std.proofs.Common.{◌++◌, ◌≡◌, ◌≢◌, ℕ, ◌*◌, ◌<◌, ◌≤◌, inl, List, [], ◌∷◌, sym, subst, arith}
use Rattle.std.specs.Prelude.{ℤ, pos, ◌+ℤ◌, ◌-ℤ◌, ◌*ℤ◌, ◌<ℤ◌, unsigned_abs, int_le, if◌then◌else◌}
use Rattle.std.specs.List.{All, Contains}
use Rattle.std.proofs.Math.Nat.{mul-le-mul_right}
use Rattle.std.proofs.lemmas.Bool.{cond_both}
use Rattle.std.proofs.lemmas.Int.{ints, unsigned_abs-mul}
use Rattle.std.proofs.lemmas.List.Elements.{All-nil, All-cons, All-head, All-tail, All-append, All-map, All-weaker}
use Rattle.mesh_plane.specs.Plane.{Point, Edge, minus, length_sq}
use Rattle.mesh_plane.specs.Winding.{fan, route}
use Rattle.mesh_plane.proofs.ClosedLists.{route_all}
use Rattle.mesh_plane.proofs.Sizes.{apart_some}
use Rattle.mesh_num.specs.Direction.{IsShort, scaled_direction}
use Rattle.mesh_num.proofs.Directed.{direction_of_is}
use Rattle.mesh_num.proofs.Parts.{direction_short}
use Rattle.mesh_arc.specs.Arcs.{arc, clamped}
use Rattle.mesh_arc.specs.declared.arc.ArcDirection.TheVariants.{Counterclockwise}
use Rattle.mesh_arc.specs.declared.arc.ArcOptions.{ArcOptions}
use Rattle.mesh_arc.proofs.Short.{arc_short}
use Rattle.mesh_reach.specs.Joins.{rounded_reach}
use Rattle.mesh_reach.specs.Reach.{IsByEnd}
use Rattle.mesh_reach.proofs.JoinPoints.{IsBy, by_itself, by_more, moved_by}
use Rattle.mesh_reach.proofs.Rounded.{rounded_length, scaled_length}
use Rattle.mesh_circle.specs.declared.sweep.Sweep.{Sweep}
use Rattle.mesh_circle.specs.Sweeps.{distance, bearing, point_round, polyline_points, polyline_edges, half_circles}
use Rattle.mesh_circle.specs.Sweeps.{circle_edges, circle_pieces, east_of, west_of, sweep_of, is_empty, is_central}
use Rattle.mesh_circle.specs.Sweeps.{is_whole, arc_edges, arc_pieces}
use Rattle.mesh_circle.specs.Tangents.{at_radius}
use Rattle.mesh_circle.proofs.Swept.{ends_apart, east_apart, west_apart}
use Rattle.mesh_variable_stroke.specs.Reach.{Span}

-- a normal that is made as long as a radius is at most that and the root of a half long
pub normal_reach : (length : ℕ) (r : ℤ) (n : Point) → 0 < length → length_sq n ≤ length * length →
    2 * length_sq (at_radius length r n) ≤ rounded_reach (unsigned_abs r)
normal_reach length r n some most = rounded_length length (unsigned_abs r) (r *ℤ n.0, r *ℤ n.1) some size
  where
    size : length_sq (r *ℤ n.0, r *ℤ n.1) ≤ length * length * (unsigned_abs r * unsigned_abs r)
    size =
        rw (unsigned_abs-mul r n.0, unsigned_abs-mul r n.1)
        (omega (arith, mul-le-mul_right (unsigned_abs r * unsigned_abs r) most))

-- a piece whose points are near the ends of a span
pub record IsAlongSpan (spans : List Span) (piece : List Point) : Type 0 where
  pub span : Span
  pub listed : Contains spans span
  pub near : All (IsByEnd span.reach span.edge) piece

-- a vertex whose span reaches so far
pub record HasRound (spans : List Span) (c : Point) (n : ℕ) : Type 0 where
  pub span : Span
  pub listed : Contains spans span
  pub at : span.edge ≡ (c, c)
  pub covers : n ≤ span.reach

-- pieces near such a vertex are such pieces
pub round_along : (spans : List Span) (c : Point) (n : ℕ) → HasRound spans c n →
    (piece : List Point) → All (IsBy n c) piece →
    IsAlongSpan spans piece
round_along spans c n h piece near = record {
  span = h.span;
  listed = h.listed;
  near =
      All-weaker (IsBy n c) (IsByEnd h.span.reach h.span.edge)
      (λ p k. subst (λ (e : Edge). IsByEnd h.span.reach e p) (sym h.at) (inl (by_more n h.span.reach c h.covers p k)))
      piece near;
}

-- so are the triangles of a fan
pub round_fan : (spans : List Span) (c : Point) (n : ℕ) → HasRound spans c n → (gs : List Edge) →
    All (λ (g : Edge). IsBy n c g.0 × IsBy n c g.1) gs → All (IsAlongSpan spans) (fan c gs)
round_fan spans c n h [] near = All-nil (IsAlongSpan spans)
round_fan spans c n h (g ∷ gs) near =
    let both = All-head (λ (g : Edge). IsBy n c g.0 × IsBy n c g.1) g gs near in
    All-cons (IsAlongSpan spans) (c ∷ g.0 ∷ g.1 ∷ []) (fan c gs)
    (round_along spans c n h (c ∷ g.0 ∷ g.1 ∷ [])
    (All-cons (IsBy n c) c (g.0 ∷ g.1 ∷ []) (by_itself n c)
    (All-cons (IsBy n c) g.0 (g.1 ∷ []) both.0 (All-cons (IsBy n c) g.1 [] both.1 (All-nil (IsBy n c))))))
    (round_fan spans c n h gs (All-tail (λ (g : Edge). IsBy n c g.0 × IsBy n c g.1) g gs near))

module _ (unit : ℕ) (some : 0 < unit) (options : ArcOptions) (c : Point) (n : ℕ) where
  abbrev EndsBy : Edge → Type 0
  EndsBy e = IsBy n c e.0 × IsBy n c e.1

  polyline_points_by : (x y : Point) (radius : ℤ) → x ≢ c → rounded_reach (unsigned_abs radius) ≤ n →
      All (IsBy n c) (polyline_points unit options c x y radius)
  unfolding polyline_points
  polyline_points_by x y radius apart covers =
      let short : IsShort unit (bearing unit c x) = direction_short
      (direction_of_is unit (minus x c) (apart_some x c apart)) in
      let ds : List Point = arc unit (clamped options) Counterclockwise (bearing unit c x) (bearing unit c y) in
      All-map (IsBy n c) (point_round unit c radius) ds
      (All-weaker (IsShort unit) (λ (d : Point). IsBy n c (point_round unit c radius d))
      (λ d s. moved_by n c (scaled_direction unit radius d) (omega (arith, scaled_length unit radius d some s, covers)))
      ds
      (arc_short unit (clamped options) Counterclockwise (bearing unit c x) (bearing unit c y) short))

  polyline_by : (x y : Point) (radius : ℤ) → x ≢ c → rounded_reach (unsigned_abs radius) ≤ n → IsBy n c x → IsBy n c y →
      All EndsBy (polyline_edges unit options c x y radius)
  polyline_by x y radius apart covers hx hy =
      route_all (IsBy n c) x (polyline_points unit options c x y radius) y hx
      (polyline_points_by x y radius apart covers) hy

  -- a point beside the center
  level_by : (r x : ℤ) → unsigned_abs (x -ℤ c.0) ≡ unsigned_abs r → rounded_reach (unsigned_abs r) ≤ n →
      IsBy n c (x, c.1)
  level_by r x e covers =
      let y : unsigned_abs (c.1 -ℤ c.1) ≡ 0 = omega (arith, ints) in
      rw (e, y) (omega (arith, covers))

  pub circle_by : (radius : ℤ) → rounded_reach (unsigned_abs radius) ≤ n →
      All (λ (e : Edge). IsBy n c e.0 × IsBy n c e.1) (circle_edges unit options c radius)
  unfolding circle_edges
  circle_by radius covers =
      cond_both (int_le radius (pos 1)) [] (half_circles unit options c radius) (All EndsBy) (λ _. All-nil EndsBy)
      (λ h. let large : pos 1 <ℤ radius = omega (arith, ints, h) in
      All-append EndsBy (polyline_edges unit options c (east_of c radius) (west_of c radius) radius)
      (polyline_edges unit options c (west_of c radius) (east_of c radius) radius)
      (polyline_by (east_of c radius) (west_of c radius) radius (east_apart unit c radius large) covers east west)
      (polyline_by (west_of c radius) (east_of c radius) radius (west_apart unit c radius large) covers west east))
    where
      east : IsBy n c (east_of c radius)
      east = level_by radius (c.0 +ℤ radius) (omega (arith, ints)) covers

      west : IsBy n c (west_of c radius)
      west = level_by radius (c.0 -ℤ radius) (omega (arith, ints)) covers

  -- the pieces of a circle, and those of an arc
  pub circle_along : (spans : List Span) → HasRound spans c n → (radius : ℤ) → rounded_reach (unsigned_abs radius) ≤ n →
      All (IsAlongSpan spans) (circle_pieces unit options c radius)
  circle_along spans h radius covers =
      round_fan spans c n h (circle_edges unit options c radius) (circle_by radius covers)

  pub arc_along : (spans : List Span) → HasRound spans c n → (x y : Point) (aligned : Sweep) → IsBy n c x → IsBy n c y →
      rounded_reach (distance c x) ≤ n → All (IsAlongSpan spans) (arc_pieces unit options c x y aligned)
  unfolding arc_pieces
  arc_along spans h x y aligned hx hy covers =
      cond_both (is_empty sweep x y) [] (if is_central c x y then [] else
      (if is_whole unit sweep c x y then circle else pieces)) Along
      (λ _. All-nil (IsAlongSpan spans))
      (λ _. cond_both (is_central c x y) [] (if is_whole unit sweep c x y then circle else pieces) Along
      (λ _. All-nil (IsAlongSpan spans))
      (λ apart. cond_both (is_whole unit sweep c x y) circle pieces Along
      (λ _. circle_along spans h radius covers)
      (λ _. All-cons (IsAlongSpan spans) (c ∷ y ∷ x ∷ []) (fan c polyline)
      (round_along spans c n h (c ∷ y ∷ x ∷ [])
      (All-cons (IsBy n c) c (y ∷ x ∷ []) (by_itself n c)
      (All-cons (IsBy n c) y (x ∷ []) hy (All-cons (IsBy n c) x [] hx (All-nil (IsBy n c))))))
      (round_fan spans c n h polyline (polyline_by x y radius (ends_apart c x y apart).0 covers hx hy)))))
    where
      sweep : Sweep
      sweep = sweep_of c x y aligned

      radius : ℤ
      radius = pos (distance c x)

      polyline : List Edge
      polyline = polyline_edges unit options c x y radius

      circle : List (List Point)
      circle = circle_pieces unit options c radius

      pieces : List (List Point)
      pieces = (c ∷ y ∷ x ∷ []) ∷ fan c polyline

      Along : List (List Point) → Type 0
      Along ps = All (IsAlongSpan spans) ps

  -- the edges of an arc
  pub arc_by : (x y : Point) (aligned : Sweep) → IsBy n c x → IsBy n c y → rounded_reach (distance c x) ≤ n →
      All (λ (e : Edge). IsBy n c e.0 × IsBy n c e.1) (arc_edges unit options c x y aligned)
  unfolding arc_edges
  arc_by x y aligned hx hy covers =
      cond_both (is_empty sweep x y) [] (if is_central c x y then edge else rest) Ends (λ _. All-nil EndsBy)
      (λ _. cond_both (is_central c x y) edge rest Ends (λ _. alone)
      (λ apart. cond_both (is_whole unit sweep c x y) (circle ++ edge) polyline Ends
      (λ _. All-append EndsBy circle edge (circle_by radius covers) alone)
      (λ _. polyline_by x y radius (ends_apart c x y apart).0 covers hx hy)))
    where
      sweep : Sweep
      sweep = sweep_of c x y aligned

      radius : ℤ
      radius = pos (distance c x)

      Ends : List Edge → Type 0
      Ends es = All EndsBy es

      edge : List Edge
      edge = route x [] y

      alone : All EndsBy edge
      alone = route_all (IsBy n c) x [] y hx (All-nil (IsBy n c)) hy

      circle : List Edge
      circle = circle_edges unit options c radius

      polyline : List Edge
      polyline = polyline_edges unit options c x y radius

      rest : List Edge
      rest = if is_whole unit sweep c x y then circle ++ edge else polyline
