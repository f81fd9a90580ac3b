-- Lemmas over points and lists: what is drawn along circles and arcs is the boundaries of their pieces.
use Rattle.std.proofs.Common.{◌≡◌, ℕ, List, [], ◌∷◌, ◌++◌, refl, ap, arith}
use Rattle.std.specs.Prelude.{ℤ, pos, ◌+ℤ◌, Bool, true, false, not, int_le, if◌then◌else◌}
use Rattle.std.proofs.lemmas.Bool.{and_parts}
use Rattle.mesh_plane.specs.Plane.{Point, Edge}
use Rattle.mesh_plane.specs.Winding.{total, route, fan, pieces_total, same_point, IsOdd}
use Rattle.mesh_plane.proofs.Whole.{linear}
use Rattle.mesh_plane.proofs.Sums.{total_append, pieces_total_append}
use Rattle.mesh_plane.proofs.Pieces.{fan_total}
use Rattle.mesh_plane.proofs.Comparing.{decides_point}
use Rattle.mesh_arc.specs.declared.arc.ArcOptions.{ArcOptions}
use Rattle.mesh_circle.specs.declared.sweep.Sweep.{Sweep}
use Rattle.mesh_circle.specs.Sweeps.{distance, polyline_points, polyline_edges, half_circles, circle_edges}
use Rattle.mesh_circle.specs.Sweeps.{circle_pieces, east_of, west_of, sweep_of, is_major, is_empty, is_central}
use Rattle.mesh_circle.specs.Sweeps.{is_whole, arc_edges, arc_pieces, AddUpTo}

fan_append : (v : Point) (es gs : List Edge) → fan v (es ++ gs) ≡ fan v es ++ fan v gs
fan_append v [] gs = refl
fan_append v (e ∷ es) gs = ap (λ (ps : List (List Point)). (v ∷ e.0 ∷ e.1 ∷ []) ∷ ps) (fan_append v es gs)

module _ (f : Point → Point → ℤ) (odd : IsOdd f) (unit : ℕ) (options : ArcOptions) where
  -- a polyline and the way back through its center bound its pieces
  polyline_total : (c x y : Point) (radius : ℤ) →
      pieces_total f (fan c (polyline_edges unit options c x y radius))
      ≡ (f c x +ℤ total f (polyline_edges unit options c x y radius)) +ℤ f y c
  polyline_total c x y radius = fan_total f odd c x (polyline_points unit options c x y radius) y

  half_circles_total : (c : Point) (radius : ℤ) →
      total f (half_circles unit options c radius) ≡ pieces_total f (fan c (half_circles unit options c radius))
  half_circles_total c radius =
      let east : Point = east_of c radius in
      let west : Point = west_of c radius in
      let there : List Edge = polyline_edges unit options c east west radius in
      let back : List Edge = polyline_edges unit options c west east radius in
      omega (
        arith,
        linear,
        ap (pieces_total f) (fan_append c there back),
        pieces_total_append f (fan c there) (fan c back),
        total_append f there back,
        polyline_total c east west radius,
        polyline_total c west east radius,
        odd c east,
        odd c west,
      )

  -- a circle is the boundaries of its pieces
  pub circle_total : (c : Point) (radius : ℤ) →
      total f (circle_edges unit options c radius) ≡ pieces_total f (circle_pieces unit options c radius)
  unfolding circle_edges
  circle_total c radius = by (int_le radius (pos 1))
    where
      by : (b : Bool) →
          total f (if b then [] else half_circles unit options c radius)
          ≡ pieces_total f (fan c (if b then [] else half_circles unit options c radius))
      by true = refl
      by false = half_circles_total c radius

  -- an arc is the edge between its ends and the boundaries of its pieces
  pub arc_total : (c x y : Point) (aligned : Sweep) →
      total f (arc_edges unit options c x y aligned) ≡ f x y +ℤ pieces_total f (arc_pieces unit options c x y aligned)
  unfolding arc_edges arc_pieces
  arc_total c x y aligned =
      by (is_empty sweep x y) (is_central c x y) (is_whole unit sweep c x y) refl
    where
      sweep : Sweep
      sweep = sweep_of c x y aligned

      radius : ℤ
      radius = pos (distance c x)

      polyline : List Edge
      polyline = polyline_edges unit options c x y radius

      same : is_empty sweep x y ≡ true → f x y ≡ pos 0
      same h =
          let e : x ≡ y = (decides_point x y).0 (and_parts (not (is_major sweep)) (same_point x y) h).1 in
          omega (arith, linear, odd y y, ap (λ (p : Point). f p y) e)

      by : (empty central whole : Bool) → is_empty sweep x y ≡ empty →
          total f (if empty then [] else if central then route x [] y
          else if whole then circle_edges unit options c radius ++ route x [] y else polyline)
          ≡ f x y +ℤ pieces_total f (if empty then [] else if central then []
          else if whole then circle_pieces unit options c radius else (c ∷ y ∷ x ∷ []) ∷ fan c polyline)
      by true central whole h = omega (arith, linear, same h)
      by false true whole h = omega (arith, linear)
      by false false true h =
          omega (
            arith,
            linear,
            circle_total c radius,
            total_append f (circle_edges unit options c radius) (route x [] y),
          )
      by false false false h = omega (arith, linear, polyline_total c x y radius, odd x y, odd c x, odd c y)

-- ---- as they are promised

pub circle_adds_up : (unit : ℕ) (options : ArcOptions) (c : Point) (radius : ℤ)
    → AddUpTo [] (circle_pieces unit options c radius) (circle_edges unit options c radius)
circle_adds_up unit options c radius f odd = omega (arith, linear, circle_total f odd unit options c radius)

pub arc_adds_up : (unit : ℕ) (options : ArcOptions) (c x y : Point) (aligned : Sweep)
    → AddUpTo (route x [] y) (arc_pieces unit options c x y aligned) (arc_edges unit options c x y aligned)
arc_adds_up unit options c x y aligned f odd = omega (arith, linear, arc_total f odd unit options c x y aligned)
