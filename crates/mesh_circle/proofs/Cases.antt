-- Lemmas over lists: what is drawn in each case of circles and arcs.
use Rattle.std.proofs.Common.{◌≡◌, ℕ, Bool, true, false, List, [], ◌++◌, ◌∙◌, ap, sym, subst, arith, to_z, of_z}
use Rattle.std.specs.Bool.{IsTrue}
use Rattle.std.specs.Prelude.{ℤ, pos, ◌≤ℤ◌, ◌<ℤ◌, int_le, FitsSigned, ◌||◌, if◌then◌else◌}
use Rattle.std.proofs.lemmas.Bool.{false≢true}
use Rattle.std.proofs.lemmas.Int.{ints, to_z-of_z}
use mir.Syntax.{w128}
use Rattle.mesh_plane.specs.Plane.{Point, Edge}
use Rattle.mesh_plane.specs.Winding.{route}
use Rattle.mesh_arc.specs.declared.arc.ArcOptions.{ArcOptions}
use Rattle.mesh_circle.specs.declared.sweep.Sweep.{Sweep}
use Rattle.mesh_circle.specs.Sweeps.{distance, polyline_edges, half_circles, circle_edges, sweep_of, is_empty}
use Rattle.mesh_circle.specs.Sweeps.{is_central, is_whole, arc_edges, is_direct}

-- ---- circles

test_above_one : (r : ℤ) → int_le r (pos 1) ≡ false → pos 1 <ℤ r
test_above_one r t = grind (arith, ints)

test_at_most_one : (r : ℤ) → int_le r (pos 1) ≡ true → r ≤ℤ pos 1
test_at_most_one r t = grind (arith, ints)

-- what the test of a radius in 128 bits tells
pub above_one : (z r : ℤ) → FitsSigned w128 z → z ≡ r → int_le (to_z w128 (of_z w128 z)) (pos 1) ≡ false
    → pos 1 <ℤ r
above_one z r fits e t = test_above_one r (rw (to_z-of_z w128 z fits, e) at t)

pub at_most_one : (z r : ℤ) → FitsSigned w128 z → z ≡ r → int_le (to_z w128 (of_z w128 z)) (pos 1) ≡ true
    → r ≤ℤ pos 1
at_most_one z r fits e t = test_at_most_one r (rw (to_z-of_z w128 z fits, e) at t)

module _ (unit : ℕ) (options : ArcOptions) (c : Point) (radius : ℤ) where
  pub no_circle : radius ≤ℤ pos 1 → circle_edges unit options c radius ≡ []
  unfolding circle_edges
  no_circle h =
      let t : int_le radius (pos 1) ≡ true = grind (arith, ints) in
      ap (λ (b : Bool). if b then [] else half_circles unit options c radius) t

  pub whole_circle : pos 1 <ℤ radius → circle_edges unit options c radius ≡ half_circles unit options c radius
  unfolding circle_edges
  whole_circle h =
      let t : int_le radius (pos 1) ≡ false = grind (arith, ints) in
      ap (λ (b : Bool). if b then [] else half_circles unit options c radius) t

-- ---- arcs

module _ (unit : ℕ) (options : ArcOptions) (c x y : Point) (aligned : Sweep) where
  abbrev empty : Bool
  empty = is_empty (sweep_of c x y aligned) x y

  abbrev whole : Bool
  whole = is_whole unit (sweep_of c x y aligned) c x y

  abbrev circle : List Edge
  circle = circle_edges unit options c (pos (distance c x)) ++ route x [] y

  abbrev polyline : List Edge
  polyline = polyline_edges unit options c x y (pos (distance c x))

  -- the edges of an arc that has some, and of one that has more than one
  abbrev some_edges : List Edge
  some_edges = if is_central c x y then route x [] y else if whole then circle else polyline

  abbrev more_edges : List Edge
  more_edges = if whole then circle else polyline

  pub arc_empty : empty ≡ true → arc_edges unit options c x y aligned ≡ []
  unfolding arc_edges
  arc_empty h = ap (λ (b : Bool). if b then [] else some_edges) h

  arc_some : empty ≡ false → arc_edges unit options c x y aligned ≡ some_edges
  unfolding arc_edges
  arc_some h = ap (λ (b : Bool). if b then [] else some_edges) h

  pub arc_central : empty ≡ false → is_central c x y ≡ true → arc_edges unit options c x y aligned ≡ route x [] y
  arc_central h k = arc_some h ∙ ap (λ (b : Bool). if b then route x [] y else more_edges) k

  arc_more : empty ≡ false → is_central c x y ≡ false → arc_edges unit options c x y aligned ≡ more_edges
  arc_more h k = arc_some h ∙ ap (λ (b : Bool). if b then route x [] y else more_edges) k

  pub arc_whole : empty ≡ false → is_central c x y ≡ false → whole ≡ true
      → arc_edges unit options c x y aligned ≡ circle
  arc_whole h k l = arc_more h k ∙ ap (λ (b : Bool). if b then circle else polyline) l

  pub arc_polyline : empty ≡ false → is_central c x y ≡ false → whole ≡ false
      → arc_edges unit options c x y aligned ≡ polyline
  arc_polyline h k l = arc_more h k ∙ ap (λ (b : Bool). if b then circle else polyline) l

  -- an arc that the code takes neither for empty nor for central takes memory
  pub arc_long : (s : Sweep) (nothing central : Bool) → s ≡ sweep_of c x y aligned → nothing ≡ is_empty s x y
      → nothing ≡ false → central ≡ is_central c x y → central ≡ false → IsTrue (is_direct c x y aligned) → ⊥
  arc_long s nothing central e f h g k direct =
      let some : empty ≡ false = (ap (λ (t : Sweep). is_empty t x y) (sym e) ∙ sym f) ∙ h in
      absurd (false≢true (subst IsTrue (ap (λ (b : Bool). b || is_central c x y) some ∙ (sym g ∙ k)) direct))
