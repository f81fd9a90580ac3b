-- Lemmas over points and lists: how the winding changes along the way from a segment's end to its middle, edge by edge.
use Rattle.std.proofs.Common.{◌≡◌, Bool, true, false, cond, ◌&&◌, ◌||◌, not, List, [], ◌∷◌, refl, sym, ◌∙◌, ap, arith}
use Rattle.std.specs.Prelude.{ℤ, pos, neg_ℤ, ◌+ℤ◌, ◌-ℤ◌, ◌*ℤ◌, ◌≤ℤ◌, ◌<ℤ◌, int_lt}
use Rattle.std.proofs.lemmas.Int.{ints, by_lt_z}
use Rattle.mesh_plane.specs.Plane.{Point, Edge, plus, turn}
use Rattle.mesh_plane.specs.Winding.{crossing_of, crossing, sum_of, total, IsBalanced}
use Rattle.mesh_plane.proofs.Whole.{linear, mul_nonneg_nonpos, mul_nonpos_nonneg, mul_nonpos, mul_pos}
use Rattle.mesh_plane.proofs.Ring.{ring, var, ◌⊖◌, ◌⊗◌}
use Rattle.mesh_plane.proofs.PointExprs.{coordinates}
use Rattle.mesh_plane.proofs.Balance.{growth, growth_of_balanced}
use Rattle.mesh_plane.proofs.Comparing.{less_test, not_less_test}
use Rattle.mesh_plane.proofs.Crossings.{crossing_odd, turn_flip, turn_swap}
use Rattle.mesh_plane.proofs.Grids.{scale, winds}
use Rattle.mesh_lattice.specs.Boundary.{rises}
use Rattle.mesh_lattice.specs.Counted.{bit}
use Rattle.mesh_lattice.specs.Split.{back}
use Rattle.mesh_lattice.proofs.Boxes.{turn_start, turn_end}
use Rattle.mesh_regions.proofs.Directions.{Slope, upward, westward, eastward, downward, before}
use Rattle.mesh_regions.proofs.EndsParted.{way_twice, start_twice}
use Rattle.mesh_regions.proofs.SidesPotential.{Parted, potential, east, east_of}

-- how much an edge adds to the winding, on the grid 2, as a point moves up from `q` to `u`
abbrev pub gain : Point → Point → Edge → ℤ
gain q u e =
    (crossing u (scale (pos 2) e.0) (scale (pos 2) e.1) -ℤ crossing q (scale (pos 2) e.0) (scale (pos 2) e.1))
    +ℤ (east q u (scale (pos 2) e.1) -ℤ east q u (scale (pos 2) e.0))

pub gain_odd : (q u : Point) (e : Edge) → gain q u (back e) ≡ neg_ℤ (gain q u e)
gain_odd q u e = omega (arith, linear, crossing_odd q (scale (pos 2) e.0) (scale (pos 2) e.1), crossing_odd u (scale (pos 2) e.0) (scale (pos 2) e.1))

-- a balanced list gains what its edges do
pub gains_are : (q u : Point) (es : List Edge) → IsBalanced es → winds (pos 2) u es ≡ winds (pos 2) q es +ℤ sum_of (gain q u) es
gains_are q u es balanced =
    omega (arith, linear, each es, growth_of_balanced es balanced (λ (v : Point). east q u (scale (pos 2) v)))
  where
    each : (es : List Edge) → winds (pos 2) u es +ℤ total (growth (λ (v : Point). east q u (scale (pos 2) v))) es ≡ winds (pos 2) q es +ℤ sum_of (gain q u) es
    each [] = refl
    each (e ∷ es) = omega (arith, linear, each es)

pub gain_none : (q u : Point) (e : Edge) → q.1 ≤ℤ u.1 → Parted q u (scale (pos 2) e.0) (scale (pos 2) e.1) → gain q u e ≡ pos 0
gain_none q u e up parted = omega (arith, linear, potential q u (scale (pos 2) e.0) (scale (pos 2) e.1) up parted)

-- ---- an edge that leaves the end, over bare numbers: `a`, `b`, `h` are the heights of its start, its end and the middle,
-- `t` is the turn from it to the segment

crossing_start : (a b t : ℤ) → t ≡ pos 0 → crossing_of a b a t ≡ pos 0
crossing_start a b t e = grind (arith, ints)

east_start : (a h t : ℤ) → east_of a h a t ≡ pos 0
east_start a h t = grind (arith, ints)

east_straight : (h a b t : ℤ) → t ≡ pos 0 → east_of h a b t ≡ pos 0
east_straight h a b t e = grind (arith, ints)

up_steep : (a b h t s : ℤ) → a ≤ℤ h → a <ℤ b → s ≡ neg_ℤ t → crossing_of a b h t +ℤ east_of a h b s ≡ bit (int_lt (pos 0) t)
up_steep a b h t s low up e =
    by_lt_z h b
    (λ (x : h <ℤ b). grind (arith, ints))
    (λ (x : b ≤ℤ h).
    by_lt_z (pos 0) t (λ (y : pos 0 <ℤ t). let z : s <ℤ pos 0 = omega (arith, linear) in grind (arith, ints)) (λ (y : t ≤ℤ pos 0). let z : pos 0 ≤ℤ s = omega (arith, linear) in grind (arith, ints)))

up_flat : (a b h t s : ℤ) → a ≤ℤ h → b ≤ℤ a → crossing_of a b h t +ℤ east_of a h b s ≡ pos 0
up_flat a b h t s low down = grind (arith, ints)

down_steep : (a b h t : ℤ) → h <ℤ a → b ≤ℤ a → east_of h a b t -ℤ crossing_of a b h t ≡ bit (int_lt t (pos 0))
down_steep a b h t low down =
    by_lt_z h b (λ (x : h <ℤ b). grind (arith, ints)) (λ (x : b ≤ℤ h). by_lt_z b a (λ (y : b <ℤ a). grind (arith, ints)) (λ (y : a ≤ℤ b). absurd (omega (arith, linear))))

down_above : (a b h t : ℤ) → h <ℤ a → a <ℤ b → east_of h a b t -ℤ crossing_of a b h t ≡ pos 0
down_above a b h t low up = grind (arith, ints)

level_down : (a b h t : ℤ) → h ≡ a → b ≤ℤ a → east_of h a b t -ℤ crossing_of a b h t ≡ pos 0
level_down a b h t e down = grind (arith, ints)

level_above : (a b h t : ℤ) → h ≡ a → a <ℤ b → t ≤ℤ pos 0 → east_of h a b t -ℤ crossing_of a b h t ≡ pos 0
level_above a b h t e up low = grind (arith, ints)

-- ---- the edge from `v` to `x` beside the segment from `v` to `w`

abbrev high : Point → Point → ℤ
high v w = v.1 +ℤ w.1

abbrev low : Point → ℤ
low v = pos 2 *ℤ v.1

abbrev twice : Point → Point → Point → ℤ
twice v x w = turn v x w +ℤ turn v x w

-- from the end up to the middle
up_is : (v w x : Point) → gain (scale (pos 2) v) (plus v w) (v, x)
    ≡ crossing_of (low v) (low x) (high v w) (twice v x w) +ℤ east_of (low v) (high v w) (low x) (twice v w x)
up_is v w x =
    omega (
      arith,
      linear,
      crossing_start (low v) (low x) (turn (scale (pos 2) v) (scale (pos 2) x) (scale (pos 2) v)) (turn_start (scale (pos 2) v) (scale (pos 2) x)),
      east_start (low v) (high v w) (turn (scale (pos 2) v) (plus v w) (scale (pos 2) v)),
      ap (λ (t : ℤ). crossing_of (low v) (low x) (high v w) t) (start_twice v w x),
      ap (λ (t : ℤ). east_of (low v) (high v w) (low x) t) (way_twice v w x),
    )

-- from the middle up to the end
down_is : (v w x : Point) → gain (plus v w) (scale (pos 2) v) (v, x)
    ≡ east_of (high v w) (low v) (low x) (twice v x w) -ℤ crossing_of (low v) (low x) (high v w) (twice v x w)
down_is v w x =
    omega (
      arith,
      linear,
      crossing_start (low v) (low x) (turn (scale (pos 2) v) (scale (pos 2) x) (scale (pos 2) v)) (turn_start (scale (pos 2) v) (scale (pos 2) x)),
      east_straight (high v w) (low v) (low v) (turn (plus v w) (scale (pos 2) v) (scale (pos 2) v)) (turn_end (plus v w) (scale (pos 2) v)),
      ap (λ (t : ℤ). crossing_of (low v) (low x) (high v w) t) (start_twice v w x),
      ap (λ (t : ℤ). east_of (high v w) (low v) (low x) t) (back_twice v w x),
    )
  where
    back_twice : (v w x : Point) → turn (plus v w) (scale (pos 2) v) (scale (pos 2) x) ≡ turn v x w +ℤ turn v x w
    back_twice v w x = omega (arith, linear, turn_flip (scale (pos 2) v) (plus v w) (scale (pos 2) x), way_twice v w x, turn_swap v x w)

-- the turn from a level edge, and that to a level segment
turn_from_level : (v x w : Point) → v.1 ≡ x.1 → turn v x w ≡ (x.0 -ℤ v.0) *ℤ (w.1 -ℤ v.1)
turn_from_level v x w e =
    ap (λ (z : ℤ). ((x.0 -ℤ v.0) *ℤ (w.1 -ℤ v.1)) -ℤ ((z -ℤ v.1) *ℤ (w.0 -ℤ v.0))) (sym e)
    ∙ ring (coordinates (v ∷ x ∷ w ∷ []) []) (((var 2 ⊖ var 0) ⊗ (var 5 ⊖ var 1)) ⊖ ((var 1 ⊖ var 1) ⊗ (var 4 ⊖ var 0))) ((var 2 ⊖ var 0) ⊗ (var 5 ⊖ var 1)) refl

turn_to_level : (v x w : Point) → v.1 ≡ w.1 → turn v x w ≡ neg_ℤ ((w.0 -ℤ v.0) *ℤ (x.1 -ℤ v.1))
turn_to_level v x w e = omega (arith, linear, turn_swap v w x, turn_from_level v w x e)

twice_above : (t : ℤ) → bit (int_lt (pos 0) (t +ℤ t)) ≡ bit (int_lt (pos 0) t)
twice_above t =
    by_lt_z (pos 0) t
    (λ (h : pos 0 <ℤ t). ap bit (less_test (pos 0) (t +ℤ t) (omega (arith, linear)) ∙ sym (less_test (pos 0) t h)))
    (λ (h : t ≤ℤ pos 0). ap bit (not_less_test (pos 0) (t +ℤ t) (omega (arith, linear)) ∙ sym (not_less_test (pos 0) t h)))

twice_below : (t s : ℤ) → s ≡ neg_ℤ t → bit (int_lt (t +ℤ t) (pos 0)) ≡ bit (int_lt (pos 0) s)
twice_below t s e =
    by_lt_z t (pos 0)
    (λ (h : t <ℤ pos 0). ap bit (less_test (t +ℤ t) (pos 0) (omega (arith, linear)) ∙ sym (less_test (pos 0) s (omega (arith, linear)))))
    (λ (h : pos 0 ≤ℤ t). ap bit (not_less_test (t +ℤ t) (pos 0) (omega (arith, linear)) ∙ sym (not_less_test (pos 0) s (omega (arith, linear)))))

abbrev order : Bool → Bool → ℤ → ℤ
order r q t = bit (cond r (not q || int_lt (pos 0) t) (not q && int_lt (pos 0) t))

abbrev climbs : Point → Point → Point → ℤ
climbs v w x = crossing_of (low v) (low x) (high v w) (twice v x w) +ℤ east_of (low v) (high v w) (low x) (twice v w x)

abbrev sinks : Point → Point → Point → ℤ
sinks v w x = east_of (high v w) (low v) (low x) (twice v x w) -ℤ crossing_of (low v) (low x) (high v w) (twice v x w)

-- beside a segment that rises, an edge that leaves its start adds 1 where it comes before the segment
pub gain_rising : (v w x : Point) → v.1 ≤ℤ w.1 → rises (v, w) ≡ true → Slope v x → gain (scale (pos 2) v) (plus v w) (v, x) ≡ before v x w
gain_rising v w x up rising at = up_is v w x ∙ by at
  where
    none : x.1 ≤ℤ v.1 → climbs v w x ≡ pos 0
    none h = up_flat (low v) (low x) (high v w) (twice v x w) (twice v w x) (omega (arith, ints)) (omega (arith, ints))

    by : Slope v x → climbs v w x ≡ before v x w
    by (upward h r) =
        up_steep (low v) (low x) (high v w) (twice v x w) (twice v w x) (omega (arith, ints)) (omega (arith, ints)) (omega (arith, linear, turn_swap v x w))
        ∙ (twice_above (turn v x w) ∙ sym (λ i. order (r i) (rising i) (turn v x w)))
    by (westward e h r) =
        let n = mul_nonpos_nonneg (x.0 -ℤ v.0) (w.1 -ℤ v.1) (omega (arith, linear)) (omega (arith, linear)) in
        none (omega (arith, linear))
        ∙ sym ((λ i. order (r i) (rising i) (turn v x w)) ∙ ap bit (not_less_test (pos 0) (turn v x w) (omega (arith, linear, turn_from_level v x w e))))
    by (eastward e h r) = none (omega (arith, linear)) ∙ sym (λ i. order (r i) (rising i) (turn v x w))
    by (downward h r) = none (omega (arith, linear)) ∙ sym (λ i. order (r i) (rising i) (turn v x w))

-- beside a segment that sinks, an edge that leaves its start takes 1 where it comes after the segment
pub gain_sinking : (v w x : Point) → w.1 <ℤ v.1 → rises (v, w) ≡ false → Slope v x → gain (plus v w) (scale (pos 2) v) (v, x) ≡ before v w x
gain_sinking v w x down sinking at = down_is v w x ∙ by at
  where
    some : x.1 ≤ℤ v.1 → sinks v w x ≡ bit (int_lt (pos 0) (turn v w x))
    some h =
        down_steep (low v) (low x) (high v w) (twice v x w) (omega (arith, ints)) (omega (arith, ints)) ∙ twice_below (turn v x w) (turn v w x) (turn_swap v x w)

    by : Slope v x → sinks v w x ≡ before v w x
    by (upward h r) =
        down_above (low v) (low x) (high v w) (twice v x w) (omega (arith, ints)) (omega (arith, ints)) ∙ sym (λ i. order (sinking i) (r i) (turn v w x))
    by (westward e h r) =
        let n = mul_nonpos (x.0 -ℤ v.0) (w.1 -ℤ v.1) (omega (arith, linear)) (omega (arith, linear)) in
        some (omega (arith, linear))
        ∙ (ap bit (not_less_test (pos 0) (turn v w x) (omega (arith, linear, turn_swap v x w, turn_from_level v x w e)))
        ∙ sym (λ i. order (sinking i) (r i) (turn v w x)))
    by (eastward e h r) = some (omega (arith, linear)) ∙ sym (λ i. order (sinking i) (r i) (turn v w x))
    by (downward h r) = some (omega (arith, linear)) ∙ sym (λ i. order (sinking i) (r i) (turn v w x))

-- and so beside a level segment to the east
pub gain_level : (v w x : Point) → v.1 ≡ w.1 → v.0 <ℤ w.0 → rises (v, w) ≡ false → Slope v x → gain (plus v w) (scale (pos 2) v) (v, x) ≡ before v w x
gain_level v w x level east sinking at = down_is v w x ∙ by at
  where
    height : high v w ≡ low v
    height = omega (arith, ints)

    none : x.1 ≤ℤ v.1 → sinks v w x ≡ pos 0
    none h = level_down (low v) (low x) (high v w) (twice v x w) height (omega (arith, ints))

    flat_none : x.1 ≤ℤ v.1 → rises (v, x) ≡ false → pos 0 ≡ before v w x
    flat_none h r =
        let n = mul_nonneg_nonpos (w.0 -ℤ v.0) (x.1 -ℤ v.1) (omega (arith, linear)) (omega (arith, linear)) in
        sym ((λ i. order (sinking i) (r i) (turn v w x))
        ∙ ap bit (not_less_test (pos 0) (turn v w x) (omega (arith, linear, turn_swap v x w, turn_to_level v x w level))))

    by : Slope v x → sinks v w x ≡ before v w x
    by (upward h r) =
        let n = mul_pos (w.0 -ℤ v.0) (x.1 -ℤ v.1) (omega (arith, linear)) (omega (arith, linear)) in
        level_above (low v) (low x) (high v w) (twice v x w) height (omega (arith, ints)) (omega (arith, linear, turn_to_level v x w level))
        ∙ sym (λ i. order (sinking i) (r i) (turn v w x))
    by (westward e h r) = none (omega (arith, linear)) ∙ sym (λ i. order (sinking i) (r i) (turn v w x))
    by (eastward e h r) = none (omega (arith, linear)) ∙ flat_none (omega (arith, linear)) r
    by (downward h r) = none (omega (arith, linear)) ∙ flat_none (omega (arith, linear)) r
