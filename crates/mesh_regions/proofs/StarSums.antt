-- Lemmas over points and lists: sums over the segments at a vertex; the winding beside each follows from that at the vertex.
use Rattle.std.proofs.Common.{◌≡◌, ◌⊎◌, inl, inr, ⊎_elim, ℕ, ◌<◌, Bool, true, false, cond, ◌&&◌, List, [], ◌∷◌, refl, sym, ◌∙◌, ap, subst, arith}
use Rattle.std.specs.Prelude.{ℤ, pos, neg_ℤ, ◌+ℤ◌, ◌-ℤ◌, ◌*ℤ◌, ◌≤ℤ◌, ◌<ℤ◌}
use Rattle.std.proofs.lemmas.Bool.{both_ways, cases_Bool, or_parts}
use Rattle.std.proofs.lemmas.Int.{ints}
use Rattle.mesh_plane.specs.Plane.{Point, Edge, plus, turn}
use Rattle.mesh_plane.specs.Winding.{sum_of, total, same_point, refined, winding}
use Rattle.mesh_plane.proofs.Whole.{linear, mul_one, mul_zero}
use Rattle.mesh_plane.proofs.Balance.{growth, growth_of_balanced}
use Rattle.mesh_plane.proofs.Comparing.{point_self, points_apart}
use Rattle.mesh_plane.proofs.Grids.{scale, part, winds}
use Rattle.mesh_lattice.specs.Boundary.{rises, winding_beside, left_winding, right_winding}
use Rattle.mesh_lattice.specs.Clean.{IsOn}
use Rattle.mesh_lattice.specs.Counted.{bit, along, net}
use Rattle.mesh_lattice.specs.Split.{back, same_edge, same_ends, is_end, occurs}
use Rattle.mesh_lattice.proofs.Each.{Each, each_of, proper_of}
use Rattle.mesh_lattice.proofs.Ends.{decides_edge, decides_ends, decides_end, ends_sym, not_ends, along_turned, not_along}
use Rattle.mesh_lattice.proofs.Keys.{occurs_back}
use Rattle.mesh_regions.specs.SideLaws.{AreSplit}
use Rattle.mesh_regions.specs.Star.{comes_before, leaves_before, net_before, AreCounterclockwise, AreNeighbours}
use Rattle.mesh_regions.proofs.FinerGrids.{winds_finer}
use Rattle.mesh_regions.proofs.Directions.{Slope, upward, westward, eastward, downward, slope, before, one_before, not_before, two_before, middle_apart, common_point}
use Rattle.mesh_regions.proofs.EndsGains.{gain, gain_odd, gains_are, gain_none, gain_rising, gain_sinking, gain_level}
use Rattle.mesh_regions.proofs.EndsParted.{end_parted, start_off}
use Rattle.mesh_regions.proofs.SidesConstant.{parted_back}
use Rattle.mesh_regions.proofs.SidesClear.{Meeting, meeting_of, clear_pair, inner_no_end, on_part}

-- ---- directions of segments are apart

-- two segments that leave a point in one direction are one
one_direction : (es : List Edge) → AreSplit es → (v x y : Point) → occurs (v, x) es ≡ true → occurs (v, y) es ≡ true →
    rises (v, x) ≡ rises (v, y) → turn v x y ≡ pos 0 → x ≡ y
one_direction es split v x y hx hy alike flat_turn =
    ⊎_elim
    (λ (t : same_ends (v, x) (v, y) ≡ true).
    ⊎_elim (λ (e : (v, x) ≡ (v, y)). ap (λ (f : Edge). f.1) e) (λ (e : (v, x) ≡ (y, v)). absurd (ny (ap (λ (f : Edge). f.0) e))) ((decides_ends (v, x) (v, y)).0 t))
    (λ (f : same_ends (v, x) (v, y) ≡ false). absurd (apart (meeting_of es split.clean (v, x) (v, y) hx hy f)))
    (cases_Bool (same_ends (v, x) (v, y)))
  where
    nx : v ≡ x → ⊥
    nx = proper_of es split.proper (v, x) hx

    ny : v ≡ y → ⊥
    ny = proper_of es split.proper (v, y) hy

    apart : Meeting v x v y → ⊥
    apart meet =
        let c = common_point v x y nx ny alike flat_turn in
        let a = c.parts_first in
        let b = c.parts_second in
        let some : pos 0 <ℤ (a +ℤ b) = omega (arith, linear, c.some_first, c.some_second) in
        nx (inner_no_end (a +ℤ b) a v x c.some_first (omega (arith, linear, c.some_second))
        (meet.at_end (a +ℤ b) some (part (a +ℤ b) a v x)
        (on_part (a +ℤ b) a v x some (omega (arith, linear, c.some_first)) (omega (arith, linear, c.some_second)))
        (subst (λ (z : Point). IsOn (scale (a +ℤ b) v, scale (a +ℤ b) y) z) (sym c.same)
        (on_part (a +ℤ b) b v y some (omega (arith, linear, c.some_second)) (omega (arith, linear, c.some_first))))))

-- of two segments at a vertex one comes before the other, or they are one
pub star_order : (es : List Edge) → AreSplit es → (v x y : Point) → occurs (v, x) es ≡ true → occurs (v, y) es ≡ true →
    (before v x y +ℤ before v y x) +ℤ bit (same_edge (v, x) (v, y)) ≡ pos 1
star_order es split v x y hx hy =
    ⊎_elim
    (λ (t : same_edge (v, x) (v, y) ≡ true).
    let e : x ≡ y = ap (λ (f : Edge). f.1) ((decides_edge (v, x) (v, y)).0 t) in
    let first : before v x y ≡ pos 0 = subst (λ (z : Point). before v x z ≡ pos 0) e (not_before v x) in
    let last : before v y x ≡ pos 0 = subst (λ (z : Point). before v z x ≡ pos 0) e (not_before v x) in
    omega (arith, linear, first, last, ap bit t))
    (λ (f : same_edge (v, x) (v, y) ≡ false).
    let differ = λ (a : rises (v, x) ≡ rises (v, y)) (b : turn v x y ≡ pos 0).
    both_ways (same_edge (v, x) (v, y)) f ((decides_edge (v, x) (v, y)).1 (λ i. (v, one_direction es split v x y hx hy a b i))) in
    omega (arith, linear, one_before v x y differ, ap bit f))
    (cases_Bool (same_edge (v, x) (v, y)))

-- ---- a sum over edges is none where it is over those that leave a vertex and over those that do not touch it

abbrev IsTurned : (Edge → ℤ) → Type 0
IsTurned f = (e : Edge) → f (back e) ≡ neg_ℤ (f e)

star_none : (v : Point) (f : Edge → ℤ) (es : List Edge) → IsTurned f → ((x : Point) → occurs (v, x) es ≡ true → f (v, x) ≡ pos 0)
    → ((e : Edge) → occurs e es ≡ true → is_end v e ≡ false → f e ≡ pos 0) → sum_of f es ≡ pos 0
star_none v f es odd leaving others = none es (each_of (λ (e : Edge). f e ≡ pos 0) es one)
  where
    at_start : (e : Edge) → occurs e es ≡ true → v ≡ e.0 → f e ≡ pos 0
    at_start e h p = subst (λ (g : Edge). f g ≡ pos 0) (λ i. (p i, e.1)) (leaving e.1 (subst (λ (u : Point). occurs (u, e.1) es ≡ true) (sym p) h))

    one : (e : Edge) → occurs e es ≡ true → f e ≡ pos 0
    one e h =
        ⊎_elim
        (λ (t : is_end v e ≡ true).
        ⊎_elim (λ (p : v ≡ e.0). at_start e h p)
        (λ (p : v ≡ e.1). omega (arith, linear, odd e, at_start (back e) (occurs_back e es ∙ h) p))
        ((decides_end v e).0 t))
        (λ (t : is_end v e ≡ false). others e h t)
        (cases_Bool (is_end v e))

    none : (xs : List Edge) → Each (λ (e : Edge). f e ≡ pos 0) xs → sum_of f xs ≡ pos 0
    none [] h = refl
    none (x ∷ xs) h = omega (arith, linear, h.0, none xs h.1)

-- ---- what is summed

-- 1 for an edge that leaves the start of `s` before `s`, -1 for one that comes in there
abbrev pub edge_net_before : Edge → Edge → ℤ
edge_net_before s e = bit (leaves_before s e) -ℤ bit (leaves_before s (back e))

-- -c for an edge that leaves a vertex, c for one that comes in
abbrev comes_in : ℤ → Point → Edge → ℤ
comes_in c v e = growth (λ (p : Point). c *ℤ bit (same_point v p)) e.0 e.1

apart_ends : (v : Point) (e : Edge) → is_end v e ≡ false → (same_point v e.0 ≡ false) × (same_point v e.1 ≡ false)
unfolding is_end
apart_ends v e h = or_parts (same_point v e.0) (same_point v e.1) h

edge_net_leaving : (v w x : Point) → (v ≡ x → ⊥) → edge_net_before (v, w) (v, x) ≡ before v x w
edge_net_leaving v w x differ =
    (λ i. bit (point_self v i && comes_before (v, x) (v, w)) -ℤ bit (points_apart v x differ i && comes_before (x, v) (v, w))) ∙ less_none (before v x w)
  where
    less_none : (a : ℤ) → a -ℤ pos 0 ≡ a
    less_none a = omega (arith, linear)

edge_net_none : (s e : Edge) → is_end s.0 e ≡ false → edge_net_before s e ≡ pos 0
edge_net_none s e h =
    let a = apart_ends s.0 e h in
    λ i. bit (a.0 i && comes_before e s) -ℤ bit (a.1 i && comes_before (back e) s)

along_leaving : (v w x : Point) → (v ≡ x → ⊥) → along (v, w) (v, x) ≡ bit (same_edge (v, w) (v, x))
unfolding along
along_leaving v w x differ =
    let f : same_edge (v, w) (x, v) ≡ false =
    ⊎_elim (λ (t : same_edge (v, w) (x, v) ≡ true). absurd (differ (ap (λ (e : Edge). e.0) ((decides_edge (v, w) (x, v)).0 t))))
    (λ (f : same_edge (v, w) (x, v) ≡ false). f) (cases_Bool (same_edge (v, w) (x, v))) in
    omega (arith, linear, ap bit f)

along_none : (s e : Edge) → is_end s.0 e ≡ false → along s e ≡ pos 0
along_none s e h = not_along s e (ends_sym s e ∙ not_ends s.0 e s h ((decides_end s.0 s).1 (inl refl)))

comes_in_leaving : (c : ℤ) (v x : Point) → (v ≡ x → ⊥) → comes_in c v (v, x) ≡ neg_ℤ c
comes_in_leaving c v x differ =
    (λ i. (c *ℤ bit (points_apart v x differ i)) -ℤ (c *ℤ bit (point_self v i))) ∙ omega (arith, linear, mul_zero c, mul_one c)

comes_in_none : (c : ℤ) (v : Point) (e : Edge) → is_end v e ≡ false → comes_in c v e ≡ pos 0
comes_in_none c v e h =
    let a = apart_ends v e h in
    (λ i. (c *ℤ bit (a.1 i)) -ℤ (c *ℤ bit (a.0 i))) ∙ omega (arith, linear, mul_zero c)

-- ---- the side follows from the end

at_grid : (m : ℤ) (v : Point) (es : List Edge) → pos 0 <ℤ m → winds m (scale m v) es ≡ winds (pos 1) v es
at_grid m v es some = ap (λ (k : ℤ). winds k (scale m v) es) (sym (mul_one m)) ∙ winds_finer m (pos 1) v es some

rising_side : (es : List Edge) → AreSplit es → (v w : Point) → occurs (v, w) es ≡ true → v.1 ≤ℤ w.1 → rises (v, w) ≡ true →
    winds (pos 2) (plus v w) es ≡ winds (pos 2) (scale (pos 2) v) es +ℤ net_before (v, w) es
rising_side es split v w h up rising =
    omega (arith, linear, gains_are (scale (pos 2) v) (plus v w) es split.balanced, parts es, star_none v f es odd leaving others)
  where
    f : Edge → ℤ
    f e = gain (scale (pos 2) v) (plus v w) e -ℤ edge_net_before (v, w) e

    parts : (xs : List Edge) → sum_of f xs ≡ sum_of (gain (scale (pos 2) v) (plus v w)) xs -ℤ net_before (v, w) xs
    parts [] = refl
    parts (x ∷ xs) = omega (arith, linear, parts xs)

    odd : IsTurned f
    odd e = omega (arith, linear, gain_odd (scale (pos 2) v) (plus v w) e)

    leaving : (x : Point) → occurs (v, x) es ≡ true → f (v, x) ≡ pos 0
    leaving x k =
        let nx = proper_of es split.proper (v, x) k in
        omega (arith, linear, gain_rising v w x up rising (slope v x nx), edge_net_leaving v w x nx)

    others : (e : Edge) → occurs e es ≡ true → is_end v e ≡ false → f e ≡ pos 0
    others e k off =
        omega (
          arith,
          linear,
          gain_none (scale (pos 2) v) (plus v w) e (omega (arith, ints))
              (end_parted v w e.0 e.1 (start_off es split.clean (v, w) e h k off) (clear_pair es split.clean split.proper (v, w) e h k)),
          edge_net_none (v, w) e off,
        )

sinking_side : (es : List Edge) → AreSplit es → (v w : Point) → occurs (v, w) es ≡ true → w.1 ≤ℤ v.1
    → ((x : Point) → Slope v x → gain (plus v w) (scale (pos 2) v) (v, x) ≡ before v w x)
    → winds (pos 2) (plus v w) es -ℤ net (v, w) es ≡ winds (pos 2) (scale (pos 2) v) es +ℤ net_before (v, w) es
sinking_side es split v w h down gains =
    omega (
      arith,
      linear,
      gains_are (plus v w) (scale (pos 2) v) es split.balanced,
      parts es,
      star_none v f es odd leaving others,
      growth_of_balanced es split.balanced (λ (p : Point). pos 1 *ℤ bit (same_point v p)),
    )
  where
    f : Edge → ℤ
    f e = ((gain (plus v w) (scale (pos 2) v) e +ℤ along (v, w) e) +ℤ edge_net_before (v, w) e) +ℤ comes_in (pos 1) v e

    parts : (xs : List Edge) → sum_of f xs
        ≡ ((sum_of (gain (plus v w) (scale (pos 2) v)) xs +ℤ net (v, w) xs) +ℤ net_before (v, w) xs) +ℤ total (growth (λ (p : Point). pos 1 *ℤ bit (same_point v p))) xs
    parts [] = refl
    parts (x ∷ xs) = omega (arith, linear, parts xs)

    odd : IsTurned f
    odd e = omega (arith, linear, gain_odd (plus v w) (scale (pos 2) v) e, along_turned (v, w) e)

    leaving : (x : Point) → occurs (v, x) es ≡ true → f (v, x) ≡ pos 0
    leaving x k =
        let nx = proper_of es split.proper (v, x) k in
        omega (
          arith,
          linear,
          gains x (slope v x nx),
          along_leaving v w x nx,
          edge_net_leaving v w x nx,
          comes_in_leaving (pos 1) v x nx,
          star_order es split v w x h k,
        )

    others : (e : Edge) → occurs e es ≡ true → is_end v e ≡ false → f e ≡ pos 0
    others e k off =
        let clear = clear_pair es split.clean split.proper (v, w) e h k in
        let parted = end_parted v w e.0 e.1 (start_off es split.clean (v, w) e h k off) clear in
        omega (
          arith,
          linear,
          gain_none (plus v w) (scale (pos 2) v) e (omega (arith, ints)) (parted_back (scale (pos 2) v) (plus v w) (scale (pos 2) e.0) (scale (pos 2) e.1) parted),
          along_none (v, w) e off,
          edge_net_none (v, w) e off,
          comes_in_none (pos 1) v e off,
        )

side_of_end : (es : List Edge) → AreSplit es → (v w : Point) → occurs (v, w) es ≡ true → Slope v w →
    right_winding es (v, w) ≡ winds (pos 2) (scale (pos 2) v) es +ℤ net_before (v, w) es
side_of_end es split v w h at = by at
  where
    right_by : Bool → ℤ
    right_by b = cond b (winding_beside es (v, w)) (winding_beside es (v, w) -ℤ net (v, w) es)

    by : Slope v w → right_winding es (v, w) ≡ winds (pos 2) (scale (pos 2) v) es +ℤ net_before (v, w) es
    by (upward k r) = (λ i. right_by (r i)) ∙ rising_side es split v w h (omega (arith, linear)) r
    by (westward e k r) = (λ i. right_by (r i)) ∙ rising_side es split v w h (omega (arith, linear)) r
    by (eastward e k r) = (λ i. right_by (r i)) ∙ sinking_side es split v w h (omega (arith, linear)) (λ x. gain_level v w x e k r)
    by (downward k r) = (λ i. right_by (r i)) ∙ sinking_side es split v w h (omega (arith, linear)) (λ x. gain_sinking v w x k r)

-- the winding on a segment's right follows from that at its start
pub ends_follow : (es : List Edge) → AreSplit es → (e : Edge) → occurs e es ≡ true → (m : ℕ) → 0 < m →
    right_winding es e ≡ winding m (refined m e.0) es +ℤ net_before e es
ends_follow es split e h m some =
    let own = side_of_end es split e.0 e.1 h (slope e.0 e.1 (proper_of es split.proper e h)) in
    omega (arith, linear, own, at_grid (pos 2) e.0 es (omega (arith, ints)), at_grid (pos m) e.0 es (omega (arith, ints)))

-- ---- neighbours

-- what a segment that leaves the vertex adds on the left of the one to `w` and not on the right of the one to `z`
abbrev between_at : Point → Point → Point → Point → ℤ
between_at v w z x = (before v x w +ℤ bit (same_edge (v, w) (v, x))) -ℤ before v x z

-- the segment to `w`, that to `z`, or one that comes after `z` and before `w`
abbrev pub IsAmong : Point → Point → Point → Point → Type 0
IsAmong v w z x = (◌≡◌ {A = Edge} (v, x) (v, w) ⊎ ◌≡◌ {A = Edge} (v, x) (v, z)) ⊎ AreCounterclockwise (v, z) (v, x) (v, w)

-- is the same for all
star_between : (es : List Edge) → AreSplit es → (v w z x : Point) → occurs (v, w) es ≡ true → occurs (v, z) es ≡ true → occurs (v, x) es ≡ true
    → IsAmong v w z x
    → between_at v w z x ≡ before v z w +ℤ bit (same_edge (v, w) (v, z))
star_between es split v w z x hw hz hx at = by at
  where
    nw : v ≡ w → ⊥
    nw = proper_of es split.proper (v, w) hw

    nz : v ≡ z → ⊥
    nz = proper_of es split.proper (v, z) hz

    nx : v ≡ x → ⊥
    nx = proper_of es split.proper (v, x) hx

    differ : (a b : Point) → (b ≡ a → ⊥) → bit (same_edge (v, a) (v, b)) ≡ pos 0
    differ a b n =
        ap bit (⊎_elim (λ (t : same_edge (v, a) (v, b) ≡ true). absurd (n (sym (ap (λ (e : Edge). e.1) ((decides_edge (v, a) (v, b)).0 t)))))
        (λ (f : same_edge (v, a) (v, b) ≡ false). f) (cases_Bool (same_edge (v, a) (v, b))))

    first : between_at v w z w ≡ before v z w +ℤ bit (same_edge (v, w) (v, z))
    first = omega (arith, linear, not_before v w, ap bit ((decides_edge (v, w) (v, w)).1 refl), star_order es split v w z hw hz)

    second : between_at v w z z ≡ before v z w +ℤ bit (same_edge (v, w) (v, z))
    second = omega (arith, linear, not_before v z)

    by : IsAmong v w z x → between_at v w z x ≡ before v z w +ℤ bit (same_edge (v, w) (v, z))
    by (inl (inl e)) = subst (λ (p : Point). between_at v w z p ≡ before v z w +ℤ bit (same_edge (v, w) (v, z))) (sym (ap (λ (f : Edge). f.1) e)) first
    by (inl (inr e)) = subst (λ (p : Point). between_at v w z p ≡ before v z w +ℤ bit (same_edge (v, w) (v, z))) (sym (ap (λ (f : Edge). f.1) e)) second
    by (inr turning) =
        let apart = middle_apart v z x w turning in
        omega (
          arith,
          linear,
          two_before v z x w nz nx nw turning,
          star_order es split v z x hz hx,
          star_order es split v w z hw hz,
          differ z x apart.0,
          differ w x apart.1,
        )

facing_from : (es : List Edge) → AreSplit es → (v w z : Point) → AreNeighbours es (v, w) (v, z) → left_winding es (v, w) ≡ right_winding es (v, z)
facing_from es split v w z n =
    omega (
      arith,
      linear,
      left_is (rises (v, w)),
      ends_follow es split (v, w) n.first 1 (omega arith),
      ends_follow es split (v, z) n.second 1 (omega arith),
      parts es,
      star_none v f es odd leaving others,
      growth_of_balanced es split.balanced (λ (p : Point). c *ℤ bit (same_point v p)),
    )
  where
    c : ℤ
    c = before v z w +ℤ bit (same_edge (v, w) (v, z))

    f : Edge → ℤ
    f e = ((edge_net_before (v, w) e +ℤ along (v, w) e) -ℤ edge_net_before (v, z) e) +ℤ comes_in c v e

    left_is : (b : Bool) → cond b (winding_beside es (v, w) +ℤ net (v, w) es) (winding_beside es (v, w))
        ≡ cond b (winding_beside es (v, w)) (winding_beside es (v, w) -ℤ net (v, w) es) +ℤ net (v, w) es
    left_is true = refl
    left_is false = omega (arith, linear)

    parts : (xs : List Edge) → sum_of f xs
        ≡ ((net_before (v, w) xs +ℤ net (v, w) xs) -ℤ net_before (v, z) xs) +ℤ total (growth (λ (p : Point). c *ℤ bit (same_point v p))) xs
    parts [] = refl
    parts (x ∷ xs) = omega (arith, linear, parts xs)

    odd : IsTurned f
    odd e = omega (arith, linear, along_turned (v, w) e)

    leaving : (x : Point) → occurs (v, x) es ≡ true → f (v, x) ≡ pos 0
    leaving x k =
        let nx = proper_of es split.proper (v, x) k in
        omega (
          arith,
          linear,
          edge_net_leaving v w x nx,
          edge_net_leaving v z x nx,
          along_leaving v w x nx,
          comes_in_leaving c v x nx,
          star_between es split v w z x n.first n.second k (n.others (v, x) k refl),
        )

    others : (e : Edge) → occurs e es ≡ true → is_end v e ≡ false → f e ≡ pos 0
    others e k off = omega (arith, linear, edge_net_none (v, w) e off, edge_net_none (v, z) e off, along_none (v, w) e off, comes_in_none c v e off)

-- the sides of neighbours that face each other have one winding
pub facing_sides : (es : List Edge) → AreSplit es → (s t : Edge) → AreNeighbours es s t → left_winding es s ≡ right_winding es t
facing_sides es split s t n =
    let same : (s.0, t.1) ≡ t = λ i. (n.one_start i, t.1) in
    facing_from es split s.0 s.1 t.1 (subst (λ (f : Edge). AreNeighbours es s f) (sym same) n) ∙ ap (right_winding es) same
