-- Lemmas over points and lists: a closed list whose edges lie in boxes does not wind round a point that has a way out past
-- them.
use Rattle.std.proofs.Common.{◌≡◌, ◌⊎◌, inl, inr, ⊎_elim, cond, List, [], ◌∷◌, refl, ◌∙◌, arith}
use Rattle.std.specs.Prelude.{ℤ, pos, ◌+ℤ◌, ◌-ℤ◌, ◌*ℤ◌, ◌≤ℤ◌, ◌<ℤ◌, neg_ℤ, int_lt}
use Rattle.std.proofs.lemmas.Int.{ints, by_lt_z}
use Rattle.mesh_plane.specs.Plane.{Point, Edge, turn}
use Rattle.mesh_plane.specs.Winding.{crossing, refined, crossing_on, winding, boundary}
use Rattle.mesh_plane.proofs.ClosedLists.{boundary_steps}
use Rattle.mesh_plane.proofs.Crossings.{crossing_low, crossing_high, crossing_up, crossing_odd}
use Rattle.mesh_plane.proofs.PointExprs.{point_var, coordinates, turned}
use Rattle.mesh_plane.proofs.Ring.{ring, var, neg, ◌⊕◌, ◌⊖◌, ◌⊗◌}
use Rattle.mesh_plane.proofs.Sums.{sum_of_equal}
use Rattle.mesh_plane.proofs.Whole.{linear, mul_nonneg, mul_pos}
use Rattle.mesh_lattice.proofs.Each.{Each, each_more}
use Rattle.mesh_apart.specs.Apart.{Box, finer_box, IsWithin, Piece, IsWestOf, IsSouthOf, IsOpen}
use Rattle.mesh_apart.proofs.Boxes.{lies_refined}
use Rattle.mesh_apart.proofs.Joins.{all_from_each}
use Rattle.mesh_apart.proofs.Pieces.{each_from_all, LiesIn}

-- ---- crossings to the west and to the east

turn_split : (q p r : Point) → turn p r q ≡ neg_ℤ (((q.0 -ℤ r.0) *ℤ (q.1 -ℤ p.1)) +ℤ ((q.0 -ℤ p.0) *ℤ (r.1 -ℤ q.1)))
turn_split q p r =
    ring (coordinates (q ∷ p ∷ r ∷ []) [])
    (turned (point_var 1) (point_var 2) (point_var 0))
    (neg (((var 0 ⊖ var 4) ⊗ (var 1 ⊖ var 3)) ⊕ ((var 0 ⊖ var 2) ⊗ (var 5 ⊖ var 1))))
    refl

turn_back : (q p r : Point) → turn p r q ≡ ((r.0 -ℤ q.0) *ℤ (q.1 -ℤ p.1)) +ℤ ((p.0 -ℤ q.0) *ℤ (r.1 -ℤ q.1))
turn_back q p r =
    ring (coordinates (q ∷ p ∷ r ∷ []) [])
    (turned (point_var 1) (point_var 2) (point_var 0))
    (((var 4 ⊖ var 0) ⊗ (var 1 ⊖ var 3)) ⊕ ((var 2 ⊖ var 0) ⊗ (var 5 ⊖ var 1)))
    refl

right_of : (q p r : Point) → p.0 <ℤ q.0 → r.0 <ℤ q.0 → p.1 ≤ℤ q.1 → q.1 <ℤ r.1 → turn p r q <ℤ pos 0
right_of q p r hp hr low high =
    omega (
      arith,
      linear,
      turn_split q p r,
      mul_nonneg (q.0 -ℤ r.0) (q.1 -ℤ p.1) (omega (arith, linear)) (omega (arith, linear)),
      mul_pos (q.0 -ℤ p.0) (r.1 -ℤ q.1) (omega (arith, linear)) (omega (arith, linear)),
    )

left_of : (q p r : Point) → q.0 <ℤ p.0 → q.0 <ℤ r.0 → p.1 ≤ℤ q.1 → q.1 <ℤ r.1 → pos 0 <ℤ turn p r q
left_of q p r hp hr low high =
    omega (
      arith,
      linear,
      turn_back q p r,
      mul_nonneg (r.0 -ℤ q.0) (q.1 -ℤ p.1) (omega (arith, linear)) (omega (arith, linear)),
      mul_pos (p.0 -ℤ q.0) (r.1 -ℤ q.1) (omega (arith, linear)) (omega (arith, linear)),
    )

-- 1 above a height
abbrev is_above : ℤ → ℤ → ℤ
is_above h y = cond (int_lt h y) (pos 1) (pos 0)

above_yes : (h y : ℤ) → h <ℤ y → is_above h y ≡ pos 1
above_yes h y l = grind (arith, ints)

above_no : (h y : ℤ) → y ≤ℤ h → is_above h y ≡ pos 0
above_no h y l = grind (arith, ints)

-- it is enough to look at edges upwards
by_rises : (q : Point) (Side : Point → Type 0) (f : Point → ℤ)
    → ((p r : Point) → Side p → Side r → p.1 ≤ℤ q.1 → q.1 <ℤ r.1 → crossing q p r ≡ f r -ℤ f p)
    → ((p r : Point) → Side p → Side r → p.1 ≤ℤ q.1 → r.1 ≤ℤ q.1 → f r ≡ f p) → ((p r : Point) → Side p → Side r → q.1 <ℤ p.1 → q.1 <ℤ r.1 → f r ≡ f p)
    → (p r : Point) → Side p → Side r → crossing q p r ≡ f r -ℤ f p
by_rises q Side f rises low high p r hp hr =
    by_lt_z q.1 p.1
    (λ (a : q.1 <ℤ p.1).
    by_lt_z q.1 r.1
    (λ (b : q.1 <ℤ r.1). let same = high p r hp hr a b in let none = crossing_high p.1 r.1 q.1 (turn p r q) a b in omega (arith, linear, same, none))
    (λ (b : r.1 ≤ℤ q.1). let back = rises r p hr hp b a in omega (arith, linear, back, crossing_odd q p r)))
    (λ (a : p.1 ≤ℤ q.1).
    by_lt_z q.1 r.1
    (λ (b : q.1 <ℤ r.1). rises p r hp hr a b)
    (λ (b : r.1 ≤ℤ q.1). let same = low p r hp hr a b in let none = crossing_low p.1 r.1 q.1 (turn p r q) a b in omega (arith, linear, same, none)))

west_none : (q p r : Point) → p.0 <ℤ q.0 → r.0 <ℤ q.0 → crossing q p r ≡ pos 0
west_none q p r hp hr =
    by_rises q (λ (x : Point). x.0 <ℤ q.0) (λ (x : Point). pos 0)
    (λ (p r : Point) a b low high.
    let right : turn p r q <ℤ pos 0 = right_of q p r a b low high in
    ⊎_elim
    (λ (h : (crossing q p r ≡ pos 1) × (pos 0 <ℤ turn p r q)). absurd (let left = h.1 in omega (arith, linear, left, right)))
    (λ (h : (crossing q p r ≡ pos 0) × (turn p r q ≤ℤ pos 0)). h.0)
    (crossing_up p.1 r.1 q.1 (turn p r q) low high))
    (λ (p r : Point) a b c d. refl) (λ (p r : Point) a b c d. refl) p r hp hr

east_above : (q p r : Point) → q.0 <ℤ p.0 → q.0 <ℤ r.0 → crossing q p r ≡ is_above q.1 r.1 -ℤ is_above q.1 p.1
east_above q p r hp hr =
    by_rises q (λ (x : Point). q.0 <ℤ x.0) (λ (x : Point). is_above q.1 x.1)
    (λ (p r : Point) a b low high.
    let left : pos 0 <ℤ turn p r q = left_of q p r a b low high in
    ⊎_elim
    (λ (h : (crossing q p r ≡ pos 1) × (pos 0 <ℤ turn p r q)).
    let once = h.0 in omega (arith, ints, once, above_yes q.1 r.1 high, above_no q.1 p.1 low))
    (λ (h : (crossing q p r ≡ pos 0) × (turn p r q ≤ℤ pos 0)). absurd (let right = h.1 in omega (arith, linear, left, right)))
    (crossing_up p.1 r.1 q.1 (turn p r q) low high))
    (λ (p r : Point) a b c d. omega (arith, linear, above_no q.1 p.1 c, above_no q.1 r.1 d))
    (λ (p r : Point) a b c d. omega (arith, linear, above_yes q.1 p.1 c, above_yes q.1 r.1 d)) p r hp hr

-- ---- crossings as steps, by where both ends lie

-- in a box crossings are steps of a function of the ends
abbrev AreSteps : (Point → ℤ) → Point → Box → Type 0
AreSteps f z b = (p r : Point) → IsWithin b p → IsWithin b r → crossing z p r ≡ f r -ℤ f p

same_steps : (f : Point → ℤ) (z : Point) (b : Box) (n : ℤ) → ((p r : Point) → IsWithin b p → IsWithin b r → crossing z p r ≡ pos 0) → ((p : Point) → IsWithin b p → f p ≡ n) → AreSteps f z b
same_steps f z b n none level p r hp hr = omega (arith, linear, none p r hp hr, level p hp, level r hr)

none_west : (z : Point) (b : Box) → b.east <ℤ z.0 → (p r : Point) → IsWithin b p → IsWithin b r → crossing z p r ≡ pos 0
none_west z b h p r hp hr = let a = hp.by_east in let c = hr.by_east in west_none z p r (omega (arith, linear, h, a)) (omega (arith, linear, h, c))

none_south : (z : Point) (b : Box) → b.north <ℤ z.1 → (p r : Point) → IsWithin b p → IsWithin b r → crossing z p r ≡ pos 0
none_south z b h p r hp hr =
    let a = hp.by_north in let c = hr.by_north in crossing_low p.1 r.1 z.1 (turn p r z) (omega (arith, linear, h, a)) (omega (arith, linear, h, c))

none_north : (z : Point) (b : Box) → z.1 <ℤ b.south → (p r : Point) → IsWithin b p → IsWithin b r → crossing z p r ≡ pos 0
none_north z b h p r hp hr =
    let a = hp.by_south in let c = hr.by_south in crossing_high p.1 r.1 z.1 (turn p r z) (omega (arith, linear, h, a)) (omega (arith, linear, h, c))

east_steps : (f : Point → ℤ) (z : Point) (b : Box) → z.0 <ℤ b.west → ((p : Point) → z.0 <ℤ p.0 → f p ≡ is_above z.1 p.1) → AreSteps f z b
east_steps f z b h same p r hp hr =
    let a = hp.by_west in
    let c = hr.by_west in
    let ep : z.0 <ℤ p.0 = omega (arith, linear, h, a) in
    let er : z.0 <ℤ r.0 = omega (arith, linear, h, c) in
    omega (arith, linear, east_above z p r ep er, same p ep, same r er)

-- what serves where the way to the south is open, and where that to the north is
abbrev south_open : Point → Point → ℤ
south_open z p = cond (int_lt z.0 p.0) (is_above z.1 p.1) (pos 1)

abbrev north_open : Point → Point → ℤ
north_open z p = cond (int_lt z.0 p.0) (is_above z.1 p.1) (pos 0)

high_one : (x h u v : ℤ) → h <ℤ v → cond (int_lt x u) (is_above h v) (pos 1) ≡ pos 1
high_one x h u v l = grind (arith, ints)

west_one : (x h u v : ℤ) → u ≤ℤ x → cond (int_lt x u) (is_above h v) (pos 1) ≡ pos 1
west_one x h u v l = grind (arith, ints)

east_one : (x h u v : ℤ) → x <ℤ u → cond (int_lt x u) (is_above h v) (pos 1) ≡ is_above h v
east_one x h u v l = grind (arith, ints)

low_zero : (x h u v : ℤ) → v ≤ℤ h → cond (int_lt x u) (is_above h v) (pos 0) ≡ pos 0
low_zero x h u v l = grind (arith, ints)

west_zero : (x h u v : ℤ) → u ≤ℤ x → cond (int_lt x u) (is_above h v) (pos 0) ≡ pos 0
west_zero x h u v l = grind (arith, ints)

east_zero : (x h u v : ℤ) → x <ℤ u → cond (int_lt x u) (is_above h v) (pos 0) ≡ is_above h v
east_zero x h u v l = grind (arith, ints)

-- ---- a point with a way out

-- some function serves in all boxes of the pieces
pub record HasWayOut (ps : List Piece) (z : Point) : Type 0 where
  pub f : Point → ℤ
  pub steps : Each (λ (p : Piece). AreSteps f z (finer_box 2 p.box)) ps

twice_less : (a b c : ℤ) → a <ℤ b → (pos 2 *ℤ b) ≤ℤ c → (pos 2 *ℤ a) <ℤ c
twice_less a b c h k = omega (arith, ints, h, k)

less_twice : (a b c : ℤ) → a <ℤ b → c ≤ℤ (pos 2 *ℤ a) → c <ℤ (pos 2 *ℤ b)
less_twice a b c h k = omega (arith, ints, h, k)

module _ (q : Box) (z : Point) (within : IsWithin (finer_box 2 q) z) where
  to_west : (b : Box) → IsWestOf b q → (finer_box 2 b).east <ℤ z.0
  to_west b h = twice_less b.east q.west z.0 h within.by_west

  to_east : (b : Box) → IsWestOf q b → z.0 <ℤ (finer_box 2 b).west
  to_east b h = less_twice q.east b.west z.0 h within.by_east

  to_south : (b : Box) → IsSouthOf b q → (finer_box 2 b).north <ℤ z.1
  to_south b h = twice_less b.north q.south z.1 h within.by_south

  to_north : (b : Box) → IsSouthOf q b → z.1 <ℤ (finer_box 2 b).south
  to_north b h = less_twice q.north b.south z.1 h within.by_north

  east_way : (b : Box) → IsWestOf b q ⊎ (IsSouthOf b q ⊎ IsSouthOf q b) → AreSteps (λ (p : Point). pos 0) z (finer_box 2 b)
  east_way b (inl h) = same_steps (λ (p : Point). pos 0) z (finer_box 2 b) (pos 0) (none_west z (finer_box 2 b) (to_west b h)) (λ (p : Point) w. refl)
  east_way b (inr (inl h)) = same_steps (λ (p : Point). pos 0) z (finer_box 2 b) (pos 0) (none_south z (finer_box 2 b) (to_south b h)) (λ (p : Point) w. refl)
  east_way b (inr (inr h)) = same_steps (λ (p : Point). pos 0) z (finer_box 2 b) (pos 0) (none_north z (finer_box 2 b) (to_north b h)) (λ (p : Point) w. refl)

  below : (b : Box) → IsSouthOf b q → (p : Point) → IsWithin (finer_box 2 b) p → p.1 ≤ℤ z.1
  below b h p w = let a = w.by_north in let c = to_south b h in omega (arith, linear, a, c)

  above : (b : Box) → IsSouthOf q b → (p : Point) → IsWithin (finer_box 2 b) p → z.1 <ℤ p.1
  above b h p w = let a = w.by_south in let c = to_north b h in omega (arith, linear, a, c)

  before : (b : Box) → IsWestOf b q → (p : Point) → IsWithin (finer_box 2 b) p → p.0 ≤ℤ z.0
  before b h p w = let a = w.by_east in let c = to_west b h in omega (arith, linear, a, c)

  west_way : (b : Box) → IsWestOf q b ⊎ (IsSouthOf b q ⊎ IsSouthOf q b) → AreSteps (λ (p : Point). is_above z.1 p.1) z (finer_box 2 b)
  west_way b (inl h) = east_steps (λ (p : Point). is_above z.1 p.1) z (finer_box 2 b) (to_east b h) (λ (p : Point) e. refl)
  west_way b (inr (inl h)) =
      same_steps (λ (p : Point). is_above z.1 p.1) z (finer_box 2 b) (pos 0) (none_south z (finer_box 2 b) (to_south b h)) (λ (p : Point) w. above_no z.1 p.1 (below b h p w))
  west_way b (inr (inr h)) =
      same_steps (λ (p : Point). is_above z.1 p.1) z (finer_box 2 b) (pos 1) (none_north z (finer_box 2 b) (to_north b h)) (λ (p : Point) w. above_yes z.1 p.1 (above b h p w))

  south_way : (b : Box) → IsSouthOf q b ⊎ (IsWestOf b q ⊎ IsWestOf q b) → AreSteps (south_open z) z (finer_box 2 b)
  south_way b (inl h) =
      same_steps (south_open z) z (finer_box 2 b) (pos 1) (none_north z (finer_box 2 b) (to_north b h)) (λ (p : Point) w. high_one z.0 z.1 p.0 p.1 (above b h p w))
  south_way b (inr (inl h)) =
      same_steps (south_open z) z (finer_box 2 b) (pos 1) (none_west z (finer_box 2 b) (to_west b h)) (λ (p : Point) w. west_one z.0 z.1 p.0 p.1 (before b h p w))
  south_way b (inr (inr h)) = east_steps (south_open z) z (finer_box 2 b) (to_east b h) (λ (p : Point) e. east_one z.0 z.1 p.0 p.1 e)

  north_way : (b : Box) → IsSouthOf b q ⊎ (IsWestOf b q ⊎ IsWestOf q b) → AreSteps (north_open z) z (finer_box 2 b)
  north_way b (inl h) =
      same_steps (north_open z) z (finer_box 2 b) (pos 0) (none_south z (finer_box 2 b) (to_south b h)) (λ (p : Point) w. low_zero z.0 z.1 p.0 p.1 (below b h p w))
  north_way b (inr (inl h)) =
      same_steps (north_open z) z (finer_box 2 b) (pos 0) (none_west z (finer_box 2 b) (to_west b h)) (λ (p : Point) w. west_zero z.0 z.1 p.0 p.1 (before b h p w))
  north_way b (inr (inr h)) = east_steps (north_open z) z (finer_box 2 b) (to_east b h) (λ (p : Point) e. east_zero z.0 z.1 p.0 p.1 e)

  pub way_out : (ps : List Piece) → IsOpen ps q → HasWayOut ps z
  way_out ps (inl (inl h)) = record {
    f = λ (p : Point). pos 0;
    steps =
        each_more (λ (p : Piece). IsWestOf p.box q ⊎ (IsSouthOf p.box q ⊎ IsSouthOf q p.box)) (λ (p : Piece). AreSteps (λ (x : Point). pos 0) z (finer_box 2 p.box))
        (λ (p : Piece) k. east_way p.box k) ps (each_from_all (λ (p : Piece). IsWestOf p.box q ⊎ (IsSouthOf p.box q ⊎ IsSouthOf q p.box)) ps h);
  }
  way_out ps (inl (inr h)) = record {
    f = λ (p : Point). is_above z.1 p.1;
    steps =
        each_more (λ (p : Piece). IsWestOf q p.box ⊎ (IsSouthOf p.box q ⊎ IsSouthOf q p.box)) (λ (p : Piece). AreSteps (λ (x : Point). is_above z.1 x.1) z (finer_box 2 p.box))
        (λ (p : Piece) k. west_way p.box k) ps (each_from_all (λ (p : Piece). IsWestOf q p.box ⊎ (IsSouthOf p.box q ⊎ IsSouthOf q p.box)) ps h);
  }
  way_out ps (inr (inl h)) = record {
    f = north_open z;
    steps =
        each_more (λ (p : Piece). IsSouthOf p.box q ⊎ (IsWestOf p.box q ⊎ IsWestOf q p.box)) (λ (p : Piece). AreSteps (north_open z) z (finer_box 2 p.box))
        (λ (p : Piece) k. north_way p.box k) ps (each_from_all (λ (p : Piece). IsSouthOf p.box q ⊎ (IsWestOf p.box q ⊎ IsWestOf q p.box)) ps h);
  }
  way_out ps (inr (inr h)) = record {
    f = south_open z;
    steps =
        each_more (λ (p : Piece). IsSouthOf q p.box ⊎ (IsWestOf p.box q ⊎ IsWestOf q p.box)) (λ (p : Piece). AreSteps (south_open z) z (finer_box 2 p.box))
        (λ (p : Piece) k. south_way p.box k) ps (each_from_all (λ (p : Piece). IsSouthOf q p.box ⊎ (IsWestOf p.box q ⊎ IsWestOf q p.box)) ps h);
  }

-- ---- closed lists

edge_steps : (ps : List Piece) (z : Point) (f : Point → ℤ) → Each (λ (p : Piece). AreSteps f z (finer_box 2 p.box)) ps → (e : Edge) → LiesIn ps e
    → crossing_on 2 z e.0 e.1 ≡ f (refined 2 e.1) -ℤ f (refined 2 e.0)
edge_steps [] z f h e k = absurd k
edge_steps (p ∷ ps) z f h e (inl k) = let w = lies_refined 2 p.box e k in h.0 (refined 2 e.0) (refined 2 e.1) w.0 w.1
edge_steps (p ∷ ps) z f h e (inr k) = edge_steps ps z f h.1 e k

pub closed_none : (ps : List Piece) (z : Point) → HasWayOut ps z → (c : List Point) → Each (LiesIn ps) (boundary c) → winding 2 z (boundary c) ≡ pos 0
closed_none ps z way c lies =
    sum_of_equal (λ (e : Edge). crossing_on 2 z e.0 e.1) (λ (e : Edge). way.f (refined 2 e.1) -ℤ way.f (refined 2 e.0)) (boundary c)
    (all_from_each (λ (e : Edge). crossing_on 2 z e.0 e.1 ≡ way.f (refined 2 e.1) -ℤ way.f (refined 2 e.0)) (boundary c)
    (each_more (LiesIn ps) (λ (e : Edge). crossing_on 2 z e.0 e.1 ≡ way.f (refined 2 e.1) -ℤ way.f (refined 2 e.0))
    (λ (e : Edge) k. edge_steps ps z way.f way.steps e k) (boundary c) lies))
    ∙ boundary_steps (λ (p : Point). way.f (refined 2 p)) c
