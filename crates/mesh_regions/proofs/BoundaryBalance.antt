-- Lemmas over points and lists: the boundary leaves each point as often as it enters it.
use Rattle.std.proofs.Common.{◌≡◌, ◌⊎◌, inl, inr, ⊎_elim, Bool, true, false, cond, ◌&&◌, List, [], ◌∷◌, refl, sym, ◌∙◌, ap, subst, arith}
use Rattle.std.specs.Prelude.{ℤ, pos, neg_ℤ, ◌+ℤ◌, ◌-ℤ◌, ◌*ℤ◌, ◌≤ℤ◌, ◌<ℤ◌, int_lt, int_le}
use Rattle.std.proofs.lemmas.Int.{ints, by_lt_z}
use Rattle.std.proofs.lemmas.Bool.{cases_Bool, or_right, both_ways}
use Rattle.mesh_plane.specs.Plane.{Point, Edge, turn}
use Rattle.mesh_plane.specs.Winding.{sum_of, crossing_of, crossing, total, IsBalanced, same_point}
use Rattle.mesh_plane.proofs.Whole.{linear, times_zero, mul_one, both_le}
use Rattle.mesh_plane.proofs.Ring.{ring, var, lit, ◌⊕◌, ◌⊖◌, ◌⊗◌}
use Rattle.mesh_plane.proofs.Crossings.{crossing_low, crossing_high}
use Rattle.mesh_plane.proofs.Balance.{growth, growth_of_balanced, balanced_at_points}
use Rattle.mesh_lattice.specs.Clean.{IsOn, IsClean, IsProper}
use Rattle.mesh_lattice.specs.Split.{back, same_ends, occurs, IsBetween}
use Rattle.mesh_lattice.specs.Counted.{bit, net}
use Rattle.mesh_lattice.specs.Boundary.{winding_beside, left_winding, right_winding, IsBoundary}
use Rattle.mesh_plane.proofs.PointExprs.{point_var, coordinates, turned}
use Rattle.mesh_plane.proofs.Grids.{scale, part, winds}
use Rattle.mesh_lattice.proofs.Each.{Each}
use Rattle.mesh_regions.proofs.SidesClear.{Meeting, meeting_of}
use Rattle.mesh_lattice.proofs.Keys.{Leans, Distinct, grouped, occurs_head, occurs_ends, less_apart}
use Rattle.mesh_regions.proofs.FinerGrids.{below_of, crossing_below, level_none, level_below_none, winds_finer}
use Rattle.mesh_regions.proofs.LineWindings.{Setting, inside_beside, above_place}
use Rattle.mesh_lattice.proofs.SidesBack.{crossing_back}
use Rattle.mesh_lattice.proofs.SidesBack.{rises_flat}
use Rattle.mesh_regions.proofs.BoundaryFill.{boundary_net, boundary_cover, crossing_below_back, fill_is, fill_is_below}
use Rattle.mesh_plane.proofs.Comparing.{decides_point, less_test, not_less_test}

-- 1 where a point at the height `v` and the column `c` is level with `h` and to the east of `x`
abbrev behind_at : ℤ → ℤ → ℤ → ℤ → ℤ
behind_at h x v c = bit ((int_le v h && int_le h v) && int_lt x c)

abbrev behind : Point → Point → ℤ
behind q v = behind_at q.1 q.0 v.1 v.0

-- what the two half-open crossings differ by, but for what the edge's ends behind the point make of it
abbrev lift : Point → Edge → ℤ
lift q e =
    (crossing q (scale (pos 2) e.0) (scale (pos 2) e.1) -ℤ crossing_below q (scale (pos 2) e.0) (scale (pos 2) e.1))
    -ℤ (behind q (scale (pos 2) e.0) -ℤ behind q (scale (pos 2) e.1))

lift_back : (q : Point) (e : Edge) → lift q (back e) ≡ neg_ℤ (lift q e)
lift_back q e = omega (arith, linear, crossing_back (pos 2) q e, crossing_below_back (pos 2) q e)

-- ---- heights of an edge upwards, bare
behind_apart : (h x v c : ℤ) → (v <ℤ h) ⊎ (h <ℤ v) → behind_at h x v c ≡ pos 0
behind_apart h x v c (inl l) = grind (arith, ints)
behind_apart h x v c (inr l) = grind (arith, ints)

behind_level : (h x v c : ℤ) → v ≡ h → behind_at h x v c ≡ bit (int_lt x c)
behind_level h x v c e = λ i. bit ((le_same v h e i && le_same h v (sym e) i) && int_lt x c)
  where
    le_same : (a b : ℤ) → a ≡ b → int_le a b ≡ true
    le_same a b e = grind (arith, ints)

crossing_inside : (a b h t : ℤ) → a <ℤ h → h <ℤ b → crossing_of a b h t ≡ below_of a b h t
crossing_inside a b h t low high = grind (arith, ints)

crossing_start : (a b h t : ℤ) → a ≡ h → h <ℤ b → crossing_of a b h t ≡ bit (int_lt (pos 0) t)
crossing_start a b h t low high = grind (arith, ints)

below_start : (a b h t : ℤ) → h ≤ℤ a → h <ℤ b → below_of a b h t ≡ pos 0
below_start a b h t low high = grind (arith, ints)

below_end : (a b h t : ℤ) → a <ℤ h → b ≡ h → below_of a b h t ≡ bit (int_lt (pos 0) t)
below_end a b h t low high = grind (arith, ints)

below_over : (a b h t : ℤ) → a <ℤ h → b <ℤ h → below_of a b h t ≡ pos 0
below_over a b h t low high = grind (arith, ints)

-- the turn of a point level with an end
start_turn : (p r : Point) (x : ℤ) → turn p r (x, p.1) ≡ (r.1 -ℤ p.1) *ℤ (p.0 -ℤ x)
start_turn p r x =
    ring (coordinates (p ∷ r ∷ []) (x ∷ [])) (turned (point_var 0) (point_var 1) (var 4, var 1)) ((var 3 ⊖ var 1) ⊗ (var 0 ⊖ var 4)) refl

end_turn : (p r : Point) (x : ℤ) → turn p r (x, r.1) ≡ (r.1 -ℤ p.1) *ℤ (r.0 -ℤ x)
end_turn p r x =
    ring (coordinates (p ∷ r ∷ []) (x ∷ [])) (turned (point_var 0) (point_var 1) (var 4, var 3)) ((var 3 ⊖ var 1) ⊗ (var 2 ⊖ var 4)) refl

abbrev Lift : Point → Point → Point → Type 0
Lift q p r = (crossing q p r -ℤ crossing_below q p r) -ℤ (behind q p -ℤ behind q r) ≡ pos 0

-- an edge upwards has no lift
lift_up : (q p r : Point) → p.1 <ℤ r.1 → Lift q p r
lift_up q p r up =
    by_lt_z q.1 p.1
    (λ (x : q.1 <ℤ p.1).
    omega (
      arith,
      linear,
      crossing_high p.1 r.1 q.1 (turn p r q) x (omega (arith, linear)),
      below_start p.1 r.1 q.1 (turn p r q) (omega (arith, linear)) (omega (arith, linear)),
      behind_apart q.1 q.0 p.1 p.0 (inr x),
      behind_apart q.1 q.0 r.1 r.0 (inr (omega (arith, linear))),
    ))
    (λ (x : p.1 ≤ℤ q.1).
    by_lt_z p.1 q.1
    (λ (y : p.1 <ℤ q.1).
    by_lt_z q.1 r.1
    (λ (z : q.1 <ℤ r.1).
    omega (arith, linear, crossing_inside p.1 r.1 q.1 (turn p r q) y z, behind_apart q.1 q.0 p.1 p.0 (inl y), behind_apart q.1 q.0 r.1 r.0 (inr z)))
    (λ (z : r.1 ≤ℤ q.1).
    by_lt_z r.1 q.1
    (λ (w : r.1 <ℤ q.1).
    omega (
      arith,
      linear,
      crossing_low p.1 r.1 q.1 (turn p r q) x z,
      below_over p.1 r.1 q.1 (turn p r q) y w,
      behind_apart q.1 q.0 p.1 p.0 (inl y),
      behind_apart q.1 q.0 r.1 r.0 (inl w),
    ))
    (λ (w : q.1 ≤ℤ r.1). at_end y (both_le r.1 q.1 z w))))
    (λ (y : q.1 ≤ℤ p.1). at_start (both_le p.1 q.1 x y)))
  where
    at_start : p.1 ≡ q.1 → Lift q p r
    at_start e =
        let sign : int_lt (pos 0) (turn p r q) ≡ int_lt q.0 p.0 =
        ap (λ (y : ℤ). int_lt (pos 0) (turn p r (q.0, y))) (sym e)
        ∙ (ap (λ (z : ℤ). int_lt (pos 0) z) (start_turn p r q.0) ∙ above_place (r.1 -ℤ p.1) p.0 q.0 (omega (arith, linear))) in
        omega (
          arith,
          linear,
          crossing_start p.1 r.1 q.1 (turn p r q) e (omega (arith, linear)),
          below_start p.1 r.1 q.1 (turn p r q) (omega (arith, linear)) (omega (arith, linear)),
          behind_level q.1 q.0 p.1 p.0 e,
          behind_apart q.1 q.0 r.1 r.0 (inr (omega (arith, linear))),
          ap bit sign,
        )

    at_end : p.1 <ℤ q.1 → r.1 ≡ q.1 → Lift q p r
    at_end y e =
        let sign : int_lt (pos 0) (turn p r q) ≡ int_lt q.0 r.0 =
        ap (λ (z : ℤ). int_lt (pos 0) (turn p r (q.0, z))) (sym e)
        ∙ (ap (λ (z : ℤ). int_lt (pos 0) z) (end_turn p r q.0) ∙ above_place (r.1 -ℤ p.1) r.0 q.0 (omega (arith, linear))) in
        omega (
          arith,
          linear,
          crossing_low p.1 r.1 q.1 (turn p r q) (omega (arith, linear)) (omega (arith, linear)),
          below_end p.1 r.1 q.1 (turn p r q) y e,
          behind_apart q.1 q.0 p.1 p.0 (inl y),
          behind_level q.1 q.0 r.1 r.0 e,
          ap bit sign,
        )

-- ---- a level segment that the point lies strictly inside of
pub record Over (q : Point) (s : Edge) : Type 0 where
  pub flat : s.0.1 ≡ s.1.1
  pub at_height : pos 2 *ℤ s.0.1 ≡ q.1
  pub west : (pos 2 *ℤ s.0.0) <ℤ q.0
  pub east : q.0 <ℤ (pos 2 *ℤ s.1.0)
  pub one : lift q s ≡ pos 1

pub data Lifted (q : Point) (s : Edge) : Type 0 where
  level_with : lift q s ≡ pos 0 → Lifted q s
  over : Over q s → Lifted q s

flat_lift : (q : Point) (s : Edge) → s.0.1 ≡ s.1.1 → lift q s ≡ neg_ℤ (behind q (scale (pos 2) s.0) -ℤ behind q (scale (pos 2) s.1))
flat_lift q s flat =
    let none : crossing q (scale (pos 2) s.0) (scale (pos 2) s.1) ≡ pos 0 =
    ap (λ (y : ℤ). crossing_of (pos 2 *ℤ y) (pos 2 *ℤ s.1.1) q.1 (turn (scale (pos 2) s.0) (scale (pos 2) s.1) q)) flat
    ∙ level_none (pos 2 *ℤ s.1.1) q.1 (turn (scale (pos 2) s.0) (scale (pos 2) s.1) q) in
    let none_below : crossing_below q (scale (pos 2) s.0) (scale (pos 2) s.1) ≡ pos 0 =
    ap (λ (y : ℤ). below_of (pos 2 *ℤ y) (pos 2 *ℤ s.1.1) q.1 (turn (scale (pos 2) s.0) (scale (pos 2) s.1) q)) flat
    ∙ level_below_none (pos 2 *ℤ s.1.1) q.1 (turn (scale (pos 2) s.0) (scale (pos 2) s.1) q) in
    omega (arith, linear, none, none_below)

twice_less : (a b : ℤ) → a <ℤ b → (pos 2 *ℤ a) <ℤ (pos 2 *ℤ b)
twice_less a b h = omega (arith, ints)

less_bit : (a b : ℤ) → a <ℤ b → bit (int_lt a b) ≡ pos 1
less_bit a b h = ap bit (less_test a b h)

least_bit : (a b : ℤ) → b ≤ℤ a → bit (int_lt a b) ≡ pos 0
least_bit a b h = ap bit (not_less_test a b h)

lifted_of : (x y : ℤ) (s : Edge) → Leans s → Lifted ((pos 2 *ℤ x) +ℤ pos 1, pos 2 *ℤ y) s
lifted_of x y s (inl up) =
    level_with (lift_up ((pos 2 *ℤ x) +ℤ pos 1, pos 2 *ℤ y) (scale (pos 2) s.0) (scale (pos 2) s.1) (twice_less s.0.1 s.1.1 up))
lifted_of x y s (inr flat) =
    let q : Point = ((pos 2 *ℤ x) +ℤ pos 1, pos 2 *ℤ y) in
    let h : ℤ = pos 2 *ℤ y in
    let c : ℤ = (pos 2 *ℤ x) +ℤ pos 1 in
    let first : pos 2 *ℤ s.0.1 ≡ pos 2 *ℤ s.1.1 = ap (λ (z : ℤ). pos 2 *ℤ z) flat.0 in
    let lifts : lift q s ≡ neg_ℤ (behind_at h c (pos 2 *ℤ s.0.1) (pos 2 *ℤ s.0.0) -ℤ behind_at h c (pos 2 *ℤ s.1.1) (pos 2 *ℤ s.1.0)) = flat_lift q s flat.0 in
    let apart = λ (o : ((pos 2 *ℤ s.1.1) <ℤ h) ⊎ (h <ℤ (pos 2 *ℤ s.1.1))).
    (let b = behind_apart h c (pos 2 *ℤ s.1.1) (pos 2 *ℤ s.1.0) o in
    let a = ap (λ (v : ℤ). behind_at h c v (pos 2 *ℤ s.0.0)) first ∙ behind_apart h c (pos 2 *ℤ s.1.1) (pos 2 *ℤ s.0.0) o in
    let e : lift q s ≡ pos 0 = omega (arith, linear, lifts, a, b) in e) in
    by_lt_z (pos 2 *ℤ s.1.1) h
    (λ (o : (pos 2 *ℤ s.1.1) <ℤ h). level_with (apart (inl o)))
    (λ (o : h ≤ℤ (pos 2 *ℤ s.1.1)).
    by_lt_z h (pos 2 *ℤ s.1.1)
    (λ (o' : h <ℤ (pos 2 *ℤ s.1.1)). level_with (apart (inr o')))
    (λ (o' : (pos 2 *ℤ s.1.1) ≤ℤ h).
    let same : pos 2 *ℤ s.1.1 ≡ h = both_le (pos 2 *ℤ s.1.1) h o' o in
    let b = behind_level h c (pos 2 *ℤ s.1.1) (pos 2 *ℤ s.1.0) same in
    let a = behind_level h c (pos 2 *ℤ s.0.1) (pos 2 *ℤ s.0.0) (first ∙ same) in
    by_lt_z c (pos 2 *ℤ s.0.0)
    (λ (l : c <ℤ (pos 2 *ℤ s.0.0)).
    level_with (omega (arith, linear, lifts, a, b, less_bit c (pos 2 *ℤ s.0.0) l, less_bit c (pos 2 *ℤ s.1.0) (further c (pos 2 *ℤ s.0.0) (pos 2 *ℤ s.1.0) l (twice_less s.0.0 s.1.0 flat.1)))))
    (λ (l : (pos 2 *ℤ s.0.0) ≤ℤ c).
    by_lt_z c (pos 2 *ℤ s.1.0)
    (λ (k : c <ℤ (pos 2 *ℤ s.1.0)).
    over (record {
      flat = flat.0;
      at_height = first ∙ same;
      west = strict s.0.0 x l;
      east = k;
      one = omega (arith, linear, lifts, a, b, least_bit c (pos 2 *ℤ s.0.0) l, less_bit c (pos 2 *ℤ s.1.0) k);
    }))
    (λ (k : (pos 2 *ℤ s.1.0) ≤ℤ c). level_with (omega (arith, linear, lifts, a, b, least_bit c (pos 2 *ℤ s.0.0) l, least_bit c (pos 2 *ℤ s.1.0) k))))))
  where
    further : (a b c : ℤ) → a <ℤ b → b <ℤ c → a <ℤ c
    further a b c h k = omega (arith, ints)

    strict : (a x : ℤ) → (pos 2 *ℤ a) ≤ℤ ((pos 2 *ℤ x) +ℤ pos 1) → (pos 2 *ℤ a) <ℤ ((pos 2 *ℤ x) +ℤ pos 1)
    strict a x h = omega (arith, ints)

-- ---- at most one segment is over the point
over_on : (q : Point) (s : Edge) → Over q s → IsOn (scale (pos 2) s.0, scale (pos 2) s.1) q
over_on q s o =
    let second : pos 2 *ℤ s.1.1 ≡ q.1 = sym (ap (λ (z : ℤ). pos 2 *ℤ z) o.flat) ∙ o.at_height in
    record {
      on_line =
          (λ i. turn (pos 2 *ℤ s.0.0, o.at_height i) (pos 2 *ℤ s.1.0, second i) q)
          ∙ ring (q.0 ∷ q.1 ∷ (pos 2 *ℤ s.0.0) ∷ (pos 2 *ℤ s.1.0) ∷ []) (turned (var 2, var 1) (var 3, var 1) (var 0, var 1)) (lit (pos 0)) refl;
      in_box = record {
        by_x = between (pos 2 *ℤ s.0.0) q.0 (pos 2 *ℤ s.1.0) o.west o.east;
        by_y = level (pos 2 *ℤ s.0.1) q.1 (pos 2 *ℤ s.1.1) o.at_height second;
      };
    }
  where
    between : (a z b : ℤ) → a <ℤ z → z <ℤ b → IsBetween a z b
    between a z b h k = record {
      up = λ (x : a ≤ℤ b). (let u : a ≤ℤ z = omega (arith, ints) in let v : z ≤ℤ b = omega (arith, ints) in (u, v));
      down = λ (x : b ≤ℤ a). absurd (omega (arith, ints));
    }

    level : (a z b : ℤ) → a ≡ z → b ≡ z → IsBetween a z b
    level a z b h k = record {
      up = λ (x : a ≤ℤ b). (let u : a ≤ℤ z = omega (arith, ints) in let v : z ≤ℤ b = omega (arith, ints) in (u, v));
      down = λ (x : b ≤ℤ a). (let u : b ≤ℤ z = omega (arith, ints) in let v : z ≤ℤ a = omega (arith, ints) in (u, v));
    }

two_over : (q : Point) (s e : Edge) → Meeting s.0 s.1 e.0 e.1 → Over q s → Over q e → ⊥
two_over q s e meet o k =
    ⊎_elim
    (λ (x : q ≡ scale (pos 2) s.0). less_apart (pos 2 *ℤ s.0.0) q.0 o.west (sym (ap (λ (v : Point). v.0) x)))
    (λ (x : q ≡ scale (pos 2) s.1). less_apart q.0 (pos 2 *ℤ s.1.0) o.east (ap (λ (v : Point). v.0) x))
    (meet.at_end (pos 2) (omega (arith, ints)) q (over_on q s o) (over_on q e k))

-- either no segment of the list has a lift, or one alone
pub data Alone (q : Point) (rs : List Edge) : Type 0 where
  nowhere : ((n : Edge → ℤ) → sum_of (λ (s : Edge). n s *ℤ lift q s) rs ≡ pos 0) → Alone q rs
  at_one : (s : Edge) → Over q s → Leans s → occurs s rs ≡ true → ((n : Edge → ℤ) → sum_of (λ (e : Edge). n e *ℤ lift q e) rs ≡ n s) → Alone q rs

times_one : (n z : ℤ) → z ≡ pos 1 → n *ℤ z ≡ n
times_one n z e = ap (λ (x : ℤ). n *ℤ x) e ∙ mul_one n

alone_of : (x y : ℤ) (es : List Edge) → IsClean es → (rs : List Edge) → ((s : Edge) → occurs s rs ≡ true → occurs s es ≡ true) → Each Leans rs → Distinct rs →
    Alone ((pos 2 *ℤ x) +ℤ pos 1, pos 2 *ℤ y) rs
alone_of x y es clean [] known lean distinct = nowhere (λ (n : Edge → ℤ). refl)
alone_of x y es clean (s ∷ rs) known lean distinct =
    by (lifted_of x y s lean.0) (alone_of x y es clean rs (λ (e : Edge) (o : occurs e rs ≡ true). known e (or_right (same_ends e s) (occurs e rs) o)) lean.1 distinct.1)
  where
    by : Lifted ((pos 2 *ℤ x) +ℤ pos 1, pos 2 *ℤ y) s → Alone ((pos 2 *ℤ x) +ℤ pos 1, pos 2 *ℤ y) rs → Alone ((pos 2 *ℤ x) +ℤ pos 1, pos 2 *ℤ y) (s ∷ rs)
    by (level_with z) (nowhere f) =
        nowhere (λ (n : Edge → ℤ). omega (arith, linear, times_zero (n s) (lift ((pos 2 *ℤ x) +ℤ pos 1, pos 2 *ℤ y) s) z, f n))
    by (level_with z) (at_one e o l st f) =
        at_one e o l (or_right (same_ends e s) (occurs e rs) st) (λ (n : Edge → ℤ). omega (arith, linear, times_zero (n s) (lift ((pos 2 *ℤ x) +ℤ pos 1, pos 2 *ℤ y) s) z, f n))
    by (over o) (nowhere f) =
        at_one s o lean.0 (occurs_head s rs) (λ (n : Edge → ℤ). omega (arith, linear, times_one (n s) (lift ((pos 2 *ℤ x) +ℤ pos 1, pos 2 *ℤ y) s) o.one, f n))
    by (over o) (at_one e k l st f) =
        absurd (two_over ((pos 2 *ℤ x) +ℤ pos 1, pos 2 *ℤ y) s e
        (meeting_of es clean s e (known s (occurs_head s rs)) (known e (or_right (same_ends e s) (occurs e rs) st)) (differ e st)) o k)
      where
        differ : (e : Edge) → occurs e rs ≡ true → same_ends s e ≡ false
        differ e st =
            ⊎_elim (λ (t : same_ends s e ≡ true). absurd (both_ways (occurs s rs) distinct.0 (occurs_ends s e rs t ∙ st))) (λ (f : same_ends s e ≡ false). f) (cases_Bool (same_ends s e))

-- the winding at a point that a level segment is over is that above the segment
over_beside : (q : Point) (es : List Edge) → IsBalanced es → IsClean es → IsProper es → (s : Edge) → occurs s es ≡ true → Over q s →
    winds (pos 2) q es ≡ winding_beside es s
over_beside q es balanced clean proper s stands o =
    let d : ℤ = s.1.0 -ℤ s.0.0 in
    let t : ℤ = q.0 -ℤ (pos 2 *ℤ s.0.0) in
    let low : pos 0 <ℤ t = omega (arith, linear, o.west) in
    let high : t <ℤ (d *ℤ pos 2) = omega (arith, linear, o.east, widths s.0.0 s.1.0) in
    let some : pos 0 <ℤ d = positive d (omega (arith, linear)) in
    let x : ((d *ℤ pos 2) *ℤ s.0.0) +ℤ (t *ℤ d) ≡ d *ℤ q.0 =
    ring (s.0.0 ∷ s.1.0 ∷ q.0 ∷ []) ((((var 1 ⊖ var 0) ⊗ lit (pos 2)) ⊗ var 0) ⊕ ((var 2 ⊖ (lit (pos 2) ⊗ var 0)) ⊗ (var 1 ⊖ var 0))) ((var 1 ⊖ var 0) ⊗ var 2) refl in
    let y : ((d *ℤ pos 2) *ℤ s.0.1) +ℤ (t *ℤ (s.1.1 -ℤ s.0.1)) ≡ d *ℤ q.1 =
    ap (λ (z : ℤ). ((d *ℤ pos 2) *ℤ s.0.1) +ℤ (t *ℤ (z -ℤ s.0.1))) (sym o.flat)
    ∙ (ring (d ∷ t ∷ s.0.1 ∷ []) (((var 0 ⊗ lit (pos 2)) ⊗ var 2) ⊕ (var 1 ⊗ (var 2 ⊖ var 2))) (var 0 ⊗ (lit (pos 2) ⊗ var 2)) refl
    ∙ ap (λ (z : ℤ). d *ℤ z) o.at_height) in
    let point : part (d *ℤ pos 2) t s.0 s.1 ≡ scale d q = λ i. (x i, y i) in
    sym (winds_finer d (pos 2) q es some)
    ∙ (ap (λ (z : Point). winds (d *ℤ pos 2) z es) (sym point) ∙ inside_beside d t es balanced clean proper s stands low high)
  where
    widths : (a b : ℤ) → (b -ℤ a) *ℤ pos 2 ≡ (pos 2 *ℤ b) -ℤ (pos 2 *ℤ a)
    widths a b = ring (a ∷ b ∷ []) ((var 1 ⊖ var 0) ⊗ lit (pos 2)) ((lit (pos 2) ⊗ var 1) ⊖ (lit (pos 2) ⊗ var 0)) refl

    positive : (d : ℤ) → pos 0 <ℤ (d *ℤ pos 2) → pos 0 <ℤ d
    positive d h = omega (arith, ints)

-- ---- sums over a whole list
abbrev above_sum : Point → List Edge → ℤ
above_sum q es = sum_of (λ (e : Edge). crossing q (scale (pos 2) e.0) (scale (pos 2) e.1)) es

abbrev below_sum : Point → List Edge → ℤ
below_sum q es = sum_of (λ (e : Edge). crossing_below q (scale (pos 2) e.0) (scale (pos 2) e.1)) es

-- how often a list leaves points behind `q` less how often it enters them
abbrev left_behind : Point → List Edge → ℤ
left_behind q es = total (growth (λ (v : Point). behind q (scale (pos 2) v))) es

lift_sum : (q : Point) (es : List Edge) → sum_of (lift q) es ≡ (above_sum q es -ℤ below_sum q es) +ℤ left_behind q es
lift_sum q [] = refl
lift_sum q (e ∷ es) = omega (arith, linear, lift_sum q es)

nothing_behind : (x y : ℤ) (es rs bs : List Edge) (fill : ℤ → Bool) → Setting es rs → IsBoundary es fill bs → fill (pos 0) ≡ false →
    left_behind ((pos 2 *ℤ x) +ℤ pos 1, pos 2 *ℤ y) bs ≡ pos 0
nothing_behind x y es rs bs fill set is empty =
    by (alone_of x y es set.clean rs known set.keys.leaning set.keys.distinct)
  where
    eastwards : (a b c : ℤ) → (pos 2 *ℤ a) <ℤ c → c <ℤ (pos 2 *ℤ b) → a <ℤ b
    eastwards a b c h k = omega (arith, ints)

    known : (s : Edge) → occurs s rs ≡ true → occurs s es ≡ true
    known s o = sym (set.keys.same s) ∙ o

    own : (q : Point) → sum_of (lift q) es ≡ sum_of (λ (s : Edge). net s es *ℤ lift q s) rs
    own q = grouped (lift q) (lift_back q) rs set.keys.leaning set.keys.distinct es (λ (e : Edge) (o : occurs e es ≡ true). set.keys.same e ∙ o)

    outer : (q : Point) → sum_of (lift q) bs ≡ sum_of (λ (s : Edge). net s bs *ℤ lift q s) rs
    outer q = grouped (lift q) (lift_back q) rs set.keys.leaning set.keys.distinct bs (λ (e : Edge) (o : occurs e bs ≡ true). set.keys.same e ∙ boundary_cover es bs fill is e o)

    by : Alone ((pos 2 *ℤ x) +ℤ pos 1, pos 2 *ℤ y) rs → left_behind ((pos 2 *ℤ x) +ℤ pos 1, pos 2 *ℤ y) bs ≡ pos 0
    by (nowhere f) =
        let q : Point = ((pos 2 *ℤ x) +ℤ pos 1, pos 2 *ℤ y) in
        let even : above_sum q es ≡ below_sum q es =
        omega (arith, linear, lift_sum q es, own q, f (λ (s : Edge). net s es), growth_of_balanced es set.balanced (λ (v : Point). behind q (scale (pos 2) v))) in
        let fills : bit (fill (above_sum q es)) ≡ bit (fill (below_sum q es)) = ap (λ (z : ℤ). bit (fill z)) even in
        omega (
          arith,
          linear,
          lift_sum q bs,
          outer q,
          f (λ (s : Edge). net s bs),
          fills,
          fill_is es rs bs fill set is empty (pos 2) q (omega (arith, ints)),
          fill_is_below es rs bs fill set is empty (pos 2) q (omega (arith, ints)),
        )
    by (at_one s o lean stands f) =
        let q : Point = ((pos 2 *ℤ x) +ℤ pos 1, pos 2 *ℤ y) in
        let in_es : occurs s es ≡ true = known s stands in
        let sides = rises_flat s o.flat (eastwards s.0.0 s.1.0 q.0 o.west o.east) in
        let left : left_winding es s ≡ winding_beside es s = λ i. cond (sides.0 i) (winding_beside es s +ℤ net s es) (winding_beside es s) in
        let right : right_winding es s ≡ winding_beside es s -ℤ net s es = λ i. cond (sides.0 i) (winding_beside es s) (winding_beside es s -ℤ net s es) in
        let above : above_sum q es ≡ winding_beside es s = over_beside q es set.balanced set.clean set.proper s in_es o in
        let below : below_sum q es ≡ winding_beside es s -ℤ net s es =
        omega (arith, linear, lift_sum q es, own q, f (λ (e : Edge). net e es), above, growth_of_balanced es set.balanced (λ (v : Point). behind q (scale (pos 2) v))) in
        let count : net s bs ≡ bit (fill (winding_beside es s)) -ℤ bit (fill (winding_beside es s -ℤ net s es)) =
        boundary_net es bs fill is s lean in_es ∙ (λ i. bit (fill (left i)) -ℤ bit (fill (right i))) in
        omega (
          arith,
          linear,
          lift_sum q bs,
          outer q,
          f (λ (e : Edge). net e bs),
          count,
          fill_is es rs bs fill set is empty (pos 2) q (omega (arith, ints)) ∙ ap (λ (z : ℤ). bit (fill z)) above,
          fill_is_below es rs bs fill set is empty (pos 2) q (omega (arith, ints)) ∙ ap (λ (z : ℤ). bit (fill z)) below,
        )

-- ---- one point alone
-- what stands behind the place west of a point, and not behind the point, is the point
one_point : (p v : Point) →
    behind ((pos 2 *ℤ (p.0 -ℤ pos 1)) +ℤ pos 1, pos 2 *ℤ p.1) (scale (pos 2) v) -ℤ behind ((pos 2 *ℤ p.0) +ℤ pos 1, pos 2 *ℤ p.1) (scale (pos 2) v)
    ≡ cond (same_point p v) (pos 1) (pos 0)
one_point p v =
    ⊎_elim
    (λ (t : same_point p v ≡ true).
    subst (λ (w : Point). behind ((pos 2 *ℤ (p.0 -ℤ pos 1)) +ℤ pos 1, pos 2 *ℤ p.1) (scale (pos 2) w) -ℤ behind ((pos 2 *ℤ p.0) +ℤ pos 1, pos 2 *ℤ p.1) (scale (pos 2) w)
    ≡ cond (same_point p v) (pos 1) (pos 0)) ((decides_point p v).0 t)
    (own p.0 p.1 ∙ sym (ap (λ (b : Bool). bit b) t)))
    (λ (f : same_point p v ≡ false).
    other p.0 p.1 v.0 v.1 (λ (e : (p.0 ≡ v.0) × (p.1 ≡ v.1)). both_ways (same_point p v) f ((decides_point p v).1 (λ i. (e.0 i, e.1 i)))) ∙ sym (ap (λ (b : Bool). bit b) f))
    (cases_Bool (same_point p v))
  where
    own : (x y : ℤ) → behind_at (pos 2 *ℤ y) ((pos 2 *ℤ (x -ℤ pos 1)) +ℤ pos 1) (pos 2 *ℤ y) (pos 2 *ℤ x) -ℤ behind_at (pos 2 *ℤ y) ((pos 2 *ℤ x) +ℤ pos 1) (pos 2 *ℤ y) (pos 2 *ℤ x) ≡ pos 1
    own x y =
        omega (
          arith,
          linear,
          behind_level (pos 2 *ℤ y) ((pos 2 *ℤ (x -ℤ pos 1)) +ℤ pos 1) (pos 2 *ℤ y) (pos 2 *ℤ x) refl,
          behind_level (pos 2 *ℤ y) ((pos 2 *ℤ x) +ℤ pos 1) (pos 2 *ℤ y) (pos 2 *ℤ x) refl,
          less_bit ((pos 2 *ℤ (x -ℤ pos 1)) +ℤ pos 1) (pos 2 *ℤ x) (left x),
          least_bit ((pos 2 *ℤ x) +ℤ pos 1) (pos 2 *ℤ x) (right x),
        )
      where
        left : (x : ℤ) → ((pos 2 *ℤ (x -ℤ pos 1)) +ℤ pos 1) <ℤ (pos 2 *ℤ x)
        left x = omega (arith, ints)

        right : (x : ℤ) → (pos 2 *ℤ x) ≤ℤ ((pos 2 *ℤ x) +ℤ pos 1)
        right x = omega (arith, ints)

    other : (x y a b : ℤ) → ((x ≡ a) × (y ≡ b) → ⊥) →
        behind_at (pos 2 *ℤ y) ((pos 2 *ℤ (x -ℤ pos 1)) +ℤ pos 1) (pos 2 *ℤ b) (pos 2 *ℤ a) -ℤ behind_at (pos 2 *ℤ y) ((pos 2 *ℤ x) +ℤ pos 1) (pos 2 *ℤ b) (pos 2 *ℤ a) ≡ pos 0
    other x y a b apart =
        by_lt_z y b
        (λ (h : y <ℤ b).
        omega (arith, linear, behind_apart (pos 2 *ℤ y) ((pos 2 *ℤ (x -ℤ pos 1)) +ℤ pos 1) (pos 2 *ℤ b) (pos 2 *ℤ a) (inr (twice_less y b h)), behind_apart (pos 2 *ℤ y) ((pos 2 *ℤ x) +ℤ pos 1) (pos 2 *ℤ b) (pos 2 *ℤ a) (inr (twice_less y b h))))
        (λ (h : b ≤ℤ y).
        by_lt_z b y
        (λ (k : b <ℤ y).
        omega (arith, linear, behind_apart (pos 2 *ℤ y) ((pos 2 *ℤ (x -ℤ pos 1)) +ℤ pos 1) (pos 2 *ℤ b) (pos 2 *ℤ a) (inl (twice_less b y k)), behind_apart (pos 2 *ℤ y) ((pos 2 *ℤ x) +ℤ pos 1) (pos 2 *ℤ b) (pos 2 *ℤ a) (inl (twice_less b y k))))
        (λ (k : y ≤ℤ b).
        let e : y ≡ b = both_le y b k h in
        let l : pos 2 *ℤ b ≡ pos 2 *ℤ y = ap (λ (z : ℤ). pos 2 *ℤ z) (sym e) in
        omega (
          arith,
          linear,
          behind_level (pos 2 *ℤ y) ((pos 2 *ℤ (x -ℤ pos 1)) +ℤ pos 1) (pos 2 *ℤ b) (pos 2 *ℤ a) l,
          behind_level (pos 2 *ℤ y) ((pos 2 *ℤ x) +ℤ pos 1) (pos 2 *ℤ b) (pos 2 *ℤ a) l,
          ap bit (column x a (λ (c : x ≡ a). apart (c, e))),
        )))
      where
        column : (x a : ℤ) → (x ≡ a → ⊥) → int_lt ((pos 2 *ℤ (x -ℤ pos 1)) +ℤ pos 1) (pos 2 *ℤ a) ≡ int_lt ((pos 2 *ℤ x) +ℤ pos 1) (pos 2 *ℤ a)
        column x a differ =
            by_lt_z x a
            (λ (h : x <ℤ a). sides ((pos 2 *ℤ (x -ℤ pos 1)) +ℤ pos 1) ((pos 2 *ℤ x) +ℤ pos 1) (pos 2 *ℤ a) (low x a h) (high x a h))
            (λ (h : a ≤ℤ x).
            by_lt_z a x
            (λ (k : a <ℤ x). neither ((pos 2 *ℤ (x -ℤ pos 1)) +ℤ pos 1) ((pos 2 *ℤ x) +ℤ pos 1) (pos 2 *ℤ a) (low_none x a k) (high_none x a k))
            (λ (k : x ≤ℤ a). absurd (differ (both_le x a k h))))
          where
            low : (x a : ℤ) → x <ℤ a → ((pos 2 *ℤ (x -ℤ pos 1)) +ℤ pos 1) <ℤ (pos 2 *ℤ a)
            low x a h = omega (arith, ints)

            high : (x a : ℤ) → x <ℤ a → ((pos 2 *ℤ x) +ℤ pos 1) <ℤ (pos 2 *ℤ a)
            high x a h = omega (arith, ints)

            low_none : (x a : ℤ) → a <ℤ x → (pos 2 *ℤ a) ≤ℤ ((pos 2 *ℤ (x -ℤ pos 1)) +ℤ pos 1)
            low_none x a h = omega (arith, ints)

            high_none : (x a : ℤ) → a <ℤ x → (pos 2 *ℤ a) ≤ℤ ((pos 2 *ℤ x) +ℤ pos 1)
            high_none x a h = omega (arith, ints)

            sides : (a b c : ℤ) → a <ℤ c → b <ℤ c → int_lt a c ≡ int_lt b c
            sides a b c h k = grind (arith, ints)

            neither : (a b c : ℤ) → c ≤ℤ a → c ≤ℤ b → int_lt a c ≡ int_lt b c
            neither a b c h k = grind (arith, ints)

one_growth : (p : Point) (es : List Edge) →
    left_behind ((pos 2 *ℤ (p.0 -ℤ pos 1)) +ℤ pos 1, pos 2 *ℤ p.1) es -ℤ left_behind ((pos 2 *ℤ p.0) +ℤ pos 1, pos 2 *ℤ p.1) es
    ≡ total (growth (λ (v : Point). cond (same_point p v) (pos 1) (pos 0))) es
one_growth p [] = refl
one_growth p (e ∷ es) = omega (arith, linear, one_point p e.0, one_point p e.1, one_growth p es)

-- the boundary is balanced
pub boundary_is_balanced : (es rs bs : List Edge) (fill : ℤ → Bool) → Setting es rs → IsBoundary es fill bs → fill (pos 0) ≡ false → IsBalanced bs
boundary_is_balanced es rs bs fill set is empty =
    balanced_at_points bs (λ (p : Point).
    let west = nothing_behind (p.0 -ℤ pos 1) p.1 es rs bs fill set is empty in
    let here = nothing_behind p.0 p.1 es rs bs fill set is empty in
    omega (arith, linear, one_growth p bs, west, here))
