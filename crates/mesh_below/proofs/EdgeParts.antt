-- Lemmas over points: parts of an edge, points of one line, and where two edges cross.
use Rattle.std.proofs.Common.{◌≡◌, inl, inr, ⊎_elim, ℕ, ◌<◌, [], ◌∷◌, refl, sym, ◌∙◌, ap, subst, arith}
use Rattle.std.specs.Prelude.{ℤ, pos, neg_ℤ, ◌+ℤ◌, ◌-ℤ◌, ◌*ℤ◌, ◌≤ℤ◌, ◌<ℤ◌}
use lib.IntN.{*ℤ_comm}
use Rattle.std.proofs.lemmas.Int.{ints}
use Rattle.mesh_plane.specs.Plane.{Point, Edge, turn}
use Rattle.mesh_plane.specs.Rounding.{rounded}
use Rattle.mesh_plane.specs.Winding.{refined}
use Rattle.mesh_plane.proofs.Crossings.{turn_flip, turn_refined, turn_refined_flat}
use Rattle.mesh_plane.proofs.Grids.{scale, part}
use Rattle.mesh_plane.proofs.LineTurns.{line_turn}
use Rattle.mesh_plane.proofs.PointExprs.{point_var, coordinates, turned}
use Rattle.mesh_plane.proofs.Ring.{ring, var, neg, ◌⊕◌, ◌⊖◌, ◌⊗◌}
use Rattle.mesh_plane.proofs.Rounding.{rounded_multiple}
use Rattle.mesh_plane.proofs.Whole.{linear, factor, times_zero, mul_le_mul_left, le_of_mul_le_mul}
use Rattle.mesh_lattice.specs.Clean.{IsOn, refined_edge}
use Rattle.mesh_lattice.specs.Split.{IsBetween, AreOpposite, IsCrossing, rounded_quotient, rounded_crossing}
use Rattle.mesh_lattice.proofs.Boxes.{one_crossing}
use Rattle.mesh_lattice.proofs.KeptBySplits.{box_trans}
use Rattle.mesh_regions.proofs.SidesClear.{on_part, four_turns, natural}
use Rattle.mesh_below.specs.Meeting.{AreOnOneLine, IsWhole}

-- ---- points of one line

line_x : (g h p r z : Point) →
    (r.0 -ℤ p.0) *ℤ turn g h z ≡ (((r.0 -ℤ p.0) *ℤ turn g h p) +ℤ ((z.0 -ℤ p.0) *ℤ (turn g h r -ℤ turn g h p))) +ℤ ((h.0 -ℤ g.0) *ℤ turn p r z)
line_x g h p r z =
    let l = turned (point_var 0) (point_var 1) in
    ring (coordinates (g ∷ h ∷ p ∷ r ∷ z ∷ []) [])
    ((var 6 ⊖ var 4) ⊗ l (point_var 4))
    ((((var 6 ⊖ var 4) ⊗ l (point_var 2)) ⊕ ((var 8 ⊖ var 4) ⊗ (l (point_var 3) ⊖ l (point_var 2)))) ⊕ ((var 2 ⊖ var 0) ⊗ turned (point_var 2) (point_var 3) (point_var 4)))
    refl

line_y : (g h p r z : Point) →
    (r.1 -ℤ p.1) *ℤ turn g h z ≡ (((r.1 -ℤ p.1) *ℤ turn g h p) +ℤ ((z.1 -ℤ p.1) *ℤ (turn g h r -ℤ turn g h p))) +ℤ ((h.1 -ℤ g.1) *ℤ turn p r z)
line_y g h p r z =
    let l = turned (point_var 0) (point_var 1) in
    ring (coordinates (g ∷ h ∷ p ∷ r ∷ z ∷ []) [])
    ((var 7 ⊖ var 5) ⊗ l (point_var 4))
    ((((var 7 ⊖ var 5) ⊗ l (point_var 2)) ⊕ ((var 9 ⊖ var 5) ⊗ (l (point_var 3) ⊖ l (point_var 2)))) ⊕ ((var 3 ⊖ var 1) ⊗ turned (point_var 2) (point_var 3) (point_var 4)))
    refl

none_left : (a b c s t u : ℤ) → s ≡ pos 0 → t ≡ pos 0 → u ≡ pos 0 → ((a *ℤ s) +ℤ (b *ℤ (t -ℤ s))) +ℤ (c *ℤ u) ≡ pos 0
none_left a b c s t u es et eu =
    let x = times_zero a s es in
    let y = times_zero b (t -ℤ s) (omega (arith, linear, es, et)) in
    let z = times_zero c u eu in
    omega (arith, linear, x, y, z)

-- what lies on the line of two points that lie on another line lies on that
pub line_through : (g h p r z : Point) → (p ≡ r → ⊥) → turn g h p ≡ pos 0 → turn g h r ≡ pos 0 → turn p r z ≡ pos 0 → turn g h z ≡ pos 0
line_through g h p r z differ first second on =
    ⊎_elim
    (λ (x : r.0 -ℤ p.0 ≡ pos 0).
    ⊎_elim
    (λ (y : r.1 -ℤ p.1 ≡ pos 0).
    let same_x : p.0 ≡ r.0 = omega (arith, ints) in
    let same_y : p.1 ≡ r.1 = omega (arith, ints) in
    absurd (differ (λ i. (same_x i, same_y i))))
    (λ (e : turn g h z ≡ pos 0). e)
    (factor (r.1 -ℤ p.1) (turn g h z) (line_y g h p r z ∙ none_left (r.1 -ℤ p.1) (z.1 -ℤ p.1) (h.1 -ℤ g.1) (turn g h p) (turn g h r) (turn p r z) first second on)))
    (λ (e : turn g h z ≡ pos 0). e)
    (factor (r.0 -ℤ p.0) (turn g h z) (line_x g h p r z ∙ none_left (r.0 -ℤ p.0) (z.0 -ℤ p.0) (h.0 -ℤ g.0) (turn g h p) (turn g h r) (turn p r z) first second on))

-- three points of one line
pub three_on_line : (g h a b c : Point) → (g ≡ h → ⊥) → turn g h a ≡ pos 0 → turn g h b ≡ pos 0 → turn g h c ≡ pos 0 → turn a b c ≡ pos 0
three_on_line g h a b c differ x y z =
    let first : turn a b g ≡ pos 0 = line_turn a b g h differ x y in
    let second : turn a b h ≡ pos 0 =
    line_turn a b h g (λ (e : h ≡ g). differ (sym e)) (omega (arith, linear, turn_flip g h a, x)) (omega (arith, linear, turn_flip g h b, y)) in
    line_through a b g h c differ first second z

-- ---- parts of an edge

-- both ends of the second edge lie on the first
abbrev pub IsPart : Edge → Edge → Type 0
IsPart g s = IsOn g s.0 × IsOn g s.1

-- a point of a part lies on the edge
pub on_whole : (g s : Edge) (z : Point) → (s.0 ≡ s.1 → ⊥) → IsPart g s → IsOn s z → IsOn g z
on_whole g s z differ h on = record {
  on_line = line_through g.0 g.1 s.0 s.1 z differ h.0.on_line h.1.on_line on.on_line;
  in_box = box_trans g s z h.0.in_box h.1.in_box on.in_box;
}

refined_between : (m a z b : ℤ) → pos 0 <ℤ m → IsBetween a z b → IsBetween (m *ℤ a) (m *ℤ z) (m *ℤ b)
refined_between m a z b some h = record {
  up = λ (k : (m *ℤ a) ≤ℤ (m *ℤ b)).
      let w = h.up (le_of_mul_le_mul m a b some k) in
      (mul_le_mul_left m a z (omega (arith, linear)) w.0, mul_le_mul_left m z b (omega (arith, linear)) w.1);
  down = λ (k : (m *ℤ b) ≤ℤ (m *ℤ a)).
      let w = h.down (le_of_mul_le_mul m b a some k) in
      (mul_le_mul_left m b z (omega (arith, linear)) w.0, mul_le_mul_left m z a (omega (arith, linear)) w.1);
}

between_refined : (m a z b : ℤ) → pos 0 <ℤ m → IsBetween (m *ℤ a) (m *ℤ z) (m *ℤ b) → IsBetween a z b
between_refined m a z b some h = record {
  up = λ (k : a ≤ℤ b).
      let w = h.up (mul_le_mul_left m a b (omega (arith, linear)) k) in
      (le_of_mul_le_mul m a z some w.0, le_of_mul_le_mul m z b some w.1);
  down = λ (k : b ≤ℤ a).
      let w = h.down (mul_le_mul_left m b a (omega (arith, linear)) k) in
      (le_of_mul_le_mul m b z some w.0, le_of_mul_le_mul m z a some w.1);
}

above_none : (m : ℕ) → 0 < m → pos 0 <ℤ pos m
above_none m some = omega (arith, ints)

-- on finer grids
pub on_refined : (m : ℕ) → 0 < m → (g : Edge) (a : Point) → IsOn g a → IsOn (refined_edge m g) (refined m a)
on_refined m some g a on = record {
  on_line = turn_refined_flat m g.0 g.1 a on.on_line;
  in_box = record {
    by_x = refined_between (pos m) g.0.0 a.0 g.1.0 (above_none m some) on.in_box.by_x;
    by_y = refined_between (pos m) g.0.1 a.1 g.1.1 (above_none m some) on.in_box.by_y;
  };
}

pub on_unrefined : (m : ℕ) → 0 < m → (g : Edge) (a : Point) → IsOn (refined_edge m g) (refined m a) → IsOn g a
on_unrefined m some g a on = record {
  on_line = flat;
  in_box = record {
    by_x = between_refined (pos m) g.0.0 a.0 g.1.0 (above_none m some) on.in_box.by_x;
    by_y = between_refined (pos m) g.0.1 a.1 g.1.1 (above_none m some) on.in_box.by_y;
  };
}
  where
    none : pos m ≡ pos 0 → ⊥
    none e = let above = above_none m some in omega (arith, linear, e, above)

    flat : turn g.0 g.1 a ≡ pos 0
    flat =
        ⊎_elim (λ (e : pos m ≡ pos 0). absurd (none e))
        (λ (e : pos m *ℤ turn g.0 g.1 a ≡ pos 0). ⊎_elim (λ (k : pos m ≡ pos 0). absurd (none k)) (λ (k : turn g.0 g.1 a ≡ pos 0). k) (factor (pos m) (turn g.0 g.1 a) e))
        (factor (pos m) (pos m *ℤ turn g.0 g.1 a) (sym (turn_refined m g.0 g.1 a) ∙ on.on_line))

refined_apart : (m : ℕ) → 0 < m → (p r : Point) → (p ≡ r → ⊥) → refined m p ≡ refined m r → ⊥
refined_apart m some p r differ e = differ (refined_same m some p r e)
  where
    same_number : (m : ℕ) → 0 < m → (a b : ℤ) → pos m *ℤ a ≡ pos m *ℤ b → a ≡ b
    same_number m some a b e =
        let up = le_of_mul_le_mul (pos m) a b (above_none m some) (omega (arith, linear, e)) in
        let down = le_of_mul_le_mul (pos m) b a (above_none m some) (omega (arith, linear, e)) in
        omega (arith, linear, up, down)

    refined_same : (m : ℕ) → 0 < m → (p r : Point) → refined m p ≡ refined m r → p ≡ r
    refined_same m some p r e =
        let x = same_number m some p.0 r.0 (ap (λ (v : Point). v.0) e) in
        let y = same_number m some p.1 r.1 (ap (λ (v : Point). v.1) e) in
        λ i. (x i, y i)

pub on_whole_refined : (m : ℕ) → 0 < m → (g s : Edge) (z : Point) → (s.0 ≡ s.1 → ⊥) → IsPart g s → IsOn (refined_edge m s) z → IsOn (refined_edge m g) z
on_whole_refined m some g s z differ h on =
    on_whole (refined_edge m g) (refined_edge m s) z (refined_apart m some s.0 s.1 differ) (on_refined m some g s.0 h.0, on_refined m some g s.1 h.1) on

-- ---- where two edges cross

-- on some grid a point lies on both edges, and their rounded crossing is that point rounded
record CrossesAt (e f : Edge) : Type 0 where
  grid : ℕ
  some : 0 < grid
  point : Point
  on_first : IsOn (refined_edge grid e) point
  on_second : IsOn (refined_edge grid f) point
  rounds : rounded_crossing e f ≡ (rounded point.0 grid, rounded point.1 grid)

-- the crossing, as a part of the one edge and of the other
common : (a b p r : Point) →
    part (turn p r a -ℤ turn p r b) (turn p r a) a b ≡ part (turn p r a -ℤ turn p r b) (neg_ℤ (turn a b p)) p r
common a b p r = λ i. (x i, y i)
  where
    x : (part (turn p r a -ℤ turn p r b) (turn p r a) a b).0 ≡ (part (turn p r a -ℤ turn p r b) (neg_ℤ (turn a b p)) p r).0
    x =
        ring (coordinates (a ∷ b ∷ p ∷ r ∷ []) [])
        (((turned (point_var 2) (point_var 3) (point_var 0) ⊖ turned (point_var 2) (point_var 3) (point_var 1)) ⊗ var 0) ⊕ (turned (point_var 2) (point_var 3) (point_var 0) ⊗ (var 2 ⊖ var 0)))
        (((turned (point_var 2) (point_var 3) (point_var 0) ⊖ turned (point_var 2) (point_var 3) (point_var 1)) ⊗ var 4) ⊕ (neg (turned (point_var 0) (point_var 1) (point_var 2)) ⊗ (var 6 ⊖ var 4)))
        refl

    y : (part (turn p r a -ℤ turn p r b) (turn p r a) a b).1 ≡ (part (turn p r a -ℤ turn p r b) (neg_ℤ (turn a b p)) p r).1
    y =
        ring (coordinates (a ∷ b ∷ p ∷ r ∷ []) [])
        (((turned (point_var 2) (point_var 3) (point_var 0) ⊖ turned (point_var 2) (point_var 3) (point_var 1)) ⊗ var 1) ⊕ (turned (point_var 2) (point_var 3) (point_var 0) ⊗ (var 3 ⊖ var 1)))
        (((turned (point_var 2) (point_var 3) (point_var 0) ⊖ turned (point_var 2) (point_var 3) (point_var 1)) ⊗ var 5) ⊕ (neg (turned (point_var 0) (point_var 1) (point_var 2)) ⊗ (var 7 ⊖ var 5)))
        refl

part_number : (a b n d : ℤ) → (a *ℤ d) +ℤ ((b -ℤ a) *ℤ n) ≡ (d *ℤ a) +ℤ (n *ℤ (b -ℤ a))
part_number a b n d = omega (arith, linear, *ℤ_comm a d, *ℤ_comm (b -ℤ a) n)

crosses_falling : (e f : Edge) → pos 0 <ℤ turn f.0 f.1 e.0 → turn f.0 f.1 e.1 <ℤ pos 0 → AreOpposite (turn e.0 e.1 f.0) (turn e.0 e.1 f.1) → CrossesAt e f
crosses_falling e f above below other =
    let size = natural d some in
    record {
      grid = size.size;
      some = size.above_none;
      point = part d (turn f.0 f.1 e.0) e.0 e.1;
      on_first = subst (λ (k : ℤ). IsOn (scale k e.0, scale k e.1) (part d (turn f.0 f.1 e.0) e.0 e.1)) size.same
          (on_part d (turn f.0 f.1 e.0) e.0 e.1 some (omega (arith, linear, above)) (omega (arith, linear, below)));
      on_second = subst (λ (k : ℤ). IsOn (scale k f.0, scale k f.1) (part d (turn f.0 f.1 e.0) e.0 e.1)) size.same
          (subst (λ (z : Point). IsOn (scale d f.0, scale d f.1) z) (sym (common e.0 e.1 f.0 f.1))
          (on_part d (neg_ℤ (turn e.0 e.1 f.0)) f.0 f.1 some sides.0 sides.1));
      rounds =
          let x = part_number e.0.0 e.1.0 (turn f.0 f.1 e.0) d in
          let y = part_number e.0.1 e.1.1 (turn f.0 f.1 e.0) d in
          (λ i. (rounded_quotient (x i) (size.same i), rounded_quotient (y i) (size.same i)));
    }
  where
    d : ℤ
    d = turn f.0 f.1 e.0 -ℤ turn f.0 f.1 e.1

    some : pos 0 <ℤ d
    some = omega (arith, linear, above, below)

    sides : (pos 0 ≤ℤ neg_ℤ (turn e.0 e.1 f.0)) × (neg_ℤ (turn e.0 e.1 f.0) ≤ℤ d)
    sides =
        let same = four_turns e.0 e.1 f.0 f.1 in
        ⊎_elim
        (λ (h : (pos 0 <ℤ turn e.0 e.1 f.0) × (turn e.0 e.1 f.1 <ℤ pos 0)).
        let one = h.0 in let two = h.1 in absurd (omega (arith, linear, same, one, two, above, below)))
        (λ (h : (turn e.0 e.1 f.0 <ℤ pos 0) × (pos 0 <ℤ turn e.0 e.1 f.1)).
        let one = h.0 in let two = h.1 in
        let low : pos 0 ≤ℤ neg_ℤ (turn e.0 e.1 f.0) = omega (arith, linear, one) in
        let high : neg_ℤ (turn e.0 e.1 f.0) ≤ℤ d = omega (arith, linear, same, two) in
        (low, high))
        other

crosses_at : (e f : Edge) → IsCrossing e f → CrossesAt e f
crosses_at e f h =
    ⊎_elim
    (λ (k : (pos 0 <ℤ turn f.0 f.1 e.0) × (turn f.0 f.1 e.1 <ℤ pos 0)). crosses_falling e f k.0 k.1 h.second_parted)
    (λ (k : (turn f.0 f.1 e.0 <ℤ pos 0) × (pos 0 <ℤ turn f.0 f.1 e.1)).
    let same = four_turns e.0 e.1 f.0 f.1 in
    ⊎_elim
    (λ (j : (pos 0 <ℤ turn e.0 e.1 f.0) × (turn e.0 e.1 f.1 <ℤ pos 0)).
    let r = crosses_falling f e j.0 j.1 h.first_parted in
    record { grid = r.grid; some = r.some; point = r.point; on_first = r.on_second; on_second = r.on_first; rounds = one_crossing e f h ∙ r.rounds })
    (λ (j : (turn e.0 e.1 f.0 <ℤ pos 0) × (pos 0 <ℤ turn e.0 e.1 f.1)).
    let a = k.0 in let b = k.1 in let c = j.0 in let d = j.1 in
    absurd (omega (arith, linear, same, a, b, c, d)))
    h.second_parted)
    h.first_parted

-- a whole point rounds to itself
rounds_whole : (m : ℕ) → 0 < m → (a : ℤ) → rounded (pos m *ℤ a) m ≡ a
rounds_whole m some a = ap (λ (z : ℤ). rounded z m) (*ℤ_comm (pos m) a) ∙ rounded_multiple a m some

-- the edges that two crossing edges are parts of do not lie on one line
parted_lines : (g h e f : Edge) → (g.0 ≡ g.1 → ⊥) → (h.0 ≡ h.1 → ⊥) → IsPart g e → IsPart h f → IsCrossing e f → AreOnOneLine g h → ⊥
parted_lines g h e f proper other first second crossing line =
    none
    (three_on_line g.0 g.1 e.0 e.1 f.0 proper first.0.on_line first.1.on_line (line_through g.0 g.1 h.0 h.1 f.0 other line.0 line.1 second.0.on_line))
    crossing.second_parted
  where
    none : turn e.0 e.1 f.0 ≡ pos 0 → AreOpposite (turn e.0 e.1 f.0) (turn e.0 e.1 f.1) → ⊥
    none z (inl k) = let s = k.0 in omega (arith, linear, z, s)
    none z (inr k) = let s = k.0 in omega (arith, linear, z, s)

-- where the edges that they are parts of meet in whole points alone, the rounded crossing lies on both of these
pub whole_crossing : (g h e f : Edge) → (g.0 ≡ g.1 → ⊥) → (h.0 ≡ h.1 → ⊥) → (e.0 ≡ e.1 → ⊥) → (f.0 ≡ f.1 → ⊥) → IsPart g e → IsPart h f → IsCrossing e f →
    ((AreOnOneLine g h → ⊥) → (m : ℕ) → 0 < m → (z : Point) → IsOn (refined_edge m g) z → IsOn (refined_edge m h) z → IsWhole m z) →
    IsOn g (rounded_crossing e f) × IsOn h (rounded_crossing e f)
whole_crossing g h e f gp hp ep fp first second crossing meet = (
  subst (IsOn g) (sym is) (on_unrefined c.grid c.some g p (subst (IsOn (refined_edge c.grid g)) whole.1 on_g)),
  subst (IsOn h) (sym is) (on_unrefined c.grid c.some h p (subst (IsOn (refined_edge c.grid h)) whole.1 on_h)),
)
  where
    c : CrossesAt e f
    c = crosses_at e f crossing

    on_g : IsOn (refined_edge c.grid g) c.point
    on_g = on_whole_refined c.grid c.some g e c.point ep first c.on_first

    on_h : IsOn (refined_edge c.grid h) c.point
    on_h = on_whole_refined c.grid c.some h f c.point fp second c.on_second

    whole : IsWhole c.grid c.point
    whole = meet (parted_lines g h e f gp hp first second crossing) c.grid c.some c.point on_g on_h

    p : Point
    p = whole.0

    is : rounded_crossing e f ≡ p
    is =
        c.rounds
        ∙ (λ i. (((ap (λ (v : Point). rounded v.0 c.grid) whole.1) ∙ rounds_whole c.grid c.some p.0) i, ((ap (λ (v : Point). rounded v.1 c.grid) whole.1) ∙ rounds_whole c.grid c.some p.1) i))
