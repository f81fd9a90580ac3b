-- Lemmas over points and lists: along one line that meets segments inside, a function of the winding gains at each segment
-- what it gains from one side to the other.
use Rattle.std.proofs.Common.{◌≡◌, ◌⊎◌, inl, inr, Bool, true, false, cond, List, [], ◌∷◌, refl, sym, ◌∙◌, ap, subst, arith}
use Rattle.std.specs.Prelude.{ℤ, pos, ◌+ℤ◌, ◌-ℤ◌, ◌*ℤ◌, ◌≤ℤ◌, ◌<ℤ◌, int_lt}
use Rattle.std.proofs.lemmas.Int.{ints, by_lt_z}
use Rattle.std.proofs.lemmas.Bool.{or_parts, or_right}
use Rattle.mesh_plane.specs.Plane.{Point, Edge, turn}
use Rattle.mesh_plane.specs.Winding.{sum_of, crossing_of, crossing, IsBalanced}
use Rattle.mesh_plane.proofs.Whole.{linear, mul_pos, mul_nonneg_nonpos, mul_zero, mul_one}
use Rattle.mesh_plane.proofs.Ring.{ring, var, lit, ◌⊕◌, ◌⊖◌, ◌⊗◌}
use Rattle.mesh_lattice.specs.Clean.{IsOn, IsClean, IsProper}
use Rattle.mesh_lattice.specs.Split.{same_ends, occurs}
use Rattle.mesh_lattice.specs.Counted.{net}
use Rattle.mesh_lattice.specs.Boundary.{middle, winding_beside}
use Rattle.mesh_regions.proofs.Line.{past, past_yes, past_none, beyond, steps, Free, Scattered, telescope}
use Rattle.mesh_plane.proofs.PointExprs.{point_var, coordinates, turned, scaled_point_expr}
use Rattle.mesh_plane.proofs.Grids.{scale, part, winds}
use Rattle.mesh_lattice.proofs.Each.{Each, each_more}
use Rattle.mesh_regions.proofs.SidesConstant.{inside_same}
use Rattle.mesh_regions.proofs.SidesClear.{on_part, inner_no_end, Meeting, meeting_of, clear_all}
use Rattle.mesh_lattice.proofs.Each.{proper_of}
use Rattle.mesh_lattice.proofs.Keys.{Distinct, IsKeys, keys_each, grouped, occurs_head}
use Rattle.mesh_regions.proofs.FinerGrids.{winds_finer}
use Rattle.mesh_regions.proofs.FinerPoints.{Hit, Met, idle, hit, Fine}
use Rattle.mesh_lattice.proofs.SidesBack.{crossing_back}

-- ---- the winding at an inner point is that beside the segment

middle_part : (half : ℤ) (a b : Point) → part (half *ℤ pos 2) half a b ≡ scale half (a.0 +ℤ b.0, a.1 +ℤ b.1)
middle_part half a b =
    let x : ((half *ℤ pos 2) *ℤ a.0) +ℤ (half *ℤ (b.0 -ℤ a.0)) ≡ half *ℤ (a.0 +ℤ b.0) =
    ring (half ∷ a.0 ∷ b.0 ∷ []) (((var 0 ⊗ lit (pos 2)) ⊗ var 1) ⊕ (var 0 ⊗ (var 2 ⊖ var 1))) (var 0 ⊗ (var 1 ⊕ var 2)) refl in
    let y : ((half *ℤ pos 2) *ℤ a.1) +ℤ (half *ℤ (b.1 -ℤ a.1)) ≡ half *ℤ (a.1 +ℤ b.1) =
    ring (half ∷ a.1 ∷ b.1 ∷ []) (((var 0 ⊗ lit (pos 2)) ⊗ var 1) ⊕ (var 0 ⊗ (var 2 ⊖ var 1))) (var 0 ⊗ (var 1 ⊕ var 2)) refl in
    λ i. (x i, y i)

-- at every inner point of a segment, on every even grid, the winding is the one beside it
pub inside_beside : (half t : ℤ) (es : List Edge) → IsBalanced es → IsClean es → IsProper es → (s : Edge) → occurs s es ≡ true →
    pos 0 <ℤ t → t <ℤ (half *ℤ pos 2) → winds (half *ℤ pos 2) (part (half *ℤ pos 2) t s.0 s.1) es ≡ winding_beside es s
inside_beside half t es balanced clean proper s stands low high =
    let some : pos 0 <ℤ half = omega (arith, ints) in
    inside_same (half *ℤ pos 2) t half s.0 s.1 es balanced (clear_all es clean proper s stands) low high some (omega (arith, ints))
    ∙ (ap (λ (q : Point). winds (half *ℤ pos 2) q es) (middle_part half s.0 s.1)
    ∙ winds_finer half (pos 2) (middle s) es some)

-- ---- a segment that the line goes through

abbrev pub place_of : (m h : ℤ) (s : Edge) → Hit m h s → ℤ
place_of m h s g = (m *ℤ s.0.0) +ℤ (g.parts *ℤ (s.1.0 -ℤ s.0.0))

hit_part : (m h : ℤ) (s : Edge) (g : Hit m h s) → part m g.parts s.0 s.1 ≡ (place_of m h s g, h)
hit_part m h s g = λ i. (place_of m h s g, g.level i)

hit_turn : (m t x : ℤ) (p r : Point) →
    turn (scale m p) (scale m r) (x, (m *ℤ p.1) +ℤ (t *ℤ (r.1 -ℤ p.1)))
    ≡ (m *ℤ (r.1 -ℤ p.1)) *ℤ (((m *ℤ p.0) +ℤ (t *ℤ (r.0 -ℤ p.0))) -ℤ x)
hit_turn m t x p r =
    ring (coordinates (p ∷ r ∷ []) (m ∷ t ∷ x ∷ []))
    (turned (scaled_point_expr (var 4) (point_var 0)) (scaled_point_expr (var 4) (point_var 1)) (var 6, (var 4 ⊗ var 1) ⊕ (var 5 ⊗ (var 3 ⊖ var 1))))
    ((var 4 ⊗ (var 3 ⊖ var 1)) ⊗ (((var 4 ⊗ var 0) ⊕ (var 5 ⊗ (var 2 ⊖ var 0))) ⊖ var 6))
    refl

pub above_place : (c p x : ℤ) → pos 0 <ℤ c → int_lt (pos 0) (c *ℤ (p -ℤ x)) ≡ int_lt x p
above_place c p x some =
    by_lt_z x p
    (λ (h : x <ℤ p). let l : pos 0 <ℤ (c *ℤ (p -ℤ x)) = mul_pos c (p -ℤ x) some (omega (arith, ints)) in grind (arith, ints))
    (λ (h : p ≤ℤ x). let l : (c *ℤ (p -ℤ x)) ≤ℤ pos 0 = mul_nonneg_nonpos c (p -ℤ x) (omega (arith, ints)) (omega (arith, ints)) in grind (arith, ints))

through : (a b h t : ℤ) → a ≤ℤ h → h <ℤ b → crossing_of a b h t ≡ cond (int_lt (pos 0) t) (pos 1) (pos 0)
through a b h t low high = grind (arith, ints)

pub hit_value : (m h : ℤ) (s : Edge) (g : Hit m h s) (x : ℤ) → crossing (x, h) (scale m s.0) (scale m s.1) ≡ past x (place_of m h s g) (pos 1)
hit_value m h s g x =
    let d : ℤ = s.1.1 -ℤ s.0.1 in
    let rise : pos 0 <ℤ d = omega (arith, ints, g.rises) in
    let some : pos 0 <ℤ m = omega (arith, ints, g.low, g.high) in
    let rest : (m *ℤ s.1.1) -ℤ ((m *ℤ s.0.1) +ℤ (g.parts *ℤ d)) ≡ (m -ℤ g.parts) *ℤ d =
    ring (m ∷ g.parts ∷ s.0.1 ∷ s.1.1 ∷ []) ((var 0 ⊗ var 3) ⊖ ((var 0 ⊗ var 2) ⊕ (var 1 ⊗ (var 3 ⊖ var 2)))) ((var 0 ⊖ var 1) ⊗ (var 3 ⊖ var 2)) refl in
    let start : pos 0 <ℤ (g.parts *ℤ d) = mul_pos g.parts d g.low rise in
    let end : pos 0 <ℤ ((m -ℤ g.parts) *ℤ d) = mul_pos (m -ℤ g.parts) d (omega (arith, ints, g.high)) rise in
    let low : (m *ℤ s.0.1) ≤ℤ h = omega (arith, linear, g.level) in
    let high : h <ℤ (m *ℤ s.1.1) = omega (arith, linear, g.level) in
    let value : turn (scale m s.0) (scale m s.1) (x, h) ≡ (m *ℤ d) *ℤ (place_of m h s g -ℤ x) =
    ap (λ (z : ℤ). turn (scale m s.0) (scale m s.1) (x, z)) (sym g.level) ∙ hit_turn m g.parts x s.0 s.1 in
    through (m *ℤ s.0.1) (m *ℤ s.1.1) h (turn (scale m s.0) (scale m s.1) (x, h)) low high
    ∙ (ap (λ (z : ℤ). cond (int_lt (pos 0) z) (pos 1) (pos 0)) value
    ∙ ap (λ (b : Bool). cond b (pos 1) (pos 0)) (above_place (m *ℤ d) (place_of m h s g) x (mul_pos m d some rise)))

-- two segments that share only ends are hit at different places
hit_apart : (m h : ℤ) (s e : Edge) → (s.0 ≡ s.1 → ⊥) → Meeting s.0 s.1 e.0 e.1 → (g : Hit m h s) (k : Hit m h e) →
    (place_of m h s g <ℤ place_of m h e k) ⊎ (place_of m h e k <ℤ place_of m h s g)
hit_apart m h s e differ meet g k =
    by_lt_z (place_of m h s g) (place_of m h e k)
    (λ (x : place_of m h s g <ℤ place_of m h e k). inl x)
    (λ (x : place_of m h e k ≤ℤ place_of m h s g).
    by_lt_z (place_of m h e k) (place_of m h s g)
    (λ (y : place_of m h e k <ℤ place_of m h s g). inr y)
    (λ (y : place_of m h s g ≤ℤ place_of m h e k). absurd (differ (inner_no_end m g.parts s.0 s.1 g.low g.high (ends (same_place (place_of m h s g) (place_of m h e k) x y))))))
  where
    same_place : (a b : ℤ) → b ≤ℤ a → a ≤ℤ b → b ≡ a
    same_place a b l r = omega (arith, ints)

    ends : place_of m h e k ≡ place_of m h s g → (part m g.parts s.0 s.1 ≡ scale m s.0) ⊎ (part m g.parts s.0 s.1 ≡ scale m s.1)
    ends same =
        let some : pos 0 <ℤ m = omega (arith, ints, g.low, g.high) in
        let first : IsOn (scale m s.0, scale m s.1) (part m g.parts s.0 s.1) =
        on_part m g.parts s.0 s.1 some (omega (arith, ints, g.low)) (omega (arith, ints, g.high)) in
        let point : part m k.parts e.0 e.1 ≡ part m g.parts s.0 s.1 =
        hit_part m h e k ∙ ((λ i. (same i, h)) ∙ sym (hit_part m h s g)) in
        let second : IsOn (scale m e.0, scale m e.1) (part m g.parts s.0 s.1) =
        subst (λ (z : Point). IsOn (scale m e.0, scale m e.1) z) point
        (on_part m k.parts e.0 e.1 some (omega (arith, ints, k.low)) (omega (arith, ints, k.high))) in
        meet.at_end m some (part m g.parts s.0 s.1) first second

-- ---- the marks of a list of segments

-- every hit of one stands apart from every hit of a later one
abbrev pub Spread : ℤ → ℤ → List Edge → Type 0
Spread m h [] = Unit {0}
Spread m h (s ∷ rs) =
    Each (λ (e : Edge). (g : Hit m h s) (k : Hit m h e) → (place_of m h s g <ℤ place_of m h e k) ⊎ (place_of m h e k <ℤ place_of m h s g)) rs
    × Spread m h rs

pub record Marked (m h : ℤ) (n d : Edge → ℤ) (f w : ℤ → ℤ) (rs : List Edge) : Type 0 where
  pub marks : List (ℤ × ℤ)
  pub sums : (x : ℤ) → sum_of (λ (s : Edge). n s *ℤ crossing (x, h) (scale m s.0) (scale m s.1)) rs ≡ beyond x marks
  pub gains : (x : ℤ) → sum_of (λ (s : Edge). d s *ℤ crossing (x, h) (scale m s.0) (scale m s.1)) rs ≡ steps f w x marks
  pub scattered : Scattered marks
  pub free : (y : ℤ) → Each (λ (e : Edge). (k : Hit m h e) → (y <ℤ place_of m h e k) ⊎ (place_of m h e k <ℤ y)) rs → Free y marks

times_past : (w x p : ℤ) → w *ℤ past x p (pos 1) ≡ past x p w
times_past w x p =
    by_lt_z x p
    (λ (h : x <ℤ p). ap (λ (z : ℤ). w *ℤ z) (past_yes x p (pos 1) h) ∙ (mul_one w ∙ sym (past_yes x p w h)))
    (λ (h : p ≤ℤ x). ap (λ (z : ℤ). w *ℤ z) (past_none x p (pos 1) h) ∙ (mul_zero w ∙ sym (past_none x p w h)))

-- a segment that the line misses adds no mark, one that it goes through adds one
pub marked_of : (m h : ℤ) (n d : Edge → ℤ) (f w : ℤ → ℤ) (rs : List Edge) → Each (Met m h) rs →
    Each (λ (s : Edge). (g : Hit m h s) → d s ≡ f (w (place_of m h s g) +ℤ n s) -ℤ f (w (place_of m h s g))) rs → Spread m h rs →
    Marked m h n d f w rs
marked_of m h n d f w [] met gain spread = record {
  marks = [];
  sums = λ (x : ℤ). refl;
  gains = λ (x : ℤ). refl;
  scattered = tt;
  free = λ (y : ℤ) (k : Unit {0}). tt;
}
marked_of m h n d f w (s ∷ rs) met gain spread = by met.0 (marked_of m h n d f w rs met.1 gain.1 spread.1)
  where
    none : (c x : ℤ) → crossing (x, h) (scale m s.0) (scale m s.1) ≡ pos 0 → c *ℤ crossing (x, h) (scale m s.0) (scale m s.1) ≡ pos 0
    none c x e = ap (λ (z : ℤ). c *ℤ z) e ∙ mul_zero c

    by : Met m h s → Marked m h n d f w rs → Marked m h n d f w (s ∷ rs)
    by (idle still) k = record {
      marks = k.marks;
      sums = λ (x : ℤ). omega (arith, linear, none (n s) x (still x), k.sums x);
      gains = λ (x : ℤ). omega (arith, linear, none (d s) x (still x), k.gains x);
      scattered = k.scattered;
      free = λ (y : ℤ) (a : Each (λ (e : Edge). (c : Hit m h e) → (y <ℤ place_of m h e c) ⊎ (place_of m h e c <ℤ y)) (s ∷ rs)). k.free y a.1;
    }
    by (hit g) k =
        let p : ℤ = place_of m h s g in
        record {
          marks = (place_of m h s g, n s) ∷ k.marks;
          sums = λ (x : ℤ). omega (arith, linear, ap (λ (z : ℤ). n s *ℤ z) (hit_value m h s g x), times_past (n s) x p, k.sums x);
          gains = λ (x : ℤ). omega (arith, linear, ap (λ (z : ℤ). d s *ℤ z) (hit_value m h s g x), times_past (d s) x p, ap (λ (z : ℤ). past x p z) (gain.0 g), k.gains x);
          scattered = (
            k.free p (each_more
                (λ (e : Edge). (g : Hit m h s) (c : Hit m h e) → (place_of m h s g <ℤ place_of m h e c) ⊎ (place_of m h e c <ℤ place_of m h s g))
                (λ (e : Edge). (c : Hit m h e) → (p <ℤ place_of m h e c) ⊎ (place_of m h e c <ℤ p))
                (λ (e : Edge) (a : (g : Hit m h s) (c : Hit m h e) → (place_of m h s g <ℤ place_of m h e c) ⊎ (place_of m h e c <ℤ place_of m h s g)) (c : Hit m h e). a g c)
                rs spread.0),
            k.scattered,
          );
          free = λ (y : ℤ) (a : Each (λ (e : Edge). (c : Hit m h e) → (y <ℤ place_of m h e c) ⊎ (place_of m h e c <ℤ y)) (s ∷ rs)). (a.0 g, k.free y a.1);
        }

-- ---- over the keys of a clean balanced list

spread_of : (m h : ℤ) (es : List Edge) → IsClean es → IsProper es → (rs : List Edge) → ((s : Edge) → occurs s rs ≡ true → occurs s es ≡ true) → Distinct rs → Spread m h rs
spread_of m h es clean proper [] stands distinct = tt
spread_of m h es clean proper (s ∷ rs) stands distinct = (
  later rs (λ (e : Edge) (o : occurs e rs ≡ true). stands e (or_right (same_ends e s) (occurs e rs) o)) distinct.0,
  spread_of m h es clean proper rs (λ (e : Edge) (o : occurs e rs ≡ true). stands e (or_right (same_ends e s) (occurs e rs) o)) distinct.1,
)
  where
    own : occurs s es ≡ true
    own = stands s (occurs_head s rs)

    later : (ks : List Edge) → ((e : Edge) → occurs e ks ≡ true → occurs e es ≡ true) → occurs s ks ≡ false →
        Each (λ (e : Edge). (g : Hit m h s) (k : Hit m h e) → (place_of m h s g <ℤ place_of m h e k) ⊎ (place_of m h e k <ℤ place_of m h s g)) ks
    later [] known new = tt
    later (e ∷ ks) known new =
        let parts = or_parts (same_ends s e) (occurs s ks) new in (
          (λ (g : Hit m h s) (k : Hit m h e).
              hit_apart m h s e (proper_of es proper s own) (meeting_of es clean s e own (known e (occurs_head e ks)) parts.0) g k),
          later ks (λ (d : Edge) (o : occurs d ks ≡ true). known d (or_right (same_ends d e) (occurs d ks) o)) parts.1,
        )

same_sums : (n f g : Edge → ℤ) (rs : List Edge) → Each (λ (s : Edge). f s ≡ g s) rs → sum_of (λ (s : Edge). n s *ℤ f s) rs ≡ sum_of (λ (s : Edge). n s *ℤ g s) rs
same_sums n f g [] h = refl
same_sums n f g (s ∷ rs) h = omega (arith, linear, ap (λ (z : ℤ). n s *ℤ z) h.0, same_sums n f g rs h.1)

pub record Setting (es rs : List Edge) : Type 0 where
  pub balanced : IsBalanced es
  pub clean : IsClean es
  pub proper : IsProper es
  pub keys : IsKeys es rs

pub winds_grouped : (m : ℤ) (q : Point) (es rs : List Edge) → IsKeys es rs →
    winds m q es ≡ sum_of (λ (s : Edge). net s es *ℤ crossing q (scale m s.0) (scale m s.1)) rs
winds_grouped m q es rs k =
    grouped (λ (e : Edge). crossing q (scale m e.0) (scale m e.1)) (λ (e : Edge). crossing_back m q e) rs k.leaning k.distinct es
    (λ (e : Edge) (o : occurs e es ≡ true). k.same e ∙ o)

-- the gains at the segments add up to what the function gains from no winding to the winding at the point
pub filled : (es rs : List Edge) → Setting es rs → (f : ℤ → ℤ) (d : Edge → ℤ) →
    ((s : Edge) → occurs s es ≡ true → s.0.1 <ℤ s.1.1 → d s ≡ f (winding_beside es s +ℤ net s es) -ℤ f (winding_beside es s)) →
    (g : Edge → ℤ) → Fine rs g →
    sum_of (λ (s : Edge). d s *ℤ g s) rs ≡ f (sum_of (λ (s : Edge). net s es *ℤ g s) rs) -ℤ f (pos 0)
filled es rs set f d gain g fine =
    let m : ℤ = fine.half *ℤ pos 2 in
    let h : ℤ = fine.height in
    let x : ℤ = fine.at in
    let value : Edge → ℤ = λ (s : Edge). crossing (x, h) (scale m s.0) (scale m s.1) in
    let w : ℤ → ℤ = λ (y : ℤ). winds m (y, h) es in
    let same = each_more (λ (s : Edge). (g s ≡ value s) × Met m h s) (λ (s : Edge). g s ≡ value s) (λ (s : Edge) (a : (g s ≡ value s) × Met m h s). a.0) rs fine.each in
    let met = each_more (λ (s : Edge). (g s ≡ value s) × Met m h s) (Met m h) (λ (s : Edge) (a : (g s ≡ value s) × Met m h s). a.1) rs fine.each in
    let gains = keys_each (λ (s : Edge). (k : Hit m h s) → d s ≡ f (w (place_of m h s k) +ℤ net s es) -ℤ f (w (place_of m h s k))) es rs set.keys
    (λ (s : Edge) (o : occurs s es ≡ true) (k : Hit m h s).
    gain s o k.rises
    ∙ ap (λ (z : ℤ). f (z +ℤ net s es) -ℤ f z)
    (sym (ap (λ (q : Point). winds m q es) (sym (hit_part m h s k)) ∙ inside_beside fine.half k.parts es set.balanced set.clean set.proper s o k.low k.high))) in
    let known : (s : Edge) → occurs s rs ≡ true → occurs s es ≡ true = λ (s : Edge) (o : occurs s rs ≡ true). sym (set.keys.same s) ∙ o in
    let marked = marked_of m h (λ (s : Edge). net s es) d f w rs met gains (spread_of m h es set.clean set.proper rs known set.keys.distinct) in
    let on_row : (y : ℤ) → w y ≡ beyond y marked.marks = λ (y : ℤ). winds_grouped m (y, h) es rs set.keys ∙ marked.sums y in
    let line : steps f w x marked.marks ≡ f (beyond x marked.marks) -ℤ f (pos 0) =
    (λ i. steps f (λ (y : ℤ). on_row y i) x marked.marks) ∙ telescope marked.marks marked.scattered f x in
    let total_is : sum_of (λ (s : Edge). net s es *ℤ g s) rs ≡ beyond x marked.marks = same_sums (λ (s : Edge). net s es) g value rs same ∙ marked.sums x in
    same_sums d g value rs same ∙ (marked.gains x ∙ (line ∙ ap (λ (z : ℤ). f z -ℤ f (pos 0)) (sym total_is)))
