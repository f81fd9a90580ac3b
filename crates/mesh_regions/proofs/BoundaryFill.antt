-- Lemmas over points and lists: the boundary's winding is 1 where the segments' winding is filled and 0 elsewhere.
use Rattle.std.proofs.Common.{◌≡◌, ℕ, ⊎_elim, Bool, true, false, cond, ◌&&◌, ◌||◌, not, List, [], ◌∷◌, refl, sym, ◌∙◌, ap, arith}
use Rattle.std.specs.Prelude.{ℤ, pos, neg_ℤ, ◌+ℤ◌, ◌-ℤ◌, ◌*ℤ◌, ◌<ℤ◌}
use Rattle.std.proofs.lemmas.Int.{ints}
use Rattle.std.proofs.lemmas.Bool.{cases_Bool, or_from, or_right, both_ways}
use Rattle.mesh_plane.specs.Plane.{Point, Edge, turn}
use Rattle.mesh_plane.specs.Winding.{sum_of, crossing}
use Rattle.mesh_plane.proofs.Whole.{linear}
use Rattle.mesh_plane.proofs.Crossings.{turn_flip}
use Rattle.mesh_lattice.specs.Split.{back, same_edge, same_ends, occurs}
use Rattle.mesh_lattice.specs.Counted.{bit, along, net}
use Rattle.mesh_lattice.specs.Boundary.{count, winding_beside, left_winding, right_winding, IsBoundary}
use Rattle.mesh_plane.proofs.Grids.{scale, winds}
use Rattle.mesh_lattice.proofs.Each.{Each}
use Rattle.mesh_lattice.proofs.Keys.{Leans, grouped, occurs_head, occurs_back, edge_back}
use Rattle.mesh_regions.proofs.FinerGrids.{below_of, crossing_below}
use Rattle.mesh_regions.proofs.FinerPoints.{Fine, fine_up, fine_down}
use Rattle.mesh_regions.proofs.LineWindings.{Setting, filled}
use Rattle.mesh_lattice.proofs.SidesBack.{crossing_back}
use Rattle.mesh_lattice.proofs.SidesBack.{count_more, rises_up, sides_back}

-- ---- counts

pub net_counts : (s : Edge) (es : List Edge) → net s es ≡ pos (count s es) -ℤ pos (count (back s) es)
unfolding along
net_counts s [] = refl
net_counts s (e ∷ es) =
    omega (arith, linear, net_counts s es, count_more s e es, count_more (back s) e es, ap bit (edge_back s e))

no_count : (s : Edge) (es : List Edge) → count s es ≡ 0 → count (back s) es ≡ 0 → occurs s es ≡ false
unfolding same_ends
no_count s [] h k = refl
no_count s (e ∷ es) h k =
    let own = by (same_edge s e) (count s es) (count s (e ∷ es)) h (count_more s e es) in
    let other = by (same_edge (back s) e) (count (back s) es) (count (back s) (e ∷ es)) k (count_more (back s) e es) in
    or_from (same_edge s e || same_edge s (back e)) (occurs s es)
    (or_from (same_edge s e) (same_edge s (back e)) own.0 (sym (edge_back s e) ∙ other.0)) (no_count s es own.1 other.1)
  where
    by : (b : Bool) (n m : ℕ) → m ≡ 0 → pos m ≡ bit b +ℤ pos n → (b ≡ false) × (n ≡ 0)
    by true n m z h = absurd (omega (arith, ints))
    by false n m z h = let e : n ≡ 0 = omega (arith, ints) in (refl, e)

-- ---- the boundary's net count at a segment

bare_count : (n k : ℕ) (a b : Bool) → n ≡ cond (true && (a && not b)) 1 0 → k ≡ cond (true && (b && not a)) 1 0 → pos n -ℤ pos k ≡ bit a -ℤ bit b
bare_count n k true true h g = λ i. pos (h i) -ℤ pos (g i)
bare_count n k true false h g = λ i. pos (h i) -ℤ pos (g i)
bare_count n k false true h g = λ i. pos (h i) -ℤ pos (g i)
bare_count n k false false h g = λ i. pos (h i) -ℤ pos (g i)

pub boundary_net : (es bs : List Edge) (fill : ℤ → Bool) → IsBoundary es fill bs → (s : Edge) → Leans s → occurs s es ≡ true →
    net s bs ≡ bit (fill (left_winding es s)) -ℤ bit (fill (right_winding es s))
boundary_net es bs fill is s lean stands =
    let sides = sides_back es s lean in
    net_counts s bs
    ∙ bare_count (count s bs) (count (back s) bs) (fill (left_winding es s)) (fill (right_winding es s))
    (is.counts s ∙ (λ i. cond (stands i && (fill (left_winding es s) && not (fill (right_winding es s)))) 1 0))
    (is.counts (back s) ∙ (λ i. cond ((occurs_back s es ∙ stands) i && (fill (sides.0 i) && not (fill (sides.1 i)))) 1 0))

pub boundary_cover : (es bs : List Edge) (fill : ℤ → Bool) → IsBoundary es fill bs → (e : Edge) → occurs e bs ≡ true → occurs e es ≡ true
boundary_cover es bs fill is e stands =
    ⊎_elim (λ (t : occurs e es ≡ true). t)
    (λ (f : occurs e es ≡ false).
    absurd (both_ways (occurs e bs)
    (no_count e bs
    (is.counts e ∙ (λ i. cond (f i && (fill (left_winding es e) && not (fill (right_winding es e)))) 1 0))
    (is.counts (back e) ∙ (λ i. cond ((occurs_back e es ∙ f) i && (fill (left_winding es (back e)) && not (fill (right_winding es (back e))))) 1 0)))
    stands))
    (cases_Bool (occurs e es))

-- ---- sums over the boundary

net_sums : (es bs : List Edge) (fill : ℤ → Bool) → IsBoundary es fill bs → (g : Edge → ℤ) → (rs : List Edge) → Each Leans rs → ((s : Edge) → occurs s rs ≡ true → occurs s es ≡ true) →
    sum_of (λ (s : Edge). net s bs *ℤ g s) rs ≡ sum_of (λ (s : Edge). (bit (fill (left_winding es s)) -ℤ bit (fill (right_winding es s))) *ℤ g s) rs
net_sums es bs fill is g [] lean known = refl
net_sums es bs fill is g (s ∷ rs) lean known =
    omega (
      arith,
      linear,
      ap (λ (z : ℤ). z *ℤ g s) (boundary_net es bs fill is s lean.0 (known s (occurs_head s rs))),
      net_sums es bs fill is g rs lean.1 (λ (e : Edge) (o : occurs e rs ≡ true). known e (or_right (same_ends e s) (occurs e rs) o)),
    )

-- an odd number of an edge that is a crossing at one fine point sums up over the boundary to the fill of its sum over the segments
pub boundary_sum : (es rs bs : List Edge) (fill : ℤ → Bool) → Setting es rs → IsBoundary es fill bs → fill (pos 0) ≡ false →
    (g : Edge → ℤ) → ((e : Edge) → g (back e) ≡ neg_ℤ (g e)) → Fine rs g → sum_of g bs ≡ bit (fill (sum_of g es))
boundary_sum es rs bs fill set is empty g odd fine =
    let d : Edge → ℤ = λ (s : Edge). bit (fill (left_winding es s)) -ℤ bit (fill (right_winding es s)) in
    let known : (s : Edge) → occurs s rs ≡ true → occurs s es ≡ true = λ (s : Edge) (o : occurs s rs ≡ true). sym (set.keys.same s) ∙ o in
    let own : sum_of g es ≡ sum_of (λ (s : Edge). net s es *ℤ g s) rs =
    grouped g odd rs set.keys.leaning set.keys.distinct es (λ (e : Edge) (o : occurs e es ≡ true). set.keys.same e ∙ o) in
    let outer : sum_of g bs ≡ sum_of (λ (s : Edge). net s bs *ℤ g s) rs =
    grouped g odd rs set.keys.leaning set.keys.distinct bs (λ (e : Edge) (o : occurs e bs ≡ true). set.keys.same e ∙ boundary_cover es bs fill is e o) in
    let along_line : sum_of (λ (s : Edge). d s *ℤ g s) rs ≡ bit (fill (sum_of (λ (s : Edge). net s es *ℤ g s) rs)) -ℤ bit (fill (pos 0)) =
    filled es rs set (λ (z : ℤ). bit (fill z)) d
    (λ (s : Edge) (o : occurs s es ≡ true) (up : s.0.1 <ℤ s.1.1).
    λ i. bit (fill (cond ((rises_up s up).0 i) (winding_beside es s +ℤ net s es) (winding_beside es s)))
    -ℤ bit (fill (cond ((rises_up s up).0 i) (winding_beside es s) (winding_beside es s -ℤ net s es))))
    g fine in
    let none : bit (fill (pos 0)) ≡ pos 0 = ap bit empty in
    outer ∙ (net_sums es bs fill is g rs set.keys.leaning known
    ∙ (along_line ∙ (minus_none (bit (fill (sum_of (λ (s : Edge). net s es *ℤ g s) rs))) (bit (fill (pos 0))) none ∙ ap (λ (z : ℤ). bit (fill z)) (sym own))))
  where
    minus_none : (a b : ℤ) → b ≡ pos 0 → a -ℤ b ≡ a
    minus_none a b e = omega (arith, ints)

-- ---- the laws

below_odd : (a b h t s : ℤ) → s ≡ neg_ℤ t → below_of b a h s ≡ neg_ℤ (below_of a b h t)
below_odd a b h t s e = grind (arith, ints)

pub crossing_below_back : (m : ℤ) (q : Point) (e : Edge) → crossing_below q (scale m (back e).0) (scale m (back e).1) ≡ neg_ℤ (crossing_below q (scale m e.0) (scale m e.1))
crossing_below_back m q e =
    below_odd (m *ℤ e.0.1) (m *ℤ e.1.1) q.1 (turn (scale m e.0) (scale m e.1) q) (turn (scale m e.1) (scale m e.0) q) (turn_flip (scale m e.0) (scale m e.1) q)

-- at every point of every grid, the boundary's winding is 1 where the segments' winding is filled and 0 elsewhere
pub fill_is : (es rs bs : List Edge) (fill : ℤ → Bool) → Setting es rs → IsBoundary es fill bs → fill (pos 0) ≡ false →
    (m : ℤ) (q : Point) → pos 0 <ℤ m → winds m q bs ≡ bit (fill (winds m q es))
fill_is es rs bs fill set is empty m q some =
    boundary_sum es rs bs fill set is empty (λ (e : Edge). crossing q (scale m e.0) (scale m e.1)) (λ (e : Edge). crossing_back m q e) (fine_up m q rs some set.keys.leaning)

-- the same with the ranges of heights closed above
pub fill_is_below : (es rs bs : List Edge) (fill : ℤ → Bool) → Setting es rs → IsBoundary es fill bs → fill (pos 0) ≡ false →
    (m : ℤ) (q : Point) → pos 0 <ℤ m →
    sum_of (λ (e : Edge). crossing_below q (scale m e.0) (scale m e.1)) bs ≡ bit (fill (sum_of (λ (e : Edge). crossing_below q (scale m e.0) (scale m e.1)) es))
fill_is_below es rs bs fill set is empty m q some =
    boundary_sum es rs bs fill set is empty (λ (e : Edge). crossing_below q (scale m e.0) (scale m e.1)) (λ (e : Edge). crossing_below_back m q e) (fine_down m q rs some set.keys.leaning)
