-- Lemmas over points and lists: the boundary of split segments is its own boundary.
use Rattle.std.proofs.Common.{◌≡◌, ⊎_elim, Bool, true, false, cond, not, ◌&&◌, ◌||◌, List, [], ◌∷◌, refl, sym, ◌∙◌, ap, arith}
use Rattle.std.specs.Prelude.{ℤ, pos, ◌+ℤ◌, ◌-ℤ◌}
use Rattle.std.proofs.lemmas.Int.{ints}
use Rattle.std.proofs.lemmas.Bool.{cases_Bool, both_ways, false≢true}
use Rattle.mesh_plane.specs.Plane.{Edge}
use Rattle.mesh_plane.specs.Winding.{same_point}
use Rattle.mesh_plane.proofs.Comparing.{decides_point}
use Rattle.mesh_plane.proofs.Whole.{linear}
use Rattle.mesh_lattice.specs.Boundary.{count, middle, winding_beside, left_winding, right_winding, rises, IsBoundary}
use Rattle.mesh_lattice.specs.Clean.{IsProper}
use Rattle.mesh_lattice.specs.Counted.{bit, net}
use Rattle.mesh_lattice.specs.FillRules.{filled}
use Rattle.mesh_lattice.specs.Split.{back, same_edge, same_ends, occurs}
use Rattle.mesh_lattice.specs.declared.fill.FillRule.TheVariants.{Positive}
use Rattle.mesh_lattice.proofs.Keys.{Leans, leaning_either, net_back, occurs_back}
use Rattle.mesh_lattice.proofs.SidesBack.{count_more, sides_back}
use Rattle.mesh_regions.specs.SideLaws.{AreSplit}
use Rattle.mesh_regions.proofs.BoundaryFill.{boundary_cover, boundary_net}
use Rattle.mesh_regions.proofs.SplitBoundary.{boundary_winds}

-- an edge's net count in the boundary: 1 where its left alone is filled, -1 where its right alone is, else 0
pub edge_net : (es bs : List Edge) (fill : ℤ → Bool) → IsProper es → IsBoundary es fill bs → (e : Edge) → occurs e es ≡ true →
    net e bs ≡ bit (fill (left_winding es e)) -ℤ bit (fill (right_winding es e))
edge_net es bs fill proper is e stands = ⊎_elim (λ (l : Leans e). boundary_net es bs fill is e l stands) other (leaning_either e apart)
  where
    apart : e.0 ≡ e.1 → ⊥
    apart same = both_ways (same_point e.0 e.1) (proper e stands) ((decides_point e.0 e.1).1 same)

    other : Leans (back e) → net e bs ≡ bit (fill (left_winding es e)) -ℤ bit (fill (right_winding es e))
    other l =
        let sides = sides_back es (back e) l in
        let left = ap (λ (w : ℤ). bit (fill w)) sides.0 in
        let right = ap (λ (w : ℤ). bit (fill w)) sides.1 in
        omega (arith, linear, net_back e bs, boundary_net es bs fill is (back e) l (occurs_back e es ∙ stands), left, right)

side_values : (fill : ℤ → Bool) (rising : Bool) (w n own gain : ℤ) → own ≡ bit (fill w) → gain ≡ bit (fill (cond rising (w +ℤ n) w)) -ℤ bit (fill (cond rising w (w -ℤ n))) →
    (cond rising (own +ℤ gain) own ≡ bit (fill (cond rising (w +ℤ n) w))) × (cond rising own (own -ℤ gain) ≡ bit (fill (cond rising w (w -ℤ n))))
side_values fill true w n own gain h g = (omega (arith, linear, h, g), h)
side_values fill false w n own gain h g = (h, omega (arith, linear, h, g))

-- a side of an edge of the boundary winds once in the boundary where it is filled, and else not
edge_sides : (es bs : List Edge) (fill : ℤ → Bool) → AreSplit es → fill (pos 0) ≡ false → IsBoundary es fill bs → (e : Edge) → occurs e es ≡ true →
    (left_winding bs e ≡ bit (fill (left_winding es e))) × (right_winding bs e ≡ bit (fill (right_winding es e)))
edge_sides es bs fill split empty is e stands =
    side_values fill (rises e) (winding_beside es e) (net e es) (winding_beside bs e) (net e bs)
    (boundary_winds es bs fill split empty is 2 (omega arith) (middle e)) (edge_net es bs fill split.proper is e stands)

filled_bit : (b : Bool) → filled Positive (bit b) ≡ b
filled_bit true = refl
filled_bit false = refl

pub none_counted : (e : Edge) (es : List Edge) → occurs e es ≡ false → count e es ≡ 0
unfolding same_ends
none_counted e [] h = refl
none_counted e (f ∷ fs) h = by (same_edge e f) (same_edge e (back f)) (occurs e fs) (none_counted e fs) (count_more e f fs) h
  where
    by : (a b c : Bool) → (c ≡ false → count e fs ≡ 0) → pos (count e (f ∷ fs)) ≡ bit a +ℤ pos (count e fs) → (a || b) || c ≡ false → count e (f ∷ fs) ≡ 0
    by false false false own more h = let z = own refl in omega (arith, ints, more, z)
    by false false true own more h = absurd (false≢true (sym h))
    by false true c own more h = absurd (false≢true (sym h))
    by true b c own more h = absurd (false≢true (sym h))

-- the boundary of split segments is its own boundary, by the fill rule `Positive`
pub bounds_itself : (es bs : List Edge) (fill : ℤ → Bool) → AreSplit es → fill (pos 0) ≡ false → IsBoundary es fill bs → IsBoundary bs (filled Positive) bs
bounds_itself es bs fill split empty is = record { counts = λ (e : Edge). ⊎_elim (within e) (outside e) (cases_Bool (occurs e bs)) }
  where
    outside : (e : Edge) → occurs e bs ≡ false →
        count e bs ≡ cond (occurs e bs && (filled Positive (left_winding bs e) && not (filled Positive (right_winding bs e)))) 1 0
    outside e f = none_counted e bs f ∙ sym (λ i. cond (f i && (filled Positive (left_winding bs e) && not (filled Positive (right_winding bs e)))) 1 0)

    within : (e : Edge) → occurs e bs ≡ true →
        count e bs ≡ cond (occurs e bs && (filled Positive (left_winding bs e) && not (filled Positive (right_winding bs e)))) 1 0
    within e t =
        let stands = boundary_cover es bs fill is e t in
        let sides = edge_sides es bs fill split empty is e stands in
        let left = ap (filled Positive) sides.0 ∙ filled_bit (fill (left_winding es e)) in
        let right = ap (filled Positive) sides.1 ∙ filled_bit (fill (right_winding es e)) in
        is.counts e
        ∙ ((λ i. cond (stands i && (fill (left_winding es e) && not (fill (right_winding es e)))) 1 0)
        ∙ sym (λ i. cond (t i && (left i && not (right i))) 1 0))
