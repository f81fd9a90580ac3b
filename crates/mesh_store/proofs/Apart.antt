-- Lemmas over points: what lies beside the box of a segment does not meet it.
use Rattle.std.proofs.Common.{◌≡◌, ⊎_elim, Bool, true, false, ◌∙◌, sym, ap, refl, arith}
use Rattle.std.specs.Prelude.{◌&&◌, ◌||◌, ℤ, ◌≤ℤ◌, int_lt}
use Rattle.std.proofs.lemmas.Int.{ints}
use Rattle.std.proofs.lemmas.Bool.{true≢false}
use Rattle.mesh_plane.specs.Plane.{Point, Edge}
use Rattle.mesh_plane.proofs.Whole.{either_order}
use Rattle.mesh_lattice.specs.Split.{IsBetween, AreClear, Meets}
use Rattle.mesh_lattice.proofs.Boxes.{meets_box}
use Rattle.mesh_store.specs.BoundingBoxes.{are_beyond, is_beside, AreBounds}

least_of : (l a z b : ℤ) → l ≤ℤ a → l ≤ℤ b → IsBetween a z b → l ≤ℤ z
least_of l a z b h k r =
    ⊎_elim (λ (o : a ≤ℤ b). omega (arith, ints, h, (r.up o).0)) (λ (o : b ≤ℤ a). omega (arith, ints, k, (r.down o).0)) (either_order a b)

most_of : (m a z b : ℤ) → a ≤ℤ m → b ≤ℤ m → IsBetween a z b → z ≤ℤ m
most_of m a z b h k r =
    ⊎_elim (λ (o : a ≤ℤ b). omega (arith, ints, k, (r.up o).1)) (λ (o : b ≤ℤ a). omega (arith, ints, h, (r.down o).1)) (either_order a b)

-- what is around a number of a range is not beyond it
not_beyond : (l m a z b : ℤ) → l ≤ℤ z → z ≤ℤ m → IsBetween a z b → are_beyond l m a b ≡ false
not_beyond l m a z b h k r =
    ⊎_elim
    (λ (o : a ≤ℤ b). ordered l m a z b h k (r.up o).0 (r.up o).1)
    (λ (o : b ≤ℤ a). swapped (int_lt a l) (int_lt b l) (int_lt m a) (int_lt m b) (ordered l m b z a h k (r.down o).0 (r.down o).1))
    (either_order a b)
  where
    ordered : (l m a z b : ℤ) → l ≤ℤ z → z ≤ℤ m → a ≤ℤ z → z ≤ℤ b → are_beyond l m a b ≡ false
    ordered l m a z b h k i j = grind (arith, ints)

    swapped : (p q r s : Bool) → ((q && p) || (s && r)) ≡ false → ((p && q) || (r && s)) ≡ false
    swapped true true r s h = h
    swapped true false true true h = h
    swapped true false true false h = refl
    swapped true false false s h = refl
    swapped false q true true h = swap_last q h
      where
        swap_last : (q : Bool) → ((q && false) || true) ≡ false → true ≡ false
        swap_last true h = h
        swap_last false h = h
    swapped false q true false h = refl
    swapped false q false s h = refl

-- an edge beside the box of a segment does not meet it
pub apart_clear : (bounds s e : Edge) → AreBounds bounds s → is_beside bounds e ≡ true → AreClear s e
apart_clear bounds s e h t = λ (c : Point) (m : Meets s e c).
    let box = meets_box m in
    let x = not_beyond bounds.0.0 bounds.1.0 e.0.0 c.0 e.1.0
    (least_of bounds.0.0 s.0.0 c.0 s.1.0 h.west_of_start h.west_of_end box.0.by_x)
    (most_of bounds.1.0 s.0.0 c.0 s.1.0 h.east_of_start h.east_of_end box.0.by_x) box.1.by_x in
    let y = not_beyond bounds.0.1 bounds.1.1 e.0.1 c.1 e.1.1
    (least_of bounds.0.1 s.0.1 c.1 s.1.1 h.south_of_start h.south_of_end box.0.by_y)
    (most_of bounds.1.1 s.0.1 c.1 s.1.1 h.north_of_start h.north_of_end box.0.by_y) box.1.by_y in
    true≢false (sym t ∙ neither _ _ x y)
  where
    neither : (p q : Bool) → p ≡ false → q ≡ false → (p || q) ≡ false
    neither p q e f = ap (λ (b : Bool). b || q) e ∙ f
