-- Lemmas over points: edges that a line or their boxes hold apart.
use Rattle.std.proofs.Common.{◌≡◌, ℕ, ◌*◌, ◌<◌, ◌⊎◌, ⊎_elim, [], ◌∷◌, refl, sym, ◌∙◌, ap, arith}
use Rattle.std.specs.Prelude.{ℤ, pos, ◌+ℤ◌, ◌-ℤ◌, ◌*ℤ◌, ◌≤ℤ◌, ◌<ℤ◌, neg_ℤ, unsigned_abs}
use Rattle.std.proofs.lemmas.Int.{ints}
use Rattle.mesh_plane.specs.Plane.{Point, Edge, turn}
use Rattle.mesh_plane.specs.Winding.{refined}
use Rattle.mesh_plane.proofs.HalfPlanes.{along_by}
use Rattle.mesh_plane.proofs.PointExprs.{point_var, coordinates, turned}
use Rattle.mesh_plane.proofs.Ring.{ring, var, lit, neg, ◌⊕◌, ◌⊖◌, ◌⊗◌}
use Rattle.mesh_plane.proofs.Whole.{linear, mul_le_mul_left, le_of_mul_le_mul, mul_pos, either_order}
use Rattle.mesh_lattice.specs.Clean.{IsOn, refined_edge}
use Rattle.mesh_lattice.specs.Nearness.{IsNearTo}
use Rattle.mesh_lattice.specs.Split.{IsBetween}
use Rattle.mesh_lattice.proofs.NearEdges.{near_between}
use Rattle.mesh_lattice.proofs.Nearness.{near_along, near_of_turn, opposite_size}
use Rattle.mesh_pairs.specs.declared.boxes.Bounds.{Bounds}
use Rattle.mesh_pairs.specs.Boxes.{Holds, DoMeet}
use Rattle.mesh_pairs.specs.Laws.{spread, IsStop, ClearPiecesDoNotMeet}
use Rattle.mesh_pairs.specs.Pairs.{AreBoxesApart, MayPass, StayClear}

-- ---- by a linear measure

along_scaled : (u v : ℤ) (m : ℕ) (p : Point) → along_by u v (refined m p) ≡ pos m *ℤ along_by u v p
along_scaled u v m p = ring (u ∷ v ∷ pos m ∷ p.0 ∷ p.1 ∷ []) ((var 0 ⊗ (var 2 ⊗ var 3)) ⊕ (var 1 ⊗ (var 2 ⊗ var 4))) (var 2 ⊗ ((var 0 ⊗ var 3) ⊕ (var 1 ⊗ var 4))) refl

along_back : (u v : ℤ) (p : Point) → along_by (neg_ℤ u) (neg_ℤ v) p ≡ neg_ℤ (along_by u v p)
along_back u v p = ring (u ∷ v ∷ p.0 ∷ p.1 ∷ []) ((neg (var 0) ⊗ var 2) ⊕ (neg (var 1) ⊗ var 3)) (neg ((var 0 ⊗ var 2) ⊕ (var 1 ⊗ var 3))) refl

-- the size of a line's vector, and so far a bend by a unit changes a measure by it
abbrev size_of : ℤ → ℤ → ℤ
size_of u v = pos (unsigned_abs u) +ℤ pos (unsigned_abs v)

too_near : (x y p r t q s o d : ℤ) → (pos 64 *ℤ x) ≤ℤ ((pos 64 *ℤ p) +ℤ s) → (pos 64 *ℤ y) ≤ℤ ((pos 64 *ℤ neg_ℤ r) +ℤ o) → o ≡ s → y ≡ neg_ℤ x → s ≡ pos 64 *ℤ q → r ≡ p +ℤ t → d ≡ t -ℤ (pos 2 *ℤ q)
    → pos 0 <ℤ d → ⊥
too_near x y p r t q s o d low high back backed sizes grown expanded apart = omega (arith, ints)

-- an edge up to `c` along a vector and one that begins more than `2 k` bends beyond it
pub apart_along : (k : ℕ) (e f : Edge) (u v c h : ℤ) → along_by u v e.0 ≤ℤ c → along_by u v e.1 ≤ℤ c → (c +ℤ h) ≤ℤ along_by u v f.0 → (c +ℤ h) ≤ℤ along_by u v f.1
    → (pos 2 *ℤ (pos k *ℤ size_of u v)) <ℤ h → StayClear k e f
apart_along k e f u v c h start end first second wide m some z a b =
    too_near (along_by u v z) (along_by (neg_ℤ u) (neg_ℤ v) z) (n *ℤ c) (n *ℤ (c +ℤ h)) (n *ℤ h) (n *ℤ (pos k *ℤ w)) (w *ℤ (pos (64 * k) *ℤ n))
    (size_of (neg_ℤ u) (neg_ℤ v) *ℤ (pos (64 * k) *ℤ n)) (n *ℤ (h -ℤ (pos 2 *ℤ (pos k *ℤ w)))) low high back backed sizes grown expanded apart
  where
    w : ℤ
    w = size_of u v

    n : ℤ
    n = pos m

    least : pos 0 ≤ℤ n
    least = omega (arith, ints)

    low : (pos 64 *ℤ along_by u v z) ≤ℤ ((pos 64 *ℤ (n *ℤ c)) +ℤ (w *ℤ (pos (64 * k) *ℤ n)))
    low =
        near_along (64 * k) m e z a.near u v (n *ℤ c)
        (omega (arith, linear, along_scaled u v m e.0, mul_le_mul_left n (along_by u v e.0) c least start))
        (omega (arith, linear, along_scaled u v m e.1, mul_le_mul_left n (along_by u v e.1) c least end))

    backed : along_by (neg_ℤ u) (neg_ℤ v) z ≡ neg_ℤ (along_by u v z)
    backed = along_back u v z

    below : (p : Point) → (c +ℤ h) ≤ℤ along_by u v p → along_by (neg_ℤ u) (neg_ℤ v) (refined m p) ≤ℤ neg_ℤ (n *ℤ (c +ℤ h))
    below p l = omega (arith, linear, along_back u v (refined m p), along_scaled u v m p, mul_le_mul_left n (c +ℤ h) (along_by u v p) least l)

    high : (pos 64 *ℤ along_by (neg_ℤ u) (neg_ℤ v) z) ≤ℤ ((pos 64 *ℤ neg_ℤ (n *ℤ (c +ℤ h))) +ℤ (size_of (neg_ℤ u) (neg_ℤ v) *ℤ (pos (64 * k) *ℤ n)))
    high = near_along (64 * k) m f z b.near (neg_ℤ u) (neg_ℤ v) (neg_ℤ (n *ℤ (c +ℤ h))) (below f.0 first) (below f.1 second)

    back : size_of (neg_ℤ u) (neg_ℤ v) *ℤ (pos (64 * k) *ℤ n) ≡ w *ℤ (pos (64 * k) *ℤ n)
    back = (λ i. (pos (opposite_size u i) +ℤ pos (opposite_size v i)) *ℤ (pos (64 * k) *ℤ n))

    sizes : w *ℤ (pos (64 * k) *ℤ n) ≡ pos 64 *ℤ (n *ℤ (pos k *ℤ w))
    sizes = ring (w ∷ pos k ∷ n ∷ []) (var 0 ⊗ ((lit (pos 64) ⊗ var 1) ⊗ var 2)) (lit (pos 64) ⊗ (var 2 ⊗ (var 1 ⊗ var 0))) refl

    grown : n *ℤ (c +ℤ h) ≡ (n *ℤ c) +ℤ (n *ℤ h)
    grown = ring (n ∷ c ∷ h ∷ []) (var 0 ⊗ (var 1 ⊕ var 2)) ((var 0 ⊗ var 1) ⊕ (var 0 ⊗ var 2)) refl

    expanded : n *ℤ (h -ℤ (pos 2 *ℤ (pos k *ℤ w))) ≡ (n *ℤ h) -ℤ (pos 2 *ℤ (n *ℤ (pos k *ℤ w)))
    expanded = ring (n ∷ h ∷ pos k ∷ w ∷ []) (var 0 ⊗ (var 1 ⊖ (lit (pos 2) ⊗ (var 2 ⊗ var 3)))) ((var 0 ⊗ var 1) ⊖ (lit (pos 2) ⊗ (var 0 ⊗ (var 2 ⊗ var 3)))) refl

    apart : pos 0 <ℤ (n *ℤ (h -ℤ (pos 2 *ℤ (pos k *ℤ w))))
    apart = mul_pos n (h -ℤ (pos 2 *ℤ (pos k *ℤ w))) (omega (arith, ints)) (omega (arith, linear, wide))

-- ---- by the line of one of them

-- how many bends of a unit a height is
unfoldable pub limit : ℕ → Edge → ℤ
limit k e = pos 2 *ℤ (pos k *ℤ pos (spread e))

turn_by : (e : Edge) (p : Point) → turn e.0 e.1 p ≡ along_by (neg_ℤ (e.1.1 -ℤ e.0.1)) (e.1.0 -ℤ e.0.0) p -ℤ along_by (neg_ℤ (e.1.1 -ℤ e.0.1)) (e.1.0 -ℤ e.0.0) e.0
turn_by e p =
    ring (coordinates (e.0 ∷ e.1 ∷ p ∷ []) [])
    (turned (point_var 0) (point_var 1) (point_var 2))
    (((neg (var 3 ⊖ var 1) ⊗ var 4) ⊕ ((var 2 ⊖ var 0) ⊗ var 5)) ⊖ ((neg (var 3 ⊖ var 1) ⊗ var 0) ⊕ ((var 2 ⊖ var 0) ⊗ var 1)))
    refl

turn_by_end : (e : Edge) → along_by (neg_ℤ (e.1.1 -ℤ e.0.1)) (e.1.0 -ℤ e.0.0) e.1 ≡ along_by (neg_ℤ (e.1.1 -ℤ e.0.1)) (e.1.0 -ℤ e.0.0) e.0
turn_by_end e =
    ring (coordinates (e.0 ∷ e.1 ∷ []) [])
    ((neg (var 3 ⊖ var 1) ⊗ var 2) ⊕ ((var 2 ⊖ var 0) ⊗ var 3))
    ((neg (var 3 ⊖ var 1) ⊗ var 0) ⊕ ((var 2 ⊖ var 0) ⊗ var 1))
    refl

line_size : (k : ℕ) (e : Edge) → pos 2 *ℤ (pos k *ℤ size_of (neg_ℤ (e.1.1 -ℤ e.0.1)) (e.1.0 -ℤ e.0.0)) ≡ limit k e
unfolding limit
line_size k e =
    let s : size_of (neg_ℤ (e.1.1 -ℤ e.0.1)) (e.1.0 -ℤ e.0.0) ≡ pos (spread e) = omega (arith, ints, opposite_size (e.1.1 -ℤ e.0.1)) in
    ap (λ (x : ℤ). pos 2 *ℤ (pos k *ℤ x)) s

-- both ends of the second lie to the left of the first's line by more
pub apart_left : (k : ℕ) (e f : Edge) → limit k e <ℤ turn e.0 e.1 f.0 → limit k e <ℤ turn e.0 e.1 f.1 → StayClear k e f
apart_left k e f first second =
    let u = neg_ℤ (e.1.1 -ℤ e.0.1) in
    let v = e.1.0 -ℤ e.0.0 in
    let h = limit k e +ℤ pos 1 in
    apart_along k e f u v (along_by u v e.0) h (omega (arith, linear)) (omega (arith, linear, turn_by_end e))
    (omega (arith, linear, turn_by e f.0)) (omega (arith, linear, turn_by e f.1)) (omega (arith, linear, line_size k e))

-- or to the right
pub apart_right : (k : ℕ) (e f : Edge) → turn e.0 e.1 f.0 <ℤ neg_ℤ (limit k e) → turn e.0 e.1 f.1 <ℤ neg_ℤ (limit k e) → StayClear k e f
apart_right k e f first second =
    let u = neg_ℤ (e.1.1 -ℤ e.0.1) in
    let v = e.1.0 -ℤ e.0.0 in
    let h = limit k e +ℤ pos 1 in
    apart_along k e f (neg_ℤ u) (neg_ℤ v) (along_by (neg_ℤ u) (neg_ℤ v) e.0) h (omega (arith, linear)) (omega (arith, linear, turn_by_end e, along_back u v e.0, along_back u v e.1))
    (omega (arith, linear, turn_by e f.0, along_back u v e.0, along_back u v f.0)) (omega (arith, linear, turn_by e f.1, along_back u v e.0, along_back u v f.1))
    (omega (arith, linear, line_size k e, same u v))
  where
    same : (u v : ℤ) → pos 2 *ℤ (pos k *ℤ size_of (neg_ℤ u) (neg_ℤ v)) ≡ pos 2 *ℤ (pos k *ℤ size_of u v)
    same u v = λ i. pos 2 *ℤ (pos k *ℤ (pos (opposite_size u i) +ℤ pos (opposite_size v i)))

pub clear_turned : (k : ℕ) (e f : Edge) → StayClear k e f → StayClear k f e
clear_turned k e f h m some z a b = h m some z b a

-- ---- by their boxes

low_between : (n low a z b : ℤ) → pos 0 ≤ℤ n → low ≤ℤ a → low ≤ℤ b → IsBetween (n *ℤ a) z (n *ℤ b) → (n *ℤ low) ≤ℤ z
low_between n low a z b least first second between =
    let p = mul_le_mul_left n low a least first in
    let q = mul_le_mul_left n low b least second in
    ⊎_elim (λ (h : (n *ℤ a) ≤ℤ (n *ℤ b)). omega (arith, linear, p, (between.up h).0)) (λ (h : (n *ℤ b) ≤ℤ (n *ℤ a)). omega (arith, linear, q, (between.down h).0))
    (either_order (n *ℤ a) (n *ℤ b))

high_between : (n high a z b : ℤ) → pos 0 ≤ℤ n → a ≤ℤ high → b ≤ℤ high → IsBetween (n *ℤ a) z (n *ℤ b) → z ≤ℤ (n *ℤ high)
high_between n high a z b least first second between =
    let p = mul_le_mul_left n a high least first in
    let q = mul_le_mul_left n b high least second in
    ⊎_elim (λ (h : (n *ℤ a) ≤ℤ (n *ℤ b)). omega (arith, linear, q, (between.up h).1)) (λ (h : (n *ℤ b) ≤ℤ (n *ℤ a)). omega (arith, linear, p, (between.down h).1))
    (either_order (n *ℤ a) (n *ℤ b))

ranges_meet : (m : ℕ) (low high a b c d z : ℤ) → 0 < m → low ≤ℤ a → low ≤ℤ b → c ≤ℤ high → d ≤ℤ high → IsBetween (pos m *ℤ a) z (pos m *ℤ b) → IsBetween (pos m *ℤ c) z (pos m *ℤ d) → low ≤ℤ high
ranges_meet m low high a b c d z some la lb ch dh first second =
    let least : pos 0 ≤ℤ pos m = omega (arith, ints) in
    let p = low_between (pos m) low a z b least la lb first in
    let q = high_between (pos m) high c z d least ch dh second in
    le_of_mul_le_mul (pos m) low high (omega (arith, ints)) (omega (arith, linear, p, q))

-- edges in rectangles that have no point in common
pub apart_by_boxes : (b c : Bounds) (e f : Edge) → Holds b e.0 → Holds b e.1 → Holds c f.0 → Holds c f.1 → (DoMeet b c → ⊥) → AreBoxesApart e f
apart_by_boxes b c e f e0 e1 f0 f1 apart m some z a d =
    apart (record {
      west = ranges_meet m b.west c.east e.0.0 e.1.0 f.0.0 f.1.0 z.0 some e0.west e1.west f0.east f1.east a.by_x d.by_x;
      east = ranges_meet m c.west b.east f.0.0 f.1.0 e.0.0 e.1.0 z.0 some f0.west f1.west e0.east e1.east d.by_x a.by_x;
      south = ranges_meet m b.south c.north e.0.1 e.1.1 f.0.1 f.1.1 z.1 some e0.south e1.south f0.north f1.north a.by_y d.by_y;
      north = ranges_meet m c.south b.north f.0.1 f.1.1 e.0.1 e.1.1 z.1 some f0.south f1.south e0.north e1.north d.by_y a.by_y;
    })

pub clear_by_boxes : (k : ℕ) (e f : Edge) → AreBoxesApart e f → StayClear k e f
clear_by_boxes k e f apart m some z a b = apart m some z a.in_box b.in_box

-- ---- pieces between stops

between_between : (n a x z y b : ℤ) → pos 0 ≤ℤ n → IsBetween a x b → IsBetween a y b → IsBetween (n *ℤ x) z (n *ℤ y) → IsBetween (n *ℤ a) z (n *ℤ b)
between_between n a x z y b least first second between = ⊎_elim
    (λ (h : a ≤ℤ b).
    let low = low_between n a x z y least (first.up h).0 (second.up h).0 between in
    let high = high_between n b x z y least (first.up h).1 (second.up h).1 between in
    let order = mul_le_mul_left n a b least h in
    record {
      up = λ _. (low, high);
      down = λ back. (omega (arith, linear, low, back), omega (arith, linear, high, back));
    })
    (λ (h : b ≤ℤ a).
    let low = low_between n b x z y least (first.down h).0 (second.down h).0 between in
    let high = high_between n a x z y least (first.down h).1 (second.down h).1 between in
    let order = mul_le_mul_left n b a least h in
    record {
      up = λ back. (omega (arith, linear, low, back), omega (arith, linear, high, back));
      down = λ _. (low, high);
    })
    (either_order a b)

passed : (k : ℕ) (e p : Edge) → IsStop k e p.0 → IsStop k e p.1 → (m : ℕ) → 0 < m → (z : Point) → IsOn (refined_edge m p) z → MayPass k m e z
passed k e p start end m some z on =
    let least : pos 0 ≤ℤ pos m = omega (arith, ints) in
    record {
      in_box = record {
        by_x = between_between (pos m) e.0.0 p.0.0 z.0 p.1.0 e.1.0 least start.in_box.by_x end.in_box.by_x on.in_box.by_x;
        by_y = between_between (pos m) e.0.1 p.0.1 z.1 p.1.1 e.1.1 least start.in_box.by_y end.in_box.by_y on.in_box.by_y;
      };
      near = near_between (64 * k) e p (near_stop p.0 start) (near_stop p.1 end) m some z on;
    }
  where
    near_stop : (q : Point) → IsStop k e q → IsNearTo (64 * k) 1 e q
    near_stop q stop = near_of_turn (64 * k) e q stop.in_box (omega (arith, stop.height))

pub clear_pieces : ClearPiecesDoNotMeet
clear_pieces k e f p q clear e0 e1 f0 f1 m some z on_p on_q = clear m some z (passed k e p e0 e1 m some z on_p) (passed k f q f0 f1 m some z on_q)

-- ---- as the code tests it

limit_is : (e : Edge) → limit 8 e ≡ pos (16 * spread e)
unfolding limit
limit_is e = omega (arith, ints)

pub clear_beyond : (e f : Edge) (h : ℤ) (s : ℤ × ℤ) → h ≡ pos (16 * spread e) → s ≡ (turn e.0 e.1 f.0, turn e.0 e.1 f.1)
    → ((h <ℤ s.0) × (h <ℤ s.1)) ⊎ ((s.0 <ℤ neg_ℤ h) × (s.1 <ℤ neg_ℤ h)) → StayClear 8 e f
clear_beyond e f h s is at beyond = ⊎_elim
    (λ (b : (h <ℤ s.0) × (h <ℤ s.1)). apart_left 8 e f (omega (arith, linear, bound, first, b.0)) (omega (arith, linear, bound, second, b.1)))
    (λ (b : (s.0 <ℤ neg_ℤ h) × (s.1 <ℤ neg_ℤ h)). apart_right 8 e f (omega (arith, linear, bound, first, b.0)) (omega (arith, linear, bound, second, b.1)))
    beyond
  where
    bound : limit 8 e ≡ h
    bound = limit_is e ∙ sym is

    first : s.0 ≡ turn e.0 e.1 f.0
    first = ap (λ (x : ℤ × ℤ). x.0) at

    second : s.1 ≡ turn e.0 e.1 f.1
    second = ap (λ (x : ℤ × ℤ). x.1) at
