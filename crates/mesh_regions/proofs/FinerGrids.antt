-- Lemmas over whole numbers and points: crossings on finer grids, and at points moved by less than a step of a coarser one.
use Rattle.std.proofs.Common.{◌≡◌, cond, ◌&&◌, List, [], ◌∷◌, refl, sym, ◌∙◌, ap, arith}
use Rattle.std.specs.Prelude.{ℤ, pos, negsuc, neg_ℤ, ◌+ℤ◌, ◌-ℤ◌, ◌*ℤ◌, ◌≤ℤ◌, ◌<ℤ◌, int_lt, int_le}
use Rattle.std.proofs.lemmas.Int.{ints, by_lt_z}
use Rattle.mesh_plane.specs.Plane.{Point, Edge, turn}
use Rattle.mesh_plane.specs.Winding.{crossing_of, crossing}
use Rattle.mesh_plane.proofs.Whole.{linear, mul_assoc, mul_le_mul_left, mul_lt_mul_left, mul_pos, mul_nonneg_nonpos, mul_pos_neg, mul_nonneg, mul_one, mul_add}
use Rattle.mesh_plane.proofs.Ring.{ring, var, ◌⊕◌, ◌⊖◌, ◌⊗◌}
use Rattle.mesh_plane.proofs.PointExprs.{point_var, coordinates, turned, scaled_point_expr}
use Rattle.mesh_plane.proofs.Grids.{scale, winds}
use Rattle.mesh_lattice.proofs.Each.{Each, each_more}

-- ---- tests of multiplied numbers
le_scaled : (k a b : ℤ) → pos 0 <ℤ k → int_le (k *ℤ a) (k *ℤ b) ≡ int_le a b
le_scaled k a b some =
    by_lt_z b a
    (λ (h : b <ℤ a). let l : (k *ℤ b) <ℤ (k *ℤ a) = mul_lt_mul_left k b a some h in grind (arith, ints))
    (λ (h : a ≤ℤ b). let l : (k *ℤ a) ≤ℤ (k *ℤ b) = mul_le_mul_left k a b (omega (arith, ints)) h in grind (arith, ints))

lt_scaled : (k a b : ℤ) → pos 0 <ℤ k → int_lt (k *ℤ a) (k *ℤ b) ≡ int_lt a b
lt_scaled k a b some =
    by_lt_z a b
    (λ (h : a <ℤ b). let l : (k *ℤ a) <ℤ (k *ℤ b) = mul_lt_mul_left k a b some h in grind (arith, ints))
    (λ (h : b ≤ℤ a). let l : (k *ℤ b) ≤ℤ (k *ℤ a) = mul_le_mul_left k b a (omega (arith, ints)) h in grind (arith, ints))

above_scaled : (k s : ℤ) → pos 0 <ℤ k → int_lt (pos 0) (k *ℤ (k *ℤ s)) ≡ int_lt (pos 0) s
above_scaled k s some =
    by_lt_z (pos 0) s
    (λ (h : pos 0 <ℤ s). let l : pos 0 <ℤ (k *ℤ (k *ℤ s)) = mul_pos k (k *ℤ s) some (mul_pos k s some h) in grind (arith, ints))
    (λ (h : s ≤ℤ pos 0).
    let l : (k *ℤ (k *ℤ s)) ≤ℤ pos 0 = mul_nonneg_nonpos k (k *ℤ s) (omega (arith, ints)) (mul_nonneg_nonpos k s (omega (arith, ints)) h) in
    grind (arith, ints))

below_scaled : (k s : ℤ) → pos 0 <ℤ k → int_lt (k *ℤ (k *ℤ s)) (pos 0) ≡ int_lt s (pos 0)
below_scaled k s some =
    by_lt_z s (pos 0)
    (λ (h : s <ℤ pos 0). let l : (k *ℤ (k *ℤ s)) <ℤ pos 0 = mul_pos_neg k (k *ℤ s) some (mul_pos_neg k s some h) in grind (arith, ints))
    (λ (h : pos 0 ≤ℤ s).
    let l : pos 0 ≤ℤ (k *ℤ (k *ℤ s)) = mul_nonneg k (k *ℤ s) (omega (arith, ints)) (mul_nonneg k s (omega (arith, ints)) h) in
    grind (arith, ints))

turn_scaled : (k : ℤ) (p r q : Point) → turn (scale k p) (scale k r) (scale k q) ≡ k *ℤ (k *ℤ turn p r q)
turn_scaled k p r q =
    ring (coordinates (p ∷ r ∷ q ∷ []) (k ∷ []))
    (turned (scaled_point_expr (var 6) (point_var 0)) (scaled_point_expr (var 6) (point_var 1)) (scaled_point_expr (var 6) (point_var 2)))
    (var 6 ⊗ (var 6 ⊗ turned (point_var 0) (point_var 1) (point_var 2)))
    refl

-- the crossing stays when edge and point are multiplied
pub crossing_scaled : (k : ℤ) (q p r : Point) → pos 0 <ℤ k → crossing (scale k q) (scale k p) (scale k r) ≡ crossing q p r
crossing_scaled k q p r some =
    ap (λ (t : ℤ). crossing_of (k *ℤ p.1) (k *ℤ r.1) (k *ℤ q.1) t) (turn_scaled k p r q)
    ∙ (λ i.
    cond (le_scaled k p.1 q.1 some i && lt_scaled k q.1 r.1 some i)
    (cond (above_scaled k (turn p r q) some i) (pos 1) (pos 0))
    (cond (le_scaled k r.1 q.1 some i && lt_scaled k q.1 p.1 some i) (cond (below_scaled k (turn p r q) some i) (negsuc 0) (pos 0)) (pos 0)))

pub scale_twice : (k m : ℤ) (p : Point) → scale (k *ℤ m) p ≡ scale k (scale m p)
scale_twice k m p = λ i. (mul_assoc k m p.0 i, mul_assoc k m p.1 i)

pub crossing_finer : (k m : ℤ) (q p r : Point) → pos 0 <ℤ k →
    crossing (scale k q) (scale (k *ℤ m) p) (scale (k *ℤ m) r) ≡ crossing q (scale m p) (scale m r)
crossing_finer k m q p r some =
    (λ i. crossing (scale k q) (scale_twice k m p i) (scale_twice k m r i)) ∙ crossing_scaled k q (scale m p) (scale m r) some

-- the winding stays on a finer grid
pub winds_finer : (k m : ℤ) (q : Point) (es : List Edge) → pos 0 <ℤ k → winds (k *ℤ m) (scale k q) es ≡ winds m q es
winds_finer k m q [] some = refl
winds_finer k m q (e ∷ es) some = omega (arith, linear, crossing_finer k m q e.0 e.1 some, winds_finer k m q es some)

-- ---- the crossing with the heights' ranges closed above
abbrev pub below_of : ℤ → ℤ → ℤ → ℤ → ℤ
below_of a b h t =
    cond (int_lt a h && int_le h b)
    (cond (int_lt (pos 0) t) (pos 1) (pos 0))
    (cond (int_lt b h && int_le h a) (cond (int_lt t (pos 0)) (negsuc 0) (pos 0)) (pos 0))

abbrev pub crossing_below : Point → Point → Point → ℤ
crossing_below q p r = below_of p.1 r.1 q.1 (turn p r q)

rising : (a b h t : ℤ) → a <ℤ b → crossing_of a b h t ≡ cond (int_le a h && int_lt h b) (cond (int_lt (pos 0) t) (pos 1) (pos 0)) (pos 0)
rising a b h t up = grind (arith, ints)

rising_below : (a b h t : ℤ) → a <ℤ b → below_of a b h t ≡ cond (int_lt a h && int_le h b) (cond (int_lt (pos 0) t) (pos 1) (pos 0)) (pos 0)
rising_below a b h t up = grind (arith, ints)

pub level_none : (a h t : ℤ) → crossing_of a a h t ≡ pos 0
level_none a h t = grind (arith, ints)

pub level_below_none : (a h t : ℤ) → below_of a a h t ≡ pos 0
level_below_none a h t = grind (arith, ints)

-- ---- tests at a height between two steps of the coarser grid
mul_add_one : (k b : ℤ) → k *ℤ (b +ℤ pos 1) ≡ (k *ℤ b) +ℤ k
mul_add_one k b = omega (arith, linear, mul_add k b (pos 1), mul_one k)

up_le : (k a b : ℤ) → pos 2 ≤ℤ k → int_le (k *ℤ a) ((k *ℤ b) +ℤ pos 1) ≡ int_le a b
up_le k a b some =
    by_lt_z b a
    (λ (h : b <ℤ a).
    let l : (k *ℤ (b +ℤ pos 1)) ≤ℤ (k *ℤ a) = mul_le_mul_left k (b +ℤ pos 1) a (omega (arith, ints)) (omega (arith, ints)) in
    let e : k *ℤ (b +ℤ pos 1) ≡ (k *ℤ b) +ℤ k = mul_add_one k b in
    let g : ((k *ℤ b) +ℤ pos 1) <ℤ (k *ℤ a) = omega (arith, linear) in
    grind (arith, ints))
    (λ (h : a ≤ℤ b).
    let l : (k *ℤ a) ≤ℤ (k *ℤ b) = mul_le_mul_left k a b (omega (arith, ints)) h in
    let g : (k *ℤ a) ≤ℤ ((k *ℤ b) +ℤ pos 1) = omega (arith, linear) in
    grind (arith, ints))

up_lt : (k a b : ℤ) → pos 2 ≤ℤ k → int_lt ((k *ℤ b) +ℤ pos 1) (k *ℤ a) ≡ int_lt b a
up_lt k a b some =
    by_lt_z b a
    (λ (h : b <ℤ a).
    let l : (k *ℤ (b +ℤ pos 1)) ≤ℤ (k *ℤ a) = mul_le_mul_left k (b +ℤ pos 1) a (omega (arith, ints)) (omega (arith, ints)) in
    let e : k *ℤ (b +ℤ pos 1) ≡ (k *ℤ b) +ℤ k = mul_add_one k b in
    let g : ((k *ℤ b) +ℤ pos 1) <ℤ (k *ℤ a) = omega (arith, linear) in
    grind (arith, ints))
    (λ (h : a ≤ℤ b).
    let l : (k *ℤ a) ≤ℤ (k *ℤ b) = mul_le_mul_left k a b (omega (arith, ints)) h in
    let g : (k *ℤ a) ≤ℤ ((k *ℤ b) +ℤ pos 1) = omega (arith, linear) in
    grind (arith, ints))

down_le : (k a b : ℤ) → pos 2 ≤ℤ k → int_le (k *ℤ a) ((k *ℤ b) -ℤ pos 1) ≡ int_lt a b
down_le k a b some =
    by_lt_z a b
    (λ (h : a <ℤ b).
    let l : (k *ℤ (a +ℤ pos 1)) ≤ℤ (k *ℤ b) = mul_le_mul_left k (a +ℤ pos 1) b (omega (arith, ints)) (omega (arith, ints)) in
    let e : k *ℤ (a +ℤ pos 1) ≡ (k *ℤ a) +ℤ k = mul_add_one k a in
    let g : (k *ℤ a) ≤ℤ ((k *ℤ b) -ℤ pos 1) = omega (arith, linear) in
    grind (arith, ints))
    (λ (h : b ≤ℤ a).
    let l : (k *ℤ b) ≤ℤ (k *ℤ a) = mul_le_mul_left k b a (omega (arith, ints)) h in
    let g : ((k *ℤ b) -ℤ pos 1) <ℤ (k *ℤ a) = omega (arith, linear) in
    grind (arith, ints))

down_lt : (k a b : ℤ) → pos 2 ≤ℤ k → int_lt ((k *ℤ b) -ℤ pos 1) (k *ℤ a) ≡ int_le b a
down_lt k a b some =
    by_lt_z a b
    (λ (h : a <ℤ b).
    let l : (k *ℤ (a +ℤ pos 1)) ≤ℤ (k *ℤ b) = mul_le_mul_left k (a +ℤ pos 1) b (omega (arith, ints)) (omega (arith, ints)) in
    let e : k *ℤ (a +ℤ pos 1) ≡ (k *ℤ a) +ℤ k = mul_add_one k a in
    let g : (k *ℤ a) ≤ℤ ((k *ℤ b) -ℤ pos 1) = omega (arith, linear) in
    grind (arith, ints))
    (λ (h : b ≤ℤ a).
    let l : (k *ℤ b) ≤ℤ (k *ℤ a) = mul_le_mul_left k b a (omega (arith, ints)) h in
    let g : ((k *ℤ b) -ℤ pos 1) <ℤ (k *ℤ a) = omega (arith, linear) in
    grind (arith, ints))

-- a turn moved by `w`, which is at most 0 and above -k
above_moved : (k s w : ℤ) → pos 0 <ℤ k → w ≤ℤ pos 0 → neg_ℤ w <ℤ k → int_lt (pos 0) (k *ℤ ((k *ℤ s) +ℤ w)) ≡ int_lt (pos 0) s
above_moved k s w some low high =
    by_lt_z (pos 0) s
    (λ (h : pos 0 <ℤ s).
    let l : (k *ℤ pos 1) ≤ℤ (k *ℤ s) = mul_le_mul_left k (pos 1) s (omega (arith, ints)) (omega (arith, ints)) in
    let o : k *ℤ pos 1 ≡ k = mul_one k in
    let g : pos 0 <ℤ (k *ℤ ((k *ℤ s) +ℤ w)) = mul_pos k ((k *ℤ s) +ℤ w) some (omega (arith, linear)) in
    grind (arith, ints))
    (λ (h : s ≤ℤ pos 0).
    let l : (k *ℤ s) ≤ℤ pos 0 = mul_nonneg_nonpos k s (omega (arith, ints)) h in
    let g : (k *ℤ ((k *ℤ s) +ℤ w)) ≤ℤ pos 0 = mul_nonneg_nonpos k ((k *ℤ s) +ℤ w) (omega (arith, ints)) (omega (arith, linear)) in
    grind (arith, ints))

-- the turn of a point moved by (v, u)
turn_moved : (k u v : ℤ) (p r q : Point) →
    turn (scale k p) (scale k r) ((k *ℤ q.0) +ℤ v, (k *ℤ q.1) +ℤ u)
    ≡ k *ℤ ((k *ℤ turn p r q) +ℤ ((u *ℤ (r.0 -ℤ p.0)) -ℤ ((r.1 -ℤ p.1) *ℤ v)))
turn_moved k u v p r q =
    ring (coordinates (p ∷ r ∷ q ∷ []) (k ∷ u ∷ v ∷ []))
    (turned (scaled_point_expr (var 6) (point_var 0)) (scaled_point_expr (var 6) (point_var 1)) ((var 6 ⊗ var 4) ⊕ var 8, (var 6 ⊗ var 5) ⊕ var 7))
    (var 6 ⊗ ((var 6 ⊗ turned (point_var 0) (point_var 1) (point_var 2)) ⊕ ((var 7 ⊗ (var 2 ⊖ var 0)) ⊖ ((var 3 ⊖ var 1) ⊗ var 8))))
    refl

-- `v` and `k` are large enough for an edge upwards, where the point moves by (v, u)
pub record Moves (k u v : ℤ) (p r : Point) : Type 0 where
  pub step : pos 2 ≤ℤ k
  pub low : ((u *ℤ (r.0 -ℤ p.0)) -ℤ ((r.1 -ℤ p.1) *ℤ v)) ≤ℤ pos 0
  pub high : neg_ℤ ((u *ℤ (r.0 -ℤ p.0)) -ℤ ((r.1 -ℤ p.1) *ℤ v)) <ℤ k

-- a little up and to the east, the crossing stays
pub crossing_up_moved : (k v : ℤ) (q p r : Point) → p.1 <ℤ r.1 → Moves k (pos 1) v p r →
    crossing ((k *ℤ q.0) +ℤ v, (k *ℤ q.1) +ℤ pos 1) (scale k p) (scale k r) ≡ crossing q p r
crossing_up_moved k v q p r up h =
    let some : pos 0 <ℤ k = omega (arith, ints, h.step) in
    let w : ℤ = (pos 1 *ℤ (r.0 -ℤ p.0)) -ℤ ((r.1 -ℤ p.1) *ℤ v) in
    ap (λ (t : ℤ). crossing_of (k *ℤ p.1) (k *ℤ r.1) ((k *ℤ q.1) +ℤ pos 1) t) (turn_moved k (pos 1) v p r q)
    ∙ (rising (k *ℤ p.1) (k *ℤ r.1) ((k *ℤ q.1) +ℤ pos 1) (k *ℤ ((k *ℤ turn p r q) +ℤ w)) (mul_lt_mul_left k p.1 r.1 some up)
    ∙ ((λ i. cond (up_le k p.1 q.1 h.step i && up_lt k r.1 q.1 h.step i) (cond (above_moved k (turn p r q) w some h.low h.high i) (pos 1) (pos 0)) (pos 0))
    ∙ sym (rising p.1 r.1 q.1 (turn p r q) up)))

-- a little down and to the east, the crossing is the one with ranges closed above
pub crossing_down_moved : (k v : ℤ) (q p r : Point) → p.1 <ℤ r.1 → Moves k (negsuc 0) v p r →
    crossing ((k *ℤ q.0) +ℤ v, (k *ℤ q.1) -ℤ pos 1) (scale k p) (scale k r) ≡ crossing_below q p r
crossing_down_moved k v q p r up h =
    let some : pos 0 <ℤ k = omega (arith, ints, h.step) in
    let w : ℤ = (negsuc 0 *ℤ (r.0 -ℤ p.0)) -ℤ ((r.1 -ℤ p.1) *ℤ v) in
    ap (λ (t : ℤ). crossing_of (k *ℤ p.1) (k *ℤ r.1) ((k *ℤ q.1) -ℤ pos 1) t) (turn_moved k (negsuc 0) v p r q)
    ∙ (rising (k *ℤ p.1) (k *ℤ r.1) ((k *ℤ q.1) -ℤ pos 1) (k *ℤ ((k *ℤ turn p r q) +ℤ w)) (mul_lt_mul_left k p.1 r.1 some up)
    ∙ ((λ i. cond (down_le k p.1 q.1 h.step i && down_lt k r.1 q.1 h.step i) (cond (above_moved k (turn p r q) w some h.low h.high i) (pos 1) (pos 0)) (pos 0))
    ∙ sym (rising_below p.1 r.1 q.1 (turn p r q) up)))

-- ---- bounds and common multiples over a list
pub record Bound (f : Edge → ℤ) (es : List Edge) : Type 0 where
  pub most : ℤ
  pub some : pos 0 <ℤ most
  pub each : Each (λ (e : Edge). f e ≤ℤ most) es

pub bound : (f : Edge → ℤ) (es : List Edge) → Bound f es
bound f [] = record { most = pos 1; some = omega (arith, ints); each = tt }
bound f (e ∷ es) =
    let b = bound f es in
    by_lt_z b.most (f e)
    (λ (h : b.most <ℤ f e). record {
      most = f e;
      some = omega (arith, ints, b.some);
      each = (omega (arith, ints), each_more (λ (d : Edge). f d ≤ℤ b.most) (λ (d : Edge). f d ≤ℤ f e) (λ (d : Edge) (x : f d ≤ℤ b.most). omega (arith, ints)) es b.each);
    })
    (λ (h : f e ≤ℤ b.most). record { most = b.most; some = b.some; each = (h, b.each) })

-- a number above 0 that is a multiple of `d`, where `d` is above 0
pub record Divides (n d : ℤ) : Type 0 where
  pub times : ℤ
  pub same : n ≡ times *ℤ d

pub record Multiple (f : Edge → ℤ) (es : List Edge) : Type 0 where
  pub of : ℤ
  pub some : pos 0 <ℤ of
  pub each : Each (λ (e : Edge). pos 0 <ℤ f e → Divides of (f e)) es

pub multiple : (f : Edge → ℤ) (es : List Edge) → Multiple f es
multiple f [] = record { of = pos 1; some = omega (arith, ints); each = tt }
multiple f (e ∷ es) =
    let b = multiple f es in
    by_lt_z (pos 0) (f e)
    (λ (h : pos 0 <ℤ f e). record {
      of = b.of *ℤ f e;
      some = mul_pos b.of (f e) b.some h;
      each = (
        (λ (x : pos 0 <ℤ f e). record { times = b.of; same = refl }),
        each_more (λ (d : Edge). pos 0 <ℤ f d → Divides b.of (f d)) (λ (d : Edge). pos 0 <ℤ f d → Divides (b.of *ℤ f e) (f d))
            (λ (d : Edge) (g : pos 0 <ℤ f d → Divides b.of (f d)) (x : pos 0 <ℤ f d). widened b.of (f d) (f e) (g x)) es b.each,
      );
    })
    (λ (h : f e ≤ℤ pos 0). record { of = b.of; some = b.some; each = ((λ (x : pos 0 <ℤ f e). absurd (less_not (f e) x h)), b.each) })
  where
    widened : (n d k : ℤ) → Divides n d → Divides (n *ℤ k) d
    widened n d k g = record {
      times = g.times *ℤ k;
      same = ap (λ (z : ℤ). z *ℤ k) g.same ∙ ring (g.times ∷ d ∷ k ∷ []) ((var 0 ⊗ var 1) ⊗ var 2) ((var 0 ⊗ var 2) ⊗ var 1) refl;
    }

    less_not : (x : ℤ) → pos 0 <ℤ x → x ≤ℤ pos 0 → ⊥
    less_not x a b = omega (arith, ints)
