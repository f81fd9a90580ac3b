-- Lemmas over points and lists: the crossings at a point are those at a point of a fine grid whose line meets no end,
-- and goes through each segment at a whole place or misses it.
use Rattle.std.proofs.Common.{◌≡◌, ◌⊎◌, inl, inr, ⊎_elim, List, [], ◌∷◌, refl, sym, ◌∙◌, ap, subst, arith}
use Rattle.std.specs.Prelude.{ℤ, pos, negsuc, neg_ℤ, ◌+ℤ◌, ◌-ℤ◌, ◌*ℤ◌, ◌≤ℤ◌, ◌<ℤ◌}
use Rattle.std.proofs.lemmas.Int.{ints, by_lt_z}
use Rattle.mesh_plane.specs.Plane.{Point, Edge, turn}
use Rattle.mesh_plane.specs.Winding.{crossing_of, crossing}
use Rattle.mesh_plane.proofs.Whole.{linear, mul_assoc, mul_le_mul_left, mul_le_mul_right, mul_lt_mul_left, mul_pos, mul_nonneg_nonpos, mul_one, one_mul}
use Rattle.mesh_plane.proofs.Ring.{ring, var, lit, ◌⊕◌, ◌⊖◌, ◌⊗◌}
use Rattle.mesh_plane.proofs.Crossings.{crossing_low, crossing_high}
use Rattle.mesh_plane.proofs.Grids.{scale}
use Rattle.mesh_lattice.proofs.Each.{Each}
use Rattle.mesh_lattice.proofs.Keys.{Leans}
use Rattle.mesh_regions.proofs.FinerGrids.{crossing_finer, scale_twice, crossing_below, below_of, level_none, level_below_none, Moves, crossing_up_moved, crossing_down_moved, bound, Divides, multiple}

-- the line at the height `h` of the grid `m` goes through a segment inside, at a whole place
pub record Hit (m h : ℤ) (s : Edge) : Type 0 where
  pub parts : ℤ
  pub low : pos 0 <ℤ parts
  pub high : parts <ℤ m
  pub rises : s.0.1 <ℤ s.1.1
  pub level : (m *ℤ s.0.1) +ℤ (parts *ℤ (s.1.1 -ℤ s.0.1)) ≡ h

-- no point of the line is crossed by the segment, or the line goes through it so
pub data Met (m h : ℤ) (s : Edge) : Type 0 where
  idle : ((x : ℤ) → crossing (x, h) (scale m s.0) (scale m s.1) ≡ pos 0) → Met m h s
  hit : Hit m h s → Met m h s

-- `f` on the segments is the crossing at one point of a fine even grid, whose line meets each segment so
pub record Fine (rs : List Edge) (f : Edge → ℤ) : Type 0 where
  pub half : ℤ
  pub at : ℤ
  pub height : ℤ
  pub some : pos 0 <ℤ half
  pub each : Each (λ (s : Edge). (f s ≡ crossing (at, height) (scale (half *ℤ pos 2) s.0) (scale (half *ℤ pos 2) s.1)) × Met (half *ℤ pos 2) height s) rs

positive_factor : (c d : ℤ) → pos 0 <ℤ d → pos 0 <ℤ (c *ℤ d) → pos 0 <ℤ c
positive_factor c d hd h =
    by_lt_z (pos 0) c (λ (x : pos 0 <ℤ c). x)
    (λ (x : c ≤ℤ pos 0). absurd (omega (arith, linear, mul_nonneg_nonpos d c (omega (arith, linear)) x, commuted c d)))
  where
    commuted : (a b : ℤ) → a *ℤ b ≡ b *ℤ a
    commuted a b = ring (a ∷ b ∷ []) (var 0 ⊗ var 1) (var 1 ⊗ var 0) refl

strict : (a h : ℤ) → a ≤ℤ h → (a ≡ h → ⊥) → a <ℤ h
strict a h low apart = by_lt_z a h (λ (x : a <ℤ h). x) (λ (x : h ≤ℤ a). absurd (apart (omega (arith, ints))))

rise_times : (k a b : ℤ) → (b -ℤ a) *ℤ k ≡ (k *ℤ b) -ℤ (k *ℤ a)
rise_times k a b = ring (k ∷ a ∷ b ∷ []) ((var 2 ⊖ var 1) ⊗ var 0) ((var 0 ⊗ var 2) ⊖ (var 0 ⊗ var 1)) refl

met_of : (n k h : ℤ) (s : Edge) → pos 0 <ℤ n → pos 0 <ℤ k → Leans s → (k *ℤ s.0.1 ≡ h → ⊥) →
    (pos 0 <ℤ (s.1.1 -ℤ s.0.1) → Divides n (s.1.1 -ℤ s.0.1)) → Met (n *ℤ k) (n *ℤ h) s
met_of n k h s hn hk (inr flat) apart divides =
    idle (λ (x : ℤ).
    ap (λ (y : ℤ). crossing_of ((n *ℤ k) *ℤ y) ((n *ℤ k) *ℤ s.1.1) (n *ℤ h) (turn (scale (n *ℤ k) s.0) (scale (n *ℤ k) s.1) (x, n *ℤ h))) flat.0
    ∙ level_none ((n *ℤ k) *ℤ s.1.1) (n *ℤ h) (turn (scale (n *ℤ k) s.0) (scale (n *ℤ k) s.1) (x, n *ℤ h)))
met_of n k h s hn hk (inl up) apart divides =
    let first : (n *ℤ k) *ℤ s.0.1 ≡ n *ℤ (k *ℤ s.0.1) = mul_assoc n k s.0.1 in
    let last : (n *ℤ k) *ℤ s.1.1 ≡ n *ℤ (k *ℤ s.1.1) = mul_assoc n k s.1.1 in
    let higher : (k *ℤ s.0.1) <ℤ (k *ℤ s.1.1) = mul_lt_mul_left k s.0.1 s.1.1 hk up in
    by_lt_z h (k *ℤ s.0.1)
    (λ (x : h <ℤ (k *ℤ s.0.1)).
    let a : (n *ℤ h) <ℤ (n *ℤ (k *ℤ s.0.1)) = mul_lt_mul_left n h (k *ℤ s.0.1) hn x in
    let b : (n *ℤ h) <ℤ (n *ℤ (k *ℤ s.1.1)) = mul_lt_mul_left n h (k *ℤ s.1.1) hn (omega (arith, linear)) in
    idle (λ (z : ℤ). crossing_high ((n *ℤ k) *ℤ s.0.1) ((n *ℤ k) *ℤ s.1.1) (n *ℤ h) (turn (scale (n *ℤ k) s.0) (scale (n *ℤ k) s.1) (z, n *ℤ h)) (omega (arith, linear)) (omega (arith, linear))))
    (λ (x : (k *ℤ s.0.1) ≤ℤ h).
    by_lt_z h (k *ℤ s.1.1)
    (λ (y : h <ℤ (k *ℤ s.1.1)). hit (through x y))
    (λ (y : (k *ℤ s.1.1) ≤ℤ h).
    let a : (n *ℤ (k *ℤ s.0.1)) ≤ℤ (n *ℤ h) = mul_le_mul_left n (k *ℤ s.0.1) h (omega (arith, linear)) x in
    let b : (n *ℤ (k *ℤ s.1.1)) ≤ℤ (n *ℤ h) = mul_le_mul_left n (k *ℤ s.1.1) h (omega (arith, linear)) y in
    idle (λ (z : ℤ). crossing_low ((n *ℤ k) *ℤ s.0.1) ((n *ℤ k) *ℤ s.1.1) (n *ℤ h) (turn (scale (n *ℤ k) s.0) (scale (n *ℤ k) s.1) (z, n *ℤ h)) (omega (arith, linear)) (omega (arith, linear)))))
  where
    through : (k *ℤ s.0.1) ≤ℤ h → h <ℤ (k *ℤ s.1.1) → Hit (n *ℤ k) (n *ℤ h) s
    through x y =
        let d : ℤ = s.1.1 -ℤ s.0.1 in
        let rise : pos 0 <ℤ d = omega (arith, linear) in
        let g = divides rise in
        let c : ℤ = g.times in
        let positive : pos 0 <ℤ c = positive_factor c d rise (subst (λ (z : ℤ). pos 0 <ℤ z) g.same hn) in
        let below : (k *ℤ s.0.1) <ℤ h = strict (k *ℤ s.0.1) h x apart in
        let room : (h -ℤ (k *ℤ s.0.1)) <ℤ (d *ℤ k) = omega (arith, linear, rise_times k s.0.1 s.1.1) in
        record {
          parts = c *ℤ (h -ℤ (k *ℤ s.0.1));
          low = mul_pos c (h -ℤ (k *ℤ s.0.1)) positive (omega (arith, linear));
          high =
              subst (λ (z : ℤ). (c *ℤ (h -ℤ (k *ℤ s.0.1))) <ℤ (z *ℤ k)) (sym g.same)
              (subst (λ (z : ℤ). (c *ℤ (h -ℤ (k *ℤ s.0.1))) <ℤ z) (sym (mul_assoc c d k)) (mul_lt_mul_left c (h -ℤ (k *ℤ s.0.1)) (d *ℤ k) positive room));
          rises = up;
          level =
              subst (λ (z : ℤ). ((z *ℤ k) *ℤ s.0.1) +ℤ ((c *ℤ (h -ℤ (k *ℤ s.0.1))) *ℤ d) ≡ z *ℤ h) (sym g.same)
              (ring (c ∷ k ∷ s.0.1 ∷ s.1.1 ∷ h ∷ [])
              ((((var 0 ⊗ (var 3 ⊖ var 2)) ⊗ var 1) ⊗ var 2) ⊕ ((var 0 ⊗ (var 4 ⊖ (var 1 ⊗ var 2))) ⊗ (var 3 ⊖ var 2)))
              ((var 0 ⊗ (var 3 ⊖ var 2)) ⊗ var 4) refl);
        }

-- ---- from a point whose line meets no end, on a grid on which the places need not be whole
abbrev Rise : Edge → ℤ
Rise s = s.1.1 -ℤ s.0.1

fine_each : (n k x h : ℤ) (f : Edge → ℤ) → pos 0 <ℤ n → pos 0 <ℤ k → ((y : ℤ) → k *ℤ y ≡ h → ⊥) → (rs : List Edge) → Each Leans rs →
    Each (λ (s : Edge). f s ≡ crossing (x, h) (scale k s.0) (scale k s.1)) rs → Each (λ (s : Edge). pos 0 <ℤ Rise s → Divides n (Rise s)) rs →
    Each (λ (s : Edge). (f s ≡ crossing (n *ℤ x, n *ℤ h) (scale (n *ℤ k) s.0) (scale (n *ℤ k) s.1)) × Met (n *ℤ k) (n *ℤ h) s) rs
fine_each n k x h f hn hk apart [] lean same divides = tt
fine_each n k x h f hn hk apart (s ∷ rs) lean same divides = (
  (same.0 ∙ sym (crossing_finer n k (x, h) s.0 s.1 hn), met_of n k h s hn hk lean.0 (apart s.0.1) divides.0),
  fine_each n k x h f hn hk apart rs lean.1 same.1 divides.1,
)

doubled : (rs : List Edge) → (n : ℤ) → Each (λ (s : Edge). pos 0 <ℤ Rise s → Divides n (Rise s)) rs → Each (λ (s : Edge). pos 0 <ℤ Rise s → Divides (n *ℤ pos 2) (Rise s)) rs
doubled [] n h = tt
doubled (s ∷ rs) n h = ((λ (x : pos 0 <ℤ Rise s). twice (h.0 x)), doubled rs n h.1)
  where
    twice : Divides n (Rise s) → Divides (n *ℤ pos 2) (Rise s)
    twice g = record {
      times = g.times *ℤ pos 2;
      same = ap (λ (z : ℤ). z *ℤ pos 2) g.same ∙ ring (g.times ∷ Rise s ∷ []) ((var 0 ⊗ var 1) ⊗ lit (pos 2)) ((var 0 ⊗ lit (pos 2)) ⊗ var 1) refl;
    }

fine_of : (k x h : ℤ) (f : Edge → ℤ) (rs : List Edge) → pos 0 <ℤ k → ((y : ℤ) → k *ℤ y ≡ h → ⊥) → Each Leans rs →
    Each (λ (s : Edge). f s ≡ crossing (x, h) (scale k s.0) (scale k s.1)) rs → Fine rs f
fine_of k x h f rs hk apart lean same =
    let b = multiple Rise rs in
    let n : ℤ = b.of in
    let even : (n *ℤ pos 2) *ℤ k ≡ (n *ℤ k) *ℤ pos 2 = ring (n ∷ k ∷ []) ((var 0 ⊗ lit (pos 2)) ⊗ var 1) ((var 0 ⊗ var 1) ⊗ lit (pos 2)) refl in
    let two : pos 0 <ℤ (n *ℤ pos 2) = omega (arith, ints, b.some) in
    record {
      half = n *ℤ k;
      at = (n *ℤ pos 2) *ℤ x;
      height = (n *ℤ pos 2) *ℤ h;
      some = mul_pos n k b.some hk;
      each =
          subst (λ (m : ℤ). Each (λ (s : Edge). (f s ≡ crossing ((n *ℤ pos 2) *ℤ x, (n *ℤ pos 2) *ℤ h) (scale m s.0) (scale m s.1)) × Met m ((n *ℤ pos 2) *ℤ h) s) rs)
          even (fine_each (n *ℤ pos 2) k x h f two hk apart rs lean same (doubled rs n b.each));
    }

-- ---- the point moved a little up, or down, and to the east
one_le : (z : ℤ) → pos 0 <ℤ z → pos 1 ≤ℤ z
one_le z h = omega (arith, ints)

-- no multiple of `k` is 1 away from another
no_end : (k m y h u : ℤ) → pos 2 ≤ℤ k → (u ≡ pos 1) ⊎ (u ≡ negsuc 0) → (k *ℤ m) *ℤ y ≡ (k *ℤ h) +ℤ u → ⊥
no_end k m y h u two one e =
    let z : ℤ = (m *ℤ y) -ℤ h in
    let same : k *ℤ z ≡ ((k *ℤ m) *ℤ y) -ℤ (k *ℤ h) =
    ring (k ∷ m ∷ y ∷ h ∷ []) (var 0 ⊗ ((var 1 ⊗ var 2) ⊖ var 3)) (((var 0 ⊗ var 1) ⊗ var 2) ⊖ (var 0 ⊗ var 3)) refl in
    by_lt_z (pos 0) z
    (λ (x : pos 0 <ℤ z).
    let l : (k *ℤ pos 1) ≤ℤ (k *ℤ z) = mul_le_mul_left k (pos 1) z (omega (arith, linear)) (one_le z x) in
    ⊎_elim (λ (g : u ≡ pos 1). absurd (omega (arith, linear, mul_one k))) (λ (g : u ≡ negsuc 0). absurd (omega (arith, linear, mul_one k))) one)
    (λ (x : z ≤ℤ pos 0).
    by_lt_z z (pos 0)
    (λ (x' : z <ℤ pos 0).
    let l : (k *ℤ z) ≤ℤ (k *ℤ negsuc 0) = mul_le_mul_left k z (negsuc 0) (omega (arith, linear)) (le_minus_one z x') in
    let o : k *ℤ negsuc 0 ≡ neg_ℤ k = omega (arith, ints) in
    ⊎_elim (λ (g : u ≡ pos 1). absurd (omega (arith, linear))) (λ (g : u ≡ negsuc 0). absurd (omega (arith, linear))) one)
    (λ (x' : pos 0 ≤ℤ z).
    let none : z ≡ pos 0 = same_zero z x x' in
    let o : k *ℤ z ≡ k *ℤ pos 0 = ap (λ (t : ℤ). k *ℤ t) none in
    let o' : k *ℤ pos 0 ≡ pos 0 = omega (arith, ints) in
    ⊎_elim (λ (g : u ≡ pos 1). absurd (omega (arith, linear))) (λ (g : u ≡ negsuc 0). absurd (omega (arith, linear))) one))
  where
    le_minus_one : (z : ℤ) → z <ℤ pos 0 → z ≤ℤ negsuc 0
    le_minus_one z h = omega (arith, ints)

    same_zero : (z : ℤ) → z ≤ℤ pos 0 → pos 0 ≤ℤ z → z ≡ pos 0
    same_zero z a b = omega (arith, ints)

-- how the turn from an edge moves
abbrev moved : ℤ → ℤ → ℤ → Edge → ℤ
moved m u v s = (u *ℤ ((m *ℤ s.1.0) -ℤ (m *ℤ s.0.0))) -ℤ (((m *ℤ s.1.1) -ℤ (m *ℤ s.0.1)) *ℤ v)

moves_of : (m u v b : ℤ) (s : Edge) → pos 0 <ℤ m → pos 0 <ℤ v → pos 0 <ℤ b → s.0.1 <ℤ s.1.1 →
    (u *ℤ ((m *ℤ s.1.0) -ℤ (m *ℤ s.0.0))) ≤ℤ v → neg_ℤ (moved m u v s) ≤ℤ b → Moves (b +ℤ pos 2) u v (scale m s.0) (scale m s.1)
moves_of m u v b s hm hv hb up wide deep =
    let rise : (m *ℤ s.0.1) <ℤ (m *ℤ s.1.1) = mul_lt_mul_left m s.0.1 s.1.1 hm up in
    let least : (pos 1 *ℤ v) ≤ℤ (((m *ℤ s.1.1) -ℤ (m *ℤ s.0.1)) *ℤ v) =
    mul_le_mul_right v (pos 1) ((m *ℤ s.1.1) -ℤ (m *ℤ s.0.1)) (omega (arith, linear)) (one_le ((m *ℤ s.1.1) -ℤ (m *ℤ s.0.1)) (omega (arith, linear))) in
    record { step = omega (arith, linear); low = omega (arith, linear, one_mul v); high = omega (arith, linear) }

level_at : (m : ℤ) (q : Point) (s : Edge) → s.0.1 ≡ s.1.1 → crossing q (scale m s.0) (scale m s.1) ≡ pos 0
level_at m q s flat =
    ap (λ (y : ℤ). crossing_of (m *ℤ y) (m *ℤ s.1.1) q.1 (turn (scale m s.0) (scale m s.1) q)) flat
    ∙ level_none (m *ℤ s.1.1) q.1 (turn (scale m s.0) (scale m s.1) q)

level_at_below : (m : ℤ) (q : Point) (s : Edge) → s.0.1 ≡ s.1.1 → crossing_below q (scale m s.0) (scale m s.1) ≡ pos 0
level_at_below m q s flat =
    ap (λ (y : ℤ). below_of (m *ℤ y) (m *ℤ s.1.1) q.1 (turn (scale m s.0) (scale m s.1) q)) flat
    ∙ level_below_none (m *ℤ s.1.1) q.1 (turn (scale m s.0) (scale m s.1) q)

up_each : (m v b : ℤ) (q : Point) → pos 0 <ℤ m → pos 0 <ℤ v → pos 0 <ℤ b → (rs : List Edge) → Each Leans rs →
    Each (λ (s : Edge). (pos 1 *ℤ ((m *ℤ s.1.0) -ℤ (m *ℤ s.0.0))) ≤ℤ v) rs → Each (λ (s : Edge). neg_ℤ (moved m (pos 1) v s) ≤ℤ b) rs →
    Each (λ (s : Edge). crossing q (scale m s.0) (scale m s.1)
    ≡ crossing (((b +ℤ pos 2) *ℤ q.0) +ℤ v, ((b +ℤ pos 2) *ℤ q.1) +ℤ pos 1) (scale ((b +ℤ pos 2) *ℤ m) s.0) (scale ((b +ℤ pos 2) *ℤ m) s.1)) rs
up_each m v b q hm hv hb [] lean wide deep = tt
up_each m v b q hm hv hb (s ∷ rs) lean wide deep = (one lean.0, up_each m v b q hm hv hb rs lean.1 wide.1 deep.1)
  where
    one : Leans s → crossing q (scale m s.0) (scale m s.1)
        ≡ crossing (((b +ℤ pos 2) *ℤ q.0) +ℤ v, ((b +ℤ pos 2) *ℤ q.1) +ℤ pos 1) (scale ((b +ℤ pos 2) *ℤ m) s.0) (scale ((b +ℤ pos 2) *ℤ m) s.1)
    one (inl up) =
        sym (crossing_up_moved (b +ℤ pos 2) v q (scale m s.0) (scale m s.1) (mul_lt_mul_left m s.0.1 s.1.1 hm up) (moves_of m (pos 1) v b s hm hv hb up wide.0 deep.0))
        ∙ (λ i. crossing (((b +ℤ pos 2) *ℤ q.0) +ℤ v, ((b +ℤ pos 2) *ℤ q.1) +ℤ pos 1) (sym (scale_twice (b +ℤ pos 2) m s.0) i) (sym (scale_twice (b +ℤ pos 2) m s.1) i))
    one (inr flat) =
        level_at m q s flat.0 ∙ sym (level_at ((b +ℤ pos 2) *ℤ m) (((b +ℤ pos 2) *ℤ q.0) +ℤ v, ((b +ℤ pos 2) *ℤ q.1) +ℤ pos 1) s flat.0)

down_each : (m v b : ℤ) (q : Point) → pos 0 <ℤ m → pos 0 <ℤ v → pos 0 <ℤ b → (rs : List Edge) → Each Leans rs →
    Each (λ (s : Edge). (negsuc 0 *ℤ ((m *ℤ s.1.0) -ℤ (m *ℤ s.0.0))) ≤ℤ v) rs → Each (λ (s : Edge). neg_ℤ (moved m (negsuc 0) v s) ≤ℤ b) rs →
    Each (λ (s : Edge). crossing_below q (scale m s.0) (scale m s.1)
    ≡ crossing (((b +ℤ pos 2) *ℤ q.0) +ℤ v, ((b +ℤ pos 2) *ℤ q.1) -ℤ pos 1) (scale ((b +ℤ pos 2) *ℤ m) s.0) (scale ((b +ℤ pos 2) *ℤ m) s.1)) rs
down_each m v b q hm hv hb [] lean wide deep = tt
down_each m v b q hm hv hb (s ∷ rs) lean wide deep = (one lean.0, down_each m v b q hm hv hb rs lean.1 wide.1 deep.1)
  where
    one : Leans s → crossing_below q (scale m s.0) (scale m s.1)
        ≡ crossing (((b +ℤ pos 2) *ℤ q.0) +ℤ v, ((b +ℤ pos 2) *ℤ q.1) -ℤ pos 1) (scale ((b +ℤ pos 2) *ℤ m) s.0) (scale ((b +ℤ pos 2) *ℤ m) s.1)
    one (inl up) =
        sym (crossing_down_moved (b +ℤ pos 2) v q (scale m s.0) (scale m s.1) (mul_lt_mul_left m s.0.1 s.1.1 hm up) (moves_of m (negsuc 0) v b s hm hv hb up wide.0 deep.0))
        ∙ (λ i. crossing (((b +ℤ pos 2) *ℤ q.0) +ℤ v, ((b +ℤ pos 2) *ℤ q.1) -ℤ pos 1) (sym (scale_twice (b +ℤ pos 2) m s.0) i) (sym (scale_twice (b +ℤ pos 2) m s.1) i))
    one (inr flat) =
        level_at_below m q s flat.0 ∙ sym (level_at ((b +ℤ pos 2) *ℤ m) (((b +ℤ pos 2) *ℤ q.0) +ℤ v, ((b +ℤ pos 2) *ℤ q.1) -ℤ pos 1) s flat.0)

pub fine_up : (m : ℤ) (q : Point) (rs : List Edge) → pos 0 <ℤ m → Each Leans rs → Fine rs (λ (s : Edge). crossing q (scale m s.0) (scale m s.1))
fine_up m q rs hm lean =
    let wide = bound (λ (s : Edge). pos 1 *ℤ ((m *ℤ s.1.0) -ℤ (m *ℤ s.0.0))) rs in
    let v : ℤ = wide.most in
    let deep = bound (λ (s : Edge). neg_ℤ (moved m (pos 1) v s)) rs in
    let b : ℤ = deep.most in
    let two : pos 2 ≤ℤ (b +ℤ pos 2) = omega (arith, ints, deep.some) in
    let some : pos 0 <ℤ (b +ℤ pos 2) = omega (arith, ints, deep.some) in
    fine_of ((b +ℤ pos 2) *ℤ m) (((b +ℤ pos 2) *ℤ q.0) +ℤ v) (((b +ℤ pos 2) *ℤ q.1) +ℤ pos 1) (λ (s : Edge). crossing q (scale m s.0) (scale m s.1)) rs
    (mul_pos (b +ℤ pos 2) m some hm)
    (λ (y : ℤ) (e : ((b +ℤ pos 2) *ℤ m) *ℤ y ≡ ((b +ℤ pos 2) *ℤ q.1) +ℤ pos 1). no_end (b +ℤ pos 2) m y q.1 (pos 1) two (inl refl) e)
    lean (up_each m v b q hm wide.some deep.some rs lean wide.each deep.each)

pub fine_down : (m : ℤ) (q : Point) (rs : List Edge) → pos 0 <ℤ m → Each Leans rs → Fine rs (λ (s : Edge). crossing_below q (scale m s.0) (scale m s.1))
fine_down m q rs hm lean =
    let wide = bound (λ (s : Edge). negsuc 0 *ℤ ((m *ℤ s.1.0) -ℤ (m *ℤ s.0.0))) rs in
    let v : ℤ = wide.most in
    let deep = bound (λ (s : Edge). neg_ℤ (moved m (negsuc 0) v s)) rs in
    let b : ℤ = deep.most in
    let two : pos 2 ≤ℤ (b +ℤ pos 2) = omega (arith, ints, deep.some) in
    let some : pos 0 <ℤ (b +ℤ pos 2) = omega (arith, ints, deep.some) in
    fine_of ((b +ℤ pos 2) *ℤ m) (((b +ℤ pos 2) *ℤ q.0) +ℤ v) (((b +ℤ pos 2) *ℤ q.1) -ℤ pos 1) (λ (s : Edge). crossing_below q (scale m s.0) (scale m s.1)) rs
    (mul_pos (b +ℤ pos 2) m some hm)
    (λ (y : ℤ) (e : ((b +ℤ pos 2) *ℤ m) *ℤ y ≡ ((b +ℤ pos 2) *ℤ q.1) -ℤ pos 1). no_end (b +ℤ pos 2) m y q.1 (negsuc 0) two (inr refl) (less_one ((b +ℤ pos 2) *ℤ q.1) (((b +ℤ pos 2) *ℤ m) *ℤ y) e))
    lean (down_each m v b q hm wide.some deep.some rs lean wide.each deep.each)
  where
    less_one : (a y : ℤ) → y ≡ a -ℤ pos 1 → y ≡ a +ℤ negsuc 0
    less_one a y e = omega (arith, ints)
