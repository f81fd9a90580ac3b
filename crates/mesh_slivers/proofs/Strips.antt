-- Lemmas over points and lists: a sliver winds round no point farther than its width from its edges.
use Rattle.std.proofs.Common.{◌≡◌, ℕ, ◌*◌, ◌<◌, inl, inr, List, [], ◌∷◌, refl, sym, ◌∙◌, ap, arith}
use Rattle.std.specs.Prelude.{ℤ, pos, negsuc, ◌+ℤ◌, ◌*ℤ◌, ◌≤ℤ◌, ◌<ℤ◌, neg_ℤ, unsigned_abs, max}
use Rattle.std.specs.List.{All}
use Rattle.std.proofs.Math.Nat.{max-eq_left, max-eq_right}
use Rattle.std.proofs.lemmas.Int.{ints, by_lt_z}
use Rattle.std.proofs.lemmas.List.Elements.{All-nil, All-cons, All-weaker}
use Rattle.mesh_plane.specs.Plane.{Point, Edge}
use Rattle.mesh_plane.specs.Winding.{refined, winding, boundary}
use Rattle.mesh_plane.proofs.ClosedLists.{all_both, boundary_all}
use Rattle.mesh_plane.proofs.HalfPlanes.{along_by}
use Rattle.mesh_plane.proofs.Ring.{ring, var, lit, ◌⊕◌, ◌⊗◌}
use Rattle.mesh_plane.proofs.Whole.{linear, mul_nonneg, mul_le_mul_left, mul_add, mul_zero}
use Rattle.mesh_lattice.specs.Nearness.{IsNearTo}
use Rattle.mesh_lattice.proofs.Beyond.{LiesBeyond, far_beyond}
use Rattle.mesh_lattice.proofs.Each.{Each}
use Rattle.mesh_lattice.proofs.Nearness.{IsUnit, HasSign, sign_of}
use Rattle.mesh_slivers.proofs.Rays.{LiesBeforeOn, closed_on_ray, by_strip}

-- ---- a step along an axis by which a measure grows most

record HasWay (u v : ℤ) : Type 0 where
  way : Point
  grows : along_by u v way ≡ pos (max (unsigned_abs u) (unsigned_abs v))
  slow : (x y : ℤ) → neg_ℤ (pos (unsigned_abs x) +ℤ pos (unsigned_abs y)) ≤ℤ along_by x y way

unit_slow : (s x : ℤ) → IsUnit s → neg_ℤ (pos (unsigned_abs x)) ≤ℤ (x *ℤ s)
unit_slow s x (inl e) = let f : x *ℤ s ≡ x *ℤ pos 1 = ap (λ (n : ℤ). x *ℤ n) e in omega (arith, ints)
unit_slow s x (inr e) = let f : x *ℤ s ≡ x *ℤ negsuc 0 = ap (λ (n : ℤ). x *ℤ n) e in omega (arith, ints)

way_of : (u v : ℤ) → HasWay u v
way_of u v =
    by_lt_z (pos (unsigned_abs u)) (pos (unsigned_abs v))
    (λ (h : pos (unsigned_abs u) <ℤ pos (unsigned_abs v)). record {
      way = (pos 0, t.sign);
      grows = omega (arith, linear, mul_zero u, t_size) ∙ ap pos (sym (max-eq_right (omega (arith, ints))));
      slow = λ (x y : ℤ). omega (arith, ints, mul_zero x, unit_slow t.sign y t.unit);
    })
    (λ (h : pos (unsigned_abs v) ≤ℤ pos (unsigned_abs u)). record {
      way = (s.sign, pos 0);
      grows = omega (arith, linear, mul_zero v, s_size) ∙ ap pos (sym (max-eq_left (omega (arith, ints))));
      slow = λ (x y : ℤ). omega (arith, ints, mul_zero y, unit_slow s.sign x s.unit);
    })
  where
    s : HasSign u
    s = sign_of u

    t : HasSign v
    t = sign_of v

    s_size : u *ℤ s.sign ≡ pos (unsigned_abs u)
    s_size = ring (u ∷ s.sign ∷ []) (var 0 ⊗ var 1) (var 1 ⊗ var 0) refl ∙ s.size

    t_size : v *ℤ t.sign ≡ pos (unsigned_abs v)
    t_size = ring (v ∷ t.sign ∷ []) (var 0 ⊗ var 1) (var 1 ⊗ var 0) refl ∙ t.size

-- ---- a strip that a point does not lie before

-- a point lies farther than `k` 64ths from an edge
abbrev pub LiesFar : ℕ → ℕ → Point → Edge → Type 0
LiesFar k m q e = IsNearTo k m e q → ⊥

each_all : {A : Type 0} (P : A → Type 0) (xs : List A) → Each P xs → All P xs
each_all P [] h = All-nil P
each_all P (x ∷ xs) h = All-cons P x xs h.0 (each_all P xs h.1)

pub strip_apart : (width m : ℕ) → 0 < m → (u v : ℤ) → 0 < max (unsigned_abs u) (unsigned_abs v) → (a q : Point) → along_by u v (refined m a) ≤ℤ along_by u v q → (points : List Point) →
    All (λ (p : Point). along_by u v p ≤ℤ (along_by u v a +ℤ pos (width * max (unsigned_abs u) (unsigned_abs v)))) points →
    Each (LiesFar (64 * width) m q) (boundary points) → winding m q (boundary points) ≡ pos 0
strip_apart width m some u v steep a q past points within far =
    closed_on_ray w.way m q points
    (All-weaker (λ (e : Edge). (Within e.0 × Within e.1) × Far e) (LiesBeforeOn w.way m q) (λ (e : Edge) (h : (Within e.0 × Within e.1) × Far e). before e h.0.0 h.0.1 (far_beyond (64 * width) m some e q h.1)) (boundary points)
    (all_both (λ (e : Edge). Within e.0 × Within e.1) Far (boundary points) (boundary_all Within points within)
    (each_all Far (boundary points) far)))
  where
    most : ℕ
    most = max (unsigned_abs u) (unsigned_abs v)

    w : HasWay u v
    w = way_of u v

    wide : ℤ
    wide = pos width *ℤ pos m

    Within : Point → Type 0
    Within p = along_by u v p ≤ℤ (along_by u v a +ℤ pos (width * most))

    Far : Edge → Type 0
    Far e = LiesFar (64 * width) m q e

    on_grid : (p : Point) → along_by u v (refined m p) ≡ pos m *ℤ along_by u v p
    on_grid p =
        ring (u ∷ v ∷ pos m ∷ p.0 ∷ p.1 ∷ []) ((var 0 ⊗ (var 2 ⊗ var 3)) ⊕ (var 1 ⊗ (var 2 ⊗ var 4))) (var 2 ⊗ ((var 0 ⊗ var 3) ⊕ (var 1 ⊗ var 4))) refl

    reach : pos m *ℤ pos (width * most) ≡ wide *ℤ along_by u v w.way
    reach =
        ring (pos m ∷ pos width ∷ pos most ∷ []) (var 0 ⊗ (var 1 ⊗ var 2)) ((var 1 ⊗ var 0) ⊗ var 2) refl
        ∙ ap (λ (n : ℤ). wide *ℤ n) (sym w.grows)

    in_strip : (p : Point) → Within p → along_by u v (refined m p) ≤ℤ (along_by u v q +ℤ (wide *ℤ along_by u v w.way))
    in_strip p h =
        omega (
          arith,
          linear,
          past,
          on_grid p,
          on_grid a,
          reach,
          mul_le_mul_left (pos m) (along_by u v p) (along_by u v a +ℤ pos (width * most)) (omega (arith, ints)) h,
          mul_add (pos m) (along_by u v a) (pos (width * most)),
        )

    before : (e : Edge) → Within e.0 → Within e.1 → LiesBeyond (64 * width) m e q → LiesBeforeOn w.way m q e
    before e start end h =
        by_strip w.way q (refined m e.0) (refined m e.1) wide least
        (record { u = u; v = v; grows = omega (arith, ints, steep, w.grows); start = in_strip e.0 start; end = in_strip e.1 end })
        h.u h.v size (omega (arith, ints)) (w.slow h.u h.v) (beside (along_by h.u h.v (refined m e.0)) h.start) (beside (along_by h.u h.v (refined m e.1)) h.end)
      where
        size : ℤ
        size = pos (unsigned_abs h.u) +ℤ pos (unsigned_abs h.v)

        least : pos 0 ≤ℤ wide
        least = mul_nonneg (pos width) (pos m) (omega (arith, ints)) (omega (arith, ints))

        parts : size *ℤ (pos (64 * width) *ℤ pos m) ≡ pos 64 *ℤ (size *ℤ wide)
        parts = ring (size ∷ pos width ∷ pos m ∷ []) (var 0 ⊗ ((lit (pos 64) ⊗ var 1) ⊗ var 2)) (lit (pos 64) ⊗ (var 0 ⊗ (var 1 ⊗ var 2))) refl

        beside : (z : ℤ) → z ≤ℤ h.most → (z +ℤ (size *ℤ wide)) <ℤ along_by h.u h.v q
        beside z l = let b = by h.most (along_by h.u h.v q) (size *ℤ (pos (64 * width) *ℤ pos m)) (size *ℤ wide) parts h.beyond in omega (arith, linear)
          where
            by : (n t x y : ℤ) → x ≡ pos 64 *ℤ y → ((pos 64 *ℤ n) +ℤ x) <ℤ (pos 64 *ℤ t) → (n +ℤ y) <ℤ t
            by n t x y e k = omega (arith, ints)
