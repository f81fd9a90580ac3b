-- Lemmas over points: nets whose edges are apart, and of which none lies within the other, are as far apart as their edges.
use Rattle.std.proofs.Common.{◌≡◌, ℕ, ◌+◌, ◌*◌, ◌<◌, ◌≤◌, ◌⊎◌, inl, inr, ⊎_elim, ◌∙◌, ap, subst, arith, List}
use Rattle.std.specs.Prelude.{ℤ, pos, ◌-ℤ◌, ◌≤ℤ◌, ◌<ℤ◌, unsigned_abs}
use Rattle.std.proofs.lemmas.Int.{ints, by_lt_z}
use Rattle.mesh_plane.specs.Plane.{Point, Edge, minus, length_sq}
use Rattle.mesh_plane.specs.Winding.{refined, winding}
use Rattle.mesh_plane.proofs.Whole.{linear}
use Rattle.mesh_lattice.specs.Clean.{IsOn, refined_edge}
use Rattle.mesh_lattice.specs.Split.{IsBetween}
use Rattle.mesh_clearance.specs.Clearance.{IsNearer}
use Rattle.mesh_clearance.proofs.Ways.{HasNear, near_way}
use Rattle.mesh_nets.specs.Nets.{AreNetsApart, IsPointOf}
use Rattle.mesh_nets.proofs.Among.{among_listed}
use Rattle.mesh_nets.proofs.Between.{one_refined, start_on}
use Rattle.mesh_nets.proofs.Descent.{AreParted, none_within_both}
use Rattle.mesh_nets.proofs.Meeting.{MeetsOne, met_between, met_on}

below_or_not : (k n : ℕ) → (k < n) ⊎ (n ≤ k)
below_or_not k n = grind arith

-- a product that something is below has no factor 0
some_factor : (a b l : ℕ) → l < a * b → 0 < b
some_factor a b l h =
    ⊎_elim (λ (k : 0 < b). k) (λ (k : b ≤ 0). let none : b ≡ 0 = omega arith in let product : a * b ≡ a * 0 = ap (λ (n : ℕ). a * n) none in absurd (omega arith)) (below_or_not 0 b)

pub length_back : (p q : Point) → length_sq (minus p q) ≡ length_sq (minus q p)
length_back p q = λ i. same p.0 q.0 i * same p.0 q.0 i + same p.1 q.1 i * same p.1 q.1 i
  where
    same : (x y : ℤ) → unsigned_abs (x -ℤ y) ≡ unsigned_abs (y -ℤ x)
    same x y = omega (arith, ints)

pub none_or_some : (w : ℤ) → (w ≡ pos 0) ⊎ (w ≡ pos 0 → ⊥)
none_or_some w =
    by_lt_z (pos 0) w (λ (h : pos 0 <ℤ w). inr (λ (e : w ≡ pos 0). omega (arith, linear, h, e)))
    (λ (h : w ≤ℤ pos 0).
    by_lt_z w (pos 0) (λ (k : w <ℤ pos 0). inr (λ (e : w ≡ pos 0). omega (arith, linear, k, e)))
    (λ (k : pos 0 ≤ℤ w). inl (omega (arith, linear, h, k))))

pub nets_swapped : (t : ℕ) (es fs : List Edge) → AreNetsApart t es fs → AreNetsApart t fs es
nets_swapped t es fs h m p q first second = let l = h m q p second first in omega (arith, l, length_back p q)

-- ---- near a point

between_one : (a z : ℤ) → IsBetween a z a → z ≡ a
between_one a z h = let w = h.up (omega (arith, linear)) in omega (arith, linear, w.0, w.1)

-- a point on the way from `p` to `q` is no farther from `q` than `p` is
near_end : (k l : ℕ) (p q x : Point) → 0 < k → length_sq (minus p q) < l → IsOn (refined k p, refined k q) x → length_sq (minus x (refined k q)) < l * (k * k)
near_end k l p q x some near on = let h = by.nearer in subst (λ (w : Point × ℕ). length_sq (minus x w.0) < l * (w.1 * w.1)) (λ i. (place i, one i)) h
  where
    by : HasNear l (k * 1) (q, q) x
    by = near_way l 1 (q, q) p q (subst (λ (z : Point). IsOn (refined_edge 1 (q, q)) z) (one_refined q) (start_on (refined 1 q) (refined 1 q))) (omega arith) k some x on

    one : k * 1 ≡ k
    one = omega arith

    place : by.nearest ≡ refined k q
    place =
        (λ i. (between_one (refined (k * 1) q).0 by.nearest.0 by.on_edge.in_box.by_x i, between_one (refined (k * 1) q).1 by.nearest.1 by.on_edge.in_box.by_y i))
        ∙ ap (λ (n : ℕ). refined n q) one

-- where a net winds round a point and not round a near one, the near point is near an edge of it
near_edge : (t m : ℕ) (es : List Edge) (p q : Point) (met : MeetsOne m es p q) → length_sq (minus p q) < t * (m * m) → IsNearer t m met.edge q
near_edge t m es p q met near = record {
  grid = met.common.grid;
  nearest = met.common.point;
  on_edge = met_on m met.edge p q met.common;
  nearer =
      let l = near_end met.common.grid (t * (m * m)) p q met.common.point met.common.positive near met.common.first in
      let same : (t * (m * m)) * (met.common.grid * met.common.grid) ≡ t * ((met.common.grid * m) * (met.common.grid * m)) = omega arith in
      let back = length_back (refined met.common.grid q) met.common.point in
      omega (arith, l, same, back);
}

near_point : (t m : ℕ) (e : Edge) (p q : Point) → IsOn (refined_edge m e) p → length_sq (minus p q) < t * (m * m) → IsNearer t m e q
near_point t m e p q on near = record {
  grid = 1;
  nearest = p;
  on_edge = subst (λ (n : ℕ). IsOn (refined_edge n e) p) (omega arith) on;
  nearer =
      let first : length_sq (minus (refined 1 q) p) ≡ length_sq (minus p q) = ap (λ (z : Point). length_sq (minus z p)) (one_refined q) ∙ length_back q p in
      let second : t * ((1 * m) * (1 * m)) ≡ t * (m * m) = omega arith in
      omega (arith, first, second, near);
}

-- ---- all points

within_near : (t m : ℕ) (es fs : List Edge) (p q : Point) → AreParted t es fs → length_sq (minus p q) < t * (m * m) →
    (winding m p es ≡ pos 0 → ⊥) → (winding m q fs ≡ pos 0 → ⊥) → ⊥
within_near t m es fs p q parted near first second =
    ⊎_elim
    (λ (out : winding m q es ≡ pos 0).
    let met = met_between m p q es parted.first_balanced (λ same. first (same ∙ out)) in
    second (parted.second_outside met.edge met.listed m q (near_edge t m es p q met near)))
    (λ (inside : winding m q es ≡ pos 0 → ⊥). none_within_both t m es fs q parted some inside second)
    (none_or_some (winding m q es))
  where
    some : 0 < m
    some = some_factor m m 0 (some_factor t (m * m) (length_sq (minus p q)) near)

none_near : (t m : ℕ) (es fs : List Edge) (p q : Point) → AreParted t es fs → length_sq (minus p q) < t * (m * m) → IsPointOf m es p → IsPointOf m fs q → ⊥
none_near t m es fs p q parted near (inl first) (inl second) =
    let l = parted.apart first.edge second.edge (among_listed es first.edge first.listed) (among_listed fs second.edge second.listed) m p q first.on second.on in omega (arith, l, near)
none_near t m es fs p q parted near (inl first) (inr second) =
    second (parted.second_outside first.edge (among_listed es first.edge first.listed) m q (near_point t m first.edge p q first.on near))
none_near t m es fs p q parted near (inr first) (inl second) =
    first (parted.first_outside second.edge (among_listed fs second.edge second.listed) m p (near_point t m second.edge q p second.on (omega (arith, near, length_back p q))))
none_near t m es fs p q parted near (inr first) (inr second) = within_near t m es fs p q parted near first second

pub nets_apart : (t : ℕ) (es fs : List Edge) → AreParted t es fs → AreNetsApart t es fs
nets_apart t es fs parted m p q first second =
    ⊎_elim (λ (near : length_sq (minus p q) < t * (m * m)). absurd (none_near t m es fs p q parted near first second))
    (λ (far : t * (m * m) ≤ length_sq (minus p q)). far)
    (below_or_not (length_sq (minus p q)) (t * (m * m)))
