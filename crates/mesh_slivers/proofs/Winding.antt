-- Lemmas over points and lists: a sliver winds round no point farther than its width from its edges.
use Rattle.std.proofs.Common.{◌≡◌, ℕ, ◌*◌, ◌<◌, ◌≤◌, ⊎_elim, true, false, Bool, List, [], ◌∷◌, refl, sym, ◌∙◌, ap, subst, arith}
use Rattle.std.specs.Prelude.{ℤ, pos, ◌+ℤ◌, ◌-ℤ◌, ◌≤ℤ◌, ◌<ℤ◌, neg_ℤ, unsigned_abs, max, cond, nat_le}
use Rattle.std.specs.List.{All}
use Rattle.std.proofs.Math.Nat.{le_trans, max_comm, le-max_left, le-max_right}
use Rattle.std.proofs.lemmas.Bool.{leb-true}
use Rattle.std.proofs.lemmas.Bool.Decides.{leb_tells}
use Rattle.std.proofs.lemmas.Int.{ints, by_lt_z}
use Rattle.std.proofs.lemmas.List.Elements.{All-nil, All-cons, All-weaker}
use Rattle.std.proofs.lemmas.List.Sums.{AllPass-from_list_all}
use Rattle.mesh_plane.specs.Plane.{Point, Edge, turn}
use Rattle.mesh_plane.specs.Winding.{crossing_on, refined, winding, boundary}
use Rattle.mesh_plane.proofs.ClosedLists.{boundary_all, boundary_steps}
use Rattle.mesh_plane.proofs.Crossings.{crossing_on_odd}
use Rattle.mesh_plane.proofs.HalfPlanes.{along_by}
use Rattle.mesh_plane.proofs.PointExprs.{point_var, coordinates, turned}
use Rattle.mesh_plane.proofs.Ring.{ring, var, neg, ◌⊕◌, ◌⊖◌, ◌⊗◌}
use Rattle.mesh_plane.proofs.Sums.{sum_of_equal}
use Rattle.mesh_plane.proofs.Whole.{linear}
use Rattle.mesh_lattice.proofs.Each.{Each}
use Rattle.mesh_lattice.proofs.Nearness.{opposite_size}
use Rattle.mesh_slivers.specs.Slivers.{distance, farthest, is_in_strip, is_sliver}
use Rattle.mesh_slivers.proofs.Strips.{LiesFar, strip_apart}

-- ---- no point lies farther than the farthest

chosen : (f : Point → ℕ) (x b : Point) → (f x ≤ f (cond (nat_le (f b) (f x)) x b)) × (f b ≤ f (cond (nat_le (f b) (f x)) x b))
chosen f x b =
    ⊎_elim
    (λ (h : (nat_le (f b) (f x) ≡ true) × (f b ≤ f x)). at true h.0 (omega arith, h.1))
    (λ (h : (nat_le (f b) (f x) ≡ false) × (f x < f b)). at false h.0 (let l = h.1 in omega arith, omega arith))
    (leb_tells (f b) (f x))
  where
    at : (t : Bool) → nat_le (f b) (f x) ≡ t → (f x ≤ f (cond t x b)) × (f b ≤ f (cond t x b)) → (f x ≤ f (cond (nat_le (f b) (f x)) x b)) × (f b ≤ f (cond (nat_le (f b) (f x)) x b))
    at t e h = subst (λ (s : Bool). (f x ≤ f (cond s x b)) × (f b ≤ f (cond s x b))) (sym e) h

farthest_most : (a : Point) (ps : List Point) → All (λ (p : Point). distance a p ≤ distance a (farthest a ps)) ps
farthest_most a [] = All-nil (λ (p : Point). distance a p ≤ distance a a)
farthest_most a (x ∷ ps) =
    All-cons (λ (p : Point). distance a p ≤ distance a (farthest a (x ∷ ps))) x ps two.0
    (All-weaker (λ (p : Point). distance a p ≤ distance a (farthest a ps)) (λ (p : Point). distance a p ≤ distance a (farthest a (x ∷ ps)))
    (λ (p : Point) (h : distance a p ≤ distance a (farthest a ps)). le_trans h two.1) ps (farthest_most a ps))
  where
    two : (distance a x ≤ distance a (farthest a (x ∷ ps))) × (distance a (farthest a ps) ≤ distance a (farthest a (x ∷ ps)))
    two = chosen (distance a) x (farthest a ps)

-- ---- where all points are one

none_round : (m : ℕ) (a q : Point) (points : List Point) → All (λ (p : Point). p ≡ a) points → winding m q (boundary points) ≡ pos 0
none_round m a q points one =
    sum_of_equal (λ (e : Edge). crossing_on m q e.0 e.1) (λ (e : Edge). pos 0 -ℤ pos 0) (boundary points)
    (All-weaker (λ (e : Edge). (e.0 ≡ a) × (e.1 ≡ a)) (λ (e : Edge). crossing_on m q e.0 e.1 ≡ pos 0 -ℤ pos 0)
    (λ (e : Edge) (h : (e.0 ≡ a) × (e.1 ≡ a)). (λ i. crossing_on m q (h.0 i) (h.1 i)) ∙ omega (arith, linear, crossing_on_odd m q a a))
    (boundary points) (boundary_all (λ (p : Point). p ≡ a) points one))
    ∙ boundary_steps (λ (p : Point). pos 0) points

pub one_point : (a p : Point) → distance a p ≤ 0 → p ≡ a
one_point a p h = λ i. (same a.0 p.0 (le-max_left x y) i, same a.1 p.1 (le-max_right x y) i)
  where
    x : ℕ
    x = unsigned_abs (p.0 -ℤ a.0)

    y : ℕ
    y = unsigned_abs (p.1 -ℤ a.1)

    same : (b c : ℤ) → unsigned_abs (c -ℤ b) ≤ max x y → c ≡ b
    same b c l = omega (arith, ints)

-- ---- the strip along a line, to both sides

turn_by : (a b p : Point) → turn a b p ≡ along_by (neg_ℤ (b.1 -ℤ a.1)) (b.0 -ℤ a.0) p -ℤ along_by (neg_ℤ (b.1 -ℤ a.1)) (b.0 -ℤ a.0) a
turn_by a b p =
    ring (coordinates (a ∷ b ∷ p ∷ []) []) (turned (point_var 0) (point_var 1) (point_var 2))
    (((neg (var 3 ⊖ var 1) ⊗ var 4) ⊕ ((var 2 ⊖ var 0) ⊗ var 5)) ⊖ ((neg (var 3 ⊖ var 1) ⊗ var 0) ⊕ ((var 2 ⊖ var 0) ⊗ var 1)))
    refl

turn_back : (a b p : Point) → turn a b p ≡ along_by (b.1 -ℤ a.1) (neg_ℤ (b.0 -ℤ a.0)) a -ℤ along_by (b.1 -ℤ a.1) (neg_ℤ (b.0 -ℤ a.0)) p
turn_back a b p =
    ring (coordinates (a ∷ b ∷ p ∷ []) []) (turned (point_var 0) (point_var 1) (point_var 2))
    ((((var 3 ⊖ var 1) ⊗ var 0) ⊕ (neg (var 2 ⊖ var 0) ⊗ var 1)) ⊖ (((var 3 ⊖ var 1) ⊗ var 4) ⊕ (neg (var 2 ⊖ var 0) ⊗ var 5)))
    refl

strip_round : (width m : ℕ) → 0 < m → (a b q : Point) → 0 < distance a b → (points : List Point) →
    All (λ (p : Point). unsigned_abs (turn a b p) ≤ width * distance a b) points → Each (LiesFar (64 * width) m q) (boundary points) → winding m q (boundary points) ≡ pos 0
strip_round width m some a b q apart points within far =
    by_lt_z (along_by (neg_ℤ dy) dx q) (along_by (neg_ℤ dy) dx (refined m a))
    (λ (h : along_by (neg_ℤ dy) dx q <ℤ along_by (neg_ℤ dy) dx (refined m a)).
    strip_apart width m some dy (neg_ℤ dx) (rw back apart) a q (omega (arith, linear, opposite q, opposite (refined m a))) points
    (All-weaker Near (λ (p : Point). along_by dy (neg_ℤ dx) p ≤ℤ (along_by dy (neg_ℤ dx) a +ℤ pos (width * max (unsigned_abs dy) (unsigned_abs (neg_ℤ dx)))))
    (λ (p : Point) (n : Near p). rw back (omega (arith, linear, turn_back a b p, least (turn a b p) (width * distance a b) n))) points within) far)
    (λ (h : along_by (neg_ℤ dy) dx (refined m a) ≤ℤ along_by (neg_ℤ dy) dx q).
    strip_apart width m some (neg_ℤ dy) dx (rw forth apart) a q h points
    (All-weaker Near (λ (p : Point). along_by (neg_ℤ dy) dx p ≤ℤ (along_by (neg_ℤ dy) dx a +ℤ pos (width * max (unsigned_abs (neg_ℤ dy)) (unsigned_abs dx))))
    (λ (p : Point) (n : Near p). rw forth (omega (arith, linear, turn_by a b p, most (turn a b p) (width * distance a b) n))) points within) far)
  where
    dx : ℤ
    dx = b.0 -ℤ a.0

    dy : ℤ
    dy = b.1 -ℤ a.1

    Near : Point → Type 0
    Near p = unsigned_abs (turn a b p) ≤ width * distance a b

    back : max (unsigned_abs dy) (unsigned_abs (neg_ℤ dx)) ≡ distance a b
    back = ap (λ (n : ℕ). max (unsigned_abs dy) n) (opposite_size dx) ∙ max_comm (unsigned_abs dy) (unsigned_abs dx)

    forth : max (unsigned_abs (neg_ℤ dy)) (unsigned_abs dx) ≡ distance a b
    forth = ap (λ (n : ℕ). max n (unsigned_abs dx)) (opposite_size dy) ∙ max_comm (unsigned_abs dy) (unsigned_abs dx)

    opposite : (p : Point) → along_by dy (neg_ℤ dx) p ≡ neg_ℤ (along_by (neg_ℤ dy) dx p)
    opposite p =
        ring (dx ∷ dy ∷ p.0 ∷ p.1 ∷ []) ((var 1 ⊗ var 2) ⊕ (neg (var 0) ⊗ var 3)) (neg ((neg (var 1) ⊗ var 2) ⊕ (var 0 ⊗ var 3))) refl

    most : (x : ℤ) (n : ℕ) → unsigned_abs x ≤ n → x ≤ℤ pos n
    most x n h = omega (arith, ints)

    least : (x : ℤ) (n : ℕ) → unsigned_abs x ≤ n → neg_ℤ x ≤ℤ pos n
    least x n h = omega (arith, ints)

-- ---- slivers

pub sliver_round : (width m : ℕ) → 0 < m → (q : Point) (points : List Point) → is_sliver width points ≡ true →
    Each (LiesFar (64 * width) m q) (boundary points) → winding m q (boundary points) ≡ pos 0
sliver_round width m some q [] thin far = refl
sliver_round width m some q (a ∷ ps) thin far =
    by_lt_z (pos 0) (pos (distance a b))
    (λ (h : pos 0 <ℤ pos (distance a b)).
    strip_round width m some a b q (omega (arith, ints)) (a ∷ ps)
    (All-weaker (λ (p : Point). is_in_strip width a b p ≡ true) (λ (p : Point). unsigned_abs (turn a b p) ≤ width * distance a b)
    (λ (p : Point) (e : is_in_strip width a b p ≡ true). leb-true (unsigned_abs (turn a b p)) (width * distance a b) e) (a ∷ ps)
    (AllPass-from_list_all (is_in_strip width a b) (a ∷ ps) thin))
    far)
    (λ (h : pos (distance a b) ≤ℤ pos 0).
    none_round m a q (a ∷ ps)
    (All-cons (λ (p : Point). p ≡ a) a ps refl
    (All-weaker (λ (p : Point). distance a p ≤ distance a b) (λ (p : Point). p ≡ a)
    (λ (p : Point) (l : distance a p ≤ distance a b). one_point a p (omega (arith, ints))) ps (farthest_most a ps))))
  where
    b : Point
    b = farthest a ps
