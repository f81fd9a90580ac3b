-- Lemmas over points and lists: what splits keep. The pieces of an edge stay in its box, and balance stays.
use Rattle.std.proofs.Common.{arith, List, ◌≡◌, ⊎_elim, true, sym, ap, subst, [], ◌∷◌, ◌++◌, refl, ◌∙◌, append_assoc, Bool, false, cond}
use Rattle.std.specs.Prelude.{ℤ, ◌≤ℤ◌, ◌<ℤ◌}
use Rattle.std.proofs.lemmas.Int.{ints, by_lt_z}
use Rattle.mesh_lattice.specs.Split.{IsBetween, IsInBox, back, EdgeSplit, same_ends, split_edge, split_by, after}
use Rattle.mesh_plane.specs.Plane.{Edge, Point}
use Rattle.mesh_lattice.proofs.Each.{Each}
use Rattle.mesh_lattice.proofs.Ends.{decides_ends}
use Rattle.mesh_plane.specs.Winding.{total, IsBalanced}
use Rattle.mesh_plane.proofs.Whole.{linear}
use Rattle.mesh_plane.proofs.Balance.{growth, growth_of_balanced, balanced_by_growth}

between_trans : (a x y b z : ℤ) → IsBetween a x b → IsBetween a y b → IsBetween x z y → IsBetween a z b
between_trans a x y b z hx hy h = record {
  up = λ (k : a ≤ℤ b). (ends a b x y z (hx.up k) (hy.up k) h);
  down = λ (k : b ≤ℤ a). (ends b a x y z (hx.down k) (hy.down k) h);
}
  where
    ends : (a b x y z : ℤ) → (a ≤ℤ x) × (x ≤ℤ b) → (a ≤ℤ y) × (y ≤ℤ b) → IsBetween x z y → (a ≤ℤ z) × (z ≤ℤ b)
    ends a b x y z hx hy h =
        by_lt_z y x
        (λ (k : y <ℤ x). let g = h.down (omega (arith, ints)) in let u : a ≤ℤ z = omega (arith, ints) in let v : z ≤ℤ b = omega (arith, ints) in (u, v))
        (λ (k : x ≤ℤ y). let g = h.up k in let u : a ≤ℤ z = omega (arith, ints) in let v : z ≤ℤ b = omega (arith, ints) in (u, v))

pub box_trans : (e f : Edge) (c : Point) → IsInBox e f.0 → IsInBox e f.1 → IsInBox f c → IsInBox e c
box_trans e f c h k l = record {
  by_x = between_trans e.0.0 f.0.0 f.1.0 e.1.0 c.0 h.by_x k.by_x l.by_x;
  by_y = between_trans e.0.1 f.0.1 f.1.1 e.1.1 c.1 h.by_y k.by_y l.by_y;
}

box_back : (e : Edge) (c : Point) → IsInBox (back e) c → IsInBox e c
box_back e c h = record {
  by_x = record { up = h.by_x.down; down = h.by_x.up };
  by_y = record { up = h.by_y.down; down = h.by_y.up };
}

-- each cut point lies in the box of what is cut
abbrev pub Boxed : List EdgeSplit → Type 0
Boxed ks = Each (λ (k : EdgeSplit). IsInBox k.ends k.at) ks

pub cut_box : (k : EdgeSplit) (f : Edge) → IsInBox k.ends k.at → same_ends f k.ends ≡ true → IsInBox f k.at
cut_box k f h t =
    ⊎_elim (λ (x : f ≡ k.ends). subst (λ (d : Edge). IsInBox d k.at) (sym x) h)
    (λ (x : f ≡ back k.ends). box_back f k.at (subst (λ (d : Edge). IsInBox d k.at) (ap back (sym x)) h))
    ((decides_ends f k.ends).0 t)

cut_append : (k : EdgeSplit) (xs ys : List Edge) → split_by k (xs ++ ys) ≡ split_by k xs ++ split_by k ys
cut_append k [] ys = refl
cut_append k (x ∷ xs) ys = ap (λ (l : List Edge). split_edge k x ++ l) (cut_append k xs ys) ∙ sym (append_assoc (split_edge k x) (split_by k xs) (split_by k ys))

pub after_append : (ks : List EdgeSplit) (xs ys : List Edge) → after ks (xs ++ ys) ≡ after ks xs ++ after ks ys
after_append [] xs ys = refl
after_append (k ∷ ks) xs ys = ap (split_by k) (after_append ks xs ys) ∙ cut_append k (after ks xs) (after ks ys)

-- splits keep a list balanced
cut_growth : (g : Point → ℤ) (k : EdgeSplit) (es : List Edge) → total (growth g) (split_by k es) ≡ total (growth g) es
cut_growth g k [] = refl
cut_growth g k (e ∷ es) = by (same_ends e k.ends) (cut_growth g k es)
  where
    by : (b : Bool) → total (growth g) (split_by k es) ≡ total (growth g) es → total (growth g) (cond b ((e.0, k.at) ∷ (k.at, e.1) ∷ []) (e ∷ []) ++ split_by k es) ≡ total (growth g) (e ∷ es)
    by true h = omega (arith, linear, h)
    by false h = omega (arith, linear, h)

after_growth : (g : Point → ℤ) (ks : List EdgeSplit) (es : List Edge) → total (growth g) (after ks es) ≡ total (growth g) es
after_growth g [] es = refl
after_growth g (k ∷ ks) es = cut_growth g k (after ks es) ∙ after_growth g ks es

pub after_balanced : (ks : List EdgeSplit) (es : List Edge) → IsBalanced es → IsBalanced (after ks es)
after_balanced ks es h = balanced_by_growth (after ks es) (λ (g : Point → ℤ). after_growth g ks es ∙ growth_of_balanced es h g)

pub after_none : (ks : List EdgeSplit) → after ks [] ≡ []
after_none [] = refl
after_none (k ∷ ks) = ap (split_by k) (after_none ks)
