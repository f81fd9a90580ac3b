-- Lemmas over points and lists: what one cut does to the net counts and to the segments that stand.
use Rattle.std.proofs.Common.{◌≡◌, ⊎_elim, Bool, true, false, cond, ◌&&◌, ◌||◌, not, sym, ◌∙◌, subst, refl, arith, List, [], ◌∷◌, ◌++◌}
use Rattle.std.specs.Prelude.{ℤ, pos, ◌+ℤ◌, ◌-ℤ◌, ◌*ℤ◌, neg_ℤ}
use Rattle.std.proofs.lemmas.Bool.{both_ways, cases_Bool}
use Rattle.std.proofs.lemmas.Int.{ints}
use Rattle.mesh_plane.specs.Plane.{Point, Edge}
use Rattle.mesh_plane.specs.Winding.{same_point}
use Rattle.mesh_plane.proofs.Whole.{add_mul}
use Rattle.mesh_plane.proofs.Sums.{sum_of_append}
use Rattle.mesh_lattice.specs.Split.{back, same_ends, occurs, split_edge, split_by}
use Rattle.mesh_lattice.specs.Counted.{along, net}
use Rattle.mesh_lattice.proofs.Ends.{decides_ends, ends_self, ends_turned, ends_sym, ends_along, along_turned, along_self, not_along}

pub occurs_append : (q : Edge) (xs ys : List Edge) → occurs q (xs ++ ys) ≡ (occurs q xs || occurs q ys)
occurs_append q [] ys = refl
occurs_append q (x ∷ xs) ys = or_first (same_ends q x) _ _ _ (occurs_append q xs ys)
  where
    or_first : (a b c d : Bool) → b ≡ (c || d) → (a || b) ≡ ((a || c) || d)
    or_first true b c d h = refl
    or_first false b c d h = h

-- how the net count of `q` changes at an edge that is cut
abbrev pub change : Edge → Point → Edge → ℤ
change s c q = (along q (s.0, c) +ℤ along q (c, s.1)) -ℤ along q s

net_two : (a x y z : ℤ) → a ≡ pos 1 → x +ℤ (y +ℤ pos 0) ≡ z +ℤ (a *ℤ ((x +ℤ y) -ℤ z))
net_two a x y z e = rw e (omega (arith, ints))

net_two_back : (a x y z : ℤ) → a ≡ pos 1 → neg_ℤ y +ℤ (neg_ℤ x +ℤ pos 0) ≡ neg_ℤ z +ℤ (neg_ℤ a *ℤ ((x +ℤ y) -ℤ z))
net_two_back a x y z e = rw e (omega (arith, ints))

net_cut_edge : (q s : Edge) (c : Point) (e : Edge) → same_point s.0 s.1 ≡ false
    → net q (split_edge (record { ends = s; at = c }) e) ≡ along q e +ℤ (along s e *ℤ change s c q)
net_cut_edge q s c e proper =
    ⊎_elim
    (λ (t : same_ends e s ≡ true).
    ⊎_elim
    (λ (p : e ≡ s). subst (λ (x : Edge). net q (split_edge (record { ends = s; at = c }) x) ≡ along q x +ℤ (along s x *ℤ change s c q)) (sym p) own)
    (λ (p : e ≡ back s). subst (λ (x : Edge). net q (split_edge (record { ends = s; at = c }) x) ≡ along q x +ℤ (along s x *ℤ change s c q)) (sym p) turned)
    ((decides_ends e s).0 t))
    (λ (f : same_ends e s ≡ false). apart f)
    (cases_Bool (same_ends e s))
  where
    own : net q (split_edge (record { ends = s; at = c }) s) ≡ along q s +ℤ (along s s *ℤ change s c q)
    own =
        subst (λ (b : Bool). net q (cond b ((s.0, c) ∷ (c, s.1) ∷ []) (s ∷ [])) ≡ along q s +ℤ (along s s *ℤ change s c q)) (sym (ends_self s))
        (net_two (along s s) (along q (s.0, c)) (along q (c, s.1)) (along q s) (along_self s proper))

    turned : net q (split_edge (record { ends = s; at = c }) (back s)) ≡ along q (back s) +ℤ (along s (back s) *ℤ change s c q)
    turned =
        let same : same_ends (back s) s ≡ true = ends_sym (back s) s ∙ ends_turned s s ∙ ends_self s in
        subst (λ (b : Bool). net q (cond b ((s.1, c) ∷ (c, s.0) ∷ []) (back s ∷ [])) ≡ along q (back s) +ℤ (along s (back s) *ℤ change s c q)) (sym same)
        (simp (along_turned q s, along_turned s s, along_turned q (c, s.1), along_turned q (s.0, c)) (net_two_back (along s s) (along q (s.0, c)) (along q (c, s.1)) (along q s) (along_self s proper)))

    apart : same_ends e s ≡ false → net q (split_edge (record { ends = s; at = c }) e) ≡ along q e +ℤ (along s e *ℤ change s c q)
    apart f =
        let none : along s e ≡ pos 0 = not_along s e (ends_sym s e ∙ f) in
        subst (λ (b : Bool). net q (cond b ((e.0, c) ∷ (c, e.1) ∷ []) (e ∷ [])) ≡ along q e +ℤ (along s e *ℤ change s c q)) (sym f)
        (rw none (omega (arith, ints)))

pub net_cut : (q s : Edge) (c : Point) (es : List Edge) → same_point s.0 s.1 ≡ false
    → net q (split_by (record { ends = s; at = c }) es) ≡ net q es +ℤ (net s es *ℤ change s c q)
net_cut q s c [] proper = omega (arith, ints)
net_cut q s c (e ∷ es) proper =
    sum_of_append (along q) (split_edge (record { ends = s; at = c }) e) (split_by (record { ends = s; at = c }) es)
    ∙ omega (arith, ints, net_cut_edge q s c e proper, net_cut q s c es proper, add_mul (along s e) (net s es) (change s c q))

or_unit : (a b : Bool) → (a || (b || false)) ≡ (a || b)
or_unit true b = refl
or_unit false true = refl
or_unit false false = refl

or_swap : (a b : Bool) → (b || (a || false)) ≡ (a || b)
or_swap true true = refl
or_swap true false = refl
or_swap false true = refl
or_swap false false = refl

cut_away : (q s a b : Bool) → q ≡ s → (a || b) ≡ ((q && not s) || (true && (a || b)))
cut_away true true a b h = refl
cut_away false s a b h = refl
cut_away true false a b h = absurd (both_ways false refl (sym h))

left_alone : (q s x : Bool) → (q ≡ true → s ≡ true → ⊥) → (q || false) ≡ ((q && not s) || (false && x))
left_alone true true x h = absurd (h refl refl)
left_alone true false x h = refl
left_alone false s x h = refl

abbrev CutEdgeOccurs : Edge → Edge → Point → Edge → Type 0
CutEdgeOccurs q s c x = occurs q (split_edge (record { ends = s; at = c }) x) ≡ ((same_ends q x && not (same_ends q s)) || (same_ends s x && (same_ends q (s.0, c) || same_ends q (c, s.1))))

occurs_cut_edge : (q s : Edge) (c : Point) (e : Edge)
    → occurs q (split_edge (record { ends = s; at = c }) e) ≡ ((same_ends q e && not (same_ends q s)) || (same_ends s e && (same_ends q (s.0, c) || same_ends q (c, s.1))))
occurs_cut_edge q s c e =
    ⊎_elim
    (λ (t : same_ends e s ≡ true).
    ⊎_elim
    (λ (p : e ≡ s). subst (λ (x : Edge). CutEdgeOccurs q s c x) (sym p) own)
    (λ (p : e ≡ back s). subst (λ (x : Edge). CutEdgeOccurs q s c x) (sym p) turned)
    ((decides_ends e s).0 t))
    (λ (f : same_ends e s ≡ false). apart f)
    (cases_Bool (same_ends e s))
  where
    own : CutEdgeOccurs q s c s
    own =
        subst (λ (b : Bool). occurs q (cond b ((s.0, c) ∷ (c, s.1) ∷ []) (s ∷ [])) ≡ ((same_ends q s && not (same_ends q s)) || (b && (same_ends q (s.0, c) || same_ends q (c, s.1))))) (sym (ends_self s))
        (or_unit (same_ends q (s.0, c)) (same_ends q (c, s.1)) ∙ cut_away (same_ends q s) (same_ends q s) (same_ends q (s.0, c)) (same_ends q (c, s.1)) refl)

    turned : CutEdgeOccurs q s c (back s)
    turned =
        let same : same_ends (back s) s ≡ true = ends_sym (back s) s ∙ ends_turned s s ∙ ends_self s in
        let also : same_ends s (back s) ≡ true = ends_turned s s ∙ ends_self s in
        subst (λ (b : Bool). occurs q (cond b ((s.1, c) ∷ (c, s.0) ∷ []) (back s ∷ [])) ≡ ((same_ends q (back s) && not (same_ends q s)) || (same_ends s (back s) && (same_ends q (s.0, c) || same_ends q (c, s.1))))) (sym same)
        (subst (λ (b : Bool). occurs q ((s.1, c) ∷ (c, s.0) ∷ []) ≡ ((same_ends q (back s) && not (same_ends q s)) || (b && (same_ends q (s.0, c) || same_ends q (c, s.1))))) (sym also)
        ((λ i. ends_turned q (c, s.1) i || (ends_turned q (s.0, c) i || false))
        ∙ or_swap (same_ends q (s.0, c)) (same_ends q (c, s.1))
        ∙ cut_away (same_ends q (back s)) (same_ends q s) (same_ends q (s.0, c)) (same_ends q (c, s.1)) (ends_turned q s)))

    apart : same_ends e s ≡ false → CutEdgeOccurs q s c e
    apart f =
        let none : same_ends s e ≡ false = ends_sym s e ∙ f in
        subst (λ (b : Bool). occurs q (cond b ((e.0, c) ∷ (c, e.1) ∷ []) (e ∷ [])) ≡ ((same_ends q e && not (same_ends q s)) || (same_ends s e && (same_ends q (s.0, c) || same_ends q (c, s.1))))) (sym f)
        (subst (λ (b : Bool). (same_ends q e || false) ≡ ((same_ends q e && not (same_ends q s)) || (b && (same_ends q (s.0, c) || same_ends q (c, s.1))))) (sym none)
        (left_alone (same_ends q e) (same_ends q s) (same_ends q (s.0, c) || same_ends q (c, s.1))
        (λ (h : same_ends q e ≡ true) (k : same_ends q s ≡ true). both_ways (same_ends s e) none (ends_sym s e ∙ sym (ends_along e q s k) ∙ ends_sym e q ∙ h))))

join_cut : (p q s m n x a b : Bool) → a ≡ ((p && not s) || (m && x)) → b ≡ ((q && not s) || (n && x)) → (a || b) ≡ (((p || q) && not s) || ((m || n) && x))
join_cut p q s m n x a b h k = (λ i. h i || k i) ∙ table p q (not s) m n x
  where
    table : (p q s m n x : Bool) → (((p && s) || (m && x)) || ((q && s) || (n && x))) ≡ (((p || q) && s) || ((m || n) && x))
    table true q true m n x = refl
    table false true true true n true = refl
    table false true true true n false = refl
    table false true true false n x = refl
    table false false true true n true = refl
    table false false true true true false = refl
    table false false true true false false = refl
    table false false true false n x = refl
    table p q false m n x = grind arith

pub occurs_cut : (q s : Edge) (c : Point) (es : List Edge)
    → occurs q (split_by (record { ends = s; at = c }) es) ≡ ((occurs q es && not (same_ends q s)) || (occurs s es && (same_ends q (s.0, c) || same_ends q (c, s.1))))
occurs_cut q s c [] = refl
occurs_cut q s c (e ∷ es) =
    occurs_append q (split_edge (record { ends = s; at = c }) e) (split_by (record { ends = s; at = c }) es)
    ∙ join_cut (same_ends q e) (occurs q es) (same_ends q s) (same_ends s e) (occurs s es) (same_ends q (s.0, c) || same_ends q (c, s.1)) _ _ (occurs_cut_edge q s c e) (occurs_cut q s c es)
