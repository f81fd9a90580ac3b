-- Lemmas over points and lists: the cuts are legal splits.
use Rattle.std.proofs.Common.{◌≡◌, ◌⊎◌, inl, inr, ⊎_elim, ℕ, zero, suc, ◌+◌, ◌-◌, ◌<◌, ◌≤◌, Bool, true, false, cond, ◌&&◌, ◌||◌, not, List, [], ◌∷◌, ◌++◌, get_or, refl, sym, ◌∙◌, ap, subst, arith}
use Rattle.std.proofs.lemmas.Bool.{cases_Bool, false≢true, or_cases, or_right}
use Rattle.mesh_plane.specs.Plane.{Point, Edge}
use Rattle.mesh_lattice.specs.Split.{after, add_split, back, is_end, occurs, same_ends, split_by, EdgeSplit, IsInside, IsLegal, Meets, at_end_of_second, at_start_of_second, no_cut, split}
use Rattle.mesh_lattice.proofs.Each.{Each}
use Rattle.mesh_lattice.proofs.Ends.{decides_end, decides_ends, ends_along, ends_self, ends_sym, not_ends}
use Rattle.mesh_lattice.proofs.KeptBySplits.{after_append}
use Rattle.mesh_lattice.proofs.Splits.{occurs_append, occurs_cut}
use Rattle.mesh_in_line.specs.Private.Lines.{backward, cuts, cuts_to, onward, IsEndOfSome}
use Rattle.mesh_in_line.proofs.Cutting.{backward_each, cut_onward, cuts_none, elsewhere, ends_there, later_cuts, none_by, onward_each, whole_backward, whole_onward, AreApart, EndsElsewhere}
use Rattle.mesh_in_line.proofs.Following.{after_both}

abbrev pub first_at : List ℕ → ℕ → ℕ
first_at firsts k = get_or firsts k 0

-- ---- what stands after splits

-- edges with the same ends stand in the same lists
pub occurs_same : (q e : Edge) (es : List Edge) → same_ends q e ≡ true → occurs q es ≡ occurs e es
occurs_same q e [] h = refl
occurs_same q e (x ∷ es) h =
    let own : same_ends q x ≡ same_ends e x = ends_sym q x ∙ (ends_along x q e h ∙ ends_sym x e) in
    λ i. own i || occurs_same q e es h i

pub after_same : (ks : List EdgeSplit) (q e : Edge) → same_ends q e ≡ true → (x : Edge) → occurs x (after ks (q ∷ [])) ≡ occurs x (after ks (e ∷ []))
after_same [] q e h x = λ i. ends_along x q e h i || false
after_same (k ∷ ks) q e h x =
    occurs_cut x k.ends k.at (after ks (q ∷ []))
    ∙ ((λ i. (after_same ks q e h x i && not (same_ends x k.ends)) || (after_same ks q e h k.ends i && (same_ends x (k.ends.0, k.at) || same_ends x (k.at, k.ends.1))))
    ∙ sym (occurs_cut x k.ends k.at (after ks (e ∷ []))))

-- what stands on the path of an edge stands
pub on_path_stands : (ks : List EdgeSplit) (es : List Edge) (e q : Edge) → occurs e es ≡ true → occurs q (after ks (e ∷ [])) ≡ true → occurs q (after ks es) ≡ true
on_path_stands ks [] e q h o = absurd (false≢true h)
on_path_stands ks (x ∷ es) e q h o =
    ap (occurs q) (after_append ks (x ∷ []) es)
    ∙ (occurs_append q (after ks (x ∷ [])) (after ks es)
    ∙ ⊎_elim
    (λ (t : same_ends e x ≡ true). let p : occurs q (after ks (x ∷ [])) ≡ true = sym (after_same ks e x t q) ∙ o in λ i. p i || occurs q (after ks es))
    (λ (t : occurs e es ≡ true). or_right (occurs q (after ks (x ∷ []))) (occurs q (after ks es)) (on_path_stands ks es e q t o))
    (or_cases (same_ends e x) (occurs e es) h))

-- an edge still ends where one did
keep_end : (s : EdgeSplit) (es : List Edge) (p : Point) → IsEndOfSome es p → IsEndOfSome (split_by s es) p
keep_end s es p h =
    ⊎_elim
    (λ (t : same_ends h.edge s.ends ≡ true).
    let stands : occurs s.ends es ≡ true = sym (occurs_same h.edge s.ends es t) ∙ h.listed in
    ⊎_elim
    (λ (x : p ≡ s.ends.0).
    record {
      edge = (s.ends.0, s.at);
      listed = occurs_cut (s.ends.0, s.at) s.ends s.at es ∙ cut_first (occurs (s.ends.0, s.at) es && not (same_ends (s.ends.0, s.at) s.ends)) (occurs s.ends es) (same_ends (s.ends.0, s.at) (s.ends.0, s.at)) (same_ends (s.ends.0, s.at) (s.at, s.ends.1)) stands (ends_self (s.ends.0, s.at));
      end = (decides_end p (s.ends.0, s.at)).1 (inl x);
    })
    (λ (x : p ≡ s.ends.1).
    record {
      edge = (s.at, s.ends.1);
      listed = occurs_cut (s.at, s.ends.1) s.ends s.at es ∙ cut_second (occurs (s.at, s.ends.1) es && not (same_ends (s.at, s.ends.1) s.ends)) (occurs s.ends es) (same_ends (s.at, s.ends.1) (s.ends.0, s.at)) (same_ends (s.at, s.ends.1) (s.at, s.ends.1)) stands (ends_self (s.at, s.ends.1));
      end = (decides_end p (s.at, s.ends.1)).1 (inr x);
    })
    (moved t))
    (λ (f : same_ends h.edge s.ends ≡ false).
    record {
      edge = h.edge;
      listed = occurs_cut h.edge s.ends s.at es ∙ kept (occurs h.edge es) (same_ends h.edge s.ends) (occurs s.ends es && (same_ends h.edge (s.ends.0, s.at) || same_ends h.edge (s.at, s.ends.1))) h.listed f;
      end = h.end;
    })
    (cases_Bool (same_ends h.edge s.ends))
  where
    cut_first : (a b x y : Bool) → b ≡ true → x ≡ true → (a || (b && (x || y))) ≡ true
    cut_first a b x y h k = grind arith

    cut_second : (a b x y : Bool) → b ≡ true → y ≡ true → (a || (b && (x || y))) ≡ true
    cut_second a b x y h k = grind arith

    kept : (a b c : Bool) → a ≡ true → b ≡ false → ((a && not b) || c) ≡ true
    kept a b c h k = grind arith

    moved : same_ends h.edge s.ends ≡ true → (p ≡ s.ends.0) ⊎ (p ≡ s.ends.1)
    moved t =
        ⊎_elim
        (λ (x : h.edge ≡ s.ends). (decides_end p s.ends).0 (subst (λ (e : Edge). is_end p e ≡ true) x h.end))
        (λ (x : h.edge ≡ back s.ends).
        ⊎_elim (λ (y : p ≡ s.ends.1). inr y) (λ (y : p ≡ s.ends.0). inl y) ((decides_end p (back s.ends)).0 (subst (λ (e : Edge). is_end p e ≡ true) x h.end)))
        ((decides_ends h.edge s.ends).0 t)

ends_stay : (ks : List EdgeSplit) (es : List Edge) (p : Point) → IsEndOfSome es p → IsEndOfSome (after ks es) p
ends_stay [] es p h = h
ends_stay (k ∷ ks) es p h = keep_end k (after ks es) p (ends_stay ks es p h)

-- ---- a split of an edge alone, at another one's end

split_alone : (es : List Edge) (ks : List EdgeSplit) (e : Edge) (c : Point) → IsLegal es ks → occurs e (after ks es) ≡ true → IsInside e c → IsEndOfSome (after ks es) c
    → IsLegal es ((record { ends = e; at = c }) ∷ ks)
split_alone es ks e c legal stands inside some =
    subst (IsLegal es) both (split legal stands some.listed (meets ((decides_end c some.edge).0 some.end)))
  where
    meets : (c ≡ some.edge.0) ⊎ (c ≡ some.edge.1) → Meets e some.edge c
    meets (inl x) = subst (Meets e some.edge) (sym x) (at_start_of_second (subst (IsInside e) x inside))
    meets (inr x) = subst (Meets e some.edge) (sym x) (at_end_of_second (subst (IsInside e) x inside))

    first : add_split e c ks ≡ (record { ends = e; at = c }) ∷ ks
    first = ap (λ (b : Bool). cond b ks ((record { ends = e; at = c }) ∷ ks)) inside.no_end

    both : add_split some.edge c (add_split e c ks) ≡ (record { ends = e; at = c }) ∷ ks
    both = ap (λ (b : Bool). cond b (add_split e c ks) ((record { ends = some.edge; at = c }) ∷ add_split e c ks)) some.end ∙ first

-- ---- all cuts

-- what is to be known of places and of the first ones from which edges lead to them
pub record AreFit (given : List Edge) (a : ℕ → Point) (firsts : List ℕ) (n : ℕ) : Type 0 where
  pub apart : AreApart a n
  pub inside : (k j : ℕ) → k < n → first_at firsts k ≤ j → j + 1 < k → IsInside (a j, a k) (a (j + 1))
  pub stands : (k : ℕ) → k < n → first_at firsts k < k → occurs (a (first_at firsts k), a k) given ≡ true
  pub ends : (j : ℕ) → j < n → IsEndOfSome given (a j)

-- cuts to earlier places leave an edge that ends at a later one
pub cuts_before : (a : ℕ → Point) (firsts : List ℕ) (k n q : ℕ) (e : Edge) → AreApart a n → k < n → q ≤ k → is_end (a k) e ≡ true → after (cuts_to a firsts q) (e ∷ []) ≡ e ∷ []
cuts_before a firsts k n zero e apart within low end = refl
cuts_before a firsts k n (suc q) e apart within low end =
    after_both (cuts a q (first_at firsts q) (q - (first_at firsts q + 1))) (cuts_to a firsts q) (e ∷ [])
    ∙ (ap (after (cuts a q (first_at firsts q) (q - (first_at firsts q + 1)))) (cuts_before a firsts k n q e apart within (omega arith) end)
    ∙ cuts_none a q (first_at firsts q) (q - (first_at firsts q + 1)) (e ∷ [])
    (λ j l r.
    let own : same_ends (a j, a q) e ≡ false = not_ends (a k) (a j, a q) e (elsewhere (a k) (a j) (a q) (λ h. apart j k (omega arith) within (sym h)) (λ h. apart q k (omega arith) within (sym h))) end in
    λ i. own i || false))

cuts_legal : (given : List Edge) (a : ℕ → Point) (firsts : List ℕ) (n k m : ℕ) → AreFit given a firsts n → k < n → first_at firsts k + m < k → IsLegal given (cuts_to a firsts k)
    → IsLegal given (cuts a k (first_at firsts k) m ++ cuts_to a firsts k)
cuts_legal given a firsts n k zero fit within low legal = legal
cuts_legal given a firsts n k (suc m) fit within low legal =
    split_alone given (cuts a k (first_at firsts k) m ++ cuts_to a firsts k) (a (first_at firsts k + m), a k) (a (first_at firsts k + m + 1))
    (cuts_legal given a firsts n k m fit within (omega arith) legal)
    (on_path_stands (cuts a k (first_at firsts k) m ++ cuts_to a firsts k) given (a (first_at firsts k), a k) (a (first_at firsts k + m), a k) (fit.stands k within (omega arith)) there)
    (fit.inside k (first_at firsts k + m) within (omega arith) (omega arith))
    (ends_stay (cuts a k (first_at firsts k) m ++ cuts_to a firsts k) given (a (first_at firsts k + m + 1)) (fit.ends (first_at firsts k + m + 1) (omega arith)))
  where
    there : occurs (a (first_at firsts k + m), a k) (after (cuts a k (first_at firsts k) m ++ cuts_to a firsts k) ((a (first_at firsts k), a k) ∷ [])) ≡ true
    there =
        ap (occurs (a (first_at firsts k + m), a k))
        (after_both (cuts a k (first_at firsts k) m) (cuts_to a firsts k) ((a (first_at firsts k), a k) ∷ [])
        ∙ (ap (after (cuts a k (first_at firsts k) m)) (cuts_before a firsts k n k (a (first_at firsts k), a k) fit.apart within (omega arith) (ends_there (a k) (a (first_at firsts k), a k) refl))
        ∙ cut_onward a k (first_at firsts k) m n fit.apart within (omega arith)))
        ∙ (occurs_append (a (first_at firsts k + m), a k) (onward a (first_at firsts k) m) ((a (first_at firsts k + m), a k) ∷ [])
        ∙ or_right (occurs (a (first_at firsts k + m), a k) (onward a (first_at firsts k) m)) (occurs (a (first_at firsts k + m), a k) ((a (first_at firsts k + m), a k) ∷ []))
        (λ i. ends_self (a (first_at firsts k + m), a k) i || false))

pub all_legal : (given : List Edge) (a : ℕ → Point) (firsts : List ℕ) (n q : ℕ) → AreFit given a firsts n → q ≤ n → IsLegal given (cuts_to a firsts q)
all_legal given a firsts n zero fit low = no_cut
all_legal given a firsts n (suc q) fit low = by (q - (first_at firsts q + 1)) refl (all_legal given a firsts n q fit (omega arith))
  where
    by : (m : ℕ) → q - (first_at firsts q + 1) ≡ m → IsLegal given (cuts_to a firsts q) → IsLegal given (cuts a q (first_at firsts q) m ++ cuts_to a firsts q)
    by zero e before = before
    by (suc m) e before = cuts_legal given a firsts n q (suc m) fit (omega arith) (omega arith) before

-- ---- what all cuts make of an edge

-- none of its pieces ends at a place after it
later_leave : (a : ℕ → Point) (firsts : List ℕ) (k n q : ℕ) (es : List Edge) → k < q → q < n → Each (EndsElsewhere (a q)) es → after (cuts a q (first_at firsts q) (q - (first_at firsts q + 1))) es ≡ es
later_leave a firsts k n q es low within elsewhere =
    cuts_none a q (first_at firsts q) (q - (first_at firsts q + 1)) es (λ j l r. none_by (a q) (a j, a q) es (ends_there (a q) (a j, a q) refl) elsewhere)

-- an edge that ends at a place becomes by all cuts what those to its place make of it
all_cuts : (a : ℕ → Point) (firsts : List ℕ) (k n d : ℕ) (e : Edge) (es : List Edge) → AreApart a n → k + 1 + d ≤ n → is_end (a k) e ≡ true
    → after (cuts a k (first_at firsts k) (k - (first_at firsts k + 1))) (e ∷ []) ≡ es → ((q : ℕ) → k < q → q < n → Each (EndsElsewhere (a q)) es)
    → after (cuts_to a firsts (k + 1 + d)) (e ∷ []) ≡ es
all_cuts a firsts k n zero e es apart within end own elsewhere =
    let one : k + 1 + 0 ≡ suc k = omega arith in
    ap (λ (q : ℕ). after (cuts_to a firsts q) (e ∷ [])) one
    ∙ (after_both (cuts a k (first_at firsts k) (k - (first_at firsts k + 1))) (cuts_to a firsts k) (e ∷ [])
    ∙ (ap (after (cuts a k (first_at firsts k) (k - (first_at firsts k + 1)))) (cuts_before a firsts k n k e apart (omega arith) (omega arith) end)
    ∙ own))
all_cuts a firsts k n (suc d) e es apart within end own elsewhere =
    let next : k + 1 + suc d ≡ suc (k + 1 + d) = omega arith in
    ap (λ (q : ℕ). after (cuts_to a firsts q) (e ∷ [])) next
    ∙ (after_both (cuts a (k + 1 + d) (first_at firsts (k + 1 + d)) ((k + 1 + d) - (first_at firsts (k + 1 + d) + 1))) (cuts_to a firsts (k + 1 + d)) (e ∷ [])
    ∙ (ap (after (cuts a (k + 1 + d) (first_at firsts (k + 1 + d)) ((k + 1 + d) - (first_at firsts (k + 1 + d) + 1)))) (all_cuts a firsts k n d e es apart (omega arith) end own elsewhere)
    ∙ later_leave a firsts k n (k + 1 + d) es (omega arith) (omega arith) (elsewhere (k + 1 + d) (omega arith) (omega arith))))

-- those to its place
own_cuts : (a : ℕ → Point) (firsts : List ℕ) (i k n : ℕ) (e : Edge) → AreApart a n → k < n → first_at firsts k ≤ i → i < k → is_end (a i) e ≡ true
    → after (cuts a k (first_at firsts k) (k - (first_at firsts k + 1))) (e ∷ []) ≡ after (cuts a k i (k - (i + 1))) (e ∷ [])
own_cuts a firsts i k n e apart within low high end =
    let all : k - (first_at firsts k + 1) ≡ (i - first_at firsts k) + (k - (i + 1)) = omega arith in
    let here : first_at firsts k + (i - first_at firsts k) ≡ i = omega arith in
    ap (λ (m : ℕ). after (cuts a k (first_at firsts k) m) (e ∷ [])) all
    ∙ (later_cuts a k (first_at firsts k) (i - first_at firsts k) (k - (i + 1)) n e apart within (omega arith) (subst (λ (j : ℕ). is_end (a j) e ≡ true) (sym here) end)
    ∙ ap (λ (j : ℕ). after (cuts a k j (k - (i + 1))) (e ∷ [])) here)

pub cut_forth : (a : ℕ → Point) (firsts : List ℕ) (i k n : ℕ) → AreApart a n → k < n → first_at firsts k ≤ i → i < k → after (cuts_to a firsts n) ((a i, a k) ∷ []) ≡ onward a i (k - i)
cut_forth a firsts i k n apart within low high =
    let all : n ≡ k + 1 + (n - (k + 1)) = omega arith in
    let many : suc (k - (i + 1)) ≡ k - i = omega arith in
    ap (λ (q : ℕ). after (cuts_to a firsts q) ((a i, a k) ∷ [])) all
    ∙ all_cuts a firsts k n (n - (k + 1)) (a i, a k) (onward a i (k - i)) apart (omega arith) (ends_there (a k) (a i, a k) refl)
    (own_cuts a firsts i k n (a i, a k) apart within low high ((decides_end (a i) (a i, a k)).1 (inl refl))
    ∙ (whole_onward a k i (k - (i + 1)) n apart within (omega arith) ∙ ap (onward a i) many))
    (λ q l r. onward_each (EndsElsewhere (a q)) a i (k - i) (λ j u v. elsewhere (a q) (a j) (a (j + 1)) (λ h. apart j q (omega arith) r (sym h)) (λ h. apart (j + 1) q (omega arith) r (sym h))))

pub cut_back : (a : ℕ → Point) (firsts : List ℕ) (i k n : ℕ) → AreApart a n → k < n → first_at firsts k ≤ i → i < k → after (cuts_to a firsts n) ((a k, a i) ∷ []) ≡ backward a i (k - i)
cut_back a firsts i k n apart within low high =
    let all : n ≡ k + 1 + (n - (k + 1)) = omega arith in
    let many : suc (k - (i + 1)) ≡ k - i = omega arith in
    ap (λ (q : ℕ). after (cuts_to a firsts q) ((a k, a i) ∷ [])) all
    ∙ all_cuts a firsts k n (n - (k + 1)) (a k, a i) (backward a i (k - i)) apart (omega arith) ((decides_end (a k) (a k, a i)).1 (inl refl))
    (own_cuts a firsts i k n (a k, a i) apart within low high (ends_there (a i) (a k, a i) refl)
    ∙ (whole_backward a k i (k - (i + 1)) n apart within (omega arith) ∙ ap (backward a i) many))
    (λ q l r. backward_each (EndsElsewhere (a q)) a i (k - i) (λ j u v. elsewhere (a q) (a (j + 1)) (a j) (λ h. apart (j + 1) q (omega arith) r (sym h)) (λ h. apart j q (omega arith) r (sym h))))

-- an edge that none of the cuts is of
pub cuts_beside : (a : ℕ → Point) (firsts : List ℕ) (n : ℕ) (e : Edge) → ((k j : ℕ) → k < n → first_at firsts k ≤ j → j < k → same_ends (a j, a k) e ≡ false) → after (cuts_to a firsts n) (e ∷ []) ≡ e ∷ []
cuts_beside a firsts zero e h = refl
cuts_beside a firsts (suc q) e h =
    after_both (cuts a q (first_at firsts q) (q - (first_at firsts q + 1))) (cuts_to a firsts q) (e ∷ [])
    ∙ (ap (after (cuts a q (first_at firsts q) (q - (first_at firsts q + 1)))) (cuts_beside a firsts q e (λ k j l r. h k j (omega arith) r))
    ∙ cuts_none a q (first_at firsts q) (q - (first_at firsts q + 1)) (e ∷ []) (λ j l r. λ i. h q j (omega arith) l (omega arith) i || false))
