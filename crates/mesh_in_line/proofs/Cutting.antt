-- Lemmas over points and lists: what the cuts of an edge at places one after another make of it.
use Rattle.std.proofs.Common.{◌≡◌, inr, ⊎_elim, ℕ, zero, suc, ◌+◌, ◌<◌, ◌≤◌, Bool, true, false, cond, ◌||◌, List, [], ◌∷◌, ◌++◌, length, append_assoc, refl, sym, ◌∙◌, ap, subst, arith}
use Rattle.std.proofs.lemmas.Bool.{false_from_ne_true, or_parts}
use Rattle.mesh_plane.specs.Plane.{Point, Edge}
use Rattle.mesh_lattice.specs.Split.{after, back, is_end, occurs, same_ends, split_by, EdgeSplit}
use Rattle.mesh_lattice.proofs.Each.{Each, each_append}
use Rattle.mesh_lattice.proofs.Ends.{decides_end, ends_self, ends_sym, ends_turned, not_ends}
use Rattle.mesh_lattice.proofs.KeptBySplits.{after_append}
use Rattle.mesh_in_line.specs.Private.Lines.{backward, cuts, onward}
use Rattle.mesh_in_line.proofs.Following.{after_both}

-- no two of so many places are at one point
abbrev pub AreApart : (ℕ → Point) → ℕ → Type 0
AreApart a n = (i j : ℕ) → i < j → j < n → a i ≡ a j → ⊥

-- an edge does not end at a point
abbrev pub EndsElsewhere : Point → Edge → Type 0
EndsElsewhere c e = is_end c e ≡ false

pub elsewhere : (c p q : Point) → (c ≡ p → ⊥) → (c ≡ q → ⊥) → EndsElsewhere c (p, q)
elsewhere c p q h k = false_from_ne_true (is_end c (p, q)) (λ t. ⊎_elim h k ((decides_end c (p, q)).0 t))

pub ends_there : (c : Point) (e : Edge) → c ≡ e.1 → is_end c e ≡ true
ends_there c e h = (decides_end c e).1 (inr h)

-- an edge that ends at a point is none of those that do not
pub none_by : (c : Point) (q : Edge) (es : List Edge) → is_end c q ≡ true → Each (EndsElsewhere c) es → occurs q es ≡ false
none_by c q [] t h = refl
none_by c q (x ∷ es) t h =
    let own : same_ends q x ≡ false = ends_sym q x ∙ not_ends c x q h.0 t in
    λ i. own i || none_by c q es t h.1 i

-- a split of what does not stand changes nothing
pub split_none : (s : EdgeSplit) (es : List Edge) → occurs s.ends es ≡ false → split_by s es ≡ es
split_none s [] h = refl
split_none s (e ∷ es) h =
    let p = or_parts (same_ends s.ends e) (occurs s.ends es) h in
    let own : same_ends e s.ends ≡ false = ends_sym e s.ends ∙ p.0 in
    subst (λ (b : Bool). (cond b ((e.0, s.at) ∷ (s.at, e.1) ∷ []) (e ∷ []) ++ split_by s es) ≡ (e ∷ es)) (sym own)
    (ap (λ (l : List Edge). e ∷ l) (split_none s es p.1))

pub split_own : (e : Edge) (c : Point) → split_by (record { ends = e; at = c }) (e ∷ []) ≡ (e.0, c) ∷ (c, e.1) ∷ []
split_own e c = subst (λ (b : Bool). (cond b ((e.0, c) ∷ (c, e.1) ∷ []) (e ∷ []) ++ []) ≡ (e.0, c) ∷ (c, e.1) ∷ []) (sym (ends_self e)) refl

-- an edge the other way about
split_back : (e : Edge) (c : Point) (es : List Edge) → split_by (record { ends = e; at = c }) (back e ∷ es) ≡ (e.1, c) ∷ (c, e.0) ∷ split_by (record { ends = e; at = c }) es
split_back e c es =
    subst (λ (b : Bool). (cond b ((e.1, c) ∷ (c, e.0) ∷ []) (back e ∷ []) ++ split_by (record { ends = e; at = c }) es) ≡ (e.1, c) ∷ (c, e.0) ∷ split_by (record { ends = e; at = c }) es)
    (sym (ends_sym (back e) e ∙ (ends_turned e e ∙ ends_self e))) refl

-- ---- cuts

pub cuts_many : (a : ℕ → Point) (to from m : ℕ) → length (cuts a to from m) ≡ m
cuts_many a to from zero = refl
cuts_many a to from (suc m) = ap suc (cuts_many a to from m)

-- those of what does not stand
pub cuts_none : (a : ℕ → Point) (to from m : ℕ) (es : List Edge) → ((j : ℕ) → from ≤ j → j < from + m → occurs (a j, a to) es ≡ false) → after (cuts a to from m) es ≡ es
cuts_none a to from zero es h = refl
cuts_none a to from (suc m) es h =
    ap (split_by (record { ends = (a (from + m), a to); at = a (from + m + 1) })) (cuts_none a to from m es (λ j l r. h j l (omega arith)))
    ∙ split_none (record { ends = (a (from + m), a to); at = a (from + m + 1) }) es (h (from + m) (omega arith) (omega arith))

-- those at some places and at those after them
pub cuts_plus : (a : ℕ → Point) (to from d m : ℕ) → cuts a to from (d + m) ≡ cuts a to (from + d) m ++ cuts a to from d
cuts_plus a to from d zero = ap (cuts a to from) (omega arith)
cuts_plus a to from d (suc m) =
    let n : d + suc m ≡ suc (d + m) = omega arith in
    let k : from + (d + m) ≡ from + d + m = omega arith in
    ap (cuts a to from) n
    ∙ λ i. (record { ends = (a (k i), a to); at = a (k i + 1) }) ∷ cuts_plus a to from d m i

pub onward_each : (P : Edge → Type 0) (a : ℕ → Point) (from m : ℕ) → ((j : ℕ) → from ≤ j → j < from + m → P (a j, a (j + 1))) → Each P (onward a from m)
onward_each P a from zero h = tt
onward_each P a from (suc m) h =
    each_append P (onward a from m) ((a (from + m), a (from + m + 1)) ∷ []) (onward_each P a from m (λ j l r. h j l (omega arith))) (h (from + m) (omega arith) (omega arith), tt)

pub backward_each : (P : Edge → Type 0) (a : ℕ → Point) (from m : ℕ) → ((j : ℕ) → from ≤ j → j < from + m → P (a (j + 1), a j)) → Each P (backward a from m)
backward_each P a from zero h = tt
backward_each P a from (suc m) h = (h (from + m) (omega arith) (omega arith), backward_each P a from m (λ j l r. h j l (omega arith)))

-- what an edge that was cut at so many places has become
pub cut_onward : (a : ℕ → Point) (to from m n : ℕ) → AreApart a n → to < n → from + m < to → after (cuts a to from m) ((a from, a to) ∷ []) ≡ onward a from m ++ (a (from + m), a to) ∷ []
cut_onward a to from zero n apart within low =
    let k : from ≡ from + 0 = omega arith in
    ap (λ (j : ℕ). (a j, a to) ∷ []) k
cut_onward a to from (suc m) n apart within low =
    let s : EdgeSplit = record { ends = (a (from + m), a to); at = a (from + m + 1) } in
    let k : from + m + 1 ≡ from + suc m = omega arith in
    let none : occurs (a (from + m), a to) (onward a from m) ≡ false =
    none_by (a to) (a (from + m), a to) (onward a from m) (ends_there (a to) (a (from + m), a to) refl)
    (onward_each (EndsElsewhere (a to)) a from m
    (λ j l r. elsewhere (a to) (a j) (a (j + 1)) (λ e. apart j to (omega arith) within (sym e)) (λ e. apart (j + 1) to (omega arith) within (sym e)))) in
    ap (split_by (record { ends = (a (from + m), a to); at = a (from + m + 1) })) (cut_onward a to from m n apart within (omega arith))
    ∙ (after_append ((record { ends = (a (from + m), a to); at = a (from + m + 1) }) ∷ []) (onward a from m) ((a (from + m), a to) ∷ [])
    ∙ ((λ i. split_none (record { ends = (a (from + m), a to); at = a (from + m + 1) }) (onward a from m) none i ++ split_own (a (from + m), a to) (a (from + m + 1)) i)
    ∙ (sym (append_assoc (onward a from m) ((a (from + m), a (from + m + 1)) ∷ []) ((a (from + m + 1), a to) ∷ []))
    ∙ ap (λ (j : ℕ). onward a from (suc m) ++ (a j, a to) ∷ []) k)))

pub cut_backward : (a : ℕ → Point) (to from m n : ℕ) → AreApart a n → to < n → from + m < to → after (cuts a to from m) ((a to, a from) ∷ []) ≡ (a to, a (from + m)) ∷ backward a from m
cut_backward a to from zero n apart within low =
    let k : from ≡ from + 0 = omega arith in
    ap (λ (j : ℕ). (a to, a j) ∷ []) k
cut_backward a to from (suc m) n apart within low =
    let k : from + m + 1 ≡ from + suc m = omega arith in
    let none : occurs (a (from + m), a to) (backward a from m) ≡ false =
    none_by (a to) (a (from + m), a to) (backward a from m) (ends_there (a to) (a (from + m), a to) refl)
    (backward_each (EndsElsewhere (a to)) a from m
    (λ j l r. elsewhere (a to) (a (j + 1)) (a j) (λ e. apart (j + 1) to (omega arith) within (sym e)) (λ e. apart j to (omega arith) within (sym e)))) in
    ap (split_by (record { ends = (a (from + m), a to); at = a (from + m + 1) })) (cut_backward a to from m n apart within (omega arith))
    ∙ (split_back (a (from + m), a to) (a (from + m + 1)) (backward a from m)
    ∙ (ap (λ (l : List Edge). (a to, a (from + m + 1)) ∷ (a (from + m + 1), a (from + m)) ∷ l) (split_none (record { ends = (a (from + m), a to); at = a (from + m + 1) }) (backward a from m) none)
    ∙ ap (λ (j : ℕ). (a to, a j) ∷ backward a from (suc m)) k))

-- an edge that was cut at all places up to its end
pub whole_onward : (a : ℕ → Point) (to from m n : ℕ) → AreApart a n → to < n → from + m + 1 ≡ to → after (cuts a to from m) ((a from, a to) ∷ []) ≡ onward a from (suc m)
whole_onward a to from m n apart within e =
    cut_onward a to from m n apart within (omega arith) ∙ ap (λ (j : ℕ). onward a from m ++ (a (from + m), a j) ∷ []) (sym e)

pub whole_backward : (a : ℕ → Point) (to from m n : ℕ) → AreApart a n → to < n → from + m + 1 ≡ to → after (cuts a to from m) ((a to, a from) ∷ []) ≡ backward a from (suc m)
whole_backward a to from m n apart within e =
    cut_backward a to from m n apart within (omega arith) ∙ ap (λ (j : ℕ). (a j, a (from + m)) ∷ backward a from m) (sym e)

-- the same where the cuts begin before it
pub later_cuts : (a : ℕ → Point) (to first d m n : ℕ) (e : Edge) → AreApart a n → to < n → first + d < to → is_end (a (first + d)) e ≡ true
    → after (cuts a to first (d + m)) (e ∷ []) ≡ after (cuts a to (first + d) m) (e ∷ [])
later_cuts a to first d m n e apart within low end =
    ap (λ (ks : List EdgeSplit). after ks (e ∷ [])) (cuts_plus a to first d m)
    ∙ (after_both (cuts a to (first + d) m) (cuts a to first d) (e ∷ [])
    ∙ ap (after (cuts a to (first + d) m))
    (cuts_none a to first d (e ∷ [])
    (λ j l r.
    let own : same_ends (a j, a to) e ≡ false = not_ends (a (first + d)) (a j, a to) e
    (elsewhere (a (first + d)) (a j) (a to) (λ h. apart j (first + d) r (omega arith) (sym h)) (λ h. apart (first + d) to low within h)) end in
    λ i. own i || false)))
