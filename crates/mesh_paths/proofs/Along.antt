-- Lemmas over points that follow each other, and the edges between them: what an inserted point does.
use Rattle.std.proofs.Common.{◌≡◌, ◌⊎◌, inl, inr, ⊎_elim, ℕ, zero, suc, ◌<◌, ◌≤◌, Bool, true, false, cond, ◌&&◌, ◌||◌, not, List, [], ◌∷◌, ◌++◌, refl, sym, ◌∙◌, ap, subst, arith}
use Rattle.std.proofs.lemmas.Bool.{cases_Bool, false≢true, or_cases, or_left, or_right, or_parts}
use Rattle.mesh_plane.specs.Plane.{Point, Edge}
use Rattle.mesh_lattice.specs.Split.{is_end, occurs, same_ends, split_by, EdgeSplit}
use Rattle.mesh_lattice.proofs.Ends.{decides_ends, decides_end, ends_along, ends_self, ends_sym, not_ends}
use Rattle.mesh_lattice.proofs.Splits.{occurs_cut}
use Rattle.mesh_paths.specs.Private.Cutting.{IsInjective}
use Rattle.mesh_paths.specs.Stops.{edges_along}

-- ---- the edges between points

-- points from the second on
abbrev pub later : (ℕ → Point) → ℕ → Point
later a i = a (suc i)

pub along_same : (a b : ℕ → Point) (n : ℕ) → ((i : ℕ) → i ≤ n → b i ≡ a i) → edges_along b n ≡ edges_along a n
along_same a b zero h = refl
along_same a b (suc n) h =
    let first : b 0 ≡ a 0 = h 0 (omega arith) in
    let second : b 1 ≡ a 1 = h 1 (omega arith) in
    let rest : edges_along (later b) n ≡ edges_along (later a) n = along_same (later a) (later b) n (λ i l. h (suc i) (omega arith)) in
    λ i. (first i, second i) ∷ rest i

pub piece_occurs : (a : ℕ → Point) (n i : ℕ) → i < n → occurs (a i, a (suc i)) (edges_along a n) ≡ true
piece_occurs a zero i h = absurd (omega arith)
piece_occurs a (suc n) zero h = or_left (same_ends (a 0, a 1) (a 0, a 1)) (occurs (a 0, a 1) (edges_along (later a) n)) (ends_self (a 0, a 1))
piece_occurs a (suc n) (suc i) h =
    or_right (same_ends (a (suc i), a (suc (suc i))) (a 0, a 1)) (occurs (a (suc i), a (suc (suc i))) (edges_along (later a) n)) (piece_occurs (later a) n i (omega arith))

or_none : (a b : Bool) → a ≡ false → b ≡ false → (a || b) ≡ false
or_none a b h k = λ i. h i || k i

pub none_occurs : (q : Edge) (a : ℕ → Point) (n : ℕ) → ((i : ℕ) → i < n → same_ends q (a i, a (suc i)) ≡ false) → occurs q (edges_along a n) ≡ false
none_occurs q a zero h = refl
none_occurs q a (suc n) h =
    or_none (same_ends q (a 0, a 1)) (occurs q (edges_along (later a) n)) (h 0 (omega arith)) (none_occurs q (later a) n (λ i l. h (suc i) (omega arith)))

-- where a segment stands among them
pub record StandsAt (q : Edge) (a : ℕ → Point) (n : ℕ) : Type 0 where
  pub place : ℕ
  pub within : place < n
  pub same : same_ends q (a place, a (suc place)) ≡ true

pub place_of : (q : Edge) (a : ℕ → Point) (n : ℕ) → occurs q (edges_along a n) ≡ true → StandsAt q a n
place_of q a zero h = absurd (false≢true h)
place_of q a (suc n) h =
    ⊎_elim
    (λ (t : same_ends q (a 0, a 1) ≡ true). record { place = 0; within = omega arith; same = t })
    (λ (t : occurs q (edges_along (later a) n) ≡ true).
    let r = place_of q (later a) n t in
    record { place = suc r.place; within = omega (arith, r.within); same = r.same })
    (or_cases (same_ends q (a 0, a 1)) (occurs q (edges_along (later a) n)) h)

-- ---- a split

-- one of what does not stand changes nothing
pub split_none : (s : EdgeSplit) (es : List Edge) → occurs s.ends es ≡ false → split_by s es ≡ es
split_none s [] h = refl
split_none s (e ∷ es) h =
    let p = or_parts (same_ends s.ends e) (occurs s.ends es) h in
    let own : same_ends e s.ends ≡ false = ends_sym e s.ends ∙ p.0 in
    subst (λ (b : Bool). (cond b ((e.0, s.at) ∷ (s.at, e.1) ∷ []) (e ∷ []) ++ split_by s es) ≡ (e ∷ es)) (sym own)
    (ap (λ (l : List Edge). e ∷ l) (split_none s es p.1))

-- after it the segment stands no more, if it was split at none of its ends
pub split_gone : (s : EdgeSplit) (es : List Edge) → is_end s.at s.ends ≡ false → occurs s.ends (split_by s es) ≡ false
split_gone s es inner =
    occurs_cut s.ends s.ends s.at es
    ∙ none (occurs s.ends es) (same_ends s.ends s.ends) (same_ends s.ends (s.ends.0, s.at)) (same_ends s.ends (s.at, s.ends.1)) (ends_self s.ends)
    (not_ends s.at s.ends (s.ends.0, s.at) inner ((decides_end s.at (s.ends.0, s.at)).1 (inr refl)))
    (not_ends s.at s.ends (s.at, s.ends.1) inner ((decides_end s.at (s.at, s.ends.1)).1 (inl refl)))
  where
    none : (o t x y : Bool) → t ≡ true → x ≡ false → y ≡ false → ((o && not t) || (o && (x || y))) ≡ false
    none o t x y h k l = grind arith

-- ---- a point inserted

-- two places with the same piece are one
pub others_differ : (a : ℕ → Point) (n i j : ℕ) → IsInjective a n → i < n → j < n → (i ≡ j → ⊥) → same_ends (a i, a (suc i)) (a j, a (suc j)) ≡ false
others_differ a n i j once h k apart = by (cases_Bool (same_ends (a i, a (suc i)) (a j, a (suc j))))
  where
    by : (same_ends (a i, a (suc i)) (a j, a (suc j)) ≡ true) ⊎ (same_ends (a i, a (suc i)) (a j, a (suc j)) ≡ false) → same_ends (a i, a (suc i)) (a j, a (suc j)) ≡ false
    by (inl t) =
        absurd
        (⊎_elim
        (λ (p : (a i, a (suc i)) ≡ (a j, a (suc j))). apart (once i j (omega arith) (omega arith) (ap (λ (v : Edge). v.0) p)))
        (λ (p : (a i, a (suc i)) ≡ (a (suc j), a j)).
        let x : i ≡ suc j = once i (suc j) (omega arith) (omega arith) (ap (λ (v : Edge). v.0) p) in
        let y : suc i ≡ j = once (suc i) j (omega arith) (omega arith) (ap (λ (v : Edge). v.1) p) in
        omega arith)
        ((decides_ends (a i, a (suc i)) (a j, a (suc j))).0 t))
    by (inr f) = f

pub later_once : (a : ℕ → Point) (n : ℕ) → IsInjective a (suc n) → IsInjective (later a) n
later_once a n once i j h k e = omega (arith, once (suc i) (suc j) (omega arith) (omega arith) e)

-- a point was inserted after a place
pub record IsPut (a b : ℕ → Point) (n place : ℕ) (c : Point) : Type 0 where
  pub before : (i : ℕ) → i ≤ place → b i ≡ a i
  pub at : b (suc place) ≡ c
  pub after : (i : ℕ) → place < i → i ≤ n → b (suc i) ≡ a i

-- it splits the piece there
pub split_put : (s : EdgeSplit) (a b : ℕ → Point) (n place : ℕ) → IsInjective a n → place < n → same_ends s.ends (a place, a (suc place)) ≡ true → IsPut a b n place s.at
    → edges_along b (suc n) ≡ split_by s (edges_along a n)
split_put s a b zero place once h t put = absurd (omega arith)
split_put s a b (suc n) zero once h t put =
    let own : same_ends (a 0, a 1) s.ends ≡ true = ends_sym (a 0, a 1) s.ends ∙ t in
    let none : occurs s.ends (edges_along (later a) n) ≡ false =
    none_occurs s.ends (later a) n
    (λ i l. ends_sym s.ends (a (suc i), a (suc (suc i))) ∙ (ends_along (a (suc i), a (suc (suc i))) s.ends (a 0, a 1) t ∙ others_differ a (suc n) (suc i) 0 once (omega arith) (omega arith) (λ e. omega (arith, e)))) in
    let first : b 0 ≡ a 0 = put.before 0 (omega arith) in
    let third : b 2 ≡ a 1 = put.after 1 (omega arith) (omega arith) in
    let middle : b 1 ≡ s.at = put.at in
    let rest : edges_along (later (later b)) n ≡ edges_along (later a) n =
    along_same (later a) (later (later b)) n (λ i l. put.after (suc i) (omega arith) (omega arith)) in
    let left : edges_along b (suc (suc n)) ≡ (a 0, s.at) ∷ (s.at, a 1) ∷ edges_along (later a) n = λ i. (first i, middle i) ∷ (middle i, third i) ∷ rest i in
    left
    ∙ subst (λ (b : Bool). ((a 0, s.at) ∷ (s.at, a 1) ∷ edges_along (later a) n) ≡ (cond b ((a 0, s.at) ∷ (s.at, a 1) ∷ []) ((a 0, a 1) ∷ []) ++ split_by s (edges_along (later a) n)))
    (sym own)
    (ap (λ (l : List Edge). (a 0, s.at) ∷ (s.at, a 1) ∷ l) (sym (split_none s (edges_along (later a) n) none)))
split_put s a b (suc n) (suc place) once h t put =
    let low : place < n = omega arith in
    let own : same_ends (a 0, a 1) s.ends ≡ false =
    ends_along (a 0, a 1) s.ends (a (suc place), a (suc (suc place))) t ∙ others_differ a (suc n) 0 (suc place) once (omega arith) h (λ e. omega (arith, e)) in
    let first : b 0 ≡ a 0 = put.before 0 (omega arith) in
    let second : b 1 ≡ a 1 = put.before 1 (omega arith) in
    let rest : edges_along (later b) (suc n) ≡ split_by s (edges_along (later a) n) =
    split_put s (later a) (later b) n place (later_once a n once) low t
    (record { before = λ i l. put.before (suc i) (omega arith); at = put.at; after = λ i l m. put.after (suc i) (omega arith) (omega arith) }) in
    let left : edges_along b (suc (suc n)) ≡ (a 0, a 1) ∷ split_by s (edges_along (later a) n) = λ i. (first i, second i) ∷ rest i in
    left
    ∙ subst (λ (b : Bool). ((a 0, a 1) ∷ split_by s (edges_along (later a) n)) ≡ (cond b ((a 0, s.at) ∷ (s.at, a 1) ∷ []) ((a 0, a 1) ∷ []) ++ split_by s (edges_along (later a) n)))
    (sym own) refl
