-- Lemmas over points and lists: edges listed by the rows that they reach.
use Rattle.std.proofs.Common.{◌≡◌, ℕ, ◌+◌, ◌<◌, ◌≤◌, ◌⊎◌, inl, inr, Bool, true, false, cond, ◌&&◌, List, [], ◌∷◌, ◌++◌, length, take, get_or, add-one, sym, ◌∙◌, ap, arith}
use Rattle.std.specs.Prelude.{ℤ, pos, ◌*ℤ◌, ◌<ℤ◌, nat_le, Vec}
use Rattle.std.specs.declared.alloc.Global.{Global}
use Rattle.std.specs.List.{filter}
use Rattle.std.proofs.lemmas.Bool.Decides.{nat_tests}
use Rattle.std.proofs.lemmas.Int.{ints}
use Rattle.std.proofs.lemmas.List.{append-nil}
use Rattle.std.proofs.lemmas.List.Elements.{filter-append}
use Rattle.std.proofs.Math.Seq.{take-suc}
use Rattle.mesh_plane.specs.Plane.{Point, Edge, turn}
use Rattle.mesh_plane.specs.Winding.{sum_of, crossing_on, refined}
use Rattle.mesh_plane.proofs.Sums.{sum_of_filter}
use Rattle.mesh_plane.proofs.Crossings.{crossing_high, crossing_low}
use Rattle.mesh_lattice.specs.declared.places.Mark.{Mark}
use Rattle.mesh_lattice.specs.Marks.{place, AreRising, IsPutTo}
use Rattle.mesh_lattice.proofs.PlacesAmong.{place_most, lesser_place}
use Rattle.mesh_lattice.specs.Rows.{first_row, last_row, reaches_row, AreRows}

-- ---- which rows an edge reaches

outside : (f p l : ℕ) → (nat_le f p && nat_le p l) ≡ false → (p < f) ⊎ (l < p)
outside f p l h = grind (arith, nat_tests)

within : (f p l : ℕ) → f ≤ p → p < l + 1 → (nat_le f p && nat_le p l) ≡ true
within f p l h k = grind (arith, nat_tests)

without : (f p l : ℕ) → (p < f) ⊎ (l + 1 ≤ p) → (nat_le f p && nat_le p l) ≡ false
without f p l (inl h) = grind (arith, nat_tests)
without f p l (inr h) = grind (arith, nat_tests)

-- an edge that does not reach the row of a height lies above it or below it
pub off_height : {T : Type 0} (ms : List Mark) (h : ℤ) (e : Edge × T) → reaches_row ms (place ms h) e ≡ false
    → ((h <ℤ (pos 2 *ℤ e.0.0.1)) × (h <ℤ (pos 2 *ℤ e.0.1.1))) ⊎ (((pos 2 *ℤ e.0.0.1) <ℤ h) × ((pos 2 *ℤ e.0.1.1) <ℤ h))
off_height ms h e off = by (outside (first_row ms e) (place ms h) (last_row ms e) off)
  where
    by : (place ms h < first_row ms e) ⊎ (last_row ms e < place ms h)
        → ((h <ℤ (pos 2 *ℤ e.0.0.1)) × (h <ℤ (pos 2 *ℤ e.0.1.1))) ⊎ (((pos 2 *ℤ e.0.0.1) <ℤ h) × ((pos 2 *ℤ e.0.1.1) <ℤ h))
    by (inl k) = inl (lesser_place ms h (pos 2 *ℤ e.0.0.1) (omega arith), lesser_place ms h (pos 2 *ℤ e.0.1.1) (omega arith))
    by (inr k) = inr (lesser_place ms (pos 2 *ℤ e.0.0.1) h (omega arith), lesser_place ms (pos 2 *ℤ e.0.1.1) h (omega arith))

-- so it does not cross the ray from a point at that height
pub off_row : {T : Type 0} (ms : List Mark) (q : Point) (e : Edge × T) → reaches_row ms (place ms q.1) e ≡ false → crossing_on 2 q e.0.0 e.0.1 ≡ pos 0
off_row ms q e h = by (off_height ms q.1 e h)
  where
    by : ((q.1 <ℤ (pos 2 *ℤ e.0.0.1)) × (q.1 <ℤ (pos 2 *ℤ e.0.1.1))) ⊎ (((pos 2 *ℤ e.0.0.1) <ℤ q.1) × ((pos 2 *ℤ e.0.1.1) <ℤ q.1)) → crossing_on 2 q e.0.0 e.0.1 ≡ pos 0
    by (inl k) = crossing_high (pos 2 *ℤ e.0.0.1) (pos 2 *ℤ e.0.1.1) q.1 (turn (refined 2 e.0.0) (refined 2 e.0.1) q) k.0 k.1
    by (inr k) =
        crossing_low (pos 2 *ℤ e.0.0.1) (pos 2 *ℤ e.0.1.1) q.1 (turn (refined 2 e.0.0) (refined 2 e.0.1) q)
        (omega (arith, ints, k.0)) (omega (arith, ints, k.1))

-- ---- listing

-- a place before, in or past a range
where_is : (i first end : ℕ) → ((first ≤ i) × (i < end)) ⊎ ((i < first) ⊎ (end ≤ i))
where_is i first end = grind arith

pub filter_more : {A : Type 0} (t : A → Bool) (xs : List A) (i : ℕ) (d : A) → i < length xs →
    filter t (take (i + 1) xs) ≡ filter t (take i xs) ++ cond (t (get_or xs i d)) (get_or xs i d ∷ []) []
filter_more t xs i d h =
    ap (λ (n : ℕ). filter t (take n xs)) (add-one i) ∙ (ap (filter t) (take-suc xs i d h) ∙ filter-append t (take i xs) (get_or xs i d ∷ []))

-- no edge is listed yet
pub rows_none : {T : Type 0} (ms : List Mark) (lists : List (Vec (Edge × T) Global)) → AreRising ms → length lists ≡ length ms + 1
    → ((i : ℕ) (d : Vec (Edge × T) Global) → i < length ms + 1 → (get_or lists i d).items ≡ []) → AreRows ms lists []
rows_none ms lists rising len empty = record { rising = rising; len = len; rows = λ i d h. empty i d (omega (arith, len)) }

-- one more edge is listed
pub rows_more : {T : Type 0} (ms : List Mark) (old new : List (Vec (Edge × T) Global)) (es : List (Edge × T)) (i : ℕ) (e : Edge × T) → i < length es → e ≡ get_or es i e → AreRows ms old (take i es)
    → IsPutTo old new (first_row ms e) (last_row ms e + 1) e → AreRows ms new (take (i + 1) es)
rows_more {T = T} ms old new es i e h is rows put = record {
  rising = rows.rising;
  len = put.len ∙ rows.len;
  rows = λ j d l. row j d l (where_is j (first_row ms e) (last_row ms e + 1));
}
  where
    added : (j : ℕ) (b : Bool) → reaches_row ms j e ≡ b → filter (reaches_row ms j) (take (i + 1) es) ≡ filter (reaches_row ms j) (take i es) ++ cond b (e ∷ []) []
    added j b r =
        filter_more (reaches_row ms j) es i e h
        ∙ (ap (λ (f : Edge × T). filter (reaches_row ms j) (take i es) ++ cond (reaches_row ms j f) (f ∷ []) []) (sym is)
        ∙ ap (λ (x : Bool). filter (reaches_row ms j) (take i es) ++ cond x (e ∷ []) []) r)

    row : (j : ℕ) (d : Vec (Edge × T) Global) → j < length new → ((first_row ms e ≤ j) × (j < last_row ms e + 1)) ⊎ ((j < first_row ms e) ⊎ (last_row ms e + 1 ≤ j))
        → (get_or new j d).items ≡ filter (reaches_row ms j) (take (i + 1) es)
    row j d l (inl w) =
        let low : j < length old = omega (arith, put.len) in
        put.inside j d w.0 w.1 low
        ∙ (ap (λ (xs : List (Edge × T)). xs ++ e ∷ []) (rows.rows j d low) ∙ sym (added j true (within (first_row ms e) j (last_row ms e) w.0 w.1)))
    row j d l (inr w) =
        let low : j < length old = omega (arith, put.len) in
        put.outside j d w
        ∙ (rows.rows j d low ∙ (sym (append-nil (filter (reaches_row ms j) (take i es))) ∙ sym (added j false (without (first_row ms e) j (last_row ms e) w))))

-- ---- the row of a point

pub row_is : {T : Type 0} (ms : List Mark) (lists : List (Vec (Edge × T) Global)) (es row : List (Edge × T)) (q : Point) → AreRows ms lists es
    → ((d : Vec (Edge × T) Global) → row ≡ (get_or lists (place ms q.1) d).items) → row ≡ filter (reaches_row ms (place ms q.1)) es
row_is ms [] es row q rows is = absurd (omega (arith, rows.len))
row_is ms (v ∷ vs) es row q rows is = is v ∙ rows.rows (place ms q.1) v (omega (arith, rows.len, place_most ms q.1))

-- a sum over the row of what only edges give that cross the ray
pub row_total : {T : Type 0} (ms : List Mark) (es row : List (Edge × T)) (q : Point) (g : Edge × T → ℤ) → row ≡ filter (reaches_row ms (place ms q.1)) es
    → ((e : Edge × T) → crossing_on 2 q e.0.0 e.0.1 ≡ pos 0 → g e ≡ pos 0) → sum_of g row ≡ sum_of g es
row_total ms es row q g is none =
    ap (sum_of g) is ∙ sum_of_filter g (reaches_row ms (place ms q.1)) (λ e h. none e (off_row ms q e h)) es
