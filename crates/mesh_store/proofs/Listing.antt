-- Lemmas over segments that parts of the plane list.
use Rattle.std.proofs.Common.{◌≡◌, ⊎_elim, Bool, true, false, cond, filter, ℕ, zero, suc, ◌+◌, ◌<◌, ◌≤◌, sym, ◌∙◌, ap, subst, refl, arith, List, [], ◌∷◌, ◌++◌, length, length-append, get_or, below_more}
use Rattle.std.specs.Prelude.{ℤ, pos, ◌<ℤ◌}
use Rattle.std.proofs.Math.ListN.{get_or-append}
use Rattle.std.proofs.Math.Seq.{get_or-append_seam}
use Rattle.std.proofs.lemmas.List.{get_or_default}
use Rattle.std.proofs.lemmas.Bool.{both_ways}
use Rattle.std.specs.Map.{keys_of}
use Rattle.mesh_plane.specs.Plane.{Edge}
use Rattle.mesh_plane.proofs.Whole.{linear}
use Rattle.mesh_lattice.specs.Counted.{Counted, bit}
use Rattle.mesh_lattice.specs.Split.{same_edge, AreClear}
use Rattle.mesh_lattice.proofs.Arithmetic.{below_or_last}
use Rattle.mesh_lattice.proofs.Counts.{bit_least}
use Rattle.mesh_lattice.proofs.Ends.{decides_edge}
use Rattle.mesh_store.specs.declared.tree.Cut.{Cut}
use Rattle.mesh_store.specs.Cells.{Cell, IsAt, reaches, StandsIn, KeepsThose, HasListed, KeepsListed, KeepsOthers, LiveAreListed, IsCellClear}
use Rattle.mesh_store.proofs.Cells.{cell_met}
use Rattle.mesh_store.specs.Steps.{exactly, IsPut, IsTaken, IsClearOf, AddsIf}

-- ---- lists that grow

pub listed_more : {A : Type 0} (x : A) (xs ys : List A) → StandsIn x xs → StandsIn x (xs ++ ys)
listed_more x xs ys l = record {
  at = l.at;
  within = omega (arith, l.within, length-append xs ys);
  same = λ d. get_or-append xs ys d l.at l.within ∙ l.same d;
}

pub listed_last : {A : Type 0} (x : A) (xs : List A) → StandsIn x (xs ++ x ∷ [])
listed_last x xs = record { at = length xs; within = omega (arith, length-append xs (x ∷ [])); same = λ d. get_or-append_seam xs x [] d }

-- of the first so many of a list, each with a property is listed
pub record AreKept (P : Edge → Type 0) (from left : List Edge) (n : ℕ) : Type 0 where
  pub kept : (k : ℕ) → k < n → (x : Edge) → ((d : Edge) → get_or from k d ≡ x) → P x → StandsIn x left

pub kept_none : (P : Edge → Type 0) (from left : List Edge) → AreKept P from left 0
kept_none P from left = record { kept = λ k h x same p. absurd (omega arith) }

-- one more, which is put at the end
pub kept_pushed : (P : Edge → Type 0) (from left : List Edge) (i : ℕ) (d₀ : Edge) → AreKept P from left i → AreKept P from (left ++ get_or from i d₀ ∷ []) (i + 1)
kept_pushed P from left i d₀ before = record {
  kept = λ k h x same p.
      ⊎_elim
      (λ (l : k < i). listed_more x left _ (before.kept k l x same p))
      (λ (l : k ≡ i).
      let here : get_or from i d₀ ≡ x = ap (λ (j : ℕ). get_or from j d₀) (sym l) ∙ same d₀ in
      subst (λ (y : Edge). StandsIn x (left ++ y ∷ [])) (sym here) (listed_last x left))
      (below_or_last k i (omega (arith, h)));
}

-- one more, which has not the property
pub kept_left_out : (P : Edge → Type 0) (from left : List Edge) (i : ℕ) (d₀ : Edge) → (P (get_or from i d₀) → ⊥) → AreKept P from left i → AreKept P from left (i + 1)
kept_left_out P from left i d₀ lacks before = record {
  kept = λ k h x same p.
      ⊎_elim
      (λ (l : k < i). before.kept k l x same p)
      (λ (l : k ≡ i).
      let here : get_or from i d₀ ≡ x = ap (λ (j : ℕ). get_or from j d₀) (sym l) ∙ same d₀ in
      absurd (lacks (subst P (sym here) p)))
      (below_or_last k i (omega (arith, h)));
}

pub kept_all : (P : Edge → Type 0) (from left : List Edge) (n : ℕ) → length from ≤ n → AreKept P from left n → KeepsThose P from left
kept_all P from left n all a x p l = a.kept l.at (omega (arith, l.within)) x l.same p

-- what passes a test is still listed among those that do
listed_first : (test : Edge → Bool) (x y : Edge) (ys : List Edge) → test x ≡ true → y ≡ x → (b : Bool) → test y ≡ b → StandsIn x (cond b (y ∷ filter test ys) (filter test ys))
listed_first test x y ys t e true s = record { at = 0; within = omega arith; same = λ d. e }
listed_first test x y ys t e false s = absurd (both_ways (test y) s (ap test e ∙ t))

listed_later : (test : Edge → Bool) (x y : Edge) (ys : List Edge) (b : Bool) → StandsIn x (filter test ys) → StandsIn x (cond b (y ∷ filter test ys) (filter test ys))
listed_later test x y ys true l = record { at = suc l.at; within = omega (arith, l.within); same = λ d. l.same d }
listed_later test x y ys false l = l

listed_filtered : (test : Edge → Bool) (x : Edge) → test x ≡ true → (ys : List Edge) (k : ℕ) → k < length ys → ((d : Edge) → get_or ys k d ≡ x) → StandsIn x (filter test ys)
listed_filtered test x t [] k h same = absurd (omega (arith, h))
listed_filtered test x t (y ∷ ys) zero h same = listed_first test x y ys t (same y) (test y) refl
listed_filtered test x t (y ∷ ys) (suc k) h same = listed_later test x y ys (test y) (listed_filtered test x t ys k (omega (arith, h)) same)

pub filtered_keeps : (test : Edge → Bool) (P : Edge → Type 0) → ((x : Edge) → P x → test x ≡ true) → (from left : List Edge) → left ≡ filter test from → KeepsThose P from left
filtered_keeps test P passes from left is x p l = subst (λ (ys : List Edge). StandsIn x ys) (sym is) (listed_filtered test x (passes x p) from l.at l.within l.same)

-- ---- cuts

-- what holds on each side of a cut that an edge reaches, holds on that of each cell that it reaches
pub at_place : (P : Bool → Type 0) (cut : Cut) (e : Edge) (c : Cell) → IsAt e c → (reaches cut e true ≡ true → P true) → (reaches cut e false ≡ true → P false) → P (c cut)
at_place P cut e c reach low high = by (c cut) (reach cut)
  where
    by : (b : Bool) → reaches cut e b ≡ true → P b
    by true t = low t
    by false t = high t

-- ---- parts of parts

pub kept_same : (listed : Cell → List Edge) → KeepsListed listed listed
kept_same listed e c reach l = l

pub fork_keeps : (cut : Cut) (low high low' high' : Cell → List Edge) → KeepsListed low low' → KeepsListed high high'
    → KeepsListed (λ c. cond (c cut) (low c) (high c)) (λ c. cond (c cut) (low' c) (high' c))
fork_keeps cut low high low' high' k m e c reach l = by (c cut) l
  where
    by : (b : Bool) → StandsIn e (cond b (low c) (high c)) → StandsIn e (cond b (low' c) (high' c))
    by true l = k e c reach l
    by false l = m e c reach l

pub fork_lists : (cut : Cut) (low high : Cell → List Edge) (e : Edge) → (reaches cut e true ≡ true → HasListed low e) → (reaches cut e false ≡ true → HasListed high e)
    → HasListed (λ c. cond (c cut) (low c) (high c)) e
fork_lists cut low high e l h c reach = at_place (λ (b : Bool). StandsIn e (cond b (low c) (high c))) cut e c reach (λ t. l t c reach) (λ t. h t c reach)

pub fork_is_clear : (cut : Cut) (low high : Cell → List Edge) (s : Edge) (live : List Counted) → (reaches cut s true ≡ true → (c : Cell) → IsAt s c → IsCellClear s (low c) live)
    → (reaches cut s false ≡ true → (c : Cell) → IsAt s c → IsCellClear s (high c) live) → (c : Cell) → IsAt s c → IsCellClear s (cond (c cut) (low c) (high c)) live
fork_is_clear cut low high s live l h c reach = at_place (λ (b : Bool). IsCellClear s (cond b (low c) (high c)) live) cut s c reach (λ t. l t c reach) (λ t. h t c reach)

-- ---- what lives, and where it is listed

pub listed_fewer : (listed : Cell → List Edge) (live live' : List Counted) → ((e : Edge) → pos 0 <ℤ exactly e live' → pos 0 <ℤ exactly e live) → LiveAreListed listed live → LiveAreListed listed live'
listed_fewer listed live live' fewer f e h = f e (fewer e h)

pub listed_kept : (old new : Cell → List Edge) (live : List Counted) → KeepsListed old new → LiveAreListed old live → LiveAreListed new live
listed_kept old new live k f e lives c reach = k e c reach (f e lives c reach)

-- what lives stands among the ends of all that live
pub stands_listed : (e : Edge) (ks : List Counted) → pos 0 <ℤ exactly e ks → StandsIn e (keys_of ks)
stands_listed e [] h = absurd (omega (arith, linear, h))
stands_listed e (k ∷ ks) h = first_or_later e k ks h (same_edge e k.0) refl (stands_listed e ks)
  where
    first_or_later : (e : Edge) (k : Counted) (ks : List Counted) → pos 0 <ℤ exactly e (k ∷ ks) → (b : Bool) → same_edge e k.0 ≡ b
        → (pos 0 <ℤ exactly e ks → StandsIn e (keys_of ks)) → StandsIn e (keys_of (k ∷ ks))
    first_or_later e k ks h true t later = record { at = 0; within = omega arith; same = λ d. sym ((decides_edge e k.0).0 t) }
    first_or_later e k ks h false t later =
        let l = later (omega (arith, linear, ap bit t, h)) in
        record { at = suc l.at; within = omega (arith, l.within); same = λ d. l.same d }

-- one that lives no more is no longer listed
pub listed_without : (old new : Cell → List Edge) (live : List Counted) (s : Edge) → exactly s live ≡ pos 0 → KeepsOthers s old new → LiveAreListed old live → LiveAreListed new live
listed_without old new live s none k f e lives c reach = by (same_edge e s) refl
  where
    by : (b : Bool) → same_edge e s ≡ b → StandsIn e (new c)
    by true t = absurd (nothing (exactly s live) none (subst (λ (x : Edge). pos 0 <ℤ exactly x live) ((decides_edge e s).0 t) lives))
      where
        nothing : (z : ℤ) → z ≡ pos 0 → pos 0 <ℤ z → ⊥
        nothing z h l = omega (arith, linear, h, l)
    by false t = k e c t (f e lives c reach)

-- one more segment lives, and it is listed
pub listed_put : (listed : Cell → List Edge) (live live' : List Counted) (k : Counted) → IsPut live live' k → HasListed listed k.0 → LiveAreListed listed live → LiveAreListed listed live'
listed_put listed live live' k put own f e lives = by (same_edge e k.0) refl
  where
    by : (b : Bool) → same_edge e k.0 ≡ b → HasListed listed e
    by true t = subst (λ (x : Edge). HasListed listed x) (sym ((decides_edge e k.0).0 t)) own
    by false t = f e (omega (arith, linear, put (λ (j : Counted). bit (same_edge e j.0)), ap bit t, lives))

-- a segment was taken out
pub listed_taken : (listed : Cell → List Edge) (live live' : List Counted) (k : Counted) → IsTaken live live' k → LiveAreListed listed live → LiveAreListed listed live'
listed_taken listed live live' k taken f =
    listed_fewer listed live live' (λ e h. omega (arith, linear, taken (λ (j : Counted). bit (same_edge e j.0)), bit_least (same_edge e k.0))) f

-- a count was raised, or nothing was done
pub listed_added : (listed : Cell → List Edge) (live live' : List Counted) (k : Counted) (b : Bool) → AddsIf b live live' k → LiveAreListed listed live → LiveAreListed listed live'
listed_added listed live live' k true raised f = listed_fewer listed live live' (λ e h. omega (arith, linear, raised.totals (λ (j : Counted). bit (same_edge e j.0)))) f
listed_added listed live live' k false kept f = subst (λ (ks : List Counted). LiveAreListed listed ks) (sym kept.same) f

-- ---- the search

-- one more listed segment is clear, or does not live
pub part_end : (s : Edge) (part : List Edge) (live : List Counted) → ((k : ℕ) → k < length part → (d : Edge) → pos 0 <ℤ exactly (get_or part k d) live → AreClear s (get_or part k d))
    → IsCellClear s part live
part_end s part live all e l h =
    let same = l.same e in
    subst (λ (x : Edge). AreClear s x) same (all l.at l.within e (subst (λ (x : Edge). pos 0 <ℤ exactly x live) (sym same) h))

pub part_more : (s : Edge) (part : List Edge) (live : List Counted) (i : ℕ) (d₀ : Edge) → i < length part
    → ((k : ℕ) → k < i → (d : Edge) → pos 0 <ℤ exactly (get_or part k d) live → AreClear s (get_or part k d))
    → (pos 0 <ℤ exactly (get_or part i d₀) live → AreClear s (get_or part i d₀))
    → (k : ℕ) → k < i + 1 → (d : Edge) → pos 0 <ℤ exactly (get_or part k d) live → AreClear s (get_or part k d)
part_more s part live i d₀ h before here =
    let P : ℕ → Type 0 = λ k. (d : Edge) → pos 0 <ℤ exactly (get_or part k d) live → AreClear s (get_or part k d) in
    below_more P i before (λ d. subst (λ (x : Edge). pos 0 <ℤ exactly x live → AreClear s x) (get_or_default part i d₀ d h) here)

-- where no part that a segment reaches lists one that it meets, it is clear of all
pub clear_of_parts : (s : Edge) (listed : Cell → List Edge) (live : List Counted) → ((c : Cell) → IsAt s c → IsCellClear s (listed c) live) → LiveAreListed listed live → IsClearOf s live
clear_of_parts s listed live parts f e lives c meets =
    let both = cell_met meets in
    parts both.cell both.first e (f e lives both.cell both.second) lives c meets
