-- Lemmas over points and lists: what legal splits leave of lists that lie apart is clean, and its boundary is that of both.
use Rattle.std.proofs.Common.{◌≡◌, ℕ, ◌+◌, ◌<◌, ⊎_elim, Bool, true, false, cond, not, ◌&&◌, ◌||◌, List, [], ◌∷◌, ◌++◌, refl, sym, ◌∙◌, arith}
use Rattle.std.specs.Prelude.{ℤ, pos, ◌+ℤ◌, ◌-ℤ◌}
use Rattle.std.proofs.lemmas.Bool.{or_cases, or_parts, cases_Bool}
use Rattle.std.proofs.lemmas.List.Sums.{sum_by-append}
use Rattle.mesh_plane.specs.Plane.{Point, Edge}
use Rattle.mesh_plane.specs.Winding.{winding, crossing_on}
use Rattle.mesh_plane.proofs.Sums.{sum_of_append, total_append}
use Rattle.mesh_plane.proofs.Whole.{linear}
use Rattle.mesh_lattice.specs.Boundary.{IsBoundary, count, rises, middle, winding_beside, left_winding, right_winding}
use Rattle.mesh_lattice.specs.Clean.{IsClean, IsOn, ShareEnds, refined_edge}
use Rattle.mesh_lattice.specs.Counted.{net, along}
use Rattle.mesh_lattice.specs.Split.{same_edge, same_ends, occurs, EdgeSplit, after, IsLegal}
use Rattle.mesh_lattice.proofs.Each.{Each}
use Rattle.mesh_lattice.proofs.Ends.{not_along}
use Rattle.mesh_lattice.proofs.KeptBySplits.{Boxed}
use Rattle.mesh_lattice.proofs.SoundSplits.{legal_boxed}
use Rattle.mesh_lattice.proofs.Splits.{occurs_append}
use Rattle.mesh_apart.specs.Apart.{finer_box, Piece, IsBoxed, edges_in}
use Rattle.mesh_apart.proofs.Boxes.{IsPast}
use Rattle.mesh_apart.proofs.Pieces.{LiesIn, AreApart, apart_back, lies_where_occurs, lies_once, each_lies, among_on, among_middle, among_once, past_each}
use Rattle.mesh_apart.proofs.Splits.{lies_kept, after_each}
use Rattle.mesh_apart.proofs.Windings.{after_none_round}

-- ---- segments of pieces

-- segments that legal splits leave of pieces
pub record AreSegmentsOf (ps : List Piece) (es : List Edge) : Type 0 where
  pub lie : Each (LiesIn ps) es
  pub past : (m : ℕ) (z : Point) → Each (λ (p : Piece). IsPast (finer_box m p.box) z) ps → winding m z es ≡ pos 0

pub segments_left : (ps : List Piece) → Each IsBoxed ps → (ks : List EdgeSplit) → IsLegal (edges_in ps) ks → AreSegmentsOf ps (after ks (edges_in ps))
segments_left ps boxed ks legal =
    let sound : Boxed ks = legal_boxed (edges_in ps) ks legal in
    record {
      lie = after_each (LiesIn ps) (lies_kept ps) ks sound (edges_in ps) (each_lies ps boxed);
      past = λ (m : ℕ) (z : Point) h. after_none_round m z ks sound ps boxed h;
    }

-- ---- clean

share_nothing : (ps qs : List Piece) → AreApart ps qs → (e f : Edge) → LiesIn ps e → LiesIn qs f → (m : ℕ) → 0 < m → ShareEnds m e f
share_nothing ps qs apart e f k l m some = record {
  shared = λ (z : Point) (h : IsOn (refined_edge m e) z) (i : IsOn (refined_edge m f) z).
      absurd (among_once m some ps qs apart z (among_on m ps e z k h) (among_on m qs f z l i));
}

pub clean_both : (ps qs : List Piece) → AreApart ps qs → (es fs : List Edge) → AreSegmentsOf ps es → AreSegmentsOf qs fs → IsClean es → IsClean fs → IsClean (es ++ fs)
clean_both ps qs apart es fs first second clean_first clean_second e f oe of differ m some =
    ⊎_elim
    (λ (x : occurs e es ≡ true).
    ⊎_elim (λ (y : occurs f es ≡ true). clean_first e f x y differ m some)
    (λ (y : occurs f fs ≡ true).
    share_nothing ps qs apart e f (lies_where_occurs ps es first.lie e x) (lies_where_occurs qs fs second.lie f y) m some)
    (or_cases (occurs f es) (occurs f fs) (sym (occurs_append f es fs) ∙ of)))
    (λ (x : occurs e fs ≡ true).
    ⊎_elim (λ (y : occurs f es ≡ true).
    share_nothing qs ps (apart_back ps qs apart) e f (lies_where_occurs qs fs second.lie e x) (lies_where_occurs ps es first.lie f y) m some)
    (λ (y : occurs f fs ≡ true). clean_second e f x y differ m some)
    (or_cases (occurs f es) (occurs f fs) (sym (occurs_append f es fs) ∙ of)))
    (or_cases (occurs e es) (occurs e fs) (sym (occurs_append e es fs) ∙ oe))

-- ---- windings beside segments

net_absent : (e : Edge) (es : List Edge) → occurs e es ≡ false → net e es ≡ pos 0
net_absent e [] h = refl
net_absent e (d ∷ es) h =
    let parts = or_parts (same_ends e d) (occurs e es) h in
    omega (arith, linear, not_along e d parts.0, net_absent e es parts.1)

beside_other : (ps qs : List Piece) → AreApart ps qs → (e : Edge) → LiesIn ps e → (fs : List Edge) → AreSegmentsOf qs fs → winding_beside fs e ≡ pos 0
beside_other ps qs apart e lies fs second =
    second.past 2 (middle e) (past_each 2 (omega arith) ps qs apart (middle e) (among_middle ps e lies))

absent_other : (ps qs : List Piece) → AreApart ps qs → (e : Edge) → LiesIn ps e → (fs : List Edge) → AreSegmentsOf qs fs → occurs e fs ≡ false
absent_other ps qs apart e lies fs second =
    ⊎_elim (λ (t : occurs e fs ≡ true). absurd (lies_once ps qs apart e lies (lies_where_occurs qs fs second.lie e t))) (λ (f : occurs e fs ≡ false). f) (cases_Bool (occurs e fs))

-- the two windings of a segment's sides depend on two numbers
pub sides_same : (es fs : List Edge) (e : Edge) → winding_beside es e ≡ winding_beside fs e → net e es ≡ net e fs → (left_winding es e ≡ left_winding fs e) × (right_winding es e ≡ right_winding fs e)
sides_same es fs e h k = ((λ i. cond (rises e) (h i +ℤ k i) (h i)), (λ i. cond (rises e) (h i) (h i -ℤ k i)))

added : (a b c : ℤ) → c ≡ a +ℤ b → b ≡ pos 0 → c ≡ a
added a b c h k = omega (arith, linear, h, k)

added_before : (a b c : ℤ) → c ≡ a +ℤ b → a ≡ pos 0 → c ≡ b
added_before a b c h k = omega (arith, linear, h, k)

beside_append : (es fs : List Edge) (e : Edge) → winding_beside (es ++ fs) e ≡ winding_beside es e +ℤ winding_beside fs e
beside_append es fs e = total_append (crossing_on 2 (middle e)) es fs

net_append : (es fs : List Edge) (e : Edge) → net e (es ++ fs) ≡ net e es +ℤ net e fs
net_append es fs e = sum_of_append (along e) es fs

pub sides_first : (ps qs : List Piece) → AreApart ps qs → (es fs : List Edge) → AreSegmentsOf ps es → AreSegmentsOf qs fs → (e : Edge) → occurs e es ≡ true
    → (left_winding (es ++ fs) e ≡ left_winding es e) × (right_winding (es ++ fs) e ≡ right_winding es e)
sides_first ps qs apart es fs first second e o =
    let lies : LiesIn ps e = lies_where_occurs ps es first.lie e o in
    sides_same (es ++ fs) es e
    (added (winding_beside es e) (winding_beside fs e) (winding_beside (es ++ fs) e) (beside_append es fs e) (beside_other ps qs apart e lies fs second))
    (added (net e es) (net e fs) (net e (es ++ fs)) (net_append es fs e) (net_absent e fs (absent_other ps qs apart e lies fs second)))

pub sides_second : (ps qs : List Piece) → AreApart ps qs → (es fs : List Edge) → AreSegmentsOf ps es → AreSegmentsOf qs fs → (e : Edge) → occurs e fs ≡ true
    → (left_winding (es ++ fs) e ≡ left_winding fs e) × (right_winding (es ++ fs) e ≡ right_winding fs e)
sides_second ps qs apart es fs first second e o =
    let lies : LiesIn qs e = lies_where_occurs qs fs second.lie e o in
    sides_same (es ++ fs) fs e
    (added_before (winding_beside es e) (winding_beside fs e) (winding_beside (es ++ fs) e) (beside_append es fs e) (beside_other qs ps (apart_back ps qs apart) e lies es first))
    (added_before (net e es) (net e fs) (net e (es ++ fs)) (net_append es fs e) (net_absent e es (absent_other qs ps (apart_back ps qs apart) e lies es first)))

-- ---- the boundary

joined_counts : (o p q s t u : Bool) (k l n : ℕ) → k ≡ cond (o && s) 1 0 → l ≡ cond (p && t) 1 0 → q ≡ (o || p) → n ≡ k + l
    → (o ≡ true → p ≡ true → ⊥) → (o ≡ true → u ≡ s) → (p ≡ true → u ≡ t) → n ≡ cond (q && u) 1 0
joined_counts true true q s t u k l n hk hl hq hn once su tu = absurd (once refl refl)
joined_counts true false q s t u k l n hk hl hq hn once su tu =
    let sum : n ≡ k = omega (arith, hn, hl) in
    sum ∙ (hk ∙ (λ i. cond {A = ℕ} (sym hq i && sym (su refl) i) 1 0))
joined_counts false true q s t u k l n hk hl hq hn once su tu =
    let sum : n ≡ l = omega (arith, hn, hk) in
    sum ∙ (hl ∙ (λ i. cond {A = ℕ} (sym hq i && sym (tu refl) i) 1 0))
joined_counts false false q s t u k l n hk hl hq hn once su tu =
    let sum : n ≡ 0 = omega (arith, hn, hk, hl) in
    sum ∙ (λ i. cond {A = ℕ} (sym hq i && u) 1 0)

pub boundary_both : (ps qs : List Piece) → AreApart ps qs → (es fs : List Edge) → AreSegmentsOf ps es → AreSegmentsOf qs fs → (fill : ℤ → Bool) (bs cs : List Edge)
    → IsBoundary es fill bs → IsBoundary fs fill cs → IsBoundary (es ++ fs) fill (bs ++ cs)
boundary_both ps qs apart es fs first second fill bs cs hb hc = record {
  counts = λ (e : Edge).
      joined_counts (occurs e es) (occurs e fs) (occurs e (es ++ fs))
      (fill (left_winding es e) && not (fill (right_winding es e)))
      (fill (left_winding fs e) && not (fill (right_winding fs e)))
      (fill (left_winding (es ++ fs) e) && not (fill (right_winding (es ++ fs) e)))
      (count e bs) (count e cs) (count e (bs ++ cs)) (hb.counts e) (hc.counts e) (occurs_append e es fs)
      (sum_by-append (λ (f : Edge). cond (same_edge e f) 1 0) bs cs)
      (λ (x : occurs e es ≡ true) (y : occurs e fs ≡ true). lies_once ps qs apart e (lies_where_occurs ps es first.lie e x) (lies_where_occurs qs fs second.lie e y))
      (λ (x : occurs e es ≡ true). let s = sides_first ps qs apart es fs first second e x in λ i. fill (s.0 i) && not (fill (s.1 i)))
      (λ (y : occurs e fs ≡ true). let s = sides_second ps qs apart es fs first second e y in λ i. fill (s.0 i) && not (fill (s.1 i)));
}
