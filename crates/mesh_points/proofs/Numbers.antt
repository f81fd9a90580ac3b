-- Lemmas over numbered points, and lists of them by hash.
use Rattle.std.proofs.Common.{◌≡◌, ◌≢◌, ℕ, ◌+◌, ◌<◌, ◌≤◌, ◌^◌, ◌⊎◌, inl, inr, List, [], ◌∷◌, ◌++◌, length, get_or, set, sym, ◌∙◌, ap, subst, arith, get_or-set_other, get_or-set_same}
use Rattle.std.specs.Prelude.{pos}
use Rattle.std.proofs.Math.ListN.{length-set, length-append, get_or-append, get_or-map}
use Rattle.std.proofs.Math.Seq.{get_or-append_seam}
use Rattle.std.proofs.lemmas.List.{map-append, length-map}
use Rattle.mesh_plane.specs.Plane.{Point}
use Rattle.mesh_points.specs.declared.points.Entry.{Entry}
use Rattle.mesh_points.specs.Points.{point_at, AreDistinct, IsNewPoint, IsNumberOf}
use Rattle.mesh_points.specs.Chains.{AreChained, IsSearched}
use Rattle.mesh_points.specs.Private.Filed.{before_in, list_in, list_of, no_entry, points_in, AreFiled}
use Rattle.mesh_points.proofs.Chains.{chain_pushed}

below_or_at : (k n : ℕ) → k < n + 1 → (k < n) ⊎ (k ≡ n)
below_or_at k n h = grind arith

-- ---- points without entries

pub distinct_more : (ps : List Point) (p : Point) → AreDistinct ps → ((k : ℕ) → IsNumberOf ps p k → ⊥) → AreDistinct (ps ++ p ∷ [])
distinct_more ps p apart absent = record { distinct = λ i j h l e. by i j h e (below_or_at j (length ps) (omega (arith, length-append ps (p ∷ [])))) }
  where
    by : (i j : ℕ) → i < j → point_at (ps ++ p ∷ []) i ≡ point_at (ps ++ p ∷ []) j → (j < length ps) ⊎ (j ≡ length ps) → ⊥
    by i j h e (inl l) =
        let low : i < length ps = omega arith in
        apart.distinct i j h l (sym (get_or-append ps (p ∷ []) (pos 0, pos 0) i low) ∙ (e ∙ get_or-append ps (p ∷ []) (pos 0, pos 0) j l))
    by i j h e (inr l) =
        let low : i < length ps = omega arith in
        absent i
        (record {
          within = low;
          at = sym (get_or-append ps (p ∷ []) (pos 0, pos 0) i low) ∙ (e ∙ (ap (point_at (ps ++ p ∷ [])) l ∙ get_or-append_seam ps p [] (pos 0, pos 0)));
        })

pub number_kept : (ps : List Point) (q p : Point) (k : ℕ) → IsNumberOf ps p k → IsNumberOf (ps ++ q ∷ []) p k
number_kept ps q p k is = record {
  within = omega (arith, is.within, length-append ps (q ∷ []));
  at = get_or-append ps (q ∷ []) (pos 0, pos 0) k is.within ∙ is.at;
}

-- ---- points of entries

pub entry_point : (es : List Entry) (k : ℕ) → point_at (points_in es) k ≡ (get_or es k no_entry).at
entry_point es k = get_or-map (λ (e : Entry). e.at) es k no_entry

pub points_more : (es : List Entry) (e : Entry) → points_in (es ++ e ∷ []) ≡ points_in es ++ e.at ∷ []
points_more es e = map-append (λ (x : Entry). x.at) es (e ∷ [])

pub points_many : (es : List Entry) → length (points_in es) ≡ length es
points_many es = length-map es (λ (e : Entry). e.at)

-- a point that a search did not find has no number
pub not_found : (es : List Entry) (p : Point) (lists : ℕ)
    → IsSearched (λ (k : ℕ). (get_or es k no_entry).at ≡ p) (length es) (list_in es lists) (list_of p lists) 0 → (k : ℕ) → IsNumberOf (points_in es) p k → ⊥
not_found es p lists found k is =
    let at : (get_or es k no_entry).at ≡ p = sym (entry_point es k) ∙ is.at in
    let low : k < length es = omega (arith, is.within, points_many es) in
    let least : 0 ≤ k = omega arith in
    found.passed k least low (ap (λ (q : Point). list_of q lists) at) at

-- one entry more
pub filed_more : (last : List ℕ) (es : List Entry) (e : Entry) → AreFiled last es → length es + 1 < 2 ^ 32 → list_of e.at (length last) < length last
    → e.before ≡ get_or last (list_of e.at (length last)) 0 → ((k : ℕ) → IsNumberOf (points_in es) e.at k → ⊥)
    → AreFiled (set last (list_of e.at (length last)) (length es + 1)) (es ++ e ∷ [])
filed_more last es e filed fits within link absent =
    let i : ℕ = list_of e.at (length last) in
    let many : length (es ++ e ∷ []) ≡ length es + 1 = length-append es (e ∷ []) in
    let same : length (set last i (length es + 1)) ≡ length last = length-set last i (length es + 1) in
    record {
      some = omega (arith, filed.some, same);
      few = omega (arith, filed.few, same);
      fit = omega (arith, many, fits);
      chained =
          subst (λ (n : ℕ). AreChained (set last i (length es + 1)) n (before_in (es ++ e ∷ [])) (list_in (es ++ e ∷ []) (length (set last i (length es + 1))))) (sym many)
          (subst (λ (n : ℕ). AreChained (set last i (length es + 1)) (length es + 1) (before_in (es ++ e ∷ [])) (list_in (es ++ e ∷ []) n)) (sym same)
          (chain_pushed last (length es) (before_in es) (list_in es (length last)) (before_in (es ++ e ∷ [])) (list_in (es ++ e ∷ []) (length last)) i within filed.chained
          (record {
            befores = λ k h. ap (λ (x : Entry). x.before) (get_or-append es (e ∷ []) no_entry k h);
            keys = λ k h. ap (λ (x : Entry). list_of x.at (length last)) (get_or-append es (e ∷ []) no_entry k h);
            next_link = ap (λ (x : Entry). x.before) (get_or-append_seam es e [] no_entry) ∙ link;
            next_key = ap (λ (x : Entry). list_of x.at (length last)) (get_or-append_seam es e [] no_entry);
          })));
      distinct = subst AreDistinct (sym (points_more es e)) (distinct_more (points_in es) e.at filed.distinct absent);
    }

-- what becomes of lists and entries
pub record Pushes (last last' : List ℕ) (es es' : List Entry) (p : Point) (link i : ℕ) : Type 0 where
  pub is_list : i ≡ list_of p (length last)
  pub within : i < length last
  pub is_link : link ≡ get_or last i 0
  pub entries : es' ≡ es ++ record { at = p; before = link } ∷ []
  pub filed : last' ≡ set last i (length es + 1)

pub pushed : (last last' : List ℕ) (es es' : List Entry) (p : Point) (link i left : ℕ) → Pushes last last' es es' p link i → left ≡ 0 → length es + 1 < 2 ^ 32
    → IsSearched (λ (k : ℕ). (get_or es k no_entry).at ≡ p) (length es) (list_in es (length last)) i left → AreFiled last es → AreFiled last' es'
pushed last last' es es' p link i left push none fits found filed =
    let e : Entry = record { at = p; before = link } in
    let here : ℕ = list_of p (length last) in
    let searched = subst (λ (k : ℕ). IsSearched (λ (j : ℕ). (get_or es j no_entry).at ≡ p) (length es) (list_in es (length last)) here k) none
    (subst (λ (k : ℕ). IsSearched (λ (j : ℕ). (get_or es j no_entry).at ≡ p) (length es) (list_in es (length last)) k left) push.is_list found) in
    let more : AreFiled (set last here (length es + 1)) (es ++ e ∷ []) =
    filed_more last es e filed fits (omega (arith, push.is_list, push.within)) (push.is_link ∙ ap (λ (k : ℕ). get_or last k 0) push.is_list) (not_found es p (length last) searched) in
    subst (λ (ls : List ℕ). AreFiled ls es') (sym (push.filed ∙ ap (λ (k : ℕ). set last k (length es + 1)) push.is_list))
    (subst (λ (xs : List Entry). AreFiled (set last here (length es + 1)) xs) (sym push.entries) more)

pub new_in : (es es' : List Entry) (old : List Point) (p : Point) (link lists i left : ℕ) → points_in es ≡ old → i ≡ list_of p lists → left ≡ 0
    → es' ≡ es ++ record { at = p; before = link } ∷ []
    → IsSearched (λ (k : ℕ). (get_or es k no_entry).at ≡ p) (length es) (list_in es lists) i left → IsNewPoint old (points_in es') p
new_in es es' old p link lists i left view list none entries found =
    let searched = subst (λ (k : ℕ). IsSearched (λ (j : ℕ). (get_or es j no_entry).at ≡ p) (length es) (list_in es lists) (list_of p lists) k) none
    (subst (λ (k : ℕ). IsSearched (λ (j : ℕ). (get_or es j no_entry).at ≡ p) (length es) (list_in es lists) k left) list found) in
    record {
      absent = λ k is. not_found es p lists searched k (subst (λ (ps : List Point). IsNumberOf ps p k) (sym view) is);
      added = ap points_in entries ∙ (points_more es (record { at = p; before = link }) ∙ ap (λ (ps : List Point). ps ++ p ∷ []) view);
    }

-- ---- all entries anew

apart : (j k : ℕ) → j < k → j ≢ k
apart j k h = grind arith

pub filed_next : (last : List ℕ) (es : List Entry) (k i : ℕ) → k < length es → i < length last → i ≡ list_of (get_or es k no_entry).at (length last)
    → AreChained last k (before_in es) (list_in es (length last)) → (es' : List Entry)
    → es' ≡ set es k (record { at = (get_or es k no_entry).at; before = get_or last i 0 })
    → AreChained (set last i (k + 1)) (k + 1) (before_in es') (list_in es' (length (set last i (k + 1))))
filed_next last es k i here within list chain es' is =
    let e : Entry = record { at = (get_or es k no_entry).at; before = get_or last i 0 } in
    let other = λ (j : ℕ) (h : j < k). get_or-set_other es k j e no_entry (apart j k h) in
    let own : get_or (set es k e) k no_entry ≡ e = get_or-set_same es k e no_entry here in
    subst (λ (xs : List Entry). AreChained (set last i (k + 1)) (k + 1) (before_in xs) (list_in xs (length (set last i (k + 1))))) (sym is)
    (subst (λ (n : ℕ). AreChained (set last i (k + 1)) (k + 1) (before_in (set es k e)) (list_in (set es k e) n)) (sym (length-set last i (k + 1)))
    (chain_pushed last k (before_in es) (list_in es (length last)) (before_in (set es k e)) (list_in (set es k e) (length last)) i within chain
    (record {
      befores = λ j h. ap (λ (x : Entry). x.before) (other j h);
      keys = λ j h. ap (λ (x : Entry). list_of x.at (length last)) (other j h);
      next_link = ap (λ (x : Entry). x.before) own;
      next_key = ap (λ (x : Entry). list_of x.at (length last)) own ∙ sym list;
    })))
