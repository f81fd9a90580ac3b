-- Lemmas over lists of numbers by key.
use Rattle.std.proofs.Common.{◌≡◌, ◌≢◌, ℕ, ◌+◌, ◌-◌, ◌<◌, ◌≤◌, ◌⊎◌, inl, inr, List, [], ◌∷◌, ◌++◌, length, get_or, set, sym, ◌∙◌, ap, subst, arith, get_or-set_other, get_or-set_same}
use Rattle.std.proofs.Math.ListN.{length-set, length-append, get_or-append}
use Rattle.std.proofs.Math.Seq.{get_or-append_seam}
use Rattle.mesh_points.specs.Chains.{AreChained, IsSearched}

-- a number below one more, and that a search stands at
below_or_at : (k n : ℕ) → k < n + 1 → (k < n) ⊎ (k ≡ n)
below_or_at k n h = grind arith

same_or_not : (i j : ℕ) → (i ≡ j) ⊎ (i ≢ j)
same_or_not i j = grind arith

-- ---- no number

pub chain_none : (last : List ℕ) (before key : ℕ → ℕ) → ((i : ℕ) → i < length last → get_or last i 0 ≡ 0) → AreChained last 0 before key
chain_none last before key empty = record {
  key_within = λ k h. absurd (omega arith);
  last_within = λ i h. omega (arith, empty i h);
  last_key = λ i h l. absurd (omega (arith, empty i h));
  last_skips = λ i k h l m. absurd (omega arith);
  before_within = λ k h. absurd (omega arith);
  before_key = λ k h. absurd (omega arith);
  before_skips = λ k j h. absurd (omega arith);
}

-- ---- a search

pub search_begins : (P : ℕ → Type 0) (last : List ℕ) (count : ℕ) (before key : ℕ → ℕ) (i : ℕ) → AreChained last count before key → i < length last
    → IsSearched P count key i (get_or last i 0)
search_begins P last count before key i chain h = record {
  within = chain.last_within i h;
  listed = chain.last_key i h;
  passed = λ k l m e s. chain.last_skips i k h l m e;
}

pub search_goes_on : (P : ℕ → Type 0) (last : List ℕ) (count : ℕ) (before key : ℕ → ℕ) (i left : ℕ) → AreChained last count before key → 0 < left
    → (P (left - 1) → ⊥) → IsSearched P count key i left → IsSearched P count key i (before (left - 1))
search_goes_on P last count before key i left chain some other found =
    let here : left - 1 < count = omega (arith, found.within) in
    record {
      within = omega (arith, chain.before_within (left - 1) here, found.within);
      listed = λ l. chain.before_key (left - 1) here l ∙ found.listed some;
      passed = λ k l m e s. by k l m e s (low k);
    }
  where
    low : (k : ℕ) → (k < left - 1) ⊎ ((k ≡ left - 1) ⊎ (left ≤ k))
    low k = grind arith

    by : (k : ℕ) → before (left - 1) ≤ k → k < count → key k ≡ i → P k → (k < left - 1) ⊎ ((k ≡ left - 1) ⊎ (left ≤ k)) → ⊥
    by k l m e s (inl h) =
        let here : left - 1 < count = omega (arith, found.within) in
        chain.before_skips (left - 1) k here l h (e ∙ sym (found.listed some))
    by k l m e s (inr (inl h)) = other (subst P h s)
    by k l m e s (inr (inr h)) = found.passed k h m e s

-- ---- one number more

-- links and keys that stay the same below a count, and those of the next number
pub record Extends (count : ℕ) (before key before' key' : ℕ → ℕ) (link i : ℕ) : Type 0 where
  pub befores : (k : ℕ) → k < count → before' k ≡ before k
  pub keys : (k : ℕ) → k < count → key' k ≡ key k
  pub next_link : before' count ≡ link
  pub next_key : key' count ≡ i

pub chain_pushed : (last : List ℕ) (count : ℕ) (before key before' key' : ℕ → ℕ) (i : ℕ) → i < length last → AreChained last count before key
    → Extends count before key before' key' (get_or last i 0) i → AreChained (set last i (count + 1)) (count + 1) before' key'
chain_pushed last count before key before' key' i within chain more = record {
  key_within = λ k h. rw length-set (keyed k (below_or_at k count h));
  last_within = λ j h. last_low j (rw length-set at h) (same_or_not j i);
  last_key = λ j h l. last_keyed j (rw length-set at h) l (same_or_not j i);
  last_skips = λ j k h l m e. skipped j k (rw length-set at h) l e (below_or_at k count m) (same_or_not j i);
  before_within = λ k h. low k (below_or_at k count h);
  before_key = λ k h l. linked k l (below_or_at k count h);
  before_skips = λ k j h l m e. passed k j l m e (below_or_at k count h);
}
  where
    here : get_or (set last i (count + 1)) i 0 ≡ count + 1
    here = get_or-set_same last i (count + 1) 0 within

    there : (j : ℕ) → j ≢ i → get_or (set last i (count + 1)) j 0 ≡ get_or last j 0
    there j n = get_or-set_other last i j (count + 1) 0 n

    keyed : (k : ℕ) → (k < count) ⊎ (k ≡ count) → key' k < length last
    keyed k (inl h) = omega (arith, chain.key_within k h, more.keys k h)
    keyed k (inr h) = omega (arith, more.next_key, ap key' h)

    last_low : (j : ℕ) → j < length last → (j ≡ i) ⊎ (j ≢ i) → get_or (set last i (count + 1)) j 0 ≤ count + 1
    last_low j h (inl e) = omega (arith, here, ap (λ (n : ℕ). get_or (set last i (count + 1)) n 0) e)
    last_low j h (inr n) = omega (arith, there j n, chain.last_within j h)

    last_keyed : (j : ℕ) → j < length last → 0 < get_or (set last i (count + 1)) j 0 → (j ≡ i) ⊎ (j ≢ i) → key' (get_or (set last i (count + 1)) j 0 - 1) ≡ j
    last_keyed j h l (inl e) =
        let at : get_or (set last i (count + 1)) j 0 - 1 ≡ count = omega (arith, here, ap (λ (n : ℕ). get_or (set last i (count + 1)) n 0) e) in
        ap key' at ∙ (more.next_key ∙ sym e)
    last_keyed j h l (inr n) =
        let some : 0 < get_or last j 0 = omega (arith, there j n) in
        let low : get_or last j 0 - 1 < count = omega (arith, chain.last_within j h) in
        ap (λ (m : ℕ). key' (m - 1)) (there j n) ∙ (more.keys (get_or last j 0 - 1) low ∙ chain.last_key j h some)

    skipped : (j k : ℕ) → j < length last → get_or (set last i (count + 1)) j 0 ≤ k → key' k ≡ j → (k < count) ⊎ (k ≡ count) → (j ≡ i) ⊎ (j ≢ i) → ⊥
    skipped j k h l e (inl m) (inl p) = omega (arith, here, ap (λ (n : ℕ). get_or (set last i (count + 1)) n 0) p)
    skipped j k h l e (inl m) (inr n) = chain.last_skips j k h (omega (arith, there j n)) m (sym (more.keys k m) ∙ e)
    skipped j k h l e (inr q) (inl p) = omega (arith, here, ap (λ (n : ℕ). get_or (set last i (count + 1)) n 0) p)
    skipped j k h l e (inr q) (inr n) = n (sym e ∙ (ap key' q ∙ more.next_key))

    low : (k : ℕ) → (k < count) ⊎ (k ≡ count) → before' k ≤ k
    low k (inl h) = omega (arith, more.befores k h, chain.before_within k h)
    low k (inr h) = omega (arith, more.next_link, chain.last_within i within, ap before' h)

    linked : (k : ℕ) → 0 < before' k → (k < count) ⊎ (k ≡ count) → key' (before' k - 1) ≡ key' k
    linked k l (inl h) =
        let some : 0 < before k = omega (arith, more.befores k h) in
        let under : before k - 1 < count = omega (arith, chain.before_within k h) in
        ap (λ (m : ℕ). key' (m - 1)) (more.befores k h) ∙ (more.keys (before k - 1) under ∙ (chain.before_key k h some ∙ sym (more.keys k h)))
    linked k l (inr h) =
        let is : before' k ≡ get_or last i 0 = ap before' h ∙ more.next_link in
        let some : 0 < get_or last i 0 = omega (arith, is) in
        let under : get_or last i 0 - 1 < count = omega (arith, chain.last_within i within) in
        ap (λ (m : ℕ). key' (m - 1)) is ∙ (more.keys (get_or last i 0 - 1) under ∙ (chain.last_key i within some ∙ (sym more.next_key ∙ sym (ap key' h))))

    passed : (k j : ℕ) → before' k ≤ j → j < k → key' j ≡ key' k → (k < count) ⊎ (k ≡ count) → ⊥
    passed k j l m e (inl h) =
        let under : j < count = omega arith in
        chain.before_skips k j h (omega (arith, more.befores k h)) m (sym (more.keys j under) ∙ (e ∙ more.keys k h))
    passed k j l m e (inr h) =
        let under : j < count = omega arith in
        let is : before' k ≡ get_or last i 0 = ap before' h ∙ more.next_link in
        chain.last_skips i j within (omega (arith, is)) under (sym (more.keys j under) ∙ (e ∙ (ap key' h ∙ more.next_key)))

-- ---- one list more, which is empty

append_zero : (last : List ℕ) (j : ℕ) → j < length last → get_or (last ++ 0 ∷ []) j 0 ≡ get_or last j 0
append_zero last j h = get_or-append last (0 ∷ []) 0 j h

last_zero : (last : List ℕ) → get_or (last ++ 0 ∷ []) (length last) 0 ≡ 0
last_zero last = get_or-append_seam last 0 [] 0

pub chain_widened : (last : List ℕ) (count : ℕ) (before key : ℕ → ℕ) → AreChained last count before key → AreChained (last ++ 0 ∷ []) count before key
chain_widened last count before key chain = record {
  key_within = λ k h. omega (arith, chain.key_within k h, longer);
  last_within = λ j h. low j (below_or_at j (length last) (omega (arith, longer)));
  last_key = λ j h l. keyed j l (below_or_at j (length last) (omega (arith, longer)));
  last_skips = λ j k h l m e. skipped j k l m e (below_or_at j (length last) (omega (arith, longer)));
  before_within = chain.before_within;
  before_key = chain.before_key;
  before_skips = chain.before_skips;
}
  where
    longer : length (last ++ 0 ∷ []) ≡ length last + 1
    longer = length-append last (0 ∷ [])

    low : (j : ℕ) → (j < length last) ⊎ (j ≡ length last) → get_or (last ++ 0 ∷ []) j 0 ≤ count
    low j (inl h) = omega (arith, append_zero last j h, chain.last_within j h)
    low j (inr h) = omega (arith, last_zero last, ap (λ (n : ℕ). get_or (last ++ 0 ∷ []) n 0) h)

    keyed : (j : ℕ) → 0 < get_or (last ++ 0 ∷ []) j 0 → (j < length last) ⊎ (j ≡ length last) → key (get_or (last ++ 0 ∷ []) j 0 - 1) ≡ j
    keyed j l (inl h) =
        let some : 0 < get_or last j 0 = omega (arith, append_zero last j h) in
        ap (λ (m : ℕ). key (m - 1)) (append_zero last j h) ∙ chain.last_key j h some
    keyed j l (inr h) = absurd (omega (arith, last_zero last, ap (λ (n : ℕ). get_or (last ++ 0 ∷ []) n 0) h))

    skipped : (j k : ℕ) → get_or (last ++ 0 ∷ []) j 0 ≤ k → k < count → key k ≡ j → (j < length last) ⊎ (j ≡ length last) → ⊥
    skipped j k l m e (inl h) = chain.last_skips j k h (omega (arith, append_zero last j h)) m e
    skipped j k l m e (inr h) = omega (arith, chain.key_within k m)
