-- Lemmas over lists: pairs of nets are decided one after another, in lexicographic order.
use Rattle.std.proofs.Common.{◌≡◌, ℕ, ◌+◌, ◌<◌, ◌≤◌, ◌⊎◌, inl, inr, ⊎_elim, refl, sym, subst, arith, List, [], ◌∷◌, ◌++◌, length, get_or}
use Rattle.std.specs.List.{Contains}
use Rattle.std.proofs.lemmas.List.Elements.{All-push, All-weaker, Contains-append_left, Contains-push}
use Rattle.std.proofs.lemmas.List.Quantifiers.{all_pairs_push}
use Rattle.mesh_plane.specs.Plane.{Point, Edge}
use Rattle.mesh_nets.specs.declared.nets.NetClearance.{NetClearance}
use Rattle.mesh_nets.specs.Nets.{AreClearances, AreNetsApart, IsBefore, IsListed, IsNetClearance, IsNetSeparation, IsPairBefore, edges_of}
use Rattle.mesh_nets.specs.Private.PairsSoFar.{AddsClearance, AreClearancesBefore}

abbrev pub Nets : Type 0
Nets = List (List (List (List Point)))

-- the pair (k, l) is listed, or its nets are apart
abbrev pub IsDecided : Nets → ℕ → List NetClearance → ℕ → ℕ → Type 0
IsDecided nets t found k l = IsListed found k l ⊎ AreNetsApart t (edges_of (get_or nets k [])) (edges_of (get_or nets l []))

next_before : (k l i j : ℕ) → IsPairBefore k l i j → IsPairBefore k l i (j + 1)
next_before k l i j (inl h) = inl h
next_before k l i j (inr h) = inr (h.0, omega (arith, h.1))

-- a pair before the next is before this one, or this one
before_next : (k l i j : ℕ) → IsPairBefore k l i (j + 1) → IsPairBefore k l i j ⊎ ((k ≡ i) × (l ≡ j))
before_next k l i j (inl h) = inl (inl h)
before_next k l i j (inr h) =
    ⊎_elim (λ (low : l < j). inl (inr (h.0, low))) (λ (same : j ≤ l). inr (h.0, omega (arith, h.1, same))) (grind arith)

pub pair_apart : (nets : Nets) (t i j : ℕ) (found : List NetClearance) → AreNetsApart t (edges_of (get_or nets i [])) (edges_of (get_or nets j [])) →
    AreClearancesBefore nets t i j found → AreClearancesBefore nets t i (j + 1) found
pair_apart nets t i j found apart h = record {
  each = h.each;
  before =
      All-weaker (λ (c : NetClearance). IsPairBefore c.first c.second i j) (λ (c : NetClearance). IsPairBefore c.first c.second i (j + 1))
      (λ (c : NetClearance) (b : IsPairBefore c.first c.second i j). next_before c.first c.second i j b) found h.before;
  ordered = h.ordered;
  others = λ k l order within before.
      ⊎_elim (λ (b : IsPairBefore k l i j). h.others k l order within b)
      (λ (b : (k ≡ i) × (l ≡ j)). inr (subst (λ (w : ℕ × ℕ). AreNetsApart t (edges_of (get_or nets w.0 [])) (edges_of (get_or nets w.1 []))) (λ n. (sym b.0 n, sym b.1 n)) apart))
      (before_next k l i j before);
}

listed_more : (found : List NetClearance) (c : NetClearance) (k l : ℕ) → IsListed found k l → IsListed (found ++ c ∷ []) k l
listed_more found c k l h = (h.0, Contains-append_left found (c ∷ []) (record { first = k; second = l; squared = h.0 }) h.1)

pub pair_listed : (nets : Nets) (t i j squared : ℕ) (found : List NetClearance) → i < j → j < length nets → squared < t →
    IsNetSeparation (edges_of (get_or nets i [])) (edges_of (get_or nets j [])) squared → AreClearancesBefore nets t i j found →
    AreClearancesBefore nets t i (j + 1) (found ++ (record { first = i; second = j; squared = squared }) ∷ [])
pair_listed nets t i j squared found order within nearer separation h = record {
  each = All-push (IsNetClearance nets t) found c h.each (record { ascending = order; within = within; nearer = nearer; separation = separation });
  before =
      All-push (λ (x : NetClearance). IsPairBefore x.first x.second i (j + 1)) found c
      (All-weaker (λ (x : NetClearance). IsPairBefore x.first x.second i j) (λ (x : NetClearance). IsPairBefore x.first x.second i (j + 1))
      (λ (x : NetClearance) (b : IsPairBefore x.first x.second i j). next_before x.first x.second i j b) found h.before)
      (inr (refl, omega arith));
  ordered = all_pairs_push IsBefore found c h.ordered (λ k d low. h.before k d low);
  others = λ k l less most before.
      ⊎_elim
      (λ (b : IsPairBefore k l i j).
      ⊎_elim (λ (x : IsListed found k l). inl (listed_more found c k l x)) (λ x. inr x) (h.others k l less most b))
      (λ (b : (k ≡ i) × (l ≡ j)).
      inl (squared, subst (λ (w : ℕ × ℕ). Contains (found ++ c ∷ []) (record { first = w.0; second = w.1; squared = squared })) (λ n. (sym b.0 n, sym b.1 n)) (Contains-push found c)))
      (before_next k l i j before);
}
  where
    c : NetClearance
    c = record { first = i; second = j; squared = squared }

pub pair_added : (nets : Nets) (t i j : ℕ) (es fs : List Edge) (old new : List NetClearance) → i < j → j < length nets →
    es ≡ edges_of (get_or nets i []) → fs ≡ edges_of (get_or nets j []) → AddsClearance t es fs (i, j) old new →
    AreClearancesBefore nets t i j old → AreClearancesBefore nets t i (j + 1) new
pair_added nets t i j es fs old new order within first second (inl h) before =
    subst (λ (list : List NetClearance). AreClearancesBefore nets t i (j + 1) list) (sym h.0)
    (pair_apart nets t i j old (subst (λ (w : List Edge × List Edge). AreNetsApart t w.0 w.1) (λ n. (first n, second n)) h.1) before)
pair_added nets t i j es fs old new order within first second (inr h) before =
    subst (λ (list : List NetClearance). AreClearancesBefore nets t i (j + 1) list) (sym h.added)
    (pair_listed nets t i j h.squared old order within h.near.nearer
    (subst (λ (w : List Edge × List Edge). IsNetSeparation w.0 w.1 h.squared) (λ n. (first n, second n)) h.near.separation) before)

-- all pairs of a net are decided
row_before : (k l i j : ℕ) → IsPairBefore k l i j → IsPairBefore k l (i + 1) (i + 2)
row_before k l i j (inl h) = inl (omega (arith, h))
row_before k l i j (inr h) = inl (omega (arith, h.0))

before_row : (n k l i j : ℕ) → k < l → l < n → n ≤ j → IsPairBefore k l (i + 1) (i + 2) → IsPairBefore k l i j
before_row n k l i j order within past (inl h) =
    ⊎_elim (λ (low : k < i). inl low) (λ (same : i ≤ k). inr (omega (arith, h, same), omega (arith, within, past))) (grind arith)
before_row n k l i j order within past (inr h) = absurd (omega (arith, h.0, h.1, order))

pub row_decided : (nets : Nets) (t i j : ℕ) (found : List NetClearance) → length nets ≤ j → AreClearancesBefore nets t i j found →
    AreClearancesBefore nets t (i + 1) (i + 2) found
row_decided nets t i j found past h = record {
  each = h.each;
  before =
      All-weaker (λ (c : NetClearance). IsPairBefore c.first c.second i j) (λ (c : NetClearance). IsPairBefore c.first c.second (i + 1) (i + 2))
      (λ (c : NetClearance) (b : IsPairBefore c.first c.second i j). row_before c.first c.second i j b) found h.before;
  ordered = h.ordered;
  others = λ k l order within before. h.others k l order within (before_row (length nets) k l i j order within past before);
}

pub all_decided : (nets : Nets) (t i j : ℕ) (found : List NetClearance) → length nets ≤ i → AreClearancesBefore nets t i j found → AreClearances nets t found
all_decided nets t i j found past h = record {
  each = h.each;
  ordered = h.ordered;
  others = λ k l order within. h.others k l order within (inl (omega (arith, order, within, past)));
}
