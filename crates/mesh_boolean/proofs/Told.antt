-- Lemmas over pairs of zones that are resolved one after another with one count of splits.
use Rattle.std.proofs.Common.{◌≡◌, ◌≢◌, ◌⊎◌, inl, inr, ℕ, ◌+◌, ◌<◌, ◌≤◌, List, [], ◌∷◌, ◌++◌, map, length, get_or, take, take_all, refl, sym, ap, ◌∙◌, subst, arith}
use Rattle.std.specs.Prelude.{max}
use Rattle.std.specs.List.{All, AllPairs, Contains}
use Rattle.std.proofs.lemmas.Bool.{cases_lt}
use Rattle.std.proofs.lemmas.List.{map-append, take_more}
use Rattle.std.proofs.lemmas.List.Concat.{flat_map-append}
use Rattle.std.proofs.lemmas.List.Elements.{All-nil, All-push, All-weaker, Contains-append_left, Contains-push}
use Rattle.mesh_plane.specs.Plane.{Point}
use Rattle.mesh_lattice.specs.Reach.{ArePointsSafe}
use Rattle.mesh_shapes.specs.Resolution.{Choices}
use Rattle.mesh_split.specs.declared.count.SplitCount.{SplitCount}
use Rattle.mesh_boolean.specs.Overlaps.{AreCountedCommonRegions, AreOverlapsBeyond, IsPairBefore, IsToldPair, Overlap, PairsInTurn, ToldPair, all_listed, listed_of, places_of}
use Rattle.mesh_boolean.specs.Private.Meeting.{AreMeetingPairs, IsPairOf}
use Rattle.mesh_boolean.specs.Private.PairsSoFar.{AddsOverlap, AreToldSoFar, IsListedUnlessEmpty}

abbrev IsNear : ℕ → ToldPair → Type 0
IsNear k t = t.nearness ≤ k

abbrev nearness_all : List ToldPair → List ℕ
nearness_all told = map (λ (t : ToldPair). t.nearness) told

abbrev IsSafe : ℕ → Overlap → Type 0
IsSafe unit o = ArePointsSafe unit o.1.1

turn_more : (old between : SplitCount) (told : List ToldPair) (t : ToldPair) → PairsInTurn old between told → t.before ≡ between → PairsInTurn old t.after (told ++ t ∷ [])
turn_more old between [] t turn before = (before ∙ sym turn, refl)
turn_more old between (s ∷ told) t turn before = (turn.0, turn_more s.after between told t turn.1 before)

-- what is listed of a pair
lists_none : (pair : ℕ × ℕ) (common : List (List (List Point))) → common ≡ [] → listed_of pair common ≡ []
lists_none pair common none = ap (listed_of pair) none

lists_some : (pair : ℕ × ℕ) (common : List (List (List Point))) → common ≢ [] → listed_of pair common ≡ (pair.0, (pair.1, common)) ∷ []
lists_some pair [] some = absurd (some refl)
lists_some pair (shape ∷ more) some = refl

no_more : (found : List Overlap) → found ++ [] ≡ found
no_more [] = refl
no_more (o ∷ found) = ap (λ (os : List Overlap). o ∷ os) (no_more found)

listing_more : (told : List ToldPair) (t : ToldPair) (old new : List Overlap) → old ≡ all_listed told → IsListedUnlessEmpty t.pair t.common old new → new ≡ all_listed (told ++ t ∷ [])
listing_more told t old new before added =
    let more : all_listed (told ++ t ∷ []) ≡ all_listed told ++ (listed_of t.pair t.common ++ []) = flat_map-append (λ (s : ToldPair). listed_of s.pair s.common) told (t ∷ []) in
    by added ∙ ap (λ (os : List Overlap). os ++ listed_of t.pair t.common) before ∙ sym (more ∙ ap (λ (os : List Overlap). all_listed told ++ os) (no_more (listed_of t.pair t.common)))
  where
    by : IsListedUnlessEmpty t.pair t.common old new → new ≡ old ++ listed_of t.pair t.common
    by (inl none) = none.1 ∙ sym (no_more old) ∙ ap (λ (os : List Overlap). old ++ os) (sym (lists_none t.pair t.common none.0))
    by (inr some) = some.1 ∙ ap (λ (os : List Overlap). old ++ os) (sym (lists_some t.pair t.common some.0))

safe_more : (unit : ℕ) (pair : ℕ × ℕ) (common : List (List (List Point))) (old new : List Overlap) → All (IsSafe unit) old → ArePointsSafe unit common → IsListedUnlessEmpty pair common old new → All (IsSafe unit) new
safe_more unit pair common old new before safe (inl none) = rw none.1 before
safe_more unit pair common old new before safe (inr some) = rw some.1 (All-push (IsSafe unit) old (pair.0, (pair.1, common)) before safe)

-- the greatest of some numbers and one more
reached_more : (k own l : ℕ) (told : List ToldPair) (t : ToldPair) → t.nearness ≡ own → l ≡ max k own → (k ≡ 0) ⊎ Contains (nearness_all told) k → (l ≡ 0) ⊎ Contains (nearness_all (told ++ t ∷ [])) l
reached_more k own l told t here is before = by (cases_lt k own)
  where
    all : nearness_all (told ++ t ∷ []) ≡ nearness_all told ++ t.nearness ∷ []
    all = map-append (λ (s : ToldPair). s.nearness) told (t ∷ [])

    by : (k < own) ⊎ (own ≤ k) → (l ≡ 0) ⊎ Contains (nearness_all (told ++ t ∷ [])) l
    by (inl less) =
        let e : t.nearness ≡ l = here ∙ omega (arith, is, less) in
        inr (subst (λ (ns : List ℕ). Contains ns l) (sym all) (subst (λ (n : ℕ). Contains (nearness_all told ++ t.nearness ∷ []) n) e (Contains-push (nearness_all told) t.nearness)))
    by (inr le) =
        let e : k ≡ l = omega (arith, is, le) in
        elim before [
          | inl none ↦ inl (sym e ∙ none)
          | inr listed ↦ inr (subst (λ (ns : List ℕ). Contains ns l) (sym all) (subst (λ (n : ℕ). Contains (nearness_all told ++ t.nearness ∷ []) n) e (Contains-append_left (nearness_all told) (t.nearness ∷ []) k listed)))
        ]

-- what is listed of no pair, and of a pair more, is safe
pub none_safe : (unit : ℕ) (found : List Overlap) → found ≡ [] → All (IsSafe unit) found
none_safe unit found none = rw none (All-nil (IsSafe unit))

pub one_safe : (unit : ℕ) (Has : List (List (List Point)) → Type 0) (pair : ℕ × ℕ) (old new : List Overlap) → All (IsSafe unit) old → AddsOverlap unit Has pair old new → All (IsSafe unit) new
one_safe unit Has pair old new before adds = safe_more unit pair adds.answer old new before adds.safe adds.added

module _ (zones : List (List (List (List Point)))) (choices : Choices) where
  pub none_told : (found : List Overlap) (count : SplitCount) → found ≡ [] → AreToldSoFar 0 zones choices [] found count count
  none_told found count none = record {
    told = [];
    places = refl;
    each = All-nil (IsToldPair zones choices);
    turn = refl;
    most = All-nil (IsNear 0);
    reached = inl refl;
    listing = none;
  }

  -- a pair more
  pub one_told : (unit own k l : ℕ) (pairs : List (ℕ × ℕ)) (pair : ℕ × ℕ) (old new : List Overlap) (first between last : SplitCount) → l ≡ max k own → IsPairOf (length zones) pair →
      AreToldSoFar k zones choices pairs old first between → AddsOverlap unit (AreCountedCommonRegions own zones choices pair between last) pair old new →
      AreToldSoFar l zones choices (pairs ++ pair ∷ []) new first last
  one_told unit own k l pairs pair old new first between last is two h adds =
      let t : ToldPair = record { pair = pair; common = adds.answer; nearness = own; before = between; after = last } in
      let up : k ≤ l = omega (arith, is) in
      let low : own ≤ l = omega (arith, is) in
      record {
        told = h.told ++ t ∷ [];
        places = map-append (λ (s : ToldPair). s.pair) h.told (t ∷ []) ∙ ap (λ (ps : List (ℕ × ℕ)). ps ++ pair ∷ []) h.places;
        each = All-push (IsToldPair zones choices) h.told t h.each (record { ascending = two.0; within = two.1; regions = adds.has });
        turn = turn_more first between h.told t h.turn refl;
        most = All-push (IsNear l) h.told t (All-weaker (IsNear k) (IsNear l) (λ s le. omega (arith, le, up)) h.told h.most) low;
        reached = reached_more k own l h.told t refl is h.reached;
        listing = listing_more h.told t old new h.listing adds.added;
      }

  module _ (pairs : List (ℕ × ℕ)) (meet : AreMeetingPairs zones pairs) where
    pub next_told : (unit i own k l : ℕ) (old new : List Overlap) (first between last : SplitCount) → i < length pairs → l ≡ max k own → AreToldSoFar k zones choices (take i pairs) old first between →
        AddsOverlap unit (AreCountedCommonRegions own zones choices (get_or pairs i (0, 0)) between last) (get_or pairs i (0, 0)) old new →
        AreToldSoFar l zones choices (take (i + 1) pairs) new first last
    next_told unit i own k l old new first between last low is h adds =
        rw (take_more pairs i (0, 0) low) (one_told unit own k l (take i pairs) (get_or pairs i (0, 0)) old new first between last is (meet.each i (0, 0) low) h adds)

    -- all pairs
    pub all_told : (i k : ℕ) (found : List Overlap) (old new : SplitCount) → length pairs ≤ i → AreToldSoFar k zones choices (take i pairs) found old new → AreOverlapsBeyond k zones choices found old new
    all_told i k found old new past h =
        let all : places_of h.told ≡ pairs = h.places ∙ take_all i pairs past in
        record {
          told = h.told;
          each = h.each;
          ordered = subst (AllPairs (λ (p q : ℕ × ℕ). IsPairBefore p.0 p.1 q.0 q.1)) (sym all) meet.ordered;
          turn = h.turn;
          most = h.most;
          reached = h.reached;
          listing = h.listing;
          others = λ i j less within.
              elim (meet.others i j less within) [
                | inl listed ↦ inl (subst (λ (ps : List (ℕ × ℕ)). Contains ps (i, j)) (sym all) listed)
                | inr apart ↦ inr apart
              ];
        }
