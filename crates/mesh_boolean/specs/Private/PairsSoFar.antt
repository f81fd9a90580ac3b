-- What is known of pairs of zones while they are resolved one after another. Private contracts alone read this.
use Rattle.std.specs.Prelude.{ℕ, ◌≡◌, ◌≢◌, ◌≤◌, ◌⊎◌, List, [], ◌∷◌, ◌++◌, map}
use Rattle.std.specs.List.{All, AllPairs, Contains}
use Rattle.mesh_plane.specs.Plane.{Point}
use Rattle.mesh_lattice.specs.Reach.{ArePointsSafe}
use Rattle.mesh_shapes.specs.Resolution.{Choices}
use Rattle.mesh_split.specs.declared.count.SplitCount.{SplitCount}
use Rattle.mesh_boolean.specs.Overlaps.{IsListed, IsOverlapBefore, IsToldPair, Overlap, PairsInTurn, ToldPair, all_listed, places_of}

-- an answer of a pair is listed, unless it is nothing
abbrev pub IsListedUnlessEmpty : ℕ × ℕ → List (List (List Point)) → List Overlap → List Overlap → Type 0
IsListedUnlessEmpty pair answer old new =
    ((answer ≡ []) × (new ≡ old)) ⊎ ((answer ≢ []) × (new ≡ old ++ (pair.0, (pair.1, answer)) ∷ []))

-- a pair was resolved, with an answer of which this is known, and that is listed unless it is nothing
pub record AddsOverlap (unit : ℕ) (Has : List (List (List Point)) → Type 0) (pair : ℕ × ℕ) (old new : List Overlap)
    : Type 0 where
  pub answer : List (List (List Point))
  pub has : Has answer
  pub safe : ArePointsSafe unit answer
  pub added : IsListedUnlessEmpty pair answer old new

-- the same of each of these pairs, and those whose answer is not nothing are listed, in lexicographic order
pub record AreOverlapsOf (unit : ℕ) (Has : ℕ → ℕ → List (List (List Point)) → Type 0) (pairs : List (ℕ × ℕ))
    (found : List Overlap) : Type 0 where
  pub each : All (λ (o : Overlap). Contains pairs (o.0, o.1.0) × (o.1.1 ≢ []) × Has o.0 o.1.0 o.1.1) found
  pub safe : All (λ (o : Overlap). ArePointsSafe unit o.1.1) found
  pub ordered : AllPairs IsOverlapBefore found
  pub others : (p : ℕ × ℕ) → Contains pairs p → IsListed found p.0 p.1 ⊎ Has p.0 p.1 []

-- what is told of these pairs, which were resolved one after another with one count, and what is listed of them; `k` is
-- the greatest nearness of all
pub record AreToldSoFar (k : ℕ) (zones : List (List (List (List Point)))) (choices : Choices)
    (pairs : List (ℕ × ℕ)) (found : List Overlap) (old new : SplitCount) : Type 0 where
  pub told : List ToldPair
  pub places : places_of told ≡ pairs
  pub each : All (IsToldPair zones choices) told
  pub turn : PairsInTurn old new told
  pub most : All (λ (t : ToldPair). t.nearness ≤ k) told
  pub reached : (k ≡ 0) ⊎ Contains (map (λ (t : ToldPair). t.nearness) told) k
  pub listing : found ≡ all_listed told
