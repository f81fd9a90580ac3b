-- What is known of pairs of nets while they are looked at one after another. Private contracts alone read this.
use Rattle.std.specs.Prelude.{ℕ, ◌<◌, ◌≡◌, ◌⊎◌, List, [], ◌∷◌, ◌++◌, length, get_or}
use Rattle.std.specs.List.{All, AllPairs}
use Rattle.mesh_plane.specs.Plane.{Point, Edge}
use Rattle.mesh_nets.specs.declared.nets.NetClearance.{NetClearance}
use Rattle.mesh_nets.specs.Nets.{AreNetsApart, IsBefore, IsListed, IsNetClearance, IsNetSeparation, IsPairBefore}
use Rattle.mesh_nets.specs.Nets.{edges_of}

-- the squared distance of two nets, rounded down, is below `t`
pub record IsNearSeparation (t : ℕ) (es fs : List Edge) (squared : ℕ) : Type 0 where
  pub nearer : squared < t
  pub separation : IsNetSeparation es fs squared

-- a pair is listed, with such a distance
pub record IsAdded (t : ℕ) (es fs : List Edge) (pair : ℕ × ℕ) (old new : List NetClearance) : Type 0 where
  pub squared : ℕ
  pub near : IsNearSeparation t es fs squared
  pub added : new ≡ old ++ (record { first = pair.0; second = pair.1; squared = squared }) ∷ []

-- or the nets are apart
abbrev pub AddsClearance : ℕ → List Edge → List Edge → ℕ × ℕ → List NetClearance → List NetClearance → Type 0
AddsClearance t es fs pair old new = ((new ≡ old) × AreNetsApart t es fs) ⊎ IsAdded t es fs pair old new

-- all pairs before the pair (i, j) are decided
pub record AreClearancesBefore (nets : List (List (List (List Point)))) (t i j : ℕ) (found : List NetClearance)
    : Type 0 where
  pub each : All (IsNetClearance nets t) found
  pub before : All (λ (c : NetClearance). IsPairBefore c.first c.second i j) found
  pub ordered : AllPairs IsBefore found
  pub others : (k l : ℕ) → k < l → l < length nets → IsPairBefore k l i j
      → IsListed found k l ⊎ AreNetsApart t (edges_of (get_or nets k [])) (edges_of (get_or nets l []))
