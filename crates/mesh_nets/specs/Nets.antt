-- Which points belong to a net, when two nets are apart, and which pairs of nets are listed. A net is the shapes of an
-- answer.
use Rattle.std.specs.Prelude.{ℕ, suc, ◌*◌, ◌<◌, ◌≤◌, ◌≡◌, ◌≢◌, ◌⊎◌, List, [], length, get_or, pos}
use Rattle.std.specs.List.{All, AllPairs, Contains, flat_map}
use Rattle.mesh_plane.specs.Plane.{Point, Edge, minus, length_sq}
use Rattle.mesh_plane.specs.Winding.{boundary, winding}
use Rattle.mesh_num.specs.Paths.{contours_of}
use Rattle.mesh_lattice.specs.Clean.{IsOn, refined_edge}
use Rattle.mesh_nets.specs.declared.nets.NetClearance.{NetClearance}

-- the edges of the contours of a net
abbrev pub edges_of : List (List (List Point)) → List Edge
edges_of net = flat_map boundary (contours_of net)

-- the point `p` of the grid `m` lies on one of the edges
pub record IsOnEdge (m : ℕ) (es : List Edge) (p : Point) : Type 0 where
  pub edge : Edge
  pub listed : Contains es edge
  pub on : IsOn (refined_edge m edge) p

-- it belongs to a net with these edges: it lies on one, or they wind round it
abbrev pub IsPointOf : ℕ → List Edge → Point → Type 0
IsPointOf m es p = IsOnEdge m es p ⊎ (winding m p es ≢ pos 0)

-- every point of one net is at least the root of `t` from every point of the other, on every grid
abbrev pub AreNetsApart : ℕ → List Edge → List Edge → Type 0
AreNetsApart t es fs =
    (m : ℕ) (p q : Point) → IsPointOf m es p → IsPointOf m fs q → t * (m * m) ≤ length_sq (minus p q)

-- `t` is the greatest number by which two nets are apart: their squared distance, rounded down
pub record IsNetSeparation (es fs : List Edge) (t : ℕ) : Type 0 where
  pub apart : AreNetsApart t es fs
  pub greatest : AreNetsApart (suc t) es fs → ⊥

-- ---- pairs

-- a pair of nets whose squared distance, rounded down, is below `t`
pub record IsNetClearance (nets : List (List (List (List Point)))) (t : ℕ) (c : NetClearance) : Type 0 where
  pub ascending : c.first < c.second
  pub within : c.second < length nets
  pub nearer : c.squared < t
  pub separation : IsNetSeparation (edges_of (get_or nets c.first [])) (edges_of (get_or nets c.second [])) c.squared

-- the pair (i, j) comes before the pair (k, l) in lexicographic order
abbrev pub IsPairBefore : ℕ → ℕ → ℕ → ℕ → Type 0
IsPairBefore i j k l = (i < k) ⊎ ((i ≡ k) × (j < l))

abbrev pub IsBefore : NetClearance → NetClearance → Type 0
IsBefore c d = IsPairBefore c.first c.second d.first d.second

-- a pair is listed
abbrev pub IsListed : List NetClearance → ℕ → ℕ → Type 0
IsListed found i j = (squared : ℕ) × Contains found (record { first = i; second = j; squared = squared })

-- the pairs of nets that are nearer than the root of `t`, each once, in lexicographic order; all others are apart
pub record AreClearances (nets : List (List (List (List Point)))) (t : ℕ) (found : List NetClearance) : Type 0 where
  pub each : All (IsNetClearance nets t) found
  pub ordered : AllPairs IsBefore found
  pub others : (i j : ℕ) → i < j → j < length nets
      → IsListed found i j ⊎ AreNetsApart t (edges_of (get_or nets i [])) (edges_of (get_or nets j []))
