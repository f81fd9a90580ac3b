-- The pieces of paths, those with the same ends merged.
use Rattle.std.specs.Prelude.{◌≡◌, List, [], ◌∷◌, ◌++◌, map, ℤ}
use Rattle.mesh_plane.specs.Plane.{Edge}
use Rattle.mesh_lattice.specs.Counted.{bit, counted_net, times, Counted, IsCountOf}
use Rattle.mesh_lattice.specs.Split.{after, occurs, path, EdgeSplit, IsLegal}

-- the ends of counted segments
abbrev pub ends_in : List Counted → List Edge
ends_in ks = map (λ (k : Counted). k.0) ks

-- edges that are counted alike
abbrev pub alike : List Edge → ℤ → List Counted
alike es n = map (λ (e : Edge). (e, n)) es

-- the segments that edges have become, each with the count of its edge
abbrev pub segments_of : List EdgeSplit → List Counted → List Counted
segments_of splits [] = []
segments_of splits (k ∷ ks) = alike (path splits k.0) k.1 ++ segments_of splits ks

-- segments of a list, each once, with the sum of its counts
pub record AreMergedOf (all ks : List Counted) : Type 0 where
  pub once : (q : Edge) → times q ks ≡ bit (occurs q (ends_in all))
  pub counts : (q : Edge) → counted_net q ks ≡ counted_net q all

-- the segments that legal splits make of given edges, each once, with its net count
pub record AreReached (given : List Edge) (splits : List EdgeSplit) (ks : List Counted) : Type 0 where
  pub legal : IsLegal given splits
  pub count : IsCountOf (after splits given) ks
