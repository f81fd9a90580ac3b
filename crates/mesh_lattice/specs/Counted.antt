-- Segments with counts, and when a list of them stands for a list of directed edges.
use Rattle.std.specs.Prelude.{◌≡◌, Bool, cond, List, ℤ, pos, ◌-ℤ◌, ◌*ℤ◌, unsigned_abs}
use Rattle.mesh_plane.specs.Plane.{Edge}
use Rattle.mesh_plane.specs.Winding.{sum_of}
use Rattle.mesh_lattice.specs.Split.{back, same_edge, same_ends, occurs}
use Rattle.std.specs.Prelude.{◌≤ℤ◌, ◌^◌}

-- a segment's ends and its count: how many edges run from start to end less how many run back
abbrev pub Counted : Type 0
Counted = Edge × ℤ

-- 1 for true, 0 for false
abbrev pub bit : Bool → ℤ
bit b = cond b (pos 1) (pos 0)

-- 1 for an edge itself, -1 for the edge back, else 0
unfoldable pub along : Edge → Edge → ℤ
along q e = bit (same_edge q e) -ℤ bit (same_edge q (back e))

-- how often an edge stands in a list less how often the edge back does
abbrev pub net : Edge → List Edge → ℤ
net q es = sum_of (along q) es

-- the same of counted segments
abbrev pub counted_net : Edge → List Counted → ℤ
counted_net q ks = sum_of (λ (k : Counted). k.1 *ℤ along q k.0) ks

-- how many of the counted segments have these ends, in either direction
abbrev pub times : Edge → List Counted → ℤ
times q ks = sum_of (λ (k : Counted). bit (same_ends q k.0)) ks

-- the segments of a list of edges, each once, with its net count
pub record IsCountOf (es : List Edge) (ks : List Counted) : Type 0 where
  pub once : (q : Edge) → times q ks ≡ bit (occurs q es)
  pub counts : (q : Edge) → counted_net q ks ≡ net q es

-- the size of a count
abbrev pub size : Counted → ℤ
size k = pos (unsigned_abs k.1)

-- sums of counts up to this stay far from the ends of 128 bits; it is far more than the edges that memory holds can
-- give
abbrev pub IsRoomy : ℤ → Type 0
IsRoomy total = total ≤ℤ pos (2 ^ 120)
