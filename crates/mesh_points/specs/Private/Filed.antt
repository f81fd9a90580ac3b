-- Points in lists by hash.
use Rattle.std.specs.Prelude.{ℕ, ◌+◌, ◌*◌, ◌/◌, ◌%◌, ◌^◌, ◌<◌, ◌≤◌, List, length, map, slice_index_or, pos, negsuc, ℤ}
use Rattle.std.specs.Prelude.{◌-ℤ◌, unsigned_abs}
use Rattle.mesh_plane.specs.Plane.{Point}
use Rattle.mesh_points.specs.declared.points.Entry.{Entry}
use Rattle.mesh_points.specs.Points.{AreDistinct}
use Rattle.mesh_points.specs.Chains.{AreChained}

-- a coordinate, counted from the least on
unfoldable pub shifted : ℤ → ℕ
shifted z = unsigned_abs (z -ℤ negsuc 2147483647)

-- the upper half of a hash
unfoldable pub hash_of : Point → ℕ
hash_of p = ((shifted p.0 * 11400714819323198485) % 2 ^ 64 + (shifted p.1 * 13787848793156543929) % 2 ^ 64) % 2 ^ 64 / 2 ^ 32

-- the list of a point among so many
unfoldable pub list_of : Point → ℕ → ℕ
list_of p lists = hash_of p * lists / 2 ^ 32

-- the points of entries
abbrev pub points_in : List Entry → List Point
points_in entries = map (λ (e : Entry). e.at) entries

-- an entry of no point
abbrev pub no_entry : Entry
no_entry = record { at = (pos 0, pos 0); before = 0 }

-- the link of an entry
abbrev pub before_in : List Entry → ℕ → ℕ
before_in entries k = (slice_index_or entries k no_entry).before

-- the list of an entry
abbrev pub list_in : List Entry → ℕ → ℕ → ℕ
list_in entries lists k = list_of (slice_index_or entries k no_entry).at lists

-- points in lists by hash, none of them twice
pub record AreFiled (last : List ℕ) (entries : List Entry) : Type 0 where
  pub some : 0 < length last
  pub few : length last ≤ 2 ^ 31
  pub fit : length entries < 2 ^ 32
  pub chained : AreChained last (length entries) (before_in entries) (list_in entries (length last))
  pub distinct : AreDistinct (points_in entries)
