-- Splits as they were made.
use Rattle.std.specs.Prelude.{List, map, reverse}
use Rattle.mesh_plane.specs.Plane.{Point, Edge}
use Rattle.mesh_lattice.specs.Split.{EdgeSplit}

-- a split of the segment with these ends
abbrev pub split_at : Edge → Point → EdgeSplit
split_at e c = record { ends = e; at = c }

-- splits in the order in which they were made, as a list with the latest first
abbrev pub latest_first : List (Edge × Point) → List EdgeSplit
latest_first made = map (λ (s : Edge × Point). split_at s.0 s.1) (reverse made)
