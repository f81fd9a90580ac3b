-- Lemmas over lists: given edges, and those that they were merged into.
use Rattle.std.proofs.Common.{ℕ, List, [], ◌∷◌, map, sym, ◌∙◌, ap}
use Rattle.mesh_plane.specs.Plane.{Edge}
use Rattle.mesh_lattice.specs.Counted.{IsCountOf}
use Rattle.mesh_lattice.specs.Nearness.{AreSplitsNear, IsNearness, WitnessedSplit}
use Rattle.mesh_lattice.specs.Split.{occurs, EdgeSplit}
use Rattle.mesh_points.specs.declared.edges.NumberedEdge.{NumberedEdge}
use Rattle.mesh_points.specs.Edges.{counted}
use Rattle.mesh_paths.specs.Paths.{ends_of}
use Rattle.mesh_paths.proofs.Collecting.{ends_counted}
use Rattle.mesh_paths.proofs.Merged.{count_alike, StandAlike}

pub merged_alike : (given : List Edge) (es : List NumberedEdge) → IsCountOf given (map counted es) → StandAlike given (map ends_of es)
merged_alike given es count q = count_alike given (map counted es) count q ∙ ap (occurs q) (ends_counted es)

-- ---- nearness

splits_near : (es fs : List Edge) (k : ℕ) (ts : List WitnessedSplit) → StandAlike es fs → AreSplitsNear es k ts → AreSplitsNear fs k ts
splits_near es fs k [] alike near = tt
splits_near es fs k (t ∷ ts) alike near = (
  record { is_given = sym (alike t.witness) ∙ near.0.is_given; on_path = near.0.on_path; start = near.0.start; end = near.0.end; at = near.0.at },
  splits_near es fs k ts alike near.1,
)

pub nearness_alike : (es fs : List Edge) (splits : List EdgeSplit) (k : ℕ) → StandAlike es fs → IsNearness es splits k → IsNearness fs splits k
nearness_alike es fs splits k alike h = record { witnessed = h.witnessed; same = h.same; near = splits_near es fs k h.witnessed alike h.near; reached = h.reached }
