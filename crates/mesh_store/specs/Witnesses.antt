-- Pieces of edges, and the given edges that they come from.
use Rattle.std.specs.Prelude.{ℕ, ◌<◌, ◌≡◌, Bool, true, cond, ◌&&◌, List, [], ◌∷◌, unwrap_or}
use Rattle.std.specs.Map.{lookup}
use Rattle.mesh_plane.specs.Order.{point_lt}
use Rattle.mesh_plane.specs.Plane.{Edge}
use Rattle.mesh_plane.specs.Winding.{same_point}
use Rattle.mesh_lattice.specs.Nearness.{IsNearTo, WitnessedSplit, splits_of, AreSplitsNear, ReachesPast}
use Rattle.mesh_lattice.specs.Split.{back, occurs, IsInBox, EdgeSplit, after, path}

-- how a map compares its keys: the same edge
abbrev pub edge_eq : Edge → Edge → Bool
edge_eq e f = same_point e.0 f.0 && same_point e.1 f.1

-- the edge with the lesser end first
abbrev pub forward : Edge → Edge
forward e = cond (point_lt e.0 e.1) e (back e)

-- the witness that is noted for a segment, or else the segment
abbrev pub witness_in : List (Edge × Edge) → Edge → Edge
witness_in noted e = unwrap_or (lookup (edge_eq (forward e)) noted) e

-- a segment is part of the path that its witness, a given edge, has become, lies in the box of that edge and within `k`
-- 64ths of it
pub record IsPieceOf (given : List Edge) (splits : List EdgeSplit) (k : ℕ) (witness e : Edge) : Type 0 where
  pub is_given : occurs witness given ≡ true
  pub on_path : occurs e (path splits witness) ≡ true
  pub start_near : IsNearTo k 1 witness e.0
  pub end_near : IsNearTo k 1 witness e.1
  pub start_in_box : IsInBox witness e.0
  pub end_in_box : IsInBox witness e.1

-- each segment that the splits have made has its witness, and `k` 64ths are the nearness of the splits
pub record AreWitnessed (given : List Edge) (splits : List EdgeSplit) (witness_of : Edge → Edge) (k : ℕ) : Type 0 where
  pub witnessed : List WitnessedSplit
  pub same : splits_of witnessed ≡ splits
  pub near : AreSplitsNear given k witnessed
  pub reached : (l : ℕ) → l < k → ReachesPast l witnessed
  pub pieces : (e : Edge) → occurs e (after splits given) ≡ true → IsPieceOf given splits k (witness_of e) e

-- each split is one of a segment that stands, in its box
abbrev pub AreSplitsOf : List Edge → List EdgeSplit → Type 0
AreSplitsOf given [] = Unit {0}
AreSplitsOf given (s ∷ splits) =
    (occurs s.ends (after splits given) ≡ true) × IsInBox s.ends s.at × AreSplitsOf given splits
