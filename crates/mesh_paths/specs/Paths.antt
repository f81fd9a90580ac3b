-- Paths that edges have become by legal splits.
use Rattle.std.specs.Prelude.{ℕ, ◌≡◌, ◌+◌, ◌<◌, List, map}
use Rattle.mesh_plane.specs.Plane.{Point, Edge}
use Rattle.mesh_lattice.specs.Clean.{IsProper}
use Rattle.mesh_lattice.specs.Split.{path, add_split, AreClear, IsLegal, Meets}
use Rattle.mesh_points.specs.declared.edges.NumberedEdge.{NumberedEdge}
use Rattle.mesh_points.specs.Edges.{edge_at}
use Rattle.mesh_paths.specs.declared.paths.Paths.{Paths}
use Rattle.mesh_paths.specs.declared.paths.Piece.{Piece}
use Rattle.mesh_paths.specs.Stops.{count_of, path_of, pieces_of, point_of}
use Rattle.mesh_paths.specs.Filed.{AreFiled}

-- the ends of an edge
abbrev pub ends_of : NumberedEdge → Edge
ends_of e = (e.start, e.end)

-- the edges that paths began as
abbrev pub given_to : Paths → List Edge
given_to p = map ends_of p.edges.items

-- each path is what splits have made of its edge
abbrev pub AreHeld : Paths → Type 0
AreHeld p = (k : ℕ) → k < count_of p.stops → path_of p.stops k ≡ path p.splits (ends_of (edge_at p.edges.items k))

-- paths that edges have become by legal splits
pub record ArePaths (p : Paths) : Type 0 where
  pub filed : AreFiled p
  pub proper : IsProper (given_to p)
  pub held : AreHeld p
  pub legal : IsLegal (given_to p) p.splits

-- a piece is one of a path
pub record IsPieceOf (p : Paths) (piece : Piece) : Type 0 where
  pub path : piece.path < count_of p.stops
  pub place : piece.place < pieces_of p.stops piece.path

-- where it lies
abbrev pub edge_of : Paths → Piece → Edge
edge_of p piece = (point_of p.stops piece.path piece.place, point_of p.stops piece.path (piece.place + 1))

-- two segments were split where they meet
pub record AreSplit (old new : Paths) (e f : Edge) : Type 0 where
  pub at : Point
  pub meets : Meets e f at
  pub noted : new.splits ≡ add_split f at (add_split e at old.splits)

-- nothing was done, since they are clear of each other
pub record AreLeft (old new : Paths) (e f : Edge) : Type 0 where
  pub clear : AreClear e f
  pub same : new ≡ old
