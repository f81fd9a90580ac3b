-- What the splitting of edges answers.
use Rattle.std.specs.Prelude.{ℕ, ◌≡◌, true, List, [], ◌∷◌, ◌≤ℤ◌}
use Rattle.std.specs.List.{All}
use Rattle.mesh_plane.specs.Plane.{Point, Edge}
use Rattle.mesh_plane.specs.Winding.{IsBalanced}
use Rattle.mesh_lattice.specs.Clean.{IsClean, IsProper}
use Rattle.mesh_lattice.specs.Counted.{Counted, IsCountOf}
use Rattle.mesh_lattice.specs.Reach.{AreEdgesSafe}
use Rattle.mesh_lattice.specs.Split.{occurs, IsInBox, EdgeSplit, after, path, IsLegal}

-- edges that lead from one point to another, each from the end of the one before
abbrev pub Leads : Point → List Edge → Point → Type 0
Leads p [] r = p ≡ r
Leads p (e ∷ es) r = (p ≡ e.0) × Leads e.1 es r

-- where one edge goes on in x or in y, the other does not go back, and it stays in the box of the first
pub record IsOnward (e f : Edge) : Type 0 where
  pub east : e.0.0 ≤ℤ e.1.0 → f.0.0 ≤ℤ f.1.0
  pub west : e.1.0 ≤ℤ e.0.0 → f.1.0 ≤ℤ f.0.0
  pub up : e.0.1 ≤ℤ e.1.1 → f.0.1 ≤ℤ f.1.1
  pub down : e.1.1 ≤ℤ e.0.1 → f.1.1 ≤ℤ f.0.1
  pub start_in_box : IsInBox e f.0
  pub end_in_box : IsInBox e f.1

-- a path from an edge's start to its end that never goes back in x nor in y, all in the edge's box
pub record IsPathOf (e : Edge) (es : List Edge) : Type 0 where
  pub leads : Leads e.0 es e.1
  pub onward : All (IsOnward e) es

-- a segment comes from a given edge: it is part of the path that the edge has become, and lies in the edge's box
pub record ComesFrom (given : List Edge) (splits : List EdgeSplit) (segment : Edge) : Type 0 where
  pub edge : Edge
  pub is_given : occurs edge given ≡ true
  pub on_path : occurs segment (path splits edge) ≡ true
  pub start_in_box : IsInBox edge segment.0
  pub end_in_box : IsInBox edge segment.1

-- segments that come from given edges by legal splits, as far as these go: any two share only common ends
pub record IsSplitting (given : List Edge) (segments : List Counted) : Type 0 where
  pub splits : List EdgeSplit
  pub legal : IsLegal given splits
  pub count : IsCountOf (after splits given) segments
  pub clean : IsClean (after splits given)
  pub proper : IsProper (after splits given)
  pub paths : (e : Edge) → IsPathOf e (path splits e)
  -- each split segment lies in the box of the given edge that it comes from
  pub boxed : (segment : Edge) → occurs segment (after splits given) ≡ true → ComesFrom given splits segment
  -- so it lies in the safe range where the given edges do
  pub safe : (unit : ℕ) → AreEdgesSafe unit given → AreEdgesSafe unit (after splits given)
  pub balanced : IsBalanced given → IsBalanced (after splits given)
