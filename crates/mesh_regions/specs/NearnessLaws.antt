-- Laws of points near edges and far from them, in 64ths of a grid unit. The function of the same name in the module
-- `laws` carries each.
use Rattle.std.specs.Prelude.{ℕ, ◌+◌, ◌*◌, ◌<◌, ◌≤◌, ◌≡◌, ◌↔◌, true, List, pos, ◌-ℤ◌, unsigned_abs}
use Rattle.std.specs.List.{All}
use Rattle.mesh_plane.specs.Plane.{Point, Edge, turn}
use Rattle.mesh_plane.specs.Winding.{boundary, winding}
use Rattle.mesh_lattice.specs.Nearness.{IsNearTo, IsNearSome, IsFarFrom, StaysNear, IsNearness}
use Rattle.mesh_lattice.specs.Split.{occurs, IsInBox, EdgeSplit, after}

-- a point in an edge's box lies as far from the edge as its turn by the sum of the edge's width and height
abbrev pub NearnessIsByTurns : Type 0
NearnessIsByTurns =
    (k : ℕ) (e : Edge) (p : Point) → IsInBox e p
    → (IsNearTo k 1 e p
    ↔ (64 * unsigned_abs (turn e.0 e.1 p) ≤ k * (unsigned_abs (e.1.0 -ℤ e.0.0) + unsigned_abs (e.1.1 -ℤ e.0.1))))

-- at each point farther than the nearness of splits from each given edge, on every grid, what the splits leave winds as
-- the given edges do
abbrev pub FarPointsKeepTheirWinding : Type 0
FarPointsKeepTheirWinding =
    (given : List Edge) (splits : List EdgeSplit) (k : ℕ) → IsNearness given splits k
    → (m : ℕ) → 0 < m → (q : Point) → IsFarFrom k m given q → winding m q (after splits given) ≡ winding m q given

-- each point of each segment that they leave, on every grid, lies within it of a given edge
abbrev pub SegmentsStayNearEdges : Type 0
SegmentsStayNearEdges =
    (given : List Edge) (splits : List EdgeSplit) (k : ℕ) → IsNearness given splits k
    → (segment : Edge) → occurs segment (after splits given) ≡ true → StaysNear k given segment

-- what lies within `l` of an edge that stays within `k` of others lies within `k + l` of one of these
abbrev pub NearnessAddsUp : Type 0
NearnessAddsUp =
    (k l : ℕ) (es : List Edge) (f : Edge) → StaysNear k es f
    → (m : ℕ) → 0 < m → (q : Point) → IsNearTo l m f q → IsNearSome (k + l) m es q

-- a closed list of points that all lie within `k` of one edge winds round no point farther than that from the edge
abbrev pub ClosedListsNearEdgesDoNotWind : Type 0
ClosedListsNearEdgesDoNotWind =
    (k : ℕ) (e : Edge) (points : List Point) → All (IsNearTo k 1 e) points
    → (m : ℕ) → 0 < m → (q : Point) → (IsNearTo k m e q → ⊥) → winding m q (boundary points) ≡ pos 0
