-- Edges and answers in the safe range.
use Rattle.std.specs.Prelude.{ℕ, List}
use Rattle.std.specs.List.{All}
use Rattle.mesh_plane.specs.Bounds.{IsSafe}
use Rattle.mesh_plane.specs.Plane.{Point, Edge}

-- both ends of each edge are in the safe range
abbrev pub AreEdgesSafe : ℕ → List Edge → Type 0
AreEdgesSafe unit es = All (λ (e : Edge). IsSafe unit e.0 × IsSafe unit e.1) es

-- each point of each contour of each shape is in the safe range
abbrev pub ArePointsSafe : ℕ → List (List (List Point)) → Type 0
ArePointsSafe unit answer =
    All (λ (shape : List (List Point)). All (λ (contour : List Point). All (IsSafe unit) contour) shape) answer
