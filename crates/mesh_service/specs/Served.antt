-- What is answered to requests.
use Rattle.std.specs.Prelude.{ℕ, ◌≡◌, List, Option, None, ℤ}
use Rattle.std.specs.declared.cmp.Ordering.{Ordering}
use Rattle.mesh_plane.specs.Plane.{Point, Edge}
use Rattle.mesh_shapes.specs.Resolution.{Choices}
use Rattle.mesh_drawing.specs.Drawings.{MayBeDrawn, AreEdgesOf, AreShapesOf}
use Rattle.mesh_boolean_request.specs.Requests.{RequestedCombination}
use Rattle.mesh_operands.specs.Combining.{Answered, IsCombination, MayBeCombined}
use Rattle.mesh_request.specs.Requests.{Asked, Request}
use Rattle.mesh_service.specs.Distances.{AreAskedDistances}
use Rattle.mesh_service.specs.Lines.{edges_text, told_shapes_text, combined_text}
use Rattle.mesh_service.specs.Requested.{Requested, for_drawing, for_combination}
use Rattle.mesh_service.specs.declared.distances.Distances.{Distances}

-- what is asked for may be drawn, or the operands may be combined, so the request is accepted
abbrev pub IsAccepted : Requested → Type 0
IsAccepted (for_drawing request) = MayBeDrawn request.unit request.drawn
IsAccepted (for_combination request) = MayBeCombined request.unit request.combined

-- the line lists the edges of each path, path by path
pub record ListsEdges (order : ℤ → ℤ → Ordering) (request : Request) (line : List ℕ) : Type 0 where
  pub lists : List (List Edge)
  pub each : AreEdgesOf order request.unit request.drawn lists
  pub written : line ≡ edges_text lists

-- the line lists the shapes of what is drawn, with these choices, and their distances where these are asked for
pub record ListsShapes (choices : Choices) (request : Request) (line : List ℕ) : Type 0 where
  pub shapes : List (List (List Point))
  pub drawn : AreShapesOf request.unit choices request.drawn shapes
  pub told : Option Distances
  pub distances : AreAskedDistances request.distances request.unit request.drawn shapes told
  pub written : line ≡ told_shapes_text None told shapes

-- the line lists what is asked of what is drawn
abbrev pub ListsDrawing : (ℤ → ℤ → Ordering) → Request → List ℕ → Asked → Type 0
ListsDrawing order request line Asked.for_edges = ListsEdges order request line
ListsDrawing order request line (Asked.for_shapes choices) = ListsShapes choices request line

-- the line lists what is made of the operands
pub record ListsCombination (request : RequestedCombination) (line : List ℕ) : Type 0 where
  pub answer : Answered
  pub combined : IsCombination request.unit request.choices request.combined answer
  pub written : line ≡ combined_text answer

-- the line lists what is asked
abbrev pub Lists : (ℤ → ℤ → Ordering) → List ℕ → Requested → Type 0
Lists order line (for_drawing request) = ListsDrawing order request line request.asked
Lists order line (for_combination request) = ListsCombination request line

-- the line answers a request that is accepted
pub record Answers (order : ℤ → ℤ → Ordering) (request : Requested) (line : List ℕ) : Type 0 where
  pub accepted : IsAccepted request
  pub listed : Lists order line request
