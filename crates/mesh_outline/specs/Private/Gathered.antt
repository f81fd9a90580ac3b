-- What is gathered of outer boundaries, each of which is resolved alone. Private contracts alone read these.
use Rattle.std.specs.Prelude.{ℕ, ◌≡◌, Bool, true, ◌&&◌, List, [], ◌∷◌, ◌++◌, map, ◌≤ℤ◌}
use Rattle.std.specs.List.{All}
use Rattle.mesh_plane.specs.Plane.{Point, Edge}
use Rattle.mesh_num.specs.Paths.{shapes_of}
use Rattle.mesh_num.specs.Rectangle.{IsInRectangle}
use Rattle.mesh_num.specs.Segments.{proper_edges}
use Rattle.mesh_lattice.specs.FillRules.{filled}
use Rattle.mesh_lattice.specs.Reach.{ArePointsSafe}
use Rattle.mesh_lattice.specs.declared.fill.FillRule.TheVariants.{Positive}
use Rattle.mesh_shapes.specs.Resolution.{Choices, IsResolution}
use Rattle.mesh_apart.specs.Apart.{Box, LiesInBox, Piece, edges_in}
use Rattle.mesh_below.specs.Answers.{AreOwnBoundary}
use Rattle.mesh_join.specs.Styles.{OutlineStyle}
use Rattle.mesh_offset.specs.Adding.{answer_edges}
use Rattle.mesh_outline.specs.Resolved.{Give}
use Rattle.mesh_outline.specs.declared.gather.Gathered.{Gathered}

-- bounds as a box
abbrev pub box_of : Edge → Box
box_of bounds = record { west = bounds.0.0; east = bounds.1.0; south = bounds.0.1; north = bounds.1.1 }

-- bounds that hold what other bounds hold, and these points
pub record HoldMore (old new : Edge) (points : List Point) : Type 0 where
  pub kept : (p : Point) → IsInRectangle old p → IsInRectangle new p
  pub held : All (IsInRectangle new) points

-- no bounds start farther west than those that follow them
abbrev pub IsNotPast : Edge → Edge → Type 0
IsNotPast first second = first.0.0 ≤ℤ second.0.0

-- edges are those of pieces, end to end; each piece lies in the bounds at its place, and where `own` is true, its edges
-- are their own boundary
pub record ArePieces (edges : List Edge) (bounds : List Edge) (own : Bool) : Type 0 where
  pub pieces : List Piece
  pub joined : edges ≡ edges_in pieces
  pub boxes : map box_of bounds ≡ map (λ (p : Piece). p.box) pieces
  pub within : All (λ (p : Piece). All (LiesInBox p.box) p.edges) pieces
  pub own_boundaries : own ≡ true → All (λ (p : Piece). AreOwnBoundary p.edges) pieces

-- shapes end to end, the bounds of each answer among them, and whether each is known to be its own boundary
pub record ShapesSoFar : Type 0 where
  pub shapes : List (List (List Point))
  pub bounds : List Edge
  pub own : Bool

-- what the code's own type stands for
abbrev pub so_far : {C W U : Type 0} → Gathered C W U → ShapesSoFar
so_far g = record { shapes = shapes_of g.shapes.items; bounds = g.bounds.items; own = g.are_own_boundaries }

-- they are what contours give, none of them a hole: safe, in pieces with these bounds
pub record AreGathered (unit : ℕ) (style : OutlineStyle) (contours : List (List Point)) (all : ShapesSoFar)
    : Type 0 where
  pub give : Give unit style contours (answer_edges all.shapes)
  pub safe : ArePointsSafe unit all.shapes
  pub pieces : ArePieces (answer_edges all.shapes) all.bounds all.own

-- an answer's shapes are added to others, with their bounds; all are their own boundaries where each was
pub record AddsShapes (answer : List (List (List Point))) (answer_own : Bool) (old new : ShapesSoFar) : Type 0 where
  pub bound : Edge
  pub lie : All (LiesInBox (box_of bound)) (answer_edges answer)
  pub shapes_are : new.shapes ≡ old.shapes ++ answer
  pub bounds_are : new.bounds ≡ old.bounds ++ bound ∷ []
  pub own_is : new.own ≡ (old.own && answer_own)

-- the shapes of one contour more are gathered
abbrev pub GathersMore : ℕ → OutlineStyle → List Point → ShapesSoFar → ShapesSoFar → Type 0
GathersMore unit style contour old new =
    (contours : List (List Point)) → AreGathered unit style contours old
    → AreGathered unit style (contours ++ contour ∷ []) new

-- the answer is a resolution of the edges of shapes, by these choices, and safe
pub record IsResolvedAgain (unit : ℕ) (choices : Choices) (shapes answer : List (List (List Point))) : Type 0 where
  pub resolution : IsResolution (proper_edges (answer_edges shapes)) (filled Positive) choices answer
  pub safe : ArePointsSafe unit answer
