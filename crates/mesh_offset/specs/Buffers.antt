-- Answers whose contours a buffer holds.
use Rattle.std.specs.Prelude.{ℕ, List}
use Rattle.mesh_plane.specs.Plane.{Point}
use Rattle.mesh_num.specs.FlatContours.{HoldsContours}
use Rattle.mesh_num.specs.Paths.{contours_of}
use Rattle.mesh_num.specs.declared.shape.buffer.FlatContoursBuffer.{FlatContoursBuffer}
use Rattle.mesh_lattice.specs.Reach.{ArePointsSafe}

-- the buffer holds the contours of such an answer
abbrev pub HoldsAnswer : {I W U : Type 0} → FlatContoursBuffer I W U → (List (List (List Point)) → Type 0) → Type 0
HoldsAnswer buffer IsAnswer =
    (answer : List (List (List Point))) × IsAnswer answer × HoldsContours buffer (contours_of answer)

-- the buffer holds the contours of such an answer, and all its points are safe
abbrev pub HoldsSafeAnswer : {I W U : Type 0} → ℕ → FlatContoursBuffer I W U → (List (List (List Point)) → Type 0)
    → Type 0
HoldsSafeAnswer unit buffer IsAnswer =
    (answer : List (List (List Point))) × IsAnswer answer × ArePointsSafe unit answer
    × HoldsContours buffer (contours_of answer)
