-- What stands after some contours of a shape were added to a buffer: only private contracts read this.
use Rattle.std.specs.Prelude.{List, ◌++◌}
use Rattle.mesh_plane.specs.Plane.{Point}
use Rattle.mesh_num.specs.FlatContours.{HoldsContours}
use Rattle.mesh_num.specs.declared.shape.buffer.FlatContoursBuffer.{FlatContoursBuffer}

-- whatever contours a buffer held before, it holds them and then more
abbrev pub AddsContours : {I W U : Type 0} → FlatContoursBuffer I W U → FlatContoursBuffer I W U → List (List Point)
    → Type 0
AddsContours old new more =
    (contours : List (List Point)) → HoldsContours old contours → HoldsContours new (contours ++ more)
