-- The kinds of caps that the code's own types stand for.
use Rattle.std.specs.Rc.{rc_slice_items}
use Rattle.mesh_join.specs.declared.style.IntLineCap.{IntLineCap}
use Rattle.mesh_join.specs.declared.style.IntLineCap.TheVariants as asked
use Rattle.mesh_stroke.specs.declared.cap.Method.{Method}
use Rattle.mesh_stroke.specs.declared.cap.Method.TheVariants as method
use Rattle.mesh_stroke.specs.Caps.{CapKind}

-- the kind of cap that a style asks for
abbrev pub kind_of : {C W U : Type 0} → IntLineCap C W U → CapKind
kind_of asked.Butt = CapKind.Butt
kind_of asked.Square = CapKind.Square
kind_of (asked.Round options) = CapKind.Round options
kind_of (asked.Custom points) = CapKind.Custom (rc_slice_items points)

-- the kind of cap that a method draws
abbrev pub kind_of_method : {C W U : Type 0} → Method C W U → CapKind
kind_of_method method.Butt = CapKind.Butt
kind_of_method method.Square = CapKind.Square
kind_of_method (method.Round options) = CapKind.Round options
kind_of_method (method.Custom points) = CapKind.Custom points.now
