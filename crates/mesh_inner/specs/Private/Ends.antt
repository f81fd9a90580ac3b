-- The ends of open paths. Private contracts alone read this.
use Rattle.std.specs.Prelude.{Bool, true, false}
use Rattle.mesh_stroke.specs.Caps.{CapKind}
use Rattle.mesh_stroke.specs.Caps.CapKind.{Butt, Square, Round, Custom}

-- whether a cap is the butt
abbrev pub is_butt : CapKind → Bool
is_butt Butt = true
is_butt Square = false
is_butt (Round options) = false
is_butt (Custom points) = false
