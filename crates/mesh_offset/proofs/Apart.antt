-- Lemmas over points: the vector along an edge whose ends differ is not 0.
use Rattle.std.proofs.Common.{◌≢◌, ◌<◌, sym}
use Rattle.mesh_plane.specs.Plane.{Edge, minus, length_sq}
use Rattle.mesh_plane.proofs.Sizes.{apart_some}

pub apart_long : (e : Edge) → e.0 ≢ e.1 → 0 < length_sq (minus e.1 e.0)
apart_long e apart = apart_some e.1 e.0 (λ same. apart (sym same))
