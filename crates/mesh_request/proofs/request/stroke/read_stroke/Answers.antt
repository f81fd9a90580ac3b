-- The stroke is what its parts say.
use Rattle.std.proofs.Common.{refl}
use Rattle.serde_json.specs.View.{view}
use Rattle.mesh_request.proofs.Parts.{stroke_said}
use Rattle.mesh_request.proofs.request.stroke.read_stroke.Goals as goal

pub returns : goal.returns
returns g c =
    stroke_said g.I.IntNumber.unit (view c.args.request.now) c.in-Some.closed _ _ _ _ c.get.ensures refl
    c.in-Some.ensures c.in_ok-style.ensures c.in_ok-paths.ensures
