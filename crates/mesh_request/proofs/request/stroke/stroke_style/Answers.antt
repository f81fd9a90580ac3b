-- The style is what its parts say, each cap at its own end.
use Rattle.std.proofs.Common.{sym}
use Rattle.serde_json.specs.View.{view}
use Rattle.mesh_request.proofs.Parts.{stroke_style_said}
use Rattle.mesh_request.proofs.request.stroke.stroke_style.Goals as goal

pub returns : goal.returns
returns g c =
    rw (← c.in-Some.ensures, c.end_cap.ensures, c.start_cap.ensures)
    (stroke_style_said g.I.IntNumber.unit (view c.in-Some.style.now) _ _ _ _ _ c.get-2.ensures c.get-3.ensures (sym c.in_ok-uncapped.ensures) c.in_ok-start.ensures c.in_ok-end.ensures)
