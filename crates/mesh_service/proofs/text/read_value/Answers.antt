-- A value is a request where it is read as one and has no float.
use Rattle.std.proofs.Common.{sym, refl, ◌∙◌}
use Rattle.serde_json.specs.View.{view}
use Rattle.mesh_service.proofs.Requested.{exact_said, inexact, no_request}
use Rattle.mesh_service.proofs.text.read_value.Goals as goal

pub returns-else-has_float : goal.returns-else-has_float
returns-else-has_float c = exact_said (view c.args.value.now) _ (sym c.has_float.ensures ∙ c.if-has_float.false) c.in-Ok.ensures

pub returns-then-has_float : goal.returns-then-has_float
returns-then-has_float c =
    let float = sym c.has_float.ensures ∙ c.if-has_float.true in
    (inexact (view c.args.value.now) float, float)

pub returns-in-Err-Fault : goal.returns-in-Err-Fault
returns-in-Err-Fault c =
    let failed = rw c.in-Err-Fault.field-0-is at c.in-Err-Fault.ensures in
    (no_request (view c.args.value.now) (failed.1 refl), c.fault_reason.ensures (view c.args.value.now) failed.0)
