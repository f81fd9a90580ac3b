-- The choices are what the three members say.
use Rattle.std.proofs.Common.{sym}
use Rattle.serde_json.specs.View.{view}
use Rattle.mesh_request.proofs.Parts.{choices_said}
use Rattle.mesh_request.proofs.options.members.Goals as goal

pub returns : goal.returns
returns g c =
    rw c.direction.ensures
    (sym (choices_said g.I.IntNumber.unit (view c.args.options.now) _ _ _ _ _ _ c.get.ensures c.get-2.ensures c.get-3.ensures c.in-Some.ensures c.in-Some-flag.ensures c.in-Some-flag-2.ensures))
