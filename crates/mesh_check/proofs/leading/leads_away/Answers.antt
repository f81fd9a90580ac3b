use Rattle.std.proofs.Common.{ℕ, add-one, ◌∙◌, subst}
use Rattle.mesh_paths.specs.Stops.{point_of}
use Rattle.mesh_check.specs.Heights.{IsFarFromLine}
use Rattle.mesh_check.proofs.leading.leads_away.Goals as goal

pub returns : goal.returns
returns c = λ t. record {
  before = λ j follows. c.is_far_before.ensures c.if-not-is_far_before.false j (add-one j ∙ follows);
  after = λ h. subst (λ (n : ℕ). IsFarFromLine c.args.units c.args.line (point_of c.args.paths.now.stops c.args.path n)) (add-one c.args.place) (c.is_far_after.ensures t h);
}
