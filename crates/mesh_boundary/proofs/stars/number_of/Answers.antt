use Rattle.mesh_boundary.proofs.PointNumbers.{kept_or_same}
use Rattle.mesh_boundary.proofs.stars.number_of.Goals as goal

pub returns-clause-kept : goal.returns-clause-kept
returns-clause-kept c =
    kept_or_same c.args.points.now c.number.new.self c.args.p c.in_ok-number.field-0.is_new c.in_ok-number.ensures.old c.in_ok-number.ensures.new
