-- The bounds are those of the points.
use Rattle.std.specs.Prelude.{◌^◌, map}
use Rattle.std.proofs.lemmas.Iterator.{items_from_drains, YieldsList-from_slice}
use Rattle.mesh_uses.proofs.Points.{bounds_tested}
use Rattle.mesh_uses.proofs.num.are_safe.Goals as goal

pub returns-in-Some : goal.returns-in-Some
returns-in-Some c =
    let d = c.in-Some.ensures.1 in
    bounds_tested (2 ^ 30) c.in-Some.bounds (map (λ p. p.now) c.in-Some.ensures.0) c.args.points.now c.is_in_safe_range.result c.in-Some.ensures.2
    (items_from_drains c.in-Some.ensures.0 (d.1.0, d.1.1, λ _. (d.0, d.1.2)) (YieldsList-from_slice c.args.points.now c.iter.ensures.rest))
    c.is_in_safe_range.ensures
