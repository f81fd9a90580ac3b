-- The bounds are those of the path.
use Rattle.std.specs.Prelude.{map}
use Rattle.std.proofs.lemmas.Iterator.{items_from_drains, YieldsList-from_slice}
use Rattle.mesh_offset.proofs.PaddingBounds.{bounds_ordered, path_tested}
use Rattle.mesh_offset.proofs.bounds.is_path_safe.Goals as goal

pub is_safe_widened-requires-clause-ordered : goal.is_safe_widened-requires-clause-ordered
is_safe_widened-requires-clause-ordered g c = bounds_ordered _ _ c.in-Some.ensures.2

pub returns-in-Some : goal.returns-in-Some
returns-in-Some g c =
    let d = c.in-Some.ensures.1 in
    path_tested g.I.IntNumber.unit (g.I.Wide.WideNumber.value c.args.padding) c.in-Some.bounds (map (λ p. p.now) c.in-Some.ensures.0) c.args.path.now c.is_safe_widened.result c.requires
    c.in-Some.ensures.2 (items_from_drains c.in-Some.ensures.0 (d.1.0, d.1.1, λ _. (d.0, d.1.2)) (YieldsList-from_slice c.args.path.now c.iter.ensures.rest)) c.is_safe_widened.ensures
