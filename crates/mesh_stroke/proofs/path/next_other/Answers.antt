-- Points that are the last one again are passed over.
use Rattle.std.proofs.Common.{◌≡◌, true, ◌∷◌, sym, ◌∙◌, rules}
use Rattle.std.specs.Prelude.{not}
use Rattle.mesh_plane.specs.Winding.{same_point}
use Rattle.mesh_num.specs.Segments.{proper_edges}
use Rattle.mesh_offset.specs.Walks.{pairs}
use Rattle.mesh_stroke.proofs.PathWalk.{passed_over, comes_to}
use Rattle.mesh_stroke.proofs.path.next_other.Goals as goal

pub loop-point-preserved : goal.loop-point-preserved
loop-point-preserved g c =
    passed_over (proper_edges (pairs (c.args.from ∷ c.args.points.now))) c.args.from c.in-Some.point c.loop-point.points c.next.new.self c.in-Some.ensures
    (sym c.differ.ensures ∙ c.if-differ.false) c.loop-point.invariant

pub returns-then-differ : goal.returns-then-differ
returns-then-differ g c =
    let other : not (same_point c.args.from c.in-Some.point) ≡ true = search rules in
    comes_to (proper_edges (pairs (c.args.from ∷ c.args.points.now))) c.args.from c.in-Some.point c.loop-point.points
    c.next.new.self c.in-Some.ensures other c.loop-point.invariant
