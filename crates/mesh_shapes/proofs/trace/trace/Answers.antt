use Rattle.std.proofs.Common.{◌≡◌, ◌∙◌, ap, [], ◌∷◌, ◌++◌, List, get_or}
use Rattle.std.specs.Prelude.{pos}
use Rattle.mesh_plane.specs.Plane.{Point}
use Rattle.mesh_shapes.proofs.Tracing.{walk_has_points, walk_init, walk_step, walk_smaller, walk_goes_on}
use Rattle.mesh_shapes.proofs.trace.trace.Goals as goal

pub loop-k-init : goal.loop-k-init
loop-k-init c =
    let begun : c.push.new.self.items ≡ (get_or c.args.edges.now c.args.first ((pos 0, pos 0), (pos 0, pos 0))).0 ∷ [] =
    c.in_ok-push.ensures.items ∙ ap (λ (l : List Point). l ++ (get_or c.args.edges.now c.args.first ((pos 0, pos 0), (pos 0, pos 0))).0 ∷ []) c.new-points.ensures.items in
    walk_init c.args.edges.now c.args.used.now c.args.first ((pos 0, pos 0), (pos 0, pos 0)) c.push.new.self.items c.requires.first_in c.requires.first_unused c.requires.marks begun

pub loop-k-smaller : goal.loop-k-smaller
loop-k-smaller c = walk_smaller c.args.edges.now c.loop-k.used c.args.first c.in-Some.k c.loop-k.at c.in-Some.ensures c.if-k-first.false

pub loop-k-preserved : goal.loop-k-preserved
loop-k-preserved c =
    let more : c.push-in-Some.new.self.items ≡ c.loop-k.points.items ++ c.loop-k.at ∷ [] = c.in_ok-push-2.ensures.items in
    walk_step c.args.edges.now c.args.used.now c.loop-k.used c.args.first c.in-Some.k ((pos 0, pos 0), (pos 0, pos 0)) c.loop-k.points.items c.push-in-Some.new.self.items c.loop-k.at
    c.loop-k.invariant c.in-Some.ensures c.if-k-first.false more

pub returns-clause-closed : goal.returns-clause-closed
returns-clause-closed c =
    absurd (walk_goes_on c.args.edges.now c.args.used.now c.loop-k.used c.args.first c.loop-k.points.items c.loop-k.at c.requires.first_in c.requires.balanced c.loop-k.invariant c.in_default.ensures)

pub returns-then-k-first-clause-has_points : goal.returns-then-k-first-clause-has_points
returns-then-k-first-clause-has_points c = walk_has_points c.args.edges.now c.args.used.now c.loop-k.used c.args.first c.loop-k.points.items c.loop-k.at c.loop-k.invariant

pub returns-clause-has_points : goal.returns-clause-has_points
returns-clause-has_points c = walk_has_points c.args.edges.now c.args.used.now c.loop-k.used c.args.first c.loop-k.points.items c.loop-k.at c.loop-k.invariant
