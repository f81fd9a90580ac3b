use Rattle.std.proofs.Common.{◌≡◌, ◌∷◌, ◌∙◌, ap, sym, rules}
use Rattle.mesh_plane.specs.Plane.{Point}
use Rattle.mesh_clearance.proofs.Gathering.{pushed_more, pushed_closed}
use Rattle.mesh_nets.proofs.edges.push_contour.Goals as goal

pub loop-p-preserved : goal.loop-p-preserved
loop-p-preserved g c =
    pushed_more c.args.edges.now.items c.loop-p.edges.items c.push.new.self.items c.lattice_point-start.result c.loop-p.from c.lattice_point-to.result c.p-item.result c.in-Some.others.now c.loop-p.p-index
    c.loop-p-test.true c.p-item.is c.lattice_point-to.ensures c.in_ok-push.ensures.items c.loop-p.invariant

pub returns : goal.returns
returns g c =
    let whole : c.args.contour.now ≡ c.in-Some.first.now ∷ c.in-Some.others.now = search rules in
    pushed_closed c.args.edges.now.items c.loop-p.edges.items c.push-2.new.self.items c.lattice_point-start.result c.loop-p.from c.in-Some.others.now c.args.contour.now c.loop-p.p-index c.loop-p-test.false
    (whole ∙ ap (λ (p : Point). p ∷ c.in-Some.others.now) (sym c.lattice_point-start.ensures)) c.in_ok-push-2.ensures.items c.loop-p.invariant
