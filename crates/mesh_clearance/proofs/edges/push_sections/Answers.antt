use Rattle.std.proofs.Common.{◌≡◌, ◌∷◌, ◌++◌, ◌∙◌, ap, sym, Bool, true, false, rules}
use Rattle.mesh_plane.specs.Plane.{Point}
use Rattle.mesh_clearance.specs.Clearance.{sections}
use Rattle.mesh_clearance.proofs.Gathering.{pushed_more, pushed_open, pushed_closed}
use Rattle.mesh_clearance.proofs.edges.push_sections.Goals as goal

pub loop-p-preserved : goal.loop-p-preserved
loop-p-preserved g c =
    pushed_more c.args.edges.now.items c.loop-p.edges.items c.push.new.self.items c.lattice_point-start.result c.loop-p.from c.lattice_point-to.result c.p-item.result c.in-Some.others.now c.loop-p.p-index
    c.loop-p-test.true c.p-item.is c.lattice_point-to.ensures c.in_ok-push.ensures.items c.loop-p.invariant

pub returns-then-not-is_closed : goal.returns-then-not-is_closed
returns-then-not-is_closed g c =
    let whole : c.args.path.now ≡ c.in-Some.first.now ∷ c.in-Some.others.now = search rules in
    let is_open : c.args.is_closed ≡ false = search rules in
    pushed_open c.args.edges.now.items c.loop-p.edges.items c.lattice_point-start.result c.loop-p.from c.in-Some.others.now c.args.path.now c.loop-p.p-index c.loop-p-test.false
    (whole ∙ ap (λ (p : Point). p ∷ c.in-Some.others.now) (sym c.lattice_point-start.ensures)) c.loop-p.invariant
    ∙ ap (λ (b : Bool). c.args.edges.now.items ++ sections b c.args.path.now) (sym is_open)

pub returns : goal.returns
returns g c =
    let whole : c.args.path.now ≡ c.in-Some.first.now ∷ c.in-Some.others.now = search rules in
    let is_closed : c.args.is_closed ≡ true = search rules in
    pushed_closed c.args.edges.now.items c.loop-p.edges.items c.push-2.new.self.items c.lattice_point-start.result c.loop-p.from c.in-Some.others.now c.args.path.now c.loop-p.p-index c.loop-p-test.false
    (whole ∙ ap (λ (p : Point). p ∷ c.in-Some.others.now) (sym c.lattice_point-start.ensures)) c.in_ok-push-2.ensures.items c.loop-p.invariant
    ∙ ap (λ (b : Bool). c.args.edges.now.items ++ sections b c.args.path.now) (sym is_closed)
