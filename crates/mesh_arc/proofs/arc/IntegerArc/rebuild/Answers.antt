-- What is filled is the arc of the options.
use Rattle.std.proofs.Common.{◌≡◌, ◌≤◌, refl, subst, ap, arith, length, List}
use Rattle.std.specs.Prelude.{OnOk}
use Rattle.mesh_plane.specs.Plane.{Point}
use Rattle.mesh_arc.specs.Arcs.{step_of, bound_of, stepped}
use Rattle.mesh_arc.specs.Building.{Building}
use Rattle.mesh_arc.proofs.Filling.{arc_is}
use Rattle.mesh_arc.proofs.arc.IntegerArc.rebuild.Goals as goal

pub returns-clause-built : goal.returns-clause-built
returns-clause-built g c =
    let ok = rw c.steps-steps.ensures at c.fill.ensures.ok in
    record {
      options = rw (← c.self.view_is) refl;
      room = rw (← c.self.view_is) c.fill.ensures.capacity;
      directions = subst (λ (ds : List Point). OnOk c.fill.result (c.fill.new.directions.items ≡ ds)) (arc_is g.I.IntNumber.unit c.args.self.now.options c.args.direction c.args.from c.args.to) ok;
      none = c.fill.ensures.err;
      fits = rw (← c.fill.new.directions.ok.0) c.fill.new.directions.ok.1;
    }

pub returns-clause-room : goal.returns-clause-room
returns-clause-room g c h =
    let room = rw c.steps-steps.ensures at c.fill.ensures.room in
    let l : length (stepped c.args.direction (bound_of c.args.self.now.options) (step_of g.I.IntNumber.unit c.args.self.now.options c.args.direction) c.args.from c.args.to) ≤ c.args.self.now.room =
    rw (arc_is g.I.IntNumber.unit c.args.self.now.options c.args.direction c.args.from c.args.to) h in
    room (omega (arith, l, ap (λ (b : Building). b.room) c.self.view_is))
