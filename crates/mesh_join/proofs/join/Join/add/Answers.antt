-- The edges that were added are those that the segments stand for, and keep to their corner.
use Rattle.std.proofs.Common.{◌∙◌, ◌++◌, ap, subst, List}
use Rattle.std.proofs.lemmas.Result.{on_ok_weaker}
use Rattle.mesh_plane.specs.Plane.{Edge}
use Rattle.mesh_num.specs.Direction.{IsShort}
use Rattle.mesh_num.specs.Segments.{edges_of, segments_of}
use Rattle.mesh_num.proofs.SegmentLists.{edges_of_segments, edges_of-append}
use Rattle.mesh_join.specs.Joins.{join_edges}
use Rattle.mesh_join.specs.Joints.{joint}
use Rattle.mesh_join.proofs.Joins.{join_runs_ahead, join_stays_within}
use Rattle.mesh_join.proofs.join.Join.add.Goals as goal

pub returns-clause-edges : goal.returns-clause-edges
returns-clause-edges g c =
    let es = join_edges g.I.IntNumber.unit c.args.self.now
    (joint c.args.center c.args.a c.args.b c.args.incoming c.args.outgoing (g.I.IntNumber.value c.args.radius) c.args.direction) in
    on_ok_weaker c.draw.result
    (λ h. ap edges_of h ∙ edges_of-append c.args.segments.now.items (segments_of es) ∙ ap (λ (l : List Edge). edges_of c.args.segments.now.items ++ l) (edges_of_segments es))
    c.draw.ensures.ok

pub returns-clause-ahead : goal.returns-clause-ahead
returns-clause-ahead g c =
    join_runs_ahead g.I.IntNumber.unit c.args.self.now
    (joint c.args.center c.args.a c.args.b c.args.incoming c.args.outgoing (g.I.IntNumber.value c.args.radius) c.args.direction) g.met.I.IntNumber.least_law
    (subst (IsShort g.I.IntNumber.unit) c.well_formed.1.1.1.1.0.1.0.0 c.well_formed.1.1.1.1.0.1.0.1)
    (subst (IsShort g.I.IntNumber.unit) c.well_formed.1.1.1.1.1.0.1.0.0 c.well_formed.1.1.1.1.1.0.1.0.1) c.requires.turn

pub returns-clause-near : goal.returns-clause-near
returns-clause-near g c =
    join_stays_within g.I.IntNumber.unit c.args.self.now
    (joint c.args.center c.args.a c.args.b c.args.incoming c.args.outgoing (g.I.IntNumber.value c.args.radius) c.args.direction) g.met.I.IntNumber.least_law
    (subst (IsShort g.I.IntNumber.unit) c.well_formed.1.1.1.1.0.1.0.0 c.well_formed.1.1.1.1.0.1.0.1)
    (subst (IsShort g.I.IntNumber.unit) c.well_formed.1.1.1.1.1.0.1.0.0 c.well_formed.1.1.1.1.1.0.1.0.1) c.requires.turn
