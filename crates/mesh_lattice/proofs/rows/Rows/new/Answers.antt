use Rattle.std.proofs.Common.{arith, subst, List, take_all}
use Rattle.mesh_plane.specs.Plane.{Edge}
use Rattle.mesh_lattice.specs.Rows.{AreRows}
use Rattle.mesh_lattice.proofs.RowLists.{rows_none, rows_more}
use Rattle.mesh_lattice.proofs.rows.Rows.new.Goals as goal

pub loop-e-init : goal.loop-e-init
loop-e-init g c =
    rows_none c.in_ok-marks.marks.items c.in_ok-lists.lists.items c.in_ok-marks.ensures (omega (arith, c.in_ok-lists.ensures.len, c.len.ensures))
    (λ i d h. c.in_ok-lists.ensures.empty i d (omega (arith, c.len.ensures)))

pub loop-e-preserved : goal.loop-e-preserved
loop-e-preserved g c =
    rows_more c.in_ok-marks.marks.items c.loop-e.lists.items c.file.new.lists.items c.args.edges.now c.loop-e.e-index c.e-item.result c.loop-e-test.true c.e-item.is c.loop-e.invariant
    (rw c.deref.ensures.value at c.in_ok-file.ensures)

pub returns : goal.returns
returns g c =
    subst (λ (es : List (Edge × g.row.T.Denot)). AreRows c.in_ok-marks.marks.items c.loop-e.lists.items es) (take_all c.loop-e.e-index c.args.edges.now (omega (arith, c.loop-e-test.false))) c.loop-e.invariant
