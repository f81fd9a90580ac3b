use Rattle.std.proofs.Common.{sym, ◌∙◌}
use Rattle.mesh_plane.specs.Plane.{turn}
use Rattle.mesh_plane.proofs.Crossings.{turn_flip}
use Rattle.mesh_lattice.proofs.Beside.{down_west, down_east}
use Rattle.mesh_lattice.proofs.fine.crossing.Goals as goal

pub returns-then-is_west_of-2-clause-value : goal.returns-then-is_west_of-2-clause-value
returns-then-is_west_of-2-clause-value c =
    let a = c.args in
    down_west a.p.1 a.r.1 a.q.1 (turn a.p a.r a.q) (turn a.r a.p a.q) (turn_flip a.p a.r a.q) (sym c.spans.ensures ∙ c.if-spans.false) (sym c.spans-2.ensures ∙ c.if-spans-2.true) (sym c.if-is_west_of-2.true ∙ c.is_west_of-then-spans-2.ensures)

pub returns-then-spans-2-clause-value : goal.returns-then-spans-2-clause-value
returns-then-spans-2-clause-value c =
    let a = c.args in
    down_east a.p.1 a.r.1 a.q.1 (turn a.p a.r a.q) (turn a.r a.p a.q) (turn_flip a.p a.r a.q) (sym c.spans.ensures ∙ c.if-spans.false) (sym c.spans-2.ensures ∙ c.if-spans-2.true) (sym c.if-is_west_of-2.false ∙ c.is_west_of-then-spans-2.ensures)
