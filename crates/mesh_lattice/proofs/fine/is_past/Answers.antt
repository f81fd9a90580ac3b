use Rattle.std.proofs.Common.{Bool, true, false, not, sym, ◌∙◌, ◌≡◌}
use Rattle.mesh_plane.specs.Plane.{turn}
use Rattle.mesh_plane.proofs.Comparing.{test_at_most, test_above}
use Rattle.mesh_plane.proofs.Crossings.{crossing_low, crossing_high}
use Rattle.mesh_lattice.proofs.fine.is_past.Goals as goal

-- neither end is above the point
pub returns-then-is_low : goal.returns-then-is_low
returns-then-is_low c = λ t.
    let a = c.args in
    crossing_low a.p.1 a.r.1 a.q.1 (turn a.p a.r a.q) (test_at_most a.p.1 a.q.1 (sym c.is_low.ensures ∙ c.if-is_low.true))
    (test_at_most a.r.1 a.q.1 (sym c.is_low-then-is_low.ensures ∙ t))

not_true : (b : Bool) → not b ≡ true → b ≡ false
not_true true h = sym h
not_true false h = λ i. false

-- both ends are
pub returns : goal.returns
returns c = λ t.
    let a = c.args in
    crossing_high a.p.1 a.r.1 a.q.1 (turn a.p a.r a.q) (test_above a.p.1 a.q.1 (sym c.is_low.ensures ∙ c.if-is_low.false))
    (test_above a.r.1 a.q.1 (sym c.is_low-2.ensures ∙ not_true c.is_low-2.result t))
