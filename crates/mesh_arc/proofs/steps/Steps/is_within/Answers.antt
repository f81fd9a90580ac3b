-- All numbers fit, and the bound is one that the steps have.
use Rattle.std.proofs.Common.{arith}
use Rattle.std.proofs.lemmas.Int.{ints, to_z-of_z}
use mir.Syntax.{w32, w128}
use Rattle.mesh_arc.proofs.Ahead.{within_flat}
use Rattle.mesh_arc.proofs.steps.Steps.is_within.Goals as goal

pub returns-then-dot-gt0 : goal.returns-then-dot-gt0
returns-then-dot-gt0 g c =
    let a = to_z-of_z w128 c.ahead-ahead.result (record { sfits = c.ahead-ahead.type_inv }) in
    let d = to_z-of_z w128 c.dot-dot.result (record { sfits = c.dot-dot.type_inv }) in
    let sine = to_z-of_z w32 c.self.inside.bound.0 (omega (arith, ints, c.self.invariant)) in
    let cosine = to_z-of_z w32 c.self.inside.bound.1 (omega (arith, ints, c.self.invariant)) in
    rw (← c.self.view_is)
    (within_flat c.is_flat.result _ c.self.inside.bound c.args.from c.args.to _ _
    c.ahead-ahead.ensures.value c.dot-dot.ensures.value
    (rw a at c.if-ahead-ge0.true) (rw d at c.if-dot-gt0.true) (rw (a, cosine, d, sine) at c.is_flat.ensures))
