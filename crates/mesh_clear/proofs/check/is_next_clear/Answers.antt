use Rattle.std.proofs.Common.{ℕ, subst}
use Rattle.mesh_check.specs.Bent.{AreClearPaths}
use Rattle.mesh_clear.proofs.check.is_next_clear.Goals as goal

pub returns-then-lead_apart_at : goal.returns-then-lead_apart_at
returns-then-lead_apart_at c = λ _.
    subst (λ (n : ℕ). AreClearPaths c.args.paths.now n c.args.m.second) c.in-Some.ensures.first
    (subst (λ (n : ℕ). AreClearPaths c.args.paths.now c.in-Some.first.path n) c.in-Some.ensures.second (c.lead_apart_at.ensures c.if-lead_apart_at.true))
