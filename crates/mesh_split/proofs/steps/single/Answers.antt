use Rattle.std.proofs.Common.{rules}
use mir.Syntax.{w32}
use mir.Val.{SFits}
use Rattle.mesh_split.proofs.Starting.{edge_weight}
use Rattle.mesh_split.proofs.steps.single.Goals as goal

pub returns-clause-light : goal.returns-clause-light
returns-clause-light c =
    let e = c.args.e in
    let a : SFits w32 e.0.0 = search rules in
    let b : SFits w32 e.0.1 = search rules in
    let d : SFits w32 e.1.0 = search rules in
    let f : SFits w32 e.1.1 = search rules in
    edge_weight e a b d f
