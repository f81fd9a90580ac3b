use Rattle.std.proofs.Common.{rules}
use Rattle.std.proofs.lemmas.Int.{to_z-of_z}
use mir.Syntax.{w32}
use mir.Val.{SFits}
use Rattle.mesh_points.specs.Private.Filed.{hash_of, list_of}
use Rattle.mesh_points.proofs.points.list_of.Goals as goal

pub returns-clause-value : goal.returns-clause-value
unfolding list_of hash_of
returns-clause-value c =
    let x : SFits w32 c.args.p.0 = search rules in
    let y : SFits w32 c.args.p.1 = search rules in
    rw (c.shifted-x.ensures, c.shifted-y.ensures) (simp (to_z-of_z w32 c.args.p.0 x, to_z-of_z w32 c.args.p.1 y))
