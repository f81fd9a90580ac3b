-- The difference of two points is short.
use Rattle.std.proofs.Common.{◌^◌, arith, rules}
use Rattle.std.proofs.lemmas.Int.{to_z-of_z, ints}
use mir.Syntax.{w128}
use Rattle.mesh_plane.specs.Plane.{minus}
use Rattle.mesh_join.specs.Private.Miters.{IsNarrow}
use Rattle.mesh_join.proofs.Quotients.{cross_small}
use Rattle.mesh_join.proofs.miter.peak_share.Goals as goal

pub returns-clause-size : goal.returns-clause-size
returns-clause-size c =
    let v : IsNarrow (2 ^ 32) (minus c.args.last c.args.first) = record {
      x = omega (arith, ints, c.requires.first.x, c.requires.last.x);
      y = omega (arith, ints, c.requires.first.y, c.requires.last.y);
    } in
    let x = to_z-of_z w128 c.cross.result (search rules) in
    rw (x, c.cross.ensures, c.difference.ensures) (omega (arith, cross_small (2 ^ 32) (2 ^ 30) (minus c.args.last c.args.first) c.args.outgoing v c.requires.outgoing))
