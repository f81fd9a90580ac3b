-- Directions are short.
use Rattle.std.proofs.Common.{◌^◌, arith, rules}
use Rattle.std.proofs.lemmas.Int.{to_z-of_z}
use mir.Syntax.{w128}
use Rattle.mesh_join.proofs.Quotients.{cross_small, dot_small}
use Rattle.mesh_join.proofs.miter.products.Goals as goal

pub returns-clause-narrow : goal.returns-clause-narrow
returns-clause-narrow g c =
    let v = c.coordinates_of-incoming.ensures.narrow in
    let w = c.coordinates_of-outgoing.ensures.narrow in
    let x = to_z-of_z w128 c.cross.result (search rules) in
    let y = to_z-of_z w128 c.dot.result (search rules) in
    record {
      x = rw (x, c.cross.ensures) (omega (arith, cross_small (2 ^ 30) (2 ^ 30) c.coordinates_of-incoming.result c.coordinates_of-outgoing.result v w));
      y = rw (y, c.dot.ensures) (omega (arith, dot_small (2 ^ 30) (2 ^ 30) c.coordinates_of-incoming.result c.coordinates_of-outgoing.result v w));
    }
