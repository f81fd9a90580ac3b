-- What is gathered is resolved once more.
use Rattle.mesh_num.specs.Paths.{shapes_of}
use Rattle.mesh_join.specs.Styles.{style_of}
use Rattle.mesh_outline.specs.Private.Gathered.{so_far}
use Rattle.mesh_outline.proofs.Gathering.{own_pieces, gathered_outline}
use Rattle.mesh_outline.proofs.shapes.outer_shapes.Goals as goal

pub resolved_again-requires-clause-safe : goal.resolved_again-requires-clause-safe
resolved_again-requires-clause-safe g c = c.in_ok-gathered.ensures.safe

pub resolved_again-requires-clause-own_boundary : goal.resolved_again-requires-clause-own_boundary
resolved_again-requires-clause-own_boundary g c told =
    let apart = c.are_own_and_apart-is_own_boundary.ensures told in
    own_pieces _ _ _ c.in_ok-gathered.ensures.pieces apart.0 apart.1

pub returns-clause-outline : goal.returns-clause-outline
returns-clause-outline g c =
    gathered_outline g.I.IntNumber.unit (style_of g.I.IntNumber.value c.args.style.now) (g.S.IntShapeResource.paths c.args.source.now)
    (so_far c.in_ok-gathered.gathered) _ (shapes_of c.in_ok-shapes.shapes.items) c.in_ok-gathered.ensures c.in_ok-shapes.ensures

pub returns-clause-safe : goal.returns-clause-safe
returns-clause-safe g c = c.in_ok-shapes.ensures.safe
