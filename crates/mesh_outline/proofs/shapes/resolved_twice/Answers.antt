-- What is settled is answered as it is, what is not is resolved once more.
use Rattle.mesh_num.specs.Paths.{shapes_of}
use Rattle.mesh_outline.proofs.Resolving.{twice_settled, twice_again}
use Rattle.mesh_outline.proofs.shapes.resolved_twice.Goals as goal

pub resolved_again-requires-clause-safe : goal.resolved_again-requires-clause-safe
resolved_again-requires-clause-safe g c = c.in_ok-answer.ensures.safe

pub resolved_again-requires-clause-own_boundary : goal.resolved_again-requires-clause-own_boundary
resolved_again-requires-clause-own_boundary g c = c.in_ok-answer.ensures.own_boundary

pub returns-then-is_default : goal.returns-then-is_default
returns-then-is_default g c =
    let answer = c.in_ok-answer.ensures in
    twice_settled g.I.IntNumber.unit c.args.builder.now _ c.args.path.now (shapes_of c.in_ok-answer.answer.shapes.items) (c.is_default.ensures.0 c.if-is_default.true)
    answer.alone answer.safe (answer.is_settled c.if-answer.true)

pub returns : goal.returns
returns g c =
    twice_again g.I.IntNumber.unit c.args.builder.now _ c.args.path.now (shapes_of c.in_ok-answer.answer.shapes.items) (shapes_of c.in_ok-shapes.shapes.items)
    c.in_ok-answer.ensures.alone c.in_ok-shapes.ensures
