-- The contours' own resolvings are told by the call, so none of their edges is bent, nor one of the last resolving.
use Rattle.std.proofs.Common.{◌^◌, lit≤}
use Rattle.std.proofs.lemmas.Int.{to_z-of_z}
use Rattle.std.proofs.lemmas.Result.{IfOk-weaker}
use mir.Syntax.{w32}
use Rattle.mesh_num.specs.Paths.{paths_of, shapes_of}
use Rattle.mesh_below.specs.Options.{plain}
use Rattle.mesh_uses.specs.Styles.{bevelled}
use Rattle.mesh_uses.proofs.offsets.grown_exactly.Goals as goal

pub returns : goal.returns
returns c meet =
    let offset = to_z-of_z w32 c.args.offset c.ranges.offset in
    IfOk-weaker c.outline.result _ _
    (λ shapes made.
    c.outlines_are_exact.ensures (2 ^ 30) (lit≤ tt) (bevelled c.args.offset) plain (paths_of c.args.contours.now.items) (shapes_of shapes.items) made meet)
    (rw (c.new-style.ensures, offset) at c.outline.ensures.regions)
