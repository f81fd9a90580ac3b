-- A contour that was validated may be built.
use Rattle.std.proofs.Common.{refl}
use Rattle.mesh_join.specs.Styles.{style_of}
use Rattle.mesh_outline_tests.proofs.Movable.{movable}
use Rattle.mesh_outline_tests.proofs.outlines.built.Goals as goal

pub build-requires : goal.build-requires
build-requires g c =
    let style = c.args.style in
    rw (c.deref.ensures.value, c.new.ensures, c.new-join.ensures) (movable _ (style_of g.I.IntNumber.value style) _ (c.in_ok-validate_outline.ensures.safe.0 refl))
