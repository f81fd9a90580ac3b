-- A contour that was validated may be built.
use Rattle.std.proofs.Common.{[], ◌∷◌, lit<, refl}
use Rattle.mesh_join.specs.Styles.{style_of}
use Rattle.mesh_outline.proofs.Padding.{outer_accepted}
use Rattle.mesh_memory_tests.proofs.outlines.add.Goals as goal

pub build-requires : goal.build-requires
build-requires g c =
    let style = style_of g.I.IntNumber.value c.args.style.now in
    rw (c.deref.ensures.value, c.requires) (outer_accepted g.I.IntNumber.unit style (c.args.contour.now.items ∷ []) (c.in_ok-validate_outline.ensures.safe.0 refl) 0 [] (lit< tt))
