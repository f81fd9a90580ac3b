-- What was validated may be built, and the vector held nothing before.
use Rattle.std.proofs.Common.{refl, [], ◌∷◌, lit<}
use Rattle.mesh_join.specs.Styles.{style_of}
use Rattle.mesh_outline.proofs.Padding.{outer_accepted}
use Rattle.mesh_uses.proofs.edges.outlined.Goals as goal

pub build-requires : goal.build-requires
build-requires g c =
    rw (c.deref.ensures.value, c.new-builder.ensures, c.new-join.ensures)
    (outer_accepted g.I.IntNumber.unit (style_of g.I.IntNumber.value c.args.style.now) (c.args.contour.now.items ∷ [])
    (c.in_ok-validate_outline.ensures.safe.0 refl) 0 [] (lit< tt))

pub returns : goal.returns
returns g c =
    rw (c.deref.ensures.value, c.new-builder.ensures, c.new-join.ensures, c.new-segments.ensures.items) at c.in_ok-build.ensures.edges
