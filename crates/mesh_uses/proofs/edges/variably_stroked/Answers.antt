-- What was validated may be built, and the vector held nothing before.
use Rattle.std.proofs.Common.{refl, [], ◌∷◌, lit<}
use Rattle.mesh_variable_stroke.proofs.Reach.{each_strokable}
use Rattle.mesh_uses.proofs.edges.variably_stroked.Goals as goal

pub build-requires : goal.build-requires
build-requires g c =
    rw c.deref.ensures.value
    (each_strokable g.I.IntNumber.unit (c.args.path.now.items ∷ []) (c.in_ok-validate_variable_stroke.ensures.safe.0 refl) 0 [] (lit< tt))

pub returns : goal.returns
returns g c =
    rw (c.deref.ensures.value, c.new-builder.ensures, c.new-segments.ensures.items) at c.in_ok-build.ensures.edges
