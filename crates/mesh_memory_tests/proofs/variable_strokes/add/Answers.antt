-- A path that was validated may be built.
use Rattle.std.proofs.Common.{refl, [], ◌∷◌, lit<}
use Rattle.mesh_variable_stroke.proofs.Reach.{each_strokable}
use Rattle.mesh_memory_tests.proofs.variable_strokes.add.Goals as goal

pub build-requires : goal.build-requires
build-requires g c =
    rw c.deref.ensures.value
    (each_strokable g.I.IntNumber.unit (c.args.path.now.items ∷ []) (c.in_ok-validate_variable_stroke.ensures.safe.0 refl) 0 [] (lit< tt))
