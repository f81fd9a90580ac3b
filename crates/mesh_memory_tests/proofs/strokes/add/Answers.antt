-- A path that was validated may be stroked.
use Rattle.std.proofs.Common.{[], lit<, refl}
use Rattle.mesh_memory_tests.proofs.strokes.add.Goals as goal

pub build-requires : goal.build-requires
build-requires c = rw (c.deref.ensures.value, c.new.ensures) (c.in_ok-validate_stroke.ensures.safe.0 refl 0 [] (lit< tt))
