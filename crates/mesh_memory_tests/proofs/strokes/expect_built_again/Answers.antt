-- A path that was validated may be stroked, again too.
use Rattle.std.proofs.Common.{[], lit<, refl}
use Rattle.mesh_memory_tests.proofs.strokes.expect_built_again.Goals as goal

pub build-first-requires : goal.build-first-requires
build-first-requires c = rw (c.deref.ensures.value, c.new-builder.ensures) (c.in_ok-validate_stroke.ensures.safe.0 refl 0 [] (lit< tt))

pub build-requires : goal.build-requires
build-requires c =
    rw (c.deref-3.ensures.value, c.build-first.ensures.same, c.new-builder.ensures)
    (c.in_ok-validate_stroke.ensures.safe.0 refl 0 [] (lit< tt))
