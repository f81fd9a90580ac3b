-- A path that was validated in the builder's style may be stroked by it.
use Rattle.std.proofs.Common.{[], lit<, refl}
use Rattle.mesh_stroke_tests.proofs.collapsed.expect_proper.Goals as goal

pub build-requires : goal.build-requires
build-requires g c = rw (c.deref.ensures.value, c.requires) (c.in_ok-validate_stroke.ensures.safe.0 refl 0 [] (lit< tt))
