-- Each part has the padding that it says.
use Rattle.std.proofs.Common.{refl}
use Rattle.mesh_stroke.proofs.radius.padding.Goals as goal

pub returns-in-Both-clause-value : goal.returns-in-Both-clause-value
returns-in-Both-clause-value g c =
    rw (
      c.in-Both.is,
      c.greater.ensures,
      c.caps_padding.ensures,
      c.padding-joins.ensures.value,
      c.stroke_radius-radius.ensures.value,
    )
    refl
