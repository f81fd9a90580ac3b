-- Both tests.
use Rattle.std.proofs.Common.{sym, ◌∙◌}
use Rattle.mesh_buffer.proofs.buffer.may_be_buffered.Goals as goal

pub returns-then-is_ok : goal.returns-then-is_ok
returns-then-is_ok g c = (
  λ yes. (c.validate_overlay.ensures.safe.0 (sym c.is_ok.ensures.value ∙ c.if-is_ok.true), c.validate_stroke.ensures.safe.0 (sym c.is_ok-then-is_ok.ensures.value ∙ yes)),
  λ may. c.is_ok-then-is_ok.ensures.value ∙ c.validate_stroke.ensures.safe.1 may.1,
)
