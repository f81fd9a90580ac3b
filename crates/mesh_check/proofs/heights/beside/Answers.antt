use Rattle.std.proofs.Common.{ℕ, ◌<◌, ◌^◌, lit≤, sym, ◌∙◌, ap, subst}
use Rattle.std.specs.Prelude.{unsigned_abs}
use Rattle.mesh_meeting.proofs.Kept.{small_kept}
use Rattle.mesh_plane.proofs.Sizes.{small_size}
use Rattle.mesh_check.proofs.heights.beside.Goals as goal

pub returns-clause-few : goal.returns-clause-few
returns-clause-few c =
    subst (λ (n : ℕ). n < 2 ^ 63)
    (sym (c.unsigned_abs.ensures.value ∙ ap unsigned_abs (small_kept (2 ^ 63) c.height.result (lit≤ tt) c.height.ensures.size)))
    (small_size (2 ^ 63) c.height.result c.height.ensures.size)
