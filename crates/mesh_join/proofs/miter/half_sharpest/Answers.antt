-- The bits of half the angle.
use Rattle.std.proofs.Common.{◌≡◌, ℕ, ◌/◌, ◌∙◌, ap}
use Rattle.mesh_join.specs.Miters.{sharpest, half_sharpest}
use Rattle.mesh_sine.specs.Sine.{sin_cos}
use Rattle.mesh_join.proofs.miter.half_sharpest.Goals as goal

pub returns-clause-value : goal.returns-clause-value
unfolding half_sharpest
returns-clause-value c =
    let bits : c.from_bits.result ≡ sharpest c.args.angle / 2 = c.from_bits.ensures ∙ ap (λ (n : ℕ). n / 2) (c.bits.ensures ∙ c.sharpest.ensures) in
    c.sin_cos.ensures.value ∙ ap sin_cos bits
