-- The sines and cosines are those of the angles.
use Rattle.std.proofs.Common.{◌∙◌, ap}
use Rattle.mesh_sine.specs.Sine.{sin_cos}
use Rattle.mesh_join.proofs.miter.Miter.new.Goals as goal

pub invariant_of-result : goal.invariant_of-result
invariant_of-result c =
    record {
      of_slightest = c.sin_cos.ensures.value ∙ ap sin_cos c.slightest.ensures;
      of_sharpest = c.sin_cos-2.ensures.value ∙ ap sin_cos c.sharpest.ensures;
      of_half = c.half_sharpest.ensures.value;
      short_slightest = c.sin_cos.ensures.bounded;
      short_sharpest = c.sin_cos-2.ensures.bounded;
      short_half = c.half_sharpest.ensures.bounded;
    }
