use Rattle.std.proofs.Common.{not, refl, rules, subst, sym}
use Rattle.std.specs.Prelude.{IsTrue}
use Rattle.mesh_shapes.specs.Resolution.{Choices}
use Rattle.mesh_below.proofs.below.IntOverlayOptions.is_default.Goals as goal

pub returns-then-eq : goal.returns-then-eq
returns-then-eq g c = ((search rules), (λ same. subst (λ (k : Choices). IsTrue (not k.all_vertices)) (sym same) refl))
