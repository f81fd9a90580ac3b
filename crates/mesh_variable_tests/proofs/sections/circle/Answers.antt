-- The circle round a vertex that was validated is safe.
use Rattle.std.proofs.Common.{◌≡◌, ◌∙◌, ◌++◌, ℕ, List, ap, subst, refl, [], ◌∷◌, lit<}
use Rattle.std.specs.Prelude.{ℤ}
use Rattle.mesh_num.specs.Rectangle.{IsSafeWidened}
use Rattle.mesh_join.specs.VariableStyles.{Vertex}
use Rattle.mesh_offset.specs.Radii.{radius_of}
use Rattle.mesh_variable_stroke.specs.Drawn.{greatest_radius, AreStrokable}
use Rattle.mesh_variable_stroke.proofs.Safe.{path_safe}
use Rattle.mesh_variable_stroke.proofs.Reach.{each_strokable}
use Rattle.mesh_variable_tests.proofs.sections.circle.Goals as goal

-- the vertex as the code reads it
read_safe : (unit : ℕ) (v w : Vertex) (radius : ℤ) → radius ≡ radius_of w.width → w ≡ v → AreStrokable unit (greatest_radius (v ∷ [])) (v ∷ []) →
    IsSafeWidened unit radius w.point
read_safe unit v w radius e f h = rw (e, f) ((path_safe unit (v ∷ []) h 0 v (lit< tt)).safe)

pub returns : goal.returns
returns g c =
    let unit = g.I.IntNumber.unit in
    let one : c.push.new.self.items ≡ c.args.vertex ∷ [] = c.in_ok-push.ensures.items ∙ ap (λ (vs : List Vertex). vs ++ c.args.vertex ∷ []) c.new-path.ensures.items in
    let all = each_strokable unit (c.push.new.self.items ∷ []) (c.in_ok-validate_variable_stroke.ensures.safe.0 refl) 0 [] (lit< tt) in
    record {
      nonneg = c.stroke_radius.ensures.least;
      safe =
          read_safe unit c.args.vertex _ _ c.stroke_radius.ensures.value c.vertex.view_is
          (subst (λ (vs : List Vertex). AreStrokable unit (greatest_radius vs) vs) one all);
    }
