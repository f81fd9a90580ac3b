-- Of each kind of drawing the first point is found.
use Rattle.std.proofs.Common.{◌≡◌, List, ap, subst, ◌∙◌, rules, w64}
use Rattle.std.specs.Prelude.{ℤ}
use Rattle.std.proofs.lemmas.Int.{to_z-of_z}
use mir.Val.{to_z, of_z}
use Rattle.mesh_plane.specs.Plane.{Point}
use Rattle.mesh_num.specs.Paths.{paths_of}
use Rattle.mesh_num.specs.Rectangle.{IsSafeWidened}
use Rattle.mesh_join.specs.VariableStyles.{Vertex}
use Rattle.mesh_drawing.specs.Refusals.{IsFirstPlace}
use Rattle.mesh_drawing.proofs.refusal.find_point.Goals as goal

pub returns-in-Outline : goal.returns-in-Outline
returns-in-Outline g c =
    let passed : to_z w64 (of_z w64 c.args.padding) ≡ c.args.padding = to_z-of_z w64 c.args.padding (search rules) in
    let found = subst (λ (paths : List (List Point)). IsFirstPlace (λ (p : Point). IsSafeWidened g.I.IntNumber.unit (to_z w64 (of_z w64 c.args.padding)) p) paths c.first_point.result) (ap paths_of c.deref.ensures.value) c.first_point.ensures in
    rw c.in-Outline.is
    (subst (λ (z : ℤ). IsFirstPlace (λ (p : Point). IsSafeWidened g.I.IntNumber.unit z p) (paths_of c.in-Outline.outline.paths.items) c.first_point.result)
    (passed ∙ (rw c.in-Outline.is at c.requires)) found)

pub returns-in-Stroke : goal.returns-in-Stroke
returns-in-Stroke g c =
    let passed : to_z w64 (of_z w64 c.args.padding) ≡ c.args.padding = to_z-of_z w64 c.args.padding (search rules) in
    let found = subst (λ (paths : List (List Point)). IsFirstPlace (λ (p : Point). IsSafeWidened g.I.IntNumber.unit (to_z w64 (of_z w64 c.args.padding)) p) paths c.first_point-in-Stroke.result) (ap paths_of c.deref-in-Stroke.ensures.value) c.first_point-in-Stroke.ensures in
    rw c.in-Stroke.is
    (subst (λ (z : ℤ). IsFirstPlace (λ (p : Point). IsSafeWidened g.I.IntNumber.unit z p) (paths_of c.in-Stroke.stroke.paths.items) c.first_point-in-Stroke.result)
    (passed ∙ (rw c.in-Stroke.is at c.requires)) found)

pub returns-in-VariableStroke : goal.returns-in-VariableStroke
returns-in-VariableStroke g c =
    let passed : to_z w64 (of_z w64 c.args.padding) ≡ c.args.padding = to_z-of_z w64 c.args.padding (search rules) in
    let found = subst (λ (paths : List (List Vertex)). IsFirstPlace (λ (p : Vertex). IsSafeWidened g.I.IntNumber.unit (to_z w64 (of_z w64 c.args.padding)) p.point) paths c.first_point-in-VariableStroke.result) (ap paths_of c.deref-in-VariableStroke.ensures.value) c.first_point-in-VariableStroke.ensures in
    rw c.in-VariableStroke.is
    (subst (λ (z : ℤ). IsFirstPlace (λ (p : Vertex). IsSafeWidened g.I.IntNumber.unit z p.point) (paths_of c.in-VariableStroke.stroke.paths.items) c.first_point-in-VariableStroke.result)
    (passed ∙ (rw c.in-VariableStroke.is at c.requires)) found)
