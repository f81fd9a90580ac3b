-- The opposite of a direction is as long, so its components are coordinates too.
use Rattle.std.proofs.Common.{◌∙◌, subst, sym}
use Rattle.std.specs.Prelude.{pos, ◌-ℤ◌}
use Rattle.std.proofs.lemmas.Int.{to_z-of_z}
use mir.Syntax.{w128}
use mir.Val.{to_z, of_z}
use Rattle.mesh_plane.specs.Plane.{Point, opposite}
use Rattle.mesh_num.specs.Direction.{IsShort}
use Rattle.mesh_num.proofs.Parts.{direction_opposite}
use Rattle.mesh_num.proofs.Passed.{opposite_passed, short_opposite}
use Rattle.mesh_num.proofs.num.unit_vector.UnitIntVector.opposite.Goals as goal

pub from_parts-requires : goal.from_parts-requires
from_parts-requires g c =
    let n : Point = (g.I.IntNumber.value c.self.inside.x, g.I.IntNumber.value c.self.inside.y) in
    let x = to_z-of_z w128 c.widen.result (record { sfits = c.widen.type_inv }) ∙ c.widen.ensures.value in
    let y = to_z-of_z w128 c.widen-2.result (record { sfits = c.widen-2.type_inv }) ∙ c.widen-2.ensures.value in
    let e = (λ i. (to_z w128 (of_z w128 (pos 0 -ℤ x i)), to_z w128 (of_z w128 (pos 0 -ℤ y i))))
    ∙ opposite_passed g.I.IntNumber.unit n g.met.I.IntNumber.most_law c.self.invariant in
    subst (λ (m : Point). IsShort g.I.IntNumber.unit m) (sym e) (short_opposite g.I.IntNumber.unit n c.self.invariant)

pub returns-clause-value : goal.returns-clause-value
returns-clause-value g c =
    let n : Point = (g.I.IntNumber.value c.self.inside.x, g.I.IntNumber.value c.self.inside.y) in
    let x = to_z-of_z w128 c.widen.result (record { sfits = c.widen.type_inv }) ∙ c.widen.ensures.value in
    let y = to_z-of_z w128 c.widen-2.result (record { sfits = c.widen-2.type_inv }) ∙ c.widen-2.ensures.value in
    c.from_parts.ensures ∙ (λ i. (to_z w128 (of_z w128 (pos 0 -ℤ x i)), to_z w128 (of_z w128 (pos 0 -ℤ y i))))
    ∙ opposite_passed g.I.IntNumber.unit n g.met.I.IntNumber.most_law c.self.invariant ∙ (λ i. opposite (c.self.view_is i))

pub returns-clause-direction : goal.returns-clause-direction
returns-clause-direction g c v d =
    let n : Point = (g.I.IntNumber.value c.self.inside.x, g.I.IntNumber.value c.self.inside.y) in
    let x = to_z-of_z w128 c.widen.result (record { sfits = c.widen.type_inv }) ∙ c.widen.ensures.value in
    let y = to_z-of_z w128 c.widen-2.result (record { sfits = c.widen-2.type_inv }) ∙ c.widen-2.ensures.value in
    let e = c.from_parts.ensures ∙ (λ i. (to_z w128 (of_z w128 (pos 0 -ℤ x i)), to_z w128 (of_z w128 (pos 0 -ℤ y i))))
    ∙ opposite_passed g.I.IntNumber.unit n g.met.I.IntNumber.most_law c.self.invariant ∙ (λ i. opposite (c.self.view_is i)) in
    rw e (direction_opposite d)
