-- The vector and the unit as plain numbers.
use Rattle.std.proofs.Common.{◌≡◌, ◌∙◌, ap, rules}
use Rattle.std.specs.Prelude.{ℤ}
use Rattle.std.proofs.lemmas.Int.{to_z-of_z}
use mir.Syntax.{w128}
use mir.Val.{SFits}
use Rattle.mesh_plane.specs.Plane.{length_sq}
use Rattle.mesh_num.proofs.Products.{square_sum_below}
use Rattle.mesh_circle.specs.Tangents.{left_normal, right_normal, normal_length}
use Rattle.mesh_circle.proofs.offsets.normals_of.Goals as goal

pub tangent_normals-requires-clause-most : goal.tangent_normals-requires-clause-most
tangent_normals-requires-clause-most g c =
    let u = c.unit-unit.ensures.value in
    let e : c.uint_to_u128-square.result ≡ length_sq c.args.apart.now =
    c.uint_to_u128-square.ensures.value ∙ c.sqr_length.ensures in
    rw (u, e) (square_sum_below g.I.IntNumber.unit c.args.apart.now c.requires.apart)

pub returns-clause-left : goal.returns-clause-left
returns-clause-left g c =
    let u = c.unit-unit.ensures.value in
    let p : SFits w128 c.wide_to_i128-x.result = search rules in
    let q : SFits w128 c.wide_to_i128-y.result = search rules in
    let r : SFits w128 c.difference-delta.result = search rules in
    let v : ◌≡◌ {A = ℤ × ℤ} (c.wide_to_i128-x.result, c.wide_to_i128-y.result) c.args.apart.now =
    (λ i. (c.wide_to_i128-x.ensures.value i, c.wide_to_i128-y.ensures.value i)) ∙ c.apart.view_is in
    let e : c.tangent_normals.result.left ≡ left_normal g.I.IntNumber.unit
    (c.wide_to_i128-x.result, c.wide_to_i128-y.result) c.difference-delta.result =
    rw (
      u,
      to_z-of_z w128 c.wide_to_i128-x.result p,
      to_z-of_z w128 c.wide_to_i128-y.result q,
      to_z-of_z w128
          c.difference-delta.result r,
    ) at c.tangent_normals.ensures.left in
    e ∙ (λ i. left_normal g.I.IntNumber.unit (v i) (c.difference-delta.ensures.value i))

pub returns-clause-right : goal.returns-clause-right
returns-clause-right g c =
    let u = c.unit-unit.ensures.value in
    let p : SFits w128 c.wide_to_i128-x.result = search rules in
    let q : SFits w128 c.wide_to_i128-y.result = search rules in
    let r : SFits w128 c.difference-delta.result = search rules in
    let v : ◌≡◌ {A = ℤ × ℤ} (c.wide_to_i128-x.result, c.wide_to_i128-y.result) c.args.apart.now =
    (λ i. (c.wide_to_i128-x.ensures.value i, c.wide_to_i128-y.ensures.value i)) ∙ c.apart.view_is in
    let e : c.tangent_normals.result.right ≡ right_normal g.I.IntNumber.unit
    (c.wide_to_i128-x.result, c.wide_to_i128-y.result) c.difference-delta.result =
    rw (
      u,
      to_z-of_z w128 c.wide_to_i128-x.result p,
      to_z-of_z w128 c.wide_to_i128-y.result q,
      to_z-of_z w128
          c.difference-delta.result r,
    ) at c.tangent_normals.ensures.right in
    e ∙ (λ i. right_normal g.I.IntNumber.unit (v i) (c.difference-delta.ensures.value i))

pub returns-clause-length : goal.returns-clause-length
returns-clause-length g c =
    let u = c.unit-unit.ensures.value in
    let p : SFits w128 c.wide_to_i128-x.result = search rules in
    let q : SFits w128 c.wide_to_i128-y.result = search rules in
    let v : ◌≡◌ {A = ℤ × ℤ} (c.wide_to_i128-x.result, c.wide_to_i128-y.result) c.args.apart.now =
    (λ i. (c.wide_to_i128-x.ensures.value i, c.wide_to_i128-y.ensures.value i)) ∙ c.apart.view_is in
    let e : c.tangent_normals.result.length ≡ normal_length g.I.IntNumber.unit
    (c.wide_to_i128-x.result, c.wide_to_i128-y.result) =
    rw (u, to_z-of_z w128 c.wide_to_i128-x.result p, to_z-of_z w128 c.wide_to_i128-y.result q) at
    c.tangent_normals.ensures.length in
    e ∙ ap (normal_length g.I.IntNumber.unit) v
