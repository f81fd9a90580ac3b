-- A rotated point fits the wide type, and passes its own length in no coordinate.
use Rattle.std.proofs.Common.{◌^◌, ◌∙◌, ap, arith, subst}
use Rattle.std.specs.Prelude.{ℤ}
use Rattle.std.proofs.lemmas.Int.{to_z-of_z, fits_signed_from_abs}
use mir.Syntax.{w128}
use Rattle.mesh_plane.specs.Plane.{Point}
use Rattle.mesh_plane.specs.Rounding.{rounded}
use Rattle.mesh_num.specs.Direction.{IsShort}
use Rattle.mesh_num.specs.Rotation.{turned, turned_along}
use Rattle.mesh_plane.proofs.Sizes.{within_size}
use Rattle.mesh_num.proofs.Scaling.{short_bounded}
use Rattle.mesh_num.proofs.Rotations.{turned_bounded, turned_along_within}
use Rattle.mesh_num.proofs.num.unit_vector.UnitIntVector.rotate.Goals as goal

pub turned-x-requires-clause-sine : goal.turned-x-requires-clause-sine
turned-x-requires-clause-sine g c =
    let n : Point = (g.I.IntNumber.value c.self.inside.x, g.I.IntNumber.value c.self.inside.y) in
    rw (to_z-of_z w128 c.widen.result (record { sfits = c.widen.type_inv }), c.widen.ensures.value)
    (omega (arith, (short_bounded g.I.IntNumber.unit n c.self.invariant).1, g.met.I.IntNumber.most_law))

pub turned-x-requires-clause-cosine : goal.turned-x-requires-clause-cosine
turned-x-requires-clause-cosine g c =
    let n : Point = (g.I.IntNumber.value c.self.inside.x, g.I.IntNumber.value c.self.inside.y) in
    rw (to_z-of_z w128 c.widen-2.result (record { sfits = c.widen-2.type_inv }), c.widen-2.ensures.value)
    (omega (arith, (short_bounded g.I.IntNumber.unit n c.self.invariant).0, g.met.I.IntNumber.most_law))

pub turned-x-requires-clause-x : goal.turned-x-requires-clause-x
turned-x-requires-clause-x g c =
    rw (to_z-of_z w128 c.widen-3.result (record { sfits = c.widen-3.type_inv }))
    (within_size (2 ^ 31) c.widen-3.result c.widen-3.ensures.small)

pub turned-x-requires-clause-y : goal.turned-x-requires-clause-y
turned-x-requires-clause-y g c =
    rw (to_z-of_z w128 c.widen-4.result (record { sfits = c.widen-4.type_inv }))
    (within_size (2 ^ 31) c.widen-4.result c.widen-4.ensures.small)

pub over_unit-requires : goal.over_unit-requires
over_unit-requires g c =
    let n : Point = (g.I.IntNumber.value c.self.inside.x, g.I.IntNumber.value c.self.inside.y) in
    let v : Point = (g.I.IntNumber.value c.point.inside.x, g.I.IntNumber.value c.point.inside.y) in
    let a = to_z-of_z w128 c.widen.result (record { sfits = c.widen.type_inv }) ∙ c.widen.ensures.value in
    let b = to_z-of_z w128 c.widen-2.result (record { sfits = c.widen-2.type_inv }) ∙ c.widen-2.ensures.value in
    let x = to_z-of_z w128 c.widen-3.result (record { sfits = c.widen-3.type_inv }) ∙ c.widen-3.ensures.value in
    let y = to_z-of_z w128 c.widen-4.result (record { sfits = c.widen-4.type_inv }) ∙ c.widen-4.ensures.value in
    let e = c.turned-x.ensures.value ∙ (λ i. turned (a i, b i) (x i, y i)) in
    rw (to_z-of_z w128 c.turned-x.result.0 (fits_signed_from_abs w128 c.turned-x.result.0 (omega (arith, c.turned-x.ensures.x_size))), e)
    ((turned_bounded g.I.IntNumber.unit n v c.self.invariant (within_size _ _ c.widen-3.ensures.range) (within_size _ _ c.widen-4.ensures.range)).0)

pub over_unit-requires-2 : goal.over_unit-requires-2
over_unit-requires-2 g c =
    let n : Point = (g.I.IntNumber.value c.self.inside.x, g.I.IntNumber.value c.self.inside.y) in
    let v : Point = (g.I.IntNumber.value c.point.inside.x, g.I.IntNumber.value c.point.inside.y) in
    let a = to_z-of_z w128 c.widen.result (record { sfits = c.widen.type_inv }) ∙ c.widen.ensures.value in
    let b = to_z-of_z w128 c.widen-2.result (record { sfits = c.widen-2.type_inv }) ∙ c.widen-2.ensures.value in
    let x = to_z-of_z w128 c.widen-3.result (record { sfits = c.widen-3.type_inv }) ∙ c.widen-3.ensures.value in
    let y = to_z-of_z w128 c.widen-4.result (record { sfits = c.widen-4.type_inv }) ∙ c.widen-4.ensures.value in
    let e = c.turned-x.ensures.value ∙ (λ i. turned (a i, b i) (x i, y i)) in
    rw (to_z-of_z w128 c.turned-x.result.1 (fits_signed_from_abs w128 c.turned-x.result.1 (omega (arith, c.turned-x.ensures.y_size))), e)
    ((turned_bounded g.I.IntNumber.unit n v c.self.invariant (within_size _ _ c.widen-3.ensures.range) (within_size _ _ c.widen-4.ensures.range)).1)

pub returns-clause-value : goal.returns-clause-value
returns-clause-value g c =
    let a = to_z-of_z w128 c.widen.result (record { sfits = c.widen.type_inv }) ∙ c.widen.ensures.value in
    let b = to_z-of_z w128 c.widen-2.result (record { sfits = c.widen-2.type_inv }) ∙ c.widen-2.ensures.value in
    let x = to_z-of_z w128 c.widen-3.result (record { sfits = c.widen-3.type_inv }) ∙ c.widen-3.ensures.value in
    let y = to_z-of_z w128 c.widen-4.result (record { sfits = c.widen-4.type_inv }) ∙ c.widen-4.ensures.value in
    let e = c.turned-x.ensures.value ∙ (λ i. turned (a i, b i) (x i, y i)) in
    let p = c.over_unit.ensures ∙ ap (λ (z : ℤ). rounded z g.I.IntNumber.unit) (to_z-of_z w128 c.turned-x.result.0 (fits_signed_from_abs w128 c.turned-x.result.0 (omega (arith, c.turned-x.ensures.x_size))) ∙ (λ i. (e i).0)) in
    let q = c.over_unit-2.ensures ∙ ap (λ (z : ℤ). rounded z g.I.IntNumber.unit) (to_z-of_z w128 c.turned-x.result.1 (fits_signed_from_abs w128 c.turned-x.result.1 (omega (arith, c.turned-x.ensures.y_size))) ∙ (λ i. (e i).1)) in
    c.new.ensures ∙ (λ i. (p i, q i)) ∙ (λ i. turned_along g.I.IntNumber.unit (c.self.view_is i) (c.point.view_is i))

pub returns-clause-within : goal.returns-clause-within
returns-clause-within g c =
    let a = to_z-of_z w128 c.widen.result (record { sfits = c.widen.type_inv }) ∙ c.widen.ensures.value in
    let b = to_z-of_z w128 c.widen-2.result (record { sfits = c.widen-2.type_inv }) ∙ c.widen-2.ensures.value in
    let x = to_z-of_z w128 c.widen-3.result (record { sfits = c.widen-3.type_inv }) ∙ c.widen-3.ensures.value in
    let y = to_z-of_z w128 c.widen-4.result (record { sfits = c.widen-4.type_inv }) ∙ c.widen-4.ensures.value in
    let e = c.turned-x.ensures.value ∙ (λ i. turned (a i, b i) (x i, y i)) in
    let p = c.over_unit.ensures ∙ ap (λ (z : ℤ). rounded z g.I.IntNumber.unit) (to_z-of_z w128 c.turned-x.result.0 (fits_signed_from_abs w128 c.turned-x.result.0 (omega (arith, c.turned-x.ensures.x_size))) ∙ (λ i. (e i).0)) in
    let q = c.over_unit-2.ensures ∙ ap (λ (z : ℤ). rounded z g.I.IntNumber.unit) (to_z-of_z w128 c.turned-x.result.1 (fits_signed_from_abs w128 c.turned-x.result.1 (omega (arith, c.turned-x.ensures.y_size))) ∙ (λ i. (e i).1)) in
    let r = c.new.ensures ∙ (λ i. (p i, q i)) ∙ (λ i. turned_along g.I.IntNumber.unit (c.self.view_is i) (c.point.view_is i)) in
    let s = subst (λ (m : Point). IsShort g.I.IntNumber.unit m) c.self.view_is c.self.invariant in
    rw r (turned_along_within g.I.IntNumber.unit c.args.self c.args.point (omega (arith, g.met.I.IntNumber.least_law)) s)
