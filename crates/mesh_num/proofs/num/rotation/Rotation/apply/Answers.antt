-- A rotated direction is no longer than before.
use Rattle.std.proofs.Common.{◌^◌, ◌∙◌, arith, rules, subst, sym}
use Rattle.std.proofs.lemmas.Int.{to_z-of_z}
use mir.Syntax.{w128}
use Rattle.mesh_plane.specs.Plane.{Point}
use Rattle.mesh_num.specs.Direction.{IsShort}
use Rattle.mesh_num.specs.Rotation.{rotated}
use Rattle.mesh_plane.proofs.Sizes.{within_size}
use Rattle.mesh_num.proofs.Rotations.{rotated_length}
use Rattle.mesh_num.proofs.Passed.{sines_small, widened_fits, widened_is, short_passed}
use Rattle.mesh_num.proofs.num.rotation.Rotation.apply.Goals as goal

pub overflow_cast-self-inside : goal.overflow_cast-self-inside
overflow_cast-self-inside g c =
    widened_fits c.self.inside.sine ((sines_small (c.self.inside.sine, c.self.inside.cosine) c.self.invariant).0)

pub overflow_cast-self-inside-2 : goal.overflow_cast-self-inside-2
overflow_cast-self-inside-2 g c =
    widened_fits c.self.inside.cosine ((sines_small (c.self.inside.sine, c.self.inside.cosine) c.self.invariant).1)

pub rotated-x-requires-clause-sine : goal.rotated-x-requires-clause-sine
rotated-x-requires-clause-sine g c =
    let s = sines_small (c.self.inside.sine, c.self.inside.cosine) c.self.invariant in
    rw (widened_is c.self.inside.sine s.0) s.0

pub rotated-x-requires-clause-cosine : goal.rotated-x-requires-clause-cosine
rotated-x-requires-clause-cosine g c =
    let s = sines_small (c.self.inside.sine, c.self.inside.cosine) c.self.invariant in
    rw (widened_is c.self.inside.cosine s.1) s.1

pub rotated-x-requires-clause-x : goal.rotated-x-requires-clause-x
rotated-x-requires-clause-x g c =
    rw (to_z-of_z w128 c.widen.result (record { sfits = c.widen.type_inv }))
    (within_size (2 ^ 31) c.widen.result c.widen.ensures.small)

pub rotated-x-requires-clause-y : goal.rotated-x-requires-clause-y
rotated-x-requires-clause-y g c =
    rw (to_z-of_z w128 c.widen-2.result (record { sfits = c.widen-2.type_inv }))
    (within_size (2 ^ 31) c.widen-2.result c.widen-2.ensures.small)

pub from_parts-requires : goal.from_parts-requires
from_parts-requires g c =
    let d : IsShort g.I.IntNumber.unit c.args.direction = search rules in
    let s = sines_small (c.self.inside.sine, c.self.inside.cosine) c.self.invariant in
    let a = widened_is c.self.inside.sine s.0 in
    let b = widened_is c.self.inside.cosine s.1 in
    let x = to_z-of_z w128 c.widen.result (record { sfits = c.widen.type_inv }) ∙ c.widen.ensures.value ∙ c.x.ensures in
    let y = to_z-of_z w128 c.widen-2.result (record { sfits = c.widen-2.type_inv }) ∙ c.widen-2.ensures.value ∙ c.y.ensures in
    let e = c.rotated-x.ensures ∙ (λ i. rotated (a i, b i) (x i, y i)) in
    let l = rotated_length (c.self.inside.sine, c.self.inside.cosine) c.args.direction c.self.invariant in
    let k : IsShort g.I.IntNumber.unit c.rotated-x.result = rw e (omega (arith, l, d)) in
    subst (λ (n : Point). IsShort g.I.IntNumber.unit n) (sym (short_passed g.I.IntNumber.unit c.rotated-x.result g.met.I.IntNumber.most_law k)) k

pub returns-clause-value : goal.returns-clause-value
returns-clause-value g c =
    let d : IsShort g.I.IntNumber.unit c.args.direction = search rules in
    let s = sines_small (c.self.inside.sine, c.self.inside.cosine) c.self.invariant in
    let a = widened_is c.self.inside.sine s.0 in
    let b = widened_is c.self.inside.cosine s.1 in
    let x = to_z-of_z w128 c.widen.result (record { sfits = c.widen.type_inv }) ∙ c.widen.ensures.value ∙ c.x.ensures in
    let y = to_z-of_z w128 c.widen-2.result (record { sfits = c.widen-2.type_inv }) ∙ c.widen-2.ensures.value ∙ c.y.ensures in
    let e = c.rotated-x.ensures ∙ (λ i. rotated (a i, b i) (x i, y i)) in
    let l = rotated_length (c.self.inside.sine, c.self.inside.cosine) c.args.direction c.self.invariant in
    let k : IsShort g.I.IntNumber.unit c.rotated-x.result = rw e (omega (arith, l, d)) in
    c.from_parts.ensures ∙ short_passed g.I.IntNumber.unit c.rotated-x.result g.met.I.IntNumber.most_law k ∙ e
    ∙ (λ i. rotated (c.self.view_is i) c.args.direction)

pub returns-clause-no_longer : goal.returns-clause-no_longer
returns-clause-no_longer g c =
    let d : IsShort g.I.IntNumber.unit c.args.direction = search rules in
    let s = sines_small (c.self.inside.sine, c.self.inside.cosine) c.self.invariant in
    let a = widened_is c.self.inside.sine s.0 in
    let b = widened_is c.self.inside.cosine s.1 in
    let x = to_z-of_z w128 c.widen.result (record { sfits = c.widen.type_inv }) ∙ c.widen.ensures.value ∙ c.x.ensures in
    let y = to_z-of_z w128 c.widen-2.result (record { sfits = c.widen-2.type_inv }) ∙ c.widen-2.ensures.value ∙ c.y.ensures in
    let e = c.rotated-x.ensures ∙ (λ i. rotated (a i, b i) (x i, y i)) in
    let l = rotated_length (c.self.inside.sine, c.self.inside.cosine) c.args.direction c.self.invariant in
    let k : IsShort g.I.IntNumber.unit c.rotated-x.result = rw e (omega (arith, l, d)) in
    rw (c.from_parts.ensures ∙ short_passed g.I.IntNumber.unit c.rotated-x.result g.met.I.IntNumber.most_law k ∙ e) l
