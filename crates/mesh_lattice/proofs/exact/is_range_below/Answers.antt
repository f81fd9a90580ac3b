-- By the greater end of the one and the lesser of the other.
use Rattle.std.proofs.Common.{◌∙◌, sym}
use Rattle.std.specs.Int.{int_min, int_max}
use Rattle.std.proofs.lemmas.Int.{to_z-of_z}
use lib.Signed.{lt_z}
use mir.Syntax.{w32}
use Rattle.mesh_lattice.proofs.Arithmetic.{below_apart}
use Rattle.mesh_lattice.proofs.exact.is_range_below.Goals as goal

pub returns : goal.returns
returns c t z =
    let a = to_z-of_z w32 c.args.a c.ranges.a in
    let b = to_z-of_z w32 c.args.b c.ranges.b in
    let p = to_z-of_z w32 c.args.p c.ranges.p in
    let r = to_z-of_z w32 c.args.r c.ranges.r in
    let most = to_z-of_z w32 c.max.result (record { sfits = c.max.type_inv }) ∙ c.max.ensures.value ∙ (λ i. int_max (a i) (b i)) in
    let least = to_z-of_z w32 c.min.result (record { sfits = c.min.type_inv }) ∙ c.min.ensures.value ∙ (λ i. int_min (p i) (r i)) in
    below_apart c.args.a c.args.b c.args.p c.args.r z (sym (λ i. lt_z (most i) (least i)) ∙ t)
