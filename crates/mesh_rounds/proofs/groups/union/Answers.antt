use Rattle.std.proofs.Common.{rules}
use Rattle.std.proofs.lemmas.Int.{to_z-of_z}
use mir.Syntax.{w32}
use mir.Val.{SFits}
use Rattle.mesh_rounds.proofs.Pairs.{wider_bounds}
use Rattle.mesh_rounds.proofs.groups.union.Goals as goal

pub returns-clause-first : goal.returns-clause-first
returns-clause-first c =
    let a = c.args.a in
    let b = c.args.b in
    let k : SFits w32 a.0.0 = search rules in
    let l : SFits w32 b.0.0 = search rules in
    let m : SFits w32 a.0.1 = search rules in
    let n : SFits w32 b.0.1 = search rules in
    let p : SFits w32 a.1.0 = search rules in
    let r : SFits w32 b.1.0 = search rules in
    let u : SFits w32 a.1.1 = search rules in
    let v : SFits w32 b.1.1 = search rules in
    let west = simp (to_z-of_z w32 a.0.0 k, to_z-of_z w32 b.0.0 l) at c.min.ensures in
    let south = simp (to_z-of_z w32 a.0.1 m, to_z-of_z w32 b.0.1 n) at c.min-2.ensures in
    let east = simp (to_z-of_z w32 a.1.0 p, to_z-of_z w32 b.1.0 r) at c.max.ensures in
    let north = simp (to_z-of_z w32 a.1.1 u, to_z-of_z w32 b.1.1 v) at c.max-2.ensures in
    rw (to_z-of_z w32 c.min.result (record { sfits = c.min.type_inv }), to_z-of_z w32 c.min-2.result (record { sfits = c.min-2.type_inv }), to_z-of_z w32 c.max.result (record { sfits = c.max.type_inv }), to_z-of_z w32 c.max-2.result (record { sfits = c.max-2.type_inv }))
    (λ e. wider_bounds a ((c.min.result, c.min-2.result), (c.max.result, c.max-2.result)) e west.self_bound south.self_bound east.self_bound north.self_bound)

pub returns-clause-second : goal.returns-clause-second
returns-clause-second c =
    let a = c.args.a in
    let b = c.args.b in
    let k : SFits w32 a.0.0 = search rules in
    let l : SFits w32 b.0.0 = search rules in
    let m : SFits w32 a.0.1 = search rules in
    let n : SFits w32 b.0.1 = search rules in
    let p : SFits w32 a.1.0 = search rules in
    let r : SFits w32 b.1.0 = search rules in
    let u : SFits w32 a.1.1 = search rules in
    let v : SFits w32 b.1.1 = search rules in
    let west = simp (to_z-of_z w32 a.0.0 k, to_z-of_z w32 b.0.0 l) at c.min.ensures in
    let south = simp (to_z-of_z w32 a.0.1 m, to_z-of_z w32 b.0.1 n) at c.min-2.ensures in
    let east = simp (to_z-of_z w32 a.1.0 p, to_z-of_z w32 b.1.0 r) at c.max.ensures in
    let north = simp (to_z-of_z w32 a.1.1 u, to_z-of_z w32 b.1.1 v) at c.max-2.ensures in
    rw (to_z-of_z w32 c.min.result (record { sfits = c.min.type_inv }), to_z-of_z w32 c.min-2.result (record { sfits = c.min-2.type_inv }), to_z-of_z w32 c.max.result (record { sfits = c.max.type_inv }), to_z-of_z w32 c.max-2.result (record { sfits = c.max-2.type_inv }))
    (λ e. wider_bounds b ((c.min.result, c.min-2.result), (c.max.result, c.max-2.result)) e west.other_bound south.other_bound east.other_bound north.other_bound)
