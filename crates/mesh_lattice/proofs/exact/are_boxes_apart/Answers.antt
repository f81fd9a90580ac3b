use Rattle.std.proofs.Common.{rules}
use Rattle.std.proofs.lemmas.Int.{to_z-of_z}
use mir.Syntax.{w32}
use mir.Val.{SFits}
use Rattle.mesh_lattice.proofs.exact.are_boxes_apart.Goals as goal

pub returns-then-are_ranges_apart : goal.returns-then-are_ranges_apart
returns-then-are_ranges_apart c =
    let e = c.args.e in
    let f = c.args.f in
    let a : SFits w32 e.0.0 = search rules in
    let b : SFits w32 e.1.0 = search rules in
    let p : SFits w32 f.0.0 = search rules in
    let r : SFits w32 f.1.0 = search rules in
    let apart = simp (to_z-of_z w32 e.0.0 a, to_z-of_z w32 e.1.0 b, to_z-of_z w32 f.0.0 p, to_z-of_z w32 f.1.0 r) at c.are_ranges_apart.ensures in
    λ _ z x y. apart c.if-are_ranges_apart.true z.0 x.by_x y.by_x

pub returns : goal.returns
returns c =
    let e = c.args.e in
    let f = c.args.f in
    let a : SFits w32 e.0.1 = search rules in
    let b : SFits w32 e.1.1 = search rules in
    let p : SFits w32 f.0.1 = search rules in
    let r : SFits w32 f.1.1 = search rules in
    let apart = simp (to_z-of_z w32 e.0.1 a, to_z-of_z w32 e.1.1 b, to_z-of_z w32 f.0.1 p, to_z-of_z w32 f.1.1 r) at c.are_ranges_apart-2.ensures in
    λ t z x y. apart t z.1 x.by_y y.by_y
