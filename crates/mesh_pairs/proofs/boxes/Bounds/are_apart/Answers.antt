use Rattle.std.proofs.Common.{rules}
use Rattle.std.proofs.lemmas.Int.{to_z-of_z}
use mir.Syntax.{w32}
use mir.Val.{SFits}
use Rattle.mesh_pairs.proofs.Rectangles.{apart_decides}
use Rattle.mesh_pairs.proofs.boxes.Bounds.are_apart.Goals as goal

pub returns : goal.returns
returns c =
    let s = c.args.self in
    let o = c.args.other in
    let a : SFits w32 s.west = search rules in
    let b : SFits w32 s.east = search rules in
    let d : SFits w32 s.south = search rules in
    let e : SFits w32 s.north = search rules in
    let f : SFits w32 o.west = search rules in
    let g : SFits w32 o.east = search rules in
    let h : SFits w32 o.south = search rules in
    let k : SFits w32 o.north = search rules in
    simp (to_z-of_z w32 s.west a, to_z-of_z w32 s.east b, to_z-of_z w32 s.south d, to_z-of_z w32 s.north e, to_z-of_z w32 o.west f, to_z-of_z w32 o.east g, to_z-of_z w32 o.south h, to_z-of_z w32 o.north k)
    (apart_decides s o)
