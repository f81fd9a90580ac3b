use Rattle.std.proofs.Common.{rules}
use Rattle.std.proofs.lemmas.Int.{to_z-of_z}
use mir.Syntax.{w32}
use mir.Val.{SFits}
use Rattle.mesh_pairs.proofs.boxes.Bounds.holds.Goals as goal

pub returns : goal.returns
returns c =
    let s = c.args.self in
    let p = c.args.p in
    let a : SFits w32 s.west = search rules in
    let b : SFits w32 s.east = search rules in
    let d : SFits w32 s.south = search rules in
    let e : SFits w32 s.north = search rules in
    let f : SFits w32 p.0 = search rules in
    let g : SFits w32 p.1 = search rules in
    let x = simp (to_z-of_z w32 s.west a, to_z-of_z w32 p.0 f, to_z-of_z w32 s.east b) at c.is_in_range.ensures in
    let y = simp (to_z-of_z w32 s.south d, to_z-of_z w32 p.1 g, to_z-of_z w32 s.north e) at c.is_in_range-2.ensures in (
      λ t.
          let u = x.0 c.if-not-is_in_range.false in
          let v = y.0 t in
          record { west = u.0; east = u.1; south = v.0; north = v.1 },
      λ h. y.1 (h.south, h.north),
    )
