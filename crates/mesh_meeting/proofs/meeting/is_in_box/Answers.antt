use Rattle.std.proofs.Common.{rules}
use Rattle.std.proofs.lemmas.Int.{to_z-of_z}
use mir.Syntax.{w32}
use mir.Val.{SFits}
use Rattle.mesh_meeting.proofs.meeting.is_in_box.Goals as goal

pub returns : goal.returns
returns c =
    let e = c.args.e in
    let p = c.args.c in
    let a : SFits w32 e.0.0 = search rules in
    let b : SFits w32 p.0 = search rules in
    let d : SFits w32 e.1.0 = search rules in
    let f : SFits w32 e.0.1 = search rules in
    let g : SFits w32 p.1 = search rules in
    let h : SFits w32 e.1.1 = search rules in
    let x = simp (to_z-of_z w32 e.0.0 a, to_z-of_z w32 p.0 b, to_z-of_z w32 e.1.0 d) at c.is_between.ensures in
    let y = simp (to_z-of_z w32 e.0.1 f, to_z-of_z w32 p.1 g, to_z-of_z w32 e.1.1 h) at c.is_between-2.ensures in
    (λ t. record { by_x = x.0 c.if-not-is_between.false; by_y = y.0 t }, λ box. y.1 box.by_y)
