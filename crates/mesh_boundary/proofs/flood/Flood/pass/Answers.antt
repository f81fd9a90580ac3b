use Rattle.std.proofs.Common.{rules, ◌≡◌, sym, ◌∙◌, subst}
use mir.Syntax.{w128}
use mir.Val.{to_z, of_z}
use Rattle.mesh_boundary.specs.Private.Flood.{AreKnown, IsRight}
use Rattle.mesh_boundary.specs.Private.Stars.{segment}
use Rattle.mesh_boundary.proofs.flood.Flood.pass.Goals as goal

pub returns : goal.returns
returns c = λ es counts next known.
    let ks = c.args.segments.now in
    let first : IsRight es (segment ks c.args.x.0).0 c.in-Some.known = c.in-Some.ensures es ks (subst (AreKnown es ks) (sym c.deref.ensures.value) known) in
    let first_kept : to_z w128 (of_z w128 c.in-Some.known) ≡ c.in-Some.known = search rules in
    let right : IsRight es (segment ks c.args.y.0).0 c.in-Some-right_past.right = c.in-Some-right_past.ensures es counts next (first_kept ∙ first) in
    let kept : to_z w128 (of_z w128 c.in-Some-right_past.right) ≡ c.in-Some-right_past.right = search rules in
    subst (AreKnown es ks) (sym c.go_on.ensures) (c.note.ensures es ks (kept ∙ right) known)
