use Rattle.std.proofs.Common.{rules, ◌≡◌, Some, set, sym, subst, arith}
use Rattle.std.specs.Prelude.{ℤ}
use mir.Syntax.{w32}
use mir.Val.{to_z, of_z}
use Rattle.mesh_boundary.specs.Private.Flood.{AreKnown}
use Rattle.mesh_boundary.proofs.Levels.{known_set}
use Rattle.mesh_boundary.proofs.flood.put.Goals as goal

pub returns-then-k-len : goal.returns-then-k-len
returns-then-k-len c = λ es ks right known.
    let items = c.args.known.now.items in
    let kept : to_z w32 (of_z w32 c.args.right) ≡ c.args.right = search rules in
    subst (λ (r : ℤ). AreKnown es ks (set items c.args.k (Some r))) (sym kept) (known_set es ks items c.args.k c.args.right (omega (arith, c.if-k-len.true, c.len.ensures)) right known)
