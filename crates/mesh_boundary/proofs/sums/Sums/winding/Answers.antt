use Rattle.std.proofs.Common.{rules, ◌≡◌, Option, ◌∙◌, ap, subst, arith}
use Rattle.std.specs.Prelude.{ℤ}
use Rattle.std.proofs.lemmas.Int.{ints}
use mir.Syntax.{w128}
use mir.Val.{to_z, of_z}
use Rattle.mesh_plane.specs.Plane.{Point}
use Rattle.mesh_lattice.specs.declared.rows.Rows.{Rows}
use Rattle.mesh_boundary.specs.Private.CountedSides.{counted_winding}
use Rattle.mesh_lattice.specs.Rows.{AreRows}
use Rattle.mesh_boundary.specs.Private.Sums.{MayHaveRows}
use Rattle.mesh_boundary.proofs.RowSums.{row_sum, row_size}
use Rattle.mesh_boundary.proofs.sums.Sums.winding.Goals as goal

-- src/sums.rt:54:23
pub winding-requires-in-Some : goal.winding-requires-in-Some
winding-requires-in-Some c =
    let rows : AreRows c.in-Some.rows.marks.items c.in-Some.rows.lists.items c.args.segments.now = subst (λ (o : Option (Rows ℤ)). MayHaveRows o c.args.segments.now) c.in-Some.is c.requires.rows in
    record {
      room = omega (arith, ints, row_size c.in-Some.rows.marks.items c.in-Some.rows.lists.items c.args.segments.now c.row.result.now c.doubled-q.result rows c.row.ensures, c.requires.room);
    }

-- src/sums.rt:54:13
pub returns-in-Some-clause-value : goal.returns-in-Some-clause-value
returns-in-Some-clause-value c =
    let ks = c.args.segments.now in
    let rows : AreRows c.in-Some.rows.marks.items c.in-Some.rows.lists.items ks = subst (λ (o : Option (Rows ℤ)). MayHaveRows o ks) c.in-Some.is c.requires.rows in
    let kept : to_z w128 (of_z w128 c.winding-in-Some.result) ≡ c.winding-in-Some.result = search rules in
    let sum = row_sum c.in-Some.rows.marks.items c.in-Some.rows.lists.items ks c.row.result.now c.doubled-q.result rows c.row.ensures in
    kept ∙ (c.winding-in-Some.ensures.value ∙ (sum ∙ ap (λ (q : Point). counted_winding q ks) c.doubled-q.ensures))

-- src/sums.rt:57:13
pub winding-sum-requires : goal.winding-sum-requires
winding-sum-requires c =
    record {
      room = omega (arith, ints, row_size c.in_ok-rows.rows.marks.items c.in_ok-rows.rows.lists.items c.args.segments.now c.row-2.result.now c.doubled-q.result c.in_ok-rows.ensures c.row-2.ensures, c.requires.room);
    }

-- src/sums.rt:37:5
pub returns-clause-value : goal.returns-clause-value
returns-clause-value c =
    let ks = c.args.segments.now in
    let kept : to_z w128 (of_z w128 c.winding-sum.result) ≡ c.winding-sum.result = search rules in
    let sum = row_sum c.in_ok-rows.rows.marks.items c.in_ok-rows.rows.lists.items ks c.row-2.result.now c.doubled-q.result c.in_ok-rows.ensures c.row-2.ensures in
    kept ∙ (c.winding-sum.ensures.value ∙ (sum ∙ ap (λ (q : Point). counted_winding q ks) c.doubled-q.ensures))
