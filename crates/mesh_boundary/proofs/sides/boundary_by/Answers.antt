use Rattle.std.proofs.Common.{◌≡◌, ◌∙◌, ap, sym, subst, arith, take, List, take_all}
use Rattle.std.specs.Prelude.{pos}
use Rattle.std.specs.List.{flat_map}
use Rattle.mesh_plane.specs.Plane.{Edge}
use Rattle.mesh_lattice.specs.Boundary.{IsBoundary}
use Rattle.mesh_lattice.specs.Counted.{Counted}
use Rattle.mesh_lattice.specs.FillRules.{filled_by}
use Rattle.mesh_boundary.proofs.BoundaryCounted.{emitted, emitted_more, counted_boundary}
use Rattle.mesh_boundary.proofs.sides.boundary_by.Goals as goal

pub loop-i-preserved : goal.loop-i-preserved
loop-i-preserved c = λ es is split.
    let d : Counted = (((pos 0, pos 0), (pos 0, pos 0)), pos 0) in
    emitted_more (filled_by c.args.fill) c.args.segments.now c.loop-i.i d c.loop-i.edges.items c.push_edge.new.edges.items c.sides-sides.result c.loop-i-test.true
    (c.loop-i.invariant es is split) (c.sides-sides.ensures es is split d) c.in_ok-push_edge.ensures

pub returns : goal.returns
returns c = λ es is split.
    let xs = c.args.segments.now in
    let whole : take c.loop-i.i xs ≡ xs = take_all c.loop-i.i xs (omega (arith, c.loop-i-test.false)) in
    subst (λ (l : List Edge). IsBoundary es (filled_by c.args.fill) l)
    (sym (c.loop-i.invariant es is split ∙ ap (λ (ks : List Counted). flat_map (emitted (filled_by c.args.fill) xs) ks) whole))
    (counted_boundary es xs (filled_by c.args.fill) is split.proper)
