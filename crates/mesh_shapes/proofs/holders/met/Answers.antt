use Rattle.std.proofs.Common.{◌+◌, ◌^◌, not, length, sym, ◌∙◌, ap, lit≤, arith}
use Rattle.std.specs.Prelude.{ℤ, pos, ◌+ℤ◌}
use Rattle.std.specs.Ordering.{int_eq}
use Rattle.std.proofs.lemmas.List.{length-map}
use mir.Syntax.{w128}
use mir.Val.{to_z, of_z}
use Rattle.mesh_plane.specs.Winding.{crossing}
use Rattle.mesh_shapes.specs.Contours.{double_area}
use Rattle.mesh_shapes.specs.Resolution.{Ring}
use Rattle.mesh_shapes.proofs.AreaSums.{one_size, fits_long, added_of}
use Rattle.mesh_shapes.proofs.HolderSearch.{search_same, search_next}
use Rattle.mesh_shapes.proofs.holders.met.Goals as goal

pub returns-then-e-search-clause-search : goal.returns-then-e-search-clause-search
returns-then-e-search-clause-search c =
    let s = c.args.search in
    let b = c.crossing-c.result in
    let own = fits_long s.winding (2 ^ 64) c.requires.room (lit≤ tt) in
    let sum = added_of s.winding b (2 ^ 64) 1 (2 ^ 64 + 1) c.requires.room (one_size b c.crossing-c.ensures.size) (lit≤ tt) (lit≤ tt) (lit≤ tt) in
    let value = c.crossing-c.ensures.value ∙ λ i. crossing c.args.q (c.doubled.ensures i) (c.doubled-2.ensures i) in
    λ rs row rest known row_of rise known_so_far.
    search_same rs c.args.q row rest c.args.e s _ c.if-e-search.true
    ((λ i. to_z w128 (of_z w128 (own.kept i +ℤ to_z w128 (of_z w128 b)))) ∙ (sum.same ∙ ap (λ (z : ℤ). s.winding +ℤ z) value)) known_so_far

pub returns-clause-search : goal.returns-clause-search
returns-clause-search c =
    let s = c.args.search in
    let b = c.crossing-c.result in
    let own = fits_long s.winding (2 ^ 64) c.requires.room (lit≤ tt) in
    let one = fits_long b 1 (one_size b c.crossing-c.ensures.size) (lit≤ tt) in
    let value = c.crossing-c.ensures.value ∙ λ i. crossing c.args.q (c.doubled.ensures i) (c.doubled-2.ensures i) in
    λ rs row rest known row_of rise known_so_far.
    search_next rs c.args.q row rest c.args.e s c.better_holder.result (to_z w128 (of_z w128 b)) (length c.args.areas.now)
    (let same = ap length known in omega (arith, same, length-map rs (λ (r : Ring). double_area r.0)))
    c.requires.in_range rise c.if-e-search.false row_of (one.kept ∙ value)
    (λ round found. c.better_holder.ensures.found rs c.args.q known (round ∙ ap (λ (z : ℤ). not (int_eq z (pos 0))) (sym own.kept)) found)
    known_so_far
