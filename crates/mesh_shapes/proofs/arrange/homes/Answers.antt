use Rattle.std.proofs.Common.{◌≡◌, ℕ, ◌<◌, false, List, length, get_or, sym, ◌∙◌, ap, subst, arith}
use Rattle.std.specs.Prelude.{ℤ, pos, int_lt}
use Rattle.std.proofs.lemmas.List.{length-map}
use Rattle.mesh_lattice.specs.Rows.{AreRows}
use Rattle.mesh_shapes.specs.Contours.{double_area}
use Rattle.mesh_shapes.specs.Resolution.{Ring}
use Rattle.mesh_shapes.specs.Vectors.{ring_of_vec, rings_of_vecs}
use Rattle.mesh_shapes.specs.Homes.{IsHome}
use Rattle.mesh_shapes.specs.Private.Grouping.{areas_of}
use Rattle.mesh_shapes.specs.Private.Holders.{PlacedEdge}
use Rattle.mesh_shapes.proofs.Shapes.{known_more}
use Rattle.mesh_shapes.proofs.arrange.homes.Goals as goal

pub home-requires-clause-rows_known : goal.home-requires-clause-rows_known
home-requires-clause-rows_known c = λ flat.
    let rs = rings_of_vecs c.args.rings.now in
    let i = c.loop-i.i in
    let areas_are : length c.deref.result.now ≡ length (areas_of rs) = ap length (c.deref.ensures.value ∙ c.in_ok-areas.ensures) in
    let low : i < length c.deref.result.now =
    omega (arith, areas_are, length-map rs (λ (r : Ring). double_area r.0), length-map c.args.rings.now ring_of_vec, c.loop-i-test.true) in
    let same : c.deref-in-loop-i.result.now ≡ c.deref.result.now = c.deref-in-loop-i.ensures.value ∙ sym c.deref.ensures.value in
    let hole = subst (λ (l : List ℤ). int_lt (pos 0) (get_or l i (pos 0)) ≡ false) same flat in
    subst (λ (es : List PlacedEdge). AreRows c.in_ok-rows.rows.marks.items c.in_ok-rows.rows.lists.items es)
    (c.in_ok-edges.ensures i low hole) c.in_ok-rows.ensures

pub loop-i-preserved : goal.loop-i-preserved
loop-i-preserved c =
    let home : ℕ → ℕ → Type 0 = λ j n. IsHome (rings_of_vecs c.args.rings.now) j n in
    let place : ℕ → ℕ → Type 0 = λ j n. n < length c.args.rings.now in
    let homes = known_more home c.loop-i.i c.home.result c.loop-i.homes.items c.push.new.self.items c.loop-i.invariant.len c.loop-i.invariant.homes c.home.ensures.home c.in_ok-push.ensures.items in
    let within = known_more place c.loop-i.i c.home.result c.loop-i.homes.items c.push.new.self.items c.loop-i.invariant.len c.loop-i.invariant.within c.home.ensures.within c.in_ok-push.ensures.items in
    record { len = homes.len; homes = homes.holds; within = within.holds }
