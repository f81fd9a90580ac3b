use Rattle.std.proofs.Common.{rules, ℕ, ◌+◌, ◌^◌, ◌<◌, ◌≤◌, lit≤, not, List, ◌∷◌, length, drop, get_or, sym, ◌∙◌, ap, subst, arith}
use Rattle.std.specs.Prelude.{ℤ, pos, unsigned_abs}
use Rattle.std.specs.Ordering.{int_eq}
use Rattle.std.proofs.lemmas.List.{length-map}
use Rattle.mesh_shapes.specs.Contours.{double_area}
use Rattle.mesh_shapes.specs.Resolution.{Ring}
use Rattle.mesh_shapes.specs.Private.Holders.{PlacedEdge, Rise, IsSearch}
use Rattle.mesh_shapes.proofs.AreaSums.{fits_long, some_elements}
use Rattle.mesh_shapes.proofs.HolderSearch.{search_none, search_end, rise_first, next_edge, past_edges}
use Rattle.mesh_shapes.proofs.holders.holder.Goals as goal

pub loop-e-init : goal.loop-e-init
loop-e-init c =
    let row = c.args.row.now in
    let end = length c.args.areas.now in
    let first = rise_first 0 end row (((pos 0, pos 0), (pos 0, pos 0)), 0) (some_elements row (sym c.is_empty.ensures ∙ c.if-is_empty.false)) c.requires in
    record {
      search = λ rs known row_of.
          (let same = ap length known in
          search_none rs c.args.q row (get_or row 0 (((pos 0, pos 0), (pos 0, pos 0)), 0)).1 end (omega (arith, same, length-map rs (λ (r : Ring). double_area r.0))) first.1 first.0 row_of);
      rise = first.1;
      in_range = first.0;
      known = λ x e. cc;
      size = omega arith;
    }

pub loop-e-preserved : goal.loop-e-preserved
loop-e-preserved c =
    let row = c.args.row.now in
    let i = c.loop-e.e-index in
    let s = c.loop-e.search in
    let end = length c.args.areas.now in
    let d : PlacedEdge = (((pos 0, pos 0), (pos 0, pos 0)), 0) in
    let split = next_edge row i d c.loop-e-test.true in
    let rise : Rise s.place end (get_or row i d ∷ drop (i + 1) row) = subst (λ (l : List PlacedEdge). Rise s.place end l) split c.loop-e.invariant.rise in
    record {
      search = λ rs known row_of.
          c.met-search.ensures.search rs row (drop (i + 1) row) known row_of rise
          (subst (λ (l : List PlacedEdge). IsSearch rs c.args.q row l s) split (c.loop-e.invariant.search rs known row_of));
      rise = subst (λ (n : ℕ). Rise n end (drop (i + 1) row)) (sym c.met-search.ensures.place) rise.1.1;
      in_range = omega (arith, rise.1.0, c.met-search.ensures.place);
      known = c.met-search.ensures.within;
      size = omega (arith, c.met-search.ensures.size, c.loop-e.invariant.size);
    }

pub returns : goal.returns
returns c =
    let row = c.args.row.now in
    let s = c.loop-e.search in
    let n : length row < 2 ^ 64 = search rules in
    let small : unsigned_abs s.winding ≤ 2 ^ 64 = omega (arith, c.loop-e.invariant.size, c.loop-e.auto.e-index-end) in
    let own = fits_long s.winding (2 ^ 64) small (lit≤ tt) in
    λ rs known row_of.
    (let same = ap length known in
    search_end rs c.args.q row s c.better_holder.result (omega (arith, same, length-map rs (λ (r : Ring). double_area r.0), c.loop-e.invariant.in_range)) row_of
    (λ round found. c.better_holder.ensures.found rs c.args.q known (round ∙ ap (λ (z : ℤ). not (int_eq z (pos 0))) (sym own.kept)) found)
    (subst (λ (l : List PlacedEdge). IsSearch rs c.args.q row l s) (past_edges row c.loop-e.e-index (omega (arith, c.loop-e-test.false))) (c.loop-e.invariant.search rs known row_of)))
