use Rattle.std.proofs.Common.{◌++◌, ◌∷◌, [], length, map, length-append, take_all, sym, ◌∙◌, ap, arith}
use Rattle.std.specs.Prelude.{pos}
use Rattle.std.proofs.lemmas.List.{map_more}
use Rattle.mesh_lattice.specs.Counted.{Counted}
use Rattle.mesh_boundary.specs.Private.Stars.{ends_at, ArePlaces}
use Rattle.mesh_boundary.proofs.stars.all_ends.Goals as goal

pub number_of-requires-in-loop-s-clause-first : goal.number_of-requires-in-loop-s-clause-first
number_of-requires-in-loop-s-clause-first c = c.in_ok-start.ensures.kept _ _ c.loop-s.invariant.first

pub number_of-requires-in-loop-s-clause-second : goal.number_of-requires-in-loop-s-clause-second
number_of-requires-in-loop-s-clause-second c = c.in_ok-start.ensures.kept _ _ c.loop-s.invariant.second

pub loop-s-preserved : goal.loop-s-preserved
loop-s-preserved c = record {
  distinct = c.in_ok-end.ensures.distinct;
  first = c.in_ok-end.ensures.kept _ _ c.in_ok-start.ensures.number;
  second = c.in_ok-end.ensures.number;
  count = omega (arith, ap length c.in_ok-push.ensures.items, length-append c.loop-s.ends.items ((c.in_ok-start.start, c.in_ok-end.end) ∷ []), c.loop-s.invariant.count);
  places = λ at are.
      let ks = c.args.segments.now in
      let mid : ArePlaces at c.number_of.new.points = λ q k h. are q k (c.in_ok-end.ensures.kept q k h) in
      let first : ArePlaces at c.loop-s.points = λ q k h. mid q k (c.in_ok-start.ensures.kept q k h) in
      c.in_ok-push.ensures.items
      ∙ ((λ i. c.loop-s.invariant.places at first i ++ (sym (mid _ _ c.in_ok-start.ensures.number) i, sym (are _ _ c.in_ok-end.ensures.number) i) ∷ [])
      ∙ sym (map_more (λ (k : Counted). ends_at at k.0) ks c.loop-s.s-index (((pos 0, pos 0), (pos 0, pos 0)), pos 0) c.loop-s-test.true));
}

pub returns-clause-places : goal.returns-clause-places
returns-clause-places c = λ at are.
    c.loop-s.invariant.places at are
    ∙ ap (map (λ (k : Counted). ends_at at k.0)) (take_all c.loop-s.s-index c.args.segments.now (omega (arith, c.loop-s-test.false)))
