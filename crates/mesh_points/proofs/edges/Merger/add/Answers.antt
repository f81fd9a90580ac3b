use Rattle.std.proofs.Common.{◌≡◌, ℕ, ◌-◌, ◌<◌, ◌≤◌, ◌^◌, List, [], ◌∷◌, ◌++◌, length, refl, sym, ap, subst, arith}
use Rattle.std.specs.Prelude.{unsigned_abs}
use Rattle.std.proofs.lemmas.List.{get_or_read_under}
use Rattle.mesh_points.specs.declared.edges.NumberedEdge.{NumberedEdge}
use Rattle.mesh_points.specs.Edges.{edge_at, no_edge, IsPlaceOf}
use Rattle.mesh_points.specs.Merged.{AreOf}
use Rattle.mesh_points.proofs.Counting.{sum_fits}
use Rattle.mesh_points.proofs.Merging.{added_raised, added_to, filed_raised, of_new, of_raised, put_filed, IsPutLast}
use Rattle.mesh_points.proofs.edges.Merger.add.Goals as goal

pub overflow_add-index_mut : goal.overflow_add-index_mut
overflow_add-index_mut c =
    let es : List NumberedEdge = c.args.self.now.list.items in
    let place : IsPlaceOf es c.args.e.from c.args.e.to c.in-Some.place = c.in-Some.ensures in
    let is : c.index_mut.result.now ≡ edge_at es c.in-Some.place = get_or_read_under es c.in-Some.place (length es) c.index_mut.result.now no_edge c.index_mut.ensures.value place.within refl in
    let least : unsigned_abs c.index_mut.result.now.count ≤ 2 ^ 31 - 2 = omega (arith, ap (λ (y : NumberedEdge). unsigned_abs y.count) is, c.requires.counts c.in-Some.place place.within) in
    sum_fits c.index_mut.result.now.count c.args.e.count least c.requires.one

pub returns-in-Some-clause-merged : goal.returns-in-Some-clause-merged
returns-in-Some-clause-merged c =
    let es : List NumberedEdge = c.args.self.now.list.items in
    let now : NumberedEdge = c.index_mut.result.now in
    let place : IsPlaceOf es c.args.e.from c.args.e.to c.in-Some.place = c.in-Some.ensures in
    let is : now ≡ edge_at es c.in-Some.place = get_or_read_under es c.in-Some.place (length es) now no_edge c.index_mut.ensures.value place.within refl in
    let least : unsigned_abs now.count ≤ 2 ^ 31 - 2 = omega (arith, ap (λ (y : NumberedEdge). unsigned_abs y.count) is, c.requires.counts c.in-Some.place place.within) in
    let raised = added_raised es c.args.e now c.in-Some.place is least c.requires.one in
    λ given g merged alike. (
      filed_raised es c.args.self.now.points c.args.self.now.last.items c.args.self.now.before.items c.args.e (added_to now c.args.e.count) c.in-Some.place place.within raised merged.0,
      of_raised given g es c.args.self.now.points c.args.e (added_to now c.args.e.count) c.in-Some.place merged.0.numbered c.requires.numbered place raised alike merged.1,
    )

pub returns-clause-merged : goal.returns-clause-merged
returns-clause-merged c =
    let es : List NumberedEdge = c.args.self.now.list.items in
    let last : List ℕ = c.args.self.now.last.items in
    let e : NumberedEdge = c.args.e in
    let within : e.from < length last = omega (arith, c.requires.merged.points, c.requires.numbered.from.within) in
    let put : IsPutLast es c.push.new.self.items c.args.self.now.before.items c.push-2.new.self.items last e c.index.result.now c.len-count.result =
    record {
      edges = c.in_ok-push.ensures.items;
      links = c.in_ok-push-2.ensures.items;
      is_link = get_or_read_under last e.from (length last) c.index.result.now 0 c.index.ensures within refl;
      count = omega (arith, c.len-count.ensures);
    }
    in
    λ given g merged alike. (
      put_filed es c.push.new.self.items c.args.self.now.points last c.args.self.now.before.items c.push-2.new.self.items e c.index.result.now c.len-count.result merged.0
          c.requires.numbered (omega (arith, c.requires.room)) put,
      subst (AreOf (given ++ g ∷ [])) (sym c.in_ok-push.ensures.items)
          (of_new given g es c.args.self.now.points e merged.0.distinct merged.0.numbered c.requires.numbered c.in_default.ensures alike merged.1),
    )
