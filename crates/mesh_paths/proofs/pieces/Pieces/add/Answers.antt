use Rattle.std.proofs.Common.{◌≡◌, ℕ, ◌+◌, ◌<◌, List, length, refl, arith}
use Rattle.std.proofs.lemmas.Int.{ints}
use Rattle.std.proofs.lemmas.List.{get_or_read_under}
use mir.Syntax.{w32}
use mir.Val.{SFits}
use Rattle.mesh_points.specs.declared.edges.NumberedEdge.{NumberedEdge}
use Rattle.mesh_points.specs.Edges.{edge_at, no_edge, IsPlaceOf}
use Rattle.mesh_points.proofs.Merging.{IsPutLast}
use Rattle.mesh_paths.proofs.Collecting.{merged_added, merged_put, raised_by, with_count}
use Rattle.mesh_paths.proofs.pieces.Pieces.add.Goals as goal

pub returns-in-Some : goal.returns-in-Some
returns-in-Some c =
    let es : List NumberedEdge = c.args.self.now.list.items in
    let k : ℕ = c.in-Some.place in
    let place : IsPlaceOf es c.args.e.from c.args.e.to k = c.in-Some.ensures in
    let was : c.index.result.now ≡ edge_at es k = get_or_read_under es k (length es) c.index.result.now no_edge c.index.ensures place.within refl in
    let is : c.index_mut.result.now ≡ edge_at es k = get_or_read_under es k (length es) c.index_mut.result.now no_edge c.index_mut.ensures.value place.within refl in
    let fits : SFits w32 c.index.result.now.count = omega (arith, ints) in
    let own : SFits w32 c.args.e.count = omega (arith, ints) in
    merged_added es c.args.self.now.last.items c.args.self.now.before.items c.args.e (with_count c.index_mut.result.now c.in-Some-checked_add.count) k place
    (raised_by es c.args.e c.index_mut.result.now c.index.result.now k c.in-Some-checked_add.count is was fits own c.in-Some-checked_add.ensures)

pub returns : goal.returns
returns c =
    let es : List NumberedEdge = c.args.self.now.list.items in
    let last : List ℕ = c.args.self.now.last.items in
    let put : IsPutLast es c.push.new.self.items c.args.self.now.before.items c.push-2.new.self.items last c.args.e c.index-2.result.now c.len-count.result = record {
      edges = c.in_ok-push.ensures.items;
      links = c.in_ok-push-2.ensures.items;
      is_link = get_or_read_under last c.args.e.from (length last) c.index-2.result.now 0 c.index-2.ensures c.requires.within refl;
      count = omega (arith, c.len-count.ensures);
    } in
    merged_put es c.push.new.self.items last c.args.self.now.before.items c.push-2.new.self.items c.args.e c.index-2.result.now c.len-count.result put
    (omega (arith, c.len-count.ensures, c.if-count-ge-MOST_PIECES.false)) c.in_default.ensures
