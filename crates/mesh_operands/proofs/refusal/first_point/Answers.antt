-- Each contour so far is safe, and at the end each contour.
use Rattle.std.proofs.Common.{List, [], sym, subst}
use Rattle.std.specs.List.{All}
use Rattle.mesh_plane.specs.Bounds.{IsSafe}
use Rattle.mesh_plane.specs.Plane.{Point}
use Rattle.mesh_num.specs.Paths.{paths_of}
use Rattle.mesh_below.proofs.Asking.{all_taken}
use Rattle.mesh_drawing.specs.Refusals.{IsFirstNot}
use Rattle.mesh_drawing.proofs.Firsts.{first_found, not_all, one_more}
use Rattle.mesh_drawing.proofs.PathsServed.{path_count, path_here}
use Rattle.mesh_operands.proofs.refusal.first_point.Goals as goal

pub loop-index-preserved : goal.loop-index-preserved
loop-index-preserved g c =
    let paths = c.args.paths.now in
    let item = c.index-paths-index.result in
    let IsSo = IsSafe g.I.IntNumber.unit in
    one_more (All IsSo) (paths_of paths) c.loop-index.index [] item.items
    (rw (path_count paths) c.loop-index-test.true) (path_here paths c.loop-index.index item c.loop-index-test.true c.index-paths-index.is) c.loop-index.invariant
    (subst (λ (xs : List Point). All IsSo xs) c.deref.ensures.value c.in_default.ensures)

pub returns-in-Some : goal.returns-in-Some
returns-in-Some g c =
    let paths = c.args.paths.now in
    let item = c.index-paths-index.result in
    let IsSo = IsSafe g.I.IntNumber.unit in
    let here = path_here paths c.loop-index.index item c.loop-index-test.true c.index-paths-index.is in
    let first = subst (λ (xs : List Point). IsFirstNot IsSo xs c.in-Some.point) c.deref.ensures.value c.in-Some.ensures in
    record {
      path =
          first_found (All IsSo) (paths_of paths) c.loop-index.index [] item.items
          (rw (path_count paths) c.loop-index-test.true) here c.loop-index.invariant (not_all IsSo item.items c.in-Some.point first);
      point = subst (λ (xs : List Point). IsFirstNot IsSo xs c.in-Some.point) (sym here) first;
    }

pub returns : goal.returns
returns g c =
    all_taken (All (IsSafe g.I.IntNumber.unit)) (paths_of c.args.paths.now) c.loop-index.index (rw (path_count c.args.paths.now) c.loop-index-test.false) c.loop-index.invariant
