-- Each path so far is safe, and at the end each path.
use Rattle.std.proofs.Common.{◌≡◌, List, [], Some, sym, subst, rules, w64}
use Rattle.std.specs.List.{All}
use Rattle.std.specs.Prelude.{ℤ}
use Rattle.std.proofs.lemmas.Int.{to_z-of_z}
use mir.Val.{to_z, of_z}
use Rattle.mesh_num.specs.Paths.{paths_of}
use Rattle.mesh_num.specs.Rectangle.{IsSafeWidened}
use Rattle.mesh_below.proofs.Asking.{all_taken}
use Rattle.mesh_drawing.specs.Refusals.{IsFirstNot, IsFirstPlace}
use Rattle.mesh_drawing.proofs.Firsts.{first_found, not_all, one_more}
use Rattle.mesh_drawing.proofs.PathsServed.{path_count, path_here}
use Rattle.mesh_drawing.proofs.refusal.first_point.Goals as goal

pub loop-index-preserved : goal.loop-index-preserved
loop-index-preserved g c =
    let paths = c.args.paths.now in
    let item = c.index-paths-index.result in
    let IsSo = λ (p : g.row.P.Denot). IsSafeWidened g.I.IntNumber.unit (to_z w64 (of_z w64 c.args.padding)) (g.P.Placed.at p) in
    one_more (All IsSo) (paths_of paths) c.loop-index.index [] item.items
    (rw (path_count paths) c.loop-index-test.true) (path_here paths c.loop-index.index item c.loop-index-test.true c.index-paths-index.is) c.loop-index.invariant
    (subst (λ (xs : List g.row.P.Denot). All IsSo xs) c.deref.ensures.value c.in_default.ensures)

pub returns-in-Some : goal.returns-in-Some
returns-in-Some g c =
    let paths = c.args.paths.now in
    let item = c.index-paths-index.result in
    let IsSo = λ (p : g.row.P.Denot). IsSafeWidened g.I.IntNumber.unit (to_z w64 (of_z w64 c.args.padding)) (g.P.Placed.at p) in
    let here = path_here paths c.loop-index.index item c.loop-index-test.true c.index-paths-index.is in
    let passed : to_z w64 (of_z w64 c.args.padding) ≡ c.args.padding = to_z-of_z w64 c.args.padding (search rules) in
    let first = subst (λ (xs : List g.row.P.Denot). IsFirstNot IsSo xs c.in-Some.point) c.deref.ensures.value c.in-Some.ensures in
    subst (λ (z : ℤ). IsFirstPlace (λ (p : g.row.P.Denot). IsSafeWidened g.I.IntNumber.unit z (g.P.Placed.at p)) (paths_of paths) (Some (record { path = c.loop-index.index; point = c.in-Some.point }))) passed
    (record {
      path =
          first_found (All IsSo) (paths_of paths) c.loop-index.index [] item.items
          (rw (path_count paths) c.loop-index-test.true) here c.loop-index.invariant (not_all IsSo item.items c.in-Some.point first);
      point = subst (λ (xs : List g.row.P.Denot). IsFirstNot IsSo xs c.in-Some.point) (sym here) first;
    })

pub returns : goal.returns
returns g c =
    let IsSo = λ (p : g.row.P.Denot). IsSafeWidened g.I.IntNumber.unit (to_z w64 (of_z w64 c.args.padding)) (g.P.Placed.at p) in
    let passed : to_z w64 (of_z w64 c.args.padding) ≡ c.args.padding = to_z-of_z w64 c.args.padding (search rules) in
    subst (λ (z : ℤ). All (All (λ (p : g.row.P.Denot). IsSafeWidened g.I.IntNumber.unit z (g.P.Placed.at p))) (paths_of c.args.paths.now)) passed
    (all_taken (All IsSo) (paths_of c.args.paths.now) c.loop-index.index (rw (path_count c.args.paths.now) c.loop-index-test.false) c.loop-index.invariant)
