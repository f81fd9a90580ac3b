-- The paths' limit, and what is told of it.
use Rattle.std.proofs.Common.{◌≡◌, ◌+◌, ◌^◌, ◌<◌, ◌≤◌, List, [], Option, take, get_or, length, arith, sym, subst, take_all, rules}
use Rattle.std.specs.Prelude.{ℤ}
use Rattle.std.proofs.lemmas.List.{take_more}
use Rattle.mesh_plane.specs.Plane.{Point}
use Rattle.mesh_stroke.specs.Styles.{stroke_style_of}
use Rattle.mesh_inner.specs.Private.Limits.{IsLimitOfAll, IsPathLimit}
use Rattle.mesh_inner.proofs.Told.{limit_of_none, limit_of_more, told_is, told_holds, can_be_told, cannot_be_told}
use Rattle.mesh_inner.proofs.reach.inner_reach.Goals as goal

pub returns-then-not-can_be_told-clause-told : goal.returns-then-not-can_be_told-clause-told
returns-then-not-can_be_told-clause-told g c =
    cannot_be_told g.I.IntNumber.unit (stroke_style_of g.I.IntNumber.value c.args.style.now) c.args.closed (g.S.IntShapeResource.paths c.args.paths.now)
    (g.I.IntNumber.value c.stroke_radius-radius.result) c.can_be_told.result c.stroke_radius-radius.ensures.value c.can_be_told.ensures.1 (search rules)

pub loop-index-init : goal.loop-index-init
loop-index-init g c = limit_of_none g.I.IntNumber.unit (stroke_style_of g.I.IntNumber.value c.args.style.now) c.args.closed

pub loop-index-preserved : goal.loop-index-preserved
loop-index-preserved g c =
    let unit = g.I.IntNumber.unit in
    let style = stroke_style_of g.I.IntNumber.value c.args.style.now in
    let paths = g.S.IntShapeResource.paths c.args.paths.now in
    let i = c.loop-index.index in
    let low : i < length paths = omega (arith, c.loop-index-test.true, c.path_count-index-end.ensures) in
    subst (λ (o : Option ℤ). IsLimitOfAll unit style c.args.closed (take (i + 1) paths) o) (sym c.lesser-least.ensures)
    (limit_of_more unit style c.args.closed (take i paths) (take (i + 1) paths) (get_or paths i []) c.loop-index.least c.in_ok-limit.limit
    (take_more paths i [] low) c.loop-index.invariant
    (subst (λ (p : List Point). IsPathLimit unit style c.args.closed p c.in_ok-limit.limit) c.path_at.ensures c.in_ok-limit.ensures))

pub returns-clause-told : goal.returns-clause-told
returns-clause-told g c =
    let unit = g.I.IntNumber.unit in
    let style = stroke_style_of g.I.IntNumber.value c.args.style.now in
    let paths = g.S.IntShapeResource.paths c.args.paths.now in
    let all : take c.loop-index.index paths ≡ paths =
    take_all c.loop-index.index paths (omega (arith, c.loop-index-test.false, c.path_count-index-end.ensures)) in
    let can = can_be_told unit style (g.I.IntNumber.value c.stroke_radius-radius.result) c.stroke_radius-radius.ensures.value (c.can_be_told.ensures.0 (search rules)) in
    told_is unit style c.args.closed paths c.loop-index.least c.reach_of.result can
    (subst (λ (l : List (List Point)). IsLimitOfAll unit style c.args.closed l c.loop-index.least) all c.loop-index.invariant) c.reach_of.ensures

pub returns-clause-holds : goal.returns-clause-holds
returns-clause-holds g c =
    let unit = g.I.IntNumber.unit in
    let style = stroke_style_of g.I.IntNumber.value c.args.style.now in
    let paths = g.S.IntShapeResource.paths c.args.paths.now in
    let all : take c.loop-index.index paths ≡ paths =
    take_all c.loop-index.index paths (omega (arith, c.loop-index-test.false, c.path_count-index-end.ensures)) in
    let can = can_be_told unit style (g.I.IntNumber.value c.stroke_radius-radius.result) c.stroke_radius-radius.ensures.value (c.can_be_told.ensures.0 (search rules)) in
    let least : 2 ^ 14 ≤ unit = g.met.I.IntNumber.least_law in
    told_holds unit style c.args.closed paths c.reach_of.result (omega (arith, least))
    (told_is unit style c.args.closed paths c.loop-index.least c.reach_of.result can
    (subst (λ (l : List (List Point)). IsLimitOfAll unit style c.args.closed l c.loop-index.least) all c.loop-index.invariant) c.reach_of.ensures)
