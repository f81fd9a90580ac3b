-- A path's limit is that of its sections, joins and caps.
use Rattle.std.proofs.Common.{◌≡◌, ◌∷◌, ◌∙◌, ◌^◌, ◌≤◌, sym, subst, refl, arith, List, rules}
use Rattle.std.specs.Prelude.{ℤ, pos, ◌*◌, ◌≤ℤ◌, ◌<ℤ◌, unsigned_abs}
use Rattle.std.specs.List.{All}
use Rattle.std.proofs.lemmas.Int.{to_z-of_z}
use mir.Syntax.{w128}
use mir.Val.{to_z, of_z}
use Rattle.mesh_plane.specs.Plane.{Edge}
use Rattle.mesh_stroke.specs.Paths.{neighbours, path_edges}
use Rattle.mesh_stroke.specs.Styles.{stroke_style_of}
use Rattle.mesh_inner.specs.Inner.{HasJoinRoom, HaveEndsRoom, HasInnerReach}
use Rattle.mesh_inner.specs.Private.Walks.{AreStrokable, IsLimit}
use Rattle.mesh_inner.proofs.Reaches.{none_of_length, first_fits, others_fit, sections_all, reach_limit}
use Rattle.mesh_inner.proofs.Told.{reach_fits}
use Rattle.mesh_inner.proofs.reach.path_limit.Goals as goal

pub sections_limit-sections-requires-clause-first : goal.sections_limit-sections-requires-clause-first
sections_limit-sections-requires-clause-first g c =
    let edges : path_edges c.args.closed c.args.path.now ≡ c.in-Some.first.now ∷ c.in-Some.others.now =
    sym c.in_ok-edges.ensures ∙ (sym c.deref.ensures.value ∙ search rules) in
    let fit : AreStrokable g.I.IntNumber.unit (stroke_style_of g.I.IntNumber.value c.args.style.now) c.args.closed (path_edges c.args.closed c.args.path.now) =
    record { points = c.args.path.now; safe = c.requires.safe; edges = refl } in
    first_fits g.I.IntNumber.unit (stroke_style_of g.I.IntNumber.value c.args.style.now) c.args.closed (path_edges c.args.closed c.args.path.now) c.in-Some.first.now c.in-Some.others.now (g.I.IntNumber.value c.stroke_radius-radius.result) fit edges c.stroke_radius-radius.ensures.value

pub sections_limit-sections-requires-clause-others : goal.sections_limit-sections-requires-clause-others
sections_limit-sections-requires-clause-others g c =
    let edges : path_edges c.args.closed c.args.path.now ≡ c.in-Some.first.now ∷ c.in-Some.others.now =
    sym c.in_ok-edges.ensures ∙ (sym c.deref.ensures.value ∙ search rules) in
    let fit : AreStrokable g.I.IntNumber.unit (stroke_style_of g.I.IntNumber.value c.args.style.now) c.args.closed (path_edges c.args.closed c.args.path.now) =
    record { points = c.args.path.now; safe = c.requires.safe; edges = refl } in
    others_fit g.I.IntNumber.unit (stroke_style_of g.I.IntNumber.value c.args.style.now) c.args.closed (path_edges c.args.closed c.args.path.now) c.in-Some.first.now c.in-Some.others.now (g.I.IntNumber.value c.stroke_radius-radius.result) fit edges c.stroke_radius-radius.ensures.value

pub sections_limit-sections-requires-clause-small : goal.sections_limit-sections-requires-clause-small
sections_limit-sections-requires-clause-small g c =
    subst (λ (r : ℤ). 4 * unsigned_abs r ≤ g.I.IntNumber.unit) (sym c.stroke_radius-radius.ensures.value) c.requires.can.small

pub with_joins-requires : goal.with_joins-requires
with_joins-requires g c =
    record { points = c.args.path.now; safe = c.requires.safe; edges = sym c.in_ok-edges.ensures ∙ search rules }

pub with_ends-requires-clause-path : goal.with_ends-requires-clause-path
with_ends-requires-clause-path g c =
    record { points = c.args.path.now; safe = c.requires.safe; edges = sym c.in_ok-edges.ensures ∙ search rules }

pub with_ends-requires-clause-both : goal.with_ends-requires-clause-both
with_ends-requires-clause-both g c = c.requires.can.both

pub returns-in_default : goal.returns-in_default
returns-in_default g c = sym c.in_ok-edges.ensures ∙ (sym c.deref.ensures.value ∙ none_of_length c.deref.result.now (search rules))

pub returns : goal.returns
returns g c =
    let edges : path_edges c.args.closed c.args.path.now ≡ c.in-Some.first.now ∷ c.in-Some.others.now =
    sym c.in_ok-edges.ensures ∙ (sym c.deref.ensures.value ∙ search rules) in
    let kept_sections = to_z-of_z w128 c.sections_limit-sections.result (record { sfits = c.sections_limit-sections.type_inv }) in
    let kept_joins : to_z w128 (of_z w128 c.in_ok-joins.joins) ≡ c.in_ok-joins.joins = search rules in
    let kept : to_z w128 (of_z w128 c.in_ok-all.all) ≡ c.in_ok-all.all = search rules in
    let joins : IsLimit c.in_ok-joins.joins (λ t. (pos t ≤ℤ c.sections_limit-sections.result) × All (HasJoinRoom g.I.IntNumber.unit (stroke_style_of g.I.IntNumber.value c.args.style.now) t) (neighbours c.args.closed (path_edges c.args.closed c.args.path.now))) =
    subst (λ (z : ℤ). IsLimit c.in_ok-joins.joins (λ t. (pos t ≤ℤ z) × All (HasJoinRoom g.I.IntNumber.unit (stroke_style_of g.I.IntNumber.value c.args.style.now) t) (neighbours c.args.closed (path_edges c.args.closed c.args.path.now)))) kept_sections
    (subst (λ (l : List Edge). IsLimit c.in_ok-joins.joins (λ t. (pos t ≤ℤ to_z w128 (of_z w128 c.sections_limit-sections.result)) × All (HasJoinRoom g.I.IntNumber.unit (stroke_style_of g.I.IntNumber.value c.args.style.now) t) (neighbours c.args.closed l)))
    (c.deref-2.ensures.value ∙ c.in_ok-edges.ensures) c.in_ok-joins.ensures) in
    let ends : IsLimit c.in_ok-all.all (λ t. (pos t ≤ℤ c.in_ok-joins.joins) × HaveEndsRoom g.I.IntNumber.unit (stroke_style_of g.I.IntNumber.value c.args.style.now) c.args.closed t (path_edges c.args.closed c.args.path.now)) =
    subst (λ (z : ℤ). IsLimit c.in_ok-all.all (λ t. (pos t ≤ℤ z) × HaveEndsRoom g.I.IntNumber.unit (stroke_style_of g.I.IntNumber.value c.args.style.now) c.args.closed t (path_edges c.args.closed c.args.path.now))) kept_joins
    (subst (λ (l : List Edge). IsLimit c.in_ok-all.all (λ t. (pos t ≤ℤ to_z w128 (of_z w128 c.in_ok-joins.joins)) × HaveEndsRoom g.I.IntNumber.unit (stroke_style_of g.I.IntNumber.value c.args.style.now) c.args.closed t l))
    (c.deref-3.ensures.value ∙ c.in_ok-edges.ensures) c.in_ok-all.ensures) in
    let limit : IsLimit c.in_ok-all.all (λ t. HasInnerReach g.I.IntNumber.unit (stroke_style_of g.I.IntNumber.value c.args.style.now) c.args.closed t (path_edges c.args.closed c.args.path.now)) =
    reach_limit g.I.IntNumber.unit (stroke_style_of g.I.IntNumber.value c.args.style.now) c.args.closed (path_edges c.args.closed c.args.path.now) c.sections_limit-sections.result c.in_ok-joins.joins c.in_ok-all.all
    (sections_all g.I.IntNumber.unit (stroke_style_of g.I.IntNumber.value c.args.style.now) (path_edges c.args.closed c.args.path.now) c.in-Some.first.now c.in-Some.others.now (g.I.IntNumber.value c.stroke_radius-radius.result) c.sections_limit-sections.result edges c.stroke_radius-radius.ensures.value c.sections_limit-sections.ensures) joins ends in
    let least : 2 ^ 14 ≤ g.I.IntNumber.unit = g.met.I.IntNumber.least_law in
    let fit : AreStrokable g.I.IntNumber.unit (stroke_style_of g.I.IntNumber.value c.args.style.now) c.args.closed (path_edges c.args.closed c.args.path.now) = record { points = c.args.path.now; safe = c.requires.safe; edges = refl } in
    let own = first_fits g.I.IntNumber.unit (stroke_style_of g.I.IntNumber.value c.args.style.now) c.args.closed (path_edges c.args.closed c.args.path.now) c.in-Some.first.now c.in-Some.others.now (g.I.IntNumber.value c.stroke_radius-radius.result) fit edges c.stroke_radius-radius.ensures.value in
    let most : g.I.IntNumber.unit ≤ 2 ^ 30 = g.met.I.IntNumber.most_law in
    let fits = reach_fits g.I.IntNumber.unit (stroke_style_of g.I.IntNumber.value c.args.style.now) c.args.closed (path_edges c.args.closed c.args.path.now) c.in-Some.first.now c.in-Some.others.now c.in_ok-all.all edges own.differ (omega (arith, least)) most c.requires.can.small limit in
    subst (λ (z : ℤ). IsLimit z (λ t. HasInnerReach g.I.IntNumber.unit (stroke_style_of g.I.IntNumber.value c.args.style.now) c.args.closed t (path_edges c.args.closed c.args.path.now)) × (z <ℤ pos (2 ^ 64))) (sym kept) (limit, fits)
