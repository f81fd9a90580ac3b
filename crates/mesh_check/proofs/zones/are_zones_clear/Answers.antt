use Rattle.std.proofs.Common.{◌≡◌, sym, ◌∙◌, ap, arith, rules}
use Rattle.mesh_paths.specs.declared.stops.Stop.{Stop}
use Rattle.mesh_check.proofs.ZonesAbout.{clear_by_zones}
use Rattle.mesh_check.proofs.zones.are_zones_clear.Goals as goal

pub returns : goal.returns
returns c = λ t.
    let p = c.args.paths.now in
    let ids : c.stop-a.result.id ≡ c.stop-b.result.id = omega (arith, c.if-a-b.false) in
    clear_by_zones p c.args.first c.args.second c.args.first_units c.args.second_units c.line_of-e.result c.line_of-f.result _ _
    c.requires.paths c.requires.first c.requires.second c.requires.first_place c.requires.second_place c.requires.first_bent c.requires.second_bent
    c.line_of-e.ensures.value c.line_of-f.ensures.value
    (ap (λ (s : Stop). s.id) (sym c.stop-a.ensures) ∙ (ids ∙ ap (λ (s : Stop). s.id) c.stop-b.ensures))
    (search rules) (search rules) (c.are_stretches_clear.ensures t)
