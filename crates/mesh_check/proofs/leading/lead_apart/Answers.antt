use Rattle.std.proofs.Common.{◌≡◌, ◌+◌, sym, ◌∙◌, ap, subst, arith}
use Rattle.mesh_plane.specs.Plane.{Edge}
use Rattle.mesh_paths.specs.declared.stops.Stop.{Stop}
use Rattle.mesh_paths.specs.Stops.{pieces_of, point_of}
use Rattle.mesh_check.specs.Heights.{LeadsAway}
use Rattle.mesh_check.proofs.AlongPaths.{apart_clear}
use Rattle.mesh_check.proofs.Sizes.{same_stop}
use Rattle.mesh_check.proofs.leading.lead_apart.Goals as goal

pub returns : goal.returns
returns c = λ t.
    let p = c.args.paths.now in
    let a = c.args.first in
    let b = c.args.second in
    let ids : c.stop-a.result.id ≡ c.stop-b.result.id = omega (arith, c.if-a-b.false) in
    apart_clear p a.path b.path a.place b.place c.args.first_units c.args.second_units c.requires.paths c.requires.first c.requires.second c.requires.first_bent c.requires.second_bent
    (record {
      first_place = c.requires.first_place;
      second_place = c.requires.second_place;
      same =
          same_stop p a.path b.path a.place b.place c.requires.paths c.requires.first c.requires.second c.requires.first_place c.requires.second_place
          (ap (λ (s : Stop). s.id) (sym c.stop-a.ensures) ∙ (ids ∙ ap (λ (s : Stop). s.id) c.stop-b.ensures));
      first_leads =
          subst (λ (e : Edge). LeadsAway (c.args.second_units + (c.args.first_units + c.args.first_units)) e (point_of p.stops a.path) (pieces_of p.stops a.path) a.place) c.line_of-f.ensures.value
          (c.leads_away.ensures c.if-not-leads_away.false);
      second_leads =
          subst (λ (e : Edge). LeadsAway (c.args.first_units + (c.args.second_units + c.args.second_units)) e (point_of p.stops b.path) (pieces_of p.stops b.path) b.place) c.line_of-e.ensures.value
          (c.leads_away-2.ensures t);
    })
