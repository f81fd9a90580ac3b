-- The points that are used are those of the definition.
use Rattle.std.proofs.Common.{◌∙◌, [], ◌∷◌, ap, sym}
use Rattle.std.proofs.lemmas.Int.{to_z-of_z}
use mir.Syntax.{w128}
use Rattle.mesh_plane.specs.Plane.{Edge}
use Rattle.mesh_join.specs.Miters.{are_usable}
use Rattle.mesh_join.proofs.Miters.{some_if, none_if, usable_is, unusable_is}
use Rattle.mesh_join.proofs.miter.push_clipped.Goals as goal

pub returns-in-Some-clause-ok : goal.returns-in-Some-clause-ok
returns-in-Some-clause-ok g c =
    let used = rw (to_z-of_z w128 c.args.padding c.ranges.padding) at c.usable_pair.ensures in
    let n = some_if (are_usable c.args.padding c.args.joint.now (c.args.start ∷ c.args.end ∷ [])) (c.args.start, c.args.end) c.in-Some.edge (sym c.in-Some.is ∙ used) in
    rw (usable_is c.args.padding c.args.joint.now (c.args.start ∷ c.args.end ∷ []) n.0, ← c.joint.view_is, ← ap (λ (e : Edge). e.0) n.1, ← ap (λ (e : Edge). e.1) n.1) c.push_through_both.ensures.ok

pub returns-in-None-clause-ok : goal.returns-in-None-clause-ok
returns-in-None-clause-ok g c =
    let used = rw (to_z-of_z w128 c.args.padding c.ranges.padding) at c.usable_pair.ensures in
    let n = none_if (are_usable c.args.padding c.args.joint.now (c.args.start ∷ c.args.end ∷ [])) (c.args.start, c.args.end) (sym c.in-None.is ∙ used) in
    rw (unusable_is c.args.padding c.args.joint.now (c.args.start ∷ c.args.end ∷ []) n, ← c.joint.view_is) c.push_straight.ensures.ok

pub returns-in-Some-clause-room : goal.returns-in-Some-clause-room
returns-in-Some-clause-room g c =
    let used = rw (to_z-of_z w128 c.args.padding c.ranges.padding) at c.usable_pair.ensures in
    let n = some_if (are_usable c.args.padding c.args.joint.now (c.args.start ∷ c.args.end ∷ [])) (c.args.start, c.args.end) c.in-Some.edge (sym c.in-Some.is ∙ used) in
    rw (usable_is c.args.padding c.args.joint.now (c.args.start ∷ c.args.end ∷ []) n.0, ← c.joint.view_is, ← ap (λ (e : Edge). e.0) n.1, ← ap (λ (e : Edge). e.1) n.1) c.push_through_both.ensures.room

pub returns-in-None-clause-room : goal.returns-in-None-clause-room
returns-in-None-clause-room g c =
    let used = rw (to_z-of_z w128 c.args.padding c.ranges.padding) at c.usable_pair.ensures in
    let n = none_if (are_usable c.args.padding c.args.joint.now (c.args.start ∷ c.args.end ∷ [])) (c.args.start, c.args.end) (sym c.in-None.is ∙ used) in
    rw (unusable_is c.args.padding c.args.joint.now (c.args.start ∷ c.args.end ∷ []) n, ← c.joint.view_is) c.push_straight.ensures.room
