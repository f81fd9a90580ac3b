-- Where both points are one, nothing is joined; else the points between them are the miter's.
use Rattle.std.proofs.Common.{◌∙◌, rules, sym}
use Rattle.mesh_join.proofs.Miters.{nothing_joined, all_between}
use Rattle.mesh_join.proofs.join.Join.draw.Goals as goal

pub returns-then-is_one_point-clause-ok : goal.returns-then-is_one_point-clause-ok
returns-then-is_one_point-clause-ok g c =
    let e = rw (c.coordinates.ensures.value, c.coordinates-2.ensures.value) at (sym c.is_one_point.ensures ∙ c.if-is_one_point.true) in
    rw (← c.joint.view_is, nothing_joined c.joint.inside.first c.joint.inside.last _ e) (search rules)

pub returns-in-Miter-clause-ok : goal.returns-in-Miter-clause-ok
returns-in-Miter-clause-ok g c =
    let e = rw (c.coordinates.ensures.value, c.coordinates-2.ensures.value) at (sym c.is_one_point.ensures ∙ c.if-is_one_point.false) in
    let h = rw (← c.joint.view_is) at c.add.ensures.ok in
    rw (← c.joint.view_is, ← c.self.view_is, c.in-Miter.is, all_between c.joint.inside.first c.joint.inside.last _ e) h

pub returns-in-Miter-clause-room : goal.returns-in-Miter-clause-room
returns-in-Miter-clause-room g c few =
    let e = rw (c.coordinates.ensures.value, c.coordinates-2.ensures.value) at (sym c.is_one_point.ensures ∙ c.if-is_one_point.false) in
    let h = rw (← c.joint.view_is) at c.add.ensures.room in
    rw (← c.joint.view_is, ← c.self.view_is, c.in-Miter.is, all_between c.joint.inside.first c.joint.inside.last _ e) h

pub returns-in-Round-clause-ok : goal.returns-in-Round-clause-ok
returns-in-Round-clause-ok g c =
    let e = rw (c.coordinates.ensures.value, c.coordinates-2.ensures.value) at (sym c.is_one_point.ensures ∙ c.if-is_one_point.false) in
    let h = rw (← c.joint.view_is) at c.add-in-Round.ensures.ok in
    rw (← c.joint.view_is, ← c.self.view_is, c.in-Round.is, all_between c.joint.inside.first c.joint.inside.last _ e) h
