-- An object has as many members as its map has entries.
use Rattle.std.proofs.Common.{◌∙◌, sym}
use Rattle.serde_json.specs.View.{view, members_view}
use Rattle.mesh_request.proofs.JsonMembers.{counted, sole_member, not_sole}
use Rattle.mesh_request.proofs.request.joins.sole_member.Goals as goal

pub returns-then-len-ne1 : goal.returns-then-len-ne1
returns-then-len-ne1 c =
    let o = sym (rw c.in_ok-as_object.was at c.as_object.ensures) in
    let n = counted c.in_ok-as_object.field-0.now.entries in
    sym (not_sole c.args.key.now (view c.args.value.now) (members_view c.in_ok-as_object.field-0.now.entries) o (λ e. c.if-len-ne1.true (c.len.ensures.len ∙ sym n ∙ e)))

pub returns : goal.returns
returns c =
    let o = sym (rw c.in_ok-as_object.was at c.as_object.ensures) in
    let n = counted c.in_ok-as_object.field-0.now.entries in
    c.get.ensures ∙ sym (sole_member c.args.key.now (view c.args.value.now) (members_view c.in_ok-as_object.field-0.now.entries) o (n ∙ sym c.len.ensures.len ∙ c.if-len-ne1.false))
