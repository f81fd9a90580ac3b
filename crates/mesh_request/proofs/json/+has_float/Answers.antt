-- The members' values, as a list, have a float where the members do.
use Rattle.std.proofs.Common.{◌∙◌}
use Rattle.mesh_request.proofs.JsonLists.{members_float}
use Rattle.mesh_request.proofs.json.+has_float.Goals as goal

pub has_float_in_members-loop-member-init : goal.has_float_in_members-loop-member-init
has_float_in_members-loop-member-init t c =
    let e = c.into_iter-member-iterator.ensures.into_iter_gives ∙ c.values-member-items.ensures.rest in
    (tt, tt, rw e (members_float c.args.members.now.entries))
