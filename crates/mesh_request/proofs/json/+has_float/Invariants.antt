use Rattle.std.proofs.Common.{◌≡◌, drop}
use Rattle.serde_json.specs.View.{items_view, members_view}
use Rattle.serde_json.specs.Written.{items_have_float, members_have_float}
use Rattle.mesh_request.proofs.json.+has_float.Given as goal

-- no float so far: one is in the list exactly where it is in what is left
abbrev pub invariant-has_float_in_items-loop-item : goal.invariant-has_float_in_items-loop-item
invariant-has_float_in_items-loop-item l = items_have_float (items_view l.items.items) ≡ items_have_float (items_view (drop l.item-index l.items.items))

abbrev pub invariant-has_float_in_members-loop-member : goal.invariant-has_float_in_members-loop-member
invariant-has_float_in_members-loop-member l =
    ((goal.iterator-has_float_in_members-loop-member).can_next l.member-iterator) ×
    ((goal.iterator-has_float_in_members-loop-member).is_finite l.member-iterator) ×
    (members_have_float (members_view l.members.entries) ≡ items_have_float (items_view l.member-iterator))
