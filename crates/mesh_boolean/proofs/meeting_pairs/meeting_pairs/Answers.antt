-- The pairs that were found stand in order, each once.
use Rattle.std.proofs.Common.{subst, sym}
use Rattle.std.proofs.lemmas.List.{length-map}
use Rattle.std.proofs.lemmas.List.Filters.{dedup_is}
use Rattle.mesh_num.specs.Paths.{shapes_of}
use Rattle.mesh_boolean.specs.Private.Meeting.{AreBoxes}
use Rattle.mesh_boolean.proofs.Meeting.{meeting, same_pair, zones_in}
use Rattle.mesh_boolean.proofs.meeting_pairs.meeting_pairs.Goals as goal

pub returns : goal.returns
returns g c =
    meeting (zones_in c.args.zones.now) c.in_ok-boxes_of.field-0.items c.from_west-boxes.result.items
    (subst (λ n. AreBoxes (zones_in c.args.zones.now) n c.in_ok-boxes_of.field-0.items) (sym (length-map c.args.zones.now (λ zone. shapes_of zone.items))) c.in_ok-boxes_of.ensures)
    c.from_west-boxes.ensures.same c.in_ok-pairs.pairs.items (rw c.deref.ensures.value at c.in_ok-pairs.ensures)
    c.sort_unstable.new.self.items c.dedup.new.self.items c.sort_unstable.ensures.permutation c.sort_unstable.ensures.sorted (dedup_is same_pair _ _ c.dedup.ensures.filtered)
