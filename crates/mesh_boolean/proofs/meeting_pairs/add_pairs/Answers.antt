-- Those before one that starts past the east side are tested, and all that follow it are apart.
use Rattle.std.proofs.Common.{refl, sym}
use Rattle.mesh_boolean.proofs.Meeting.{finds_all, finds_apart, finds_meeting, finds_none, finds_past}
use Rattle.mesh_boolean.proofs.meeting_pairs.add_pairs.Goals.{else-not-are_apart, then-not-are_apart+in_ok-push}
use Rattle.mesh_boolean.proofs.meeting_pairs.add_pairs.Goals as goal

pub loop-other-init : goal.loop-other-init
loop-other-init g c = record { same = refl; finds = finds_none (c.args.place, c.args.bounds) c.args.following.now c.args.pairs.now.items }

pub returns-then-is_less : goal.returns-then-is_less
returns-then-is_less g c =
    finds_past (c.args.place, c.args.bounds) c.args.following.now c.args.pairs.now.items c.loop-other.other-index c.other-item.result c.loop-other-test.true c.other-item.is c.loop-other.pairs.items c.requires
    (rw (sym c.loop-other.invariant.same, ← c.bounds.view_is, ← c.other_bounds.view_is) (c.is_less.ensures.0 c.if-is_less.true)) c.loop-other.invariant.finds

pub loop-other-preserved : goal.loop-other-preserved
loop-other-preserved g c =
    elim c.if-not-are_apart.branch [
      | then-not-are_apart+in_ok-push w ↦ rw w.pairs-is (record {
        same = c.loop-other.invariant.same;
        finds =
            finds_meeting (c.args.place, c.args.bounds) c.args.following.now c.args.pairs.now.items c.loop-other.other-index c.other-item.result c.loop-other-test.true c.other-item.is c.loop-other.pairs.items _
            (rw (w.min.ensures, w.max.ensures) at w.in_ok-push.ensures.items) c.loop-other.invariant.finds;
      })
      | else-not-are_apart w ↦ rw w.pairs-is (record {
        same = c.loop-other.invariant.same;
        finds =
            finds_apart (c.args.place, c.args.bounds) c.args.following.now c.args.pairs.now.items c.loop-other.other-index c.other-item.result c.loop-other-test.true c.other-item.is c.loop-other.pairs.items
            (rw (sym c.loop-other.invariant.same) (c.are_apart.ensures.0 w.if-not-are_apart.false)) c.loop-other.invariant.finds;
      })
    ]

pub returns : goal.returns
returns g c = finds_all (c.args.place, c.args.bounds) c.args.following.now c.args.pairs.now.items c.loop-other.other-index c.loop-other.pairs.items c.loop-other-test.false c.loop-other.invariant.finds
