use Rattle.std.proofs.Common.{◌∙◌, sym, [], ◌∷◌}
use Rattle.mesh_store.proofs.Apart.{apart_clear}
use Rattle.mesh_rounds.proofs.Pairs.{goes_nowhere, one_of_second, one_clear, one_noted}
use Rattle.mesh_rounds.proofs.groups.Search.find_of.Goals as goal
use Rattle.mesh_rounds.proofs.groups.Search.find_of.Goals.{then-not-is_beside+in-Some+in_ok-note, then-not-is_beside+in_default, else-not-is_beside}

pub loop-y-preserved : goal.loop-y-preserved
loop-y-preserved c =
    let x = c.args.x in
    let ys = c.args.ys.now in
    let s = c.loop-y.self in
    elim c.if-not-is_beside.branch [
      | then-not-is_beside+in-Some+in_ok-note w ↦
          rw w.self-is
          (one_of_second (x ∷ []) ys c.loop-y.y-index _ c.args.self.now s w.note.new.self c.loop-y-test.true c.loop-y.invariant
          (one_noted x _ s w.note.new.self w.in_ok-note.ensures.goes w.in_ok-note.ensures.first w.in_ok-note.ensures.second))
      | then-not-is_beside+in_default w ↦
          rw w.self-is (one_of_second (x ∷ []) ys c.loop-y.y-index _ c.args.self.now s s c.loop-y-test.true c.loop-y.invariant (one_clear x _ s s (goes_nowhere s) w.in_default.ensures))
      | else-not-is_beside w ↦
          rw w.self-is
          (one_of_second (x ∷ []) ys c.loop-y.y-index _ c.args.self.now s s c.loop-y-test.true c.loop-y.invariant
          (one_clear x _ s s (goes_nowhere s) (apart_clear c.bounding_box-bounds.result x _ c.bounding_box-bounds.ensures (sym c.is_beside.ensures ∙ w.if-not-is_beside.false))))
    ]
