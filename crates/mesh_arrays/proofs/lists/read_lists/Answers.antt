-- Part by part; what stands before a place ends where the one before it does.
use Rattle.std.proofs.Common.{◌<◌, length, map, refl, ap, ◌∙◌}
use Rattle.std.proofs.lemmas.List.{length-map, take_all}
use Rattle.mesh_arrays.proofs.EndToEnd.{last_from, none_below, none_past, none_left, joined_read, ended_read, last_read}
use Rattle.mesh_arrays.proofs.lists.read_lists.Goals.{then-end-start-via-then-end-start, then-end-start-via-else-end-start+then-all-end}
use Rattle.mesh_arrays.proofs.lists.read_lists.Goals as goal

pub returns-then-end-start : goal.returns-then-end-start
returns-then-end-start g c = (
  tt,
  λ _ lists given.
      let all = map g.T.Flat.item_of c.args.all.now in
      let ends = c.args.ends.now in
      let i = c.loop-place.place-index in
      elim c.then-end-start.branch [
        | then-end-start-via-then-end-start w ↦
            none_below lists all ends i 0 c.loop-place-test.true (rw c.loop-place.invariant.last at w.if-end-start.true) given
        | then-end-start-via-else-end-start+then-all-end w ↦
            none_past lists all ends i 0 c.loop-place-test.true (rw (length-map c.args.all.now g.T.Flat.item_of) w.if-all-end.true) given
      ],
)

pub loop-place-preserved : goal.loop-place-preserved
loop-place-preserved g c =
    let all = c.args.all.now in
    let ends = c.args.ends.now in
    let i = c.loop-place.place-index in
    let here = c.in_ok-items.field-0 in
    let so_far = c.loop-place.invariant in
    record {
      joined = joined_read g.T.Flat.item_of all c.loop-place.start _ _ _ here c.if-end-start.false c.in_ok-push.ensures.items so_far.joined c.in_ok-items.ensures;
      ended =
          ended_read g.T.Flat.item_of all ends c.loop-place.start _ i _ _ here c.if-end-start.false c.if-all-end.false c.loop-place-test.true refl c.in_ok-push.ensures.items
          so_far.joined c.in_ok-items.ensures so_far.ended;
      last = last_read ends _ i c.loop-place-test.true refl;
      within = c.if-all-end.false;
    }

pub returns-then-start-all : goal.returns-then-start-all
returns-then-start-all g c = (
  tt,
  λ _ lists given.
      let ends = c.args.ends.now in
      let last = c.loop-place.invariant.last ∙ ap (last_from 0) (take_all c.loop-place.place-index ends c.loop-place-test.false) in
      let left : last_from 0 ends < length c.args.all.now = rw last at c.if-start-all.true in
      none_left lists (map g.T.Flat.item_of c.args.all.now) ends (rw (length-map c.args.all.now g.T.Flat.item_of) left) given,
)
