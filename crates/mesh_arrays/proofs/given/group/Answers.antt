-- Group by group; what stands before a place ends where the one before it does.
use Rattle.std.proofs.Common.{◌<◌, ◌≤◌, ◌-◌, length, take, refl, ap, ◌∙◌, arith}
use Rattle.std.specs.Prelude.{slice_index_or}
use Rattle.std.proofs.lemmas.List.{take_all}
use Rattle.mesh_num.specs.Paths.{paths_of}
use Rattle.mesh_arrays.proofs.EndToEnd.{last_from, none_below, none_past, none_left, all_read, last_read}
use Rattle.mesh_arrays.proofs.GivenShapes.{ended_group, groups_of_lists, how_many, joined_group, left_behind}
use Rattle.mesh_arrays.proofs.given.group.Goals.{then-end-start-via-then-end-start, then-end-start-via-else-end-start+then-count-end}
use Rattle.mesh_arrays.proofs.given.group.Goals as goal

pub returns-then-end-start : goal.returns-then-end-start
returns-then-end-start g c = (
  tt,
  λ _ groups given.
      let lists = c.args.lists.items in
      let ends = c.args.ends.now in
      let i = c.loop-place.place-index in
      elim c.then-end-start.branch [
        | then-end-start-via-then-end-start w ↦
            none_below groups (paths_of lists) ends i 0 c.loop-place-test.true (rw c.loop-place.invariant.last at w.if-end-start.true) given
        | then-end-start-via-else-end-start+then-count-end w ↦
            none_past groups (paths_of lists) ends i 0 c.loop-place-test.true
            (omega (arith, w.if-count-end.true, c.len-count.ensures, c.args.lists.ok.0, how_many lists)) given
      ],
)

pub loop-place-preserved : goal.loop-place-preserved
loop-place-preserved g c =
    let all = c.args.lists.items in
    let ends = c.args.ends.now in
    let i = c.loop-place.place-index in
    let start = c.loop-place.start in
    let end = slice_index_or ends i 0 in
    let group = c.in_ok-next_items.field-0 in
    let so_far = c.loop-place.invariant in
    let within : end ≤ length all = omega (arith, c.if-count-end.false, c.len-count.ensures, c.args.lists.ok.0) in
    let here = c.in_ok-next_items.ensures.taken ∙ ap (λ l. take (end - start) l) so_far.left in
    record {
      joined = joined_group all start end _ _ group c.if-end-start.false c.in_ok-push.ensures.items so_far.joined here;
      ended =
          ended_group all ends start end i _ _ group c.if-end-start.false within c.loop-place-test.true refl c.in_ok-push.ensures.items
          so_far.joined here so_far.ended;
      last = last_read ends end i c.loop-place-test.true refl;
      within = within;
      left = left_behind all _ _ start end c.if-end-start.false so_far.left c.in_ok-next_items.ensures.left;
    }

pub returns-then-start-count : goal.returns-then-start-count
returns-then-start-count g c = (
  tt,
  λ _ groups given.
      let lists = c.args.lists.items in
      let ends = c.args.ends.now in
      let last = c.loop-place.invariant.last ∙ ap (last_from 0) (take_all c.loop-place.place-index ends c.loop-place-test.false) in
      let start : c.loop-place.start < length (paths_of lists) =
      omega (arith, c.if-start-count.true, c.len-count.ensures, c.args.lists.ok.0, how_many lists) in
      none_left groups (paths_of lists) ends (rw last at start) given,
)

pub returns : goal.returns
returns g c =
    let lists = c.args.lists.items in
    let whole : length lists ≤ c.loop-place.start = omega (arith, c.if-start-count.false, c.len-count.ensures, c.args.lists.ok.0) in
    groups_of_lists c.loop-place.groups.items lists c.args.ends.now
    (all_read _ lists c.args.ends.now c.loop-place.start c.loop-place.place-index c.loop-place-test.false whole c.loop-place.invariant.joined c.loop-place.invariant.ended)
