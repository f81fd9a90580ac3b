use Rattle.std.proofs.Common.{ℕ, ◌<◌, List, rules, subst}
use Rattle.std.specs.List.{All}
use Rattle.mesh_pairs.specs.declared.pairs.Meeting.{Meeting}
use Rattle.mesh_paths.specs.declared.paths.Paths.{Paths}
use Rattle.mesh_paths.specs.Stops.{count_of}
use Rattle.mesh_clear.specs.Private.Looking.{AreBends, IsClearAtEnds, IsClearMeeting, IsClearPair}
use Rattle.mesh_clear.proofs.AllPairs.{all_clear}
use Rattle.mesh_clear.proofs.check.are_all_clear.Goals as goal

pub returns : goal.returns
returns c = λ t.
    let p : Paths = c.args.paths.now in
    let are : AreBends p c.deref.result.now = search rules in
    let met : All (IsClearMeeting p) c.args.pairs.now.meetings.items =
    subst (λ (ms : List Meeting). All (IsClearMeeting p) ms) c.deref-2.ensures.value (c.are_meetings_clear.ensures c.if-not-are_meetings_clear.false) in
    let close : All (IsClearPair p) c.args.pairs.now.close.items =
    subst (λ (cs : List (ℕ × ℕ)). All (IsClearPair p) cs) c.deref-4.ensures.value (c.are_close_clear.ensures c.if-not-are_close_clear.false) in
    let joined : (j : ℕ) → j < count_of p.stops → IsClearAtEnds p j = c.are_clear_at_ends-clear.ensures t in
    all_clear p c.args.pairs.now c.deref.result.now c.requires.found are met close joined
