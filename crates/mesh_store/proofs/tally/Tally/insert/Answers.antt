use Rattle.std.proofs.Common.{rules, ◌∙◌}
use Rattle.std.proofs.lemmas.Int.{to_z-of_z}
use mir.Syntax.{w128}
use mir.Val.{SFits}
use Rattle.mesh_store.proofs.Entries.{put_where_absent, forward_put}
use Rattle.mesh_store.proofs.Tallies.{absent_not_found, put_absent}
use Rattle.mesh_store.proofs.tally.Tally.insert.Goals as goal

pub invariant_of-self-2 : goal.invariant_of-self-2
invariant_of-self-2 c =
    let es = c.self.inside.counts.entries in
    let none = absent_not_found c.args.s.0 es c.args.self.now c.self.view_is c.requires.absent in
    forward_put _ es _ c.requires.forward c.self.invariant (put_where_absent c.in_ok-insert.field-0 _ _ (c.in_ok-insert.ensures.old ∙ none) c.in_ok-insert.ensures.entries)

pub returns-clause-ok : goal.returns-clause-ok
returns-clause-ok c =
    let es = c.self.inside.counts.entries in
    let fits : SFits w128 c.args.s.1 = search rules in
    let none = absent_not_found c.args.s.0 es c.args.self.now c.self.view_is c.requires.absent in
    let put = put_where_absent c.in_ok-insert.field-0 _ _ (c.in_ok-insert.ensures.old ∙ none) c.in_ok-insert.ensures.entries in
    let entries = simp (to_z-of_z w128 c.args.s.1 fits) at put in
    put_absent c.args.s es c.args.self.now c.insert.new.self.entries c.self.view_is entries
