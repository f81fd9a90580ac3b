-- The end of a chain, and then the first step of the next one.
use Rattle.mesh_variable_stroke.proofs.Stepping.{again_added}
use Rattle.mesh_variable_stroke.proofs.walk.start_again.Goals as goal

pub returns-clause-ok : goal.returns-clause-ok
returns-clause-ok g c =
    again_added g.I.IntNumber.unit c.args.sweeper.now c.finish.new.sweeper c.args.chain.now c.new-next.result c.args.at
    c.args.section c.args.segments.now.items c.finish.new.segments.items c.go_on.new.segments.items
    c.in_ok-finish.ensures.same c.new-next.ensures c.in_ok-finish.ensures.ok c.in_ok-go_on.ensures.ok
