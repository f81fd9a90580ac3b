use Rattle.mesh_lattice.proofs.Ends.{forward_proper}
use Rattle.mesh_split.proofs.Settling.{settles_kept}
use Rattle.mesh_split.proofs.steps.Splitter.settle.Goals as goal

pub returns : goal.returns
returns c =
    settles_kept c.args.self.now.log c.args.self.now.todo c.args.self.now.live c.insert.new.self c.args.s (forward_proper c.args.s.0 c.requires.forward)
    c.in_default.ensures c.in_ok-insert.ensures
