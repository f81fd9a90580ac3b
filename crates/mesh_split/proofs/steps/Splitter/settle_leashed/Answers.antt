use Rattle.mesh_lattice.proofs.Ends.{forward_proper}
use Rattle.mesh_split.proofs.Settling.{moves_kept, settles_kept}
use Rattle.mesh_split.proofs.steps.Splitter.settle_leashed.Goals as goal

pub returns-in_default-clause-moves : goal.returns-in_default-clause-moves
returns-in_default-clause-moves c =
    moves_kept c.args.self.now.log c.args.self.now.todo c.args.self.now.live c.insert.new.self c.args.s (forward_proper c.args.s.0 c.requires.forward) c.in_ok-insert.ensures

pub returns-in_default-clause-clear : goal.returns-in_default-clause-clear
returns-in_default-clause-clear c =
    λ still clear. (settles_kept c.args.self.now.log c.args.self.now.todo c.args.self.now.live c.insert.new.self c.args.s (forward_proper c.args.s.0 c.requires.forward) c.in_default.ensures c.in_ok-insert.ensures).clear (clear still)

pub returns-then-branch-clause-clear : goal.returns-then-branch-clause-clear
returns-then-branch-clause-clear c = λ still clear. c.in_ok-split.ensures.clear (clear still)

pub returns-clause-moves : goal.returns-clause-moves
returns-clause-moves c =
    moves_kept c.args.self.now.log c.args.self.now.todo c.args.self.now.live c.insert-2.new.self c.args.s (forward_proper c.args.s.0 c.requires.forward) c.in_ok-insert-2.ensures
