use Rattle.std.proofs.Common.{arith, sym, subst}
use Rattle.mesh_plane.specs.Plane.{Edge}
use Rattle.mesh_plane.proofs.Whole.{linear}
use Rattle.mesh_lattice.proofs.Ends.{forward_proper}
use Rattle.mesh_lattice.specs.Split.{Meets}
use Rattle.mesh_store.specs.Steps.{IsForward, weight}
use Rattle.mesh_split.proofs.Piles.{pile_split, other_lives}
use Rattle.mesh_split.proofs.steps.Splitter.split_live.Goals as goal

pub split-requires-clause-proper : goal.split-requires-clause-proper
split-requires-clause-proper c = forward_proper c.remove-s.result.0 (subst IsForward (sym c.remove-s.ensures.ends) c.remove-s.ensures.forward)

pub split-requires-clause-meets : goal.split-requires-clause-meets
split-requires-clause-meets c = subst (λ (e : Edge). Meets e c.args.m.0 c.args.m.1) (sym c.remove-s.ensures.ends) c.requires.meets

pub split-requires-clause-lives : goal.split-requires-clause-lives
split-requires-clause-lives c =
    other_lives c.args.self.now.live c.remove-s.new.self c.remove-s.result c.args.first c.args.m.0 c.args.m.1 c.remove-s.ensures.taken c.remove-s.ensures.ends c.requires.meets c.requires.second_lives

pub split-requires-clause-room : goal.split-requires-clause-room
split-requires-clause-room c = omega (arith, linear, c.remove-s.ensures.taken weight, c.requires.room)

pub returns : goal.returns
returns c = λ given p.
    pile_split c.args.self.now.log c.split.new.self.log c.args.self.now.todo c.args.self.now.live c.remove-s.new.self c.split.new.self.todo c.split.new.self.live c.remove-s.result given c.remove-s.ensures.taken c.in_ok-split.ensures p
