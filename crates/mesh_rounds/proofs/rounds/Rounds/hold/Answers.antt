use Rattle.mesh_rounds.specs.Private.Groups.{edges_in}
use Rattle.mesh_rounds.specs.Private.Rounds.{Keeps}
use Rattle.mesh_rounds.proofs.Rounding.{found_clear}
use Rattle.mesh_rounds.proofs.rounds.Rounds.hold.Goals as goal

pub returns-clause-held : goal.returns-clause-held
returns-clause-held c =
    let fresh = c.args.self.now.fresh.items in
    let groups = c.args.self.now.groups.items in
    let arranged = rw c.replace.ensures.value at c.in_ok-edges.ensures in
    let all = rw c.deref.ensures.value at c.in_ok-group.ensures.all in
    let keeps : Keeps fresh (edges_in c.in_ok-group.group) = λ x l. all x (arranged x l) in
    record {
      bounded = c.in_ok-group.ensures.bounded;
      keeps = keeps;
      clear =
          found_clear c.args.self.now.splitter.todo fresh (edges_in c.in_ok-group.group) groups c.new-search.result c.find_within.new.search c.find_beside.new.search c.requires.listed c.requires.clear keeps
          c.in_ok-find_within.ensures (rw c.deref-2.ensures.value at c.in_ok-find_beside.ensures) c.if-search.false;
    }
