use Rattle.mesh_split.proofs.Piles.{once_absent, once_moved, pile_moved}
use Rattle.mesh_split.proofs.first_pass.take_one.Goals as goal

pub insert-requires-clause-absent : goal.insert-requires-clause-absent
insert-requires-clause-absent c =
    let s = c.args.splitter.now in
    once_absent s.todo c.remove-s.new.self s.live c.remove-s.result c.remove-s.ensures.taken c.requires

pub returns-clause-once : goal.returns-clause-once
returns-clause-once c =
    let s = c.args.splitter.now in
    once_moved s.todo c.remove-s.new.self s.live c.insert.new.self c.remove-s.result c.remove-s.ensures.taken c.in_ok-insert.ensures c.requires

pub returns-clause-kept : goal.returns-clause-kept
returns-clause-kept c = λ given p.
    let s = c.args.splitter.now in
    pile_moved s.log s.todo c.remove-s.new.self s.live c.insert.new.self c.remove-s.result given c.remove-s.ensures.taken c.in_ok-insert.ensures p
