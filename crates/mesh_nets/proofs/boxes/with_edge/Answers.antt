use Rattle.mesh_nets.proofs.boxes.with_edge.Goals as goal

pub returns-clause-holds : goal.returns-clause-holds
returns-clause-holds c = record { start = c.with_point-2.ensures.grows c.args.e.0 c.with_point.ensures.holds; end = c.with_point-2.ensures.holds }

pub returns-clause-grows : goal.returns-clause-grows
returns-clause-grows c f h = record {
  start = c.with_point-2.ensures.grows f.0 (c.with_point.ensures.grows f.0 h.start);
  end = c.with_point-2.ensures.grows f.1 (c.with_point.ensures.grows f.1 h.end);
}
