use Rattle.std.proofs.Common.{◌^◌, subst, sym, arith}
use Rattle.mesh_plane.specs.Bounds.{IsSafe}
use Rattle.mesh_paths.specs.declared.stops.Stop.{Stop}
use Rattle.mesh_ahead.proofs.PathDistances.{farthest_more, stop_bound, stop_safe}
use Rattle.mesh_ahead.proofs.nearness.farthest.Goals as goal

pub loop-place-preserved : goal.loop-place-preserved
loop-place-preserved c = record {
  farthest =
      farthest_more c.args.paths.now c.args.path c.loop-place.most c.loop-place.place c.line_of-line.result c.stop.result c.beside.result c.max-most.result c.line_of-line.ensures c.stop.ensures
      c.beside.ensures.value c.max-most.ensures c.loop-place.invariant.farthest;
  bound =
      stop_bound c.args.paths.now c.args.path c.loop-place.place c.line_of-line.result c.stop.result c.beside.result c.loop-place.most c.max-most.result c.requires.paths c.requires.within
      (omega (arith, c.loop-place-test.true, c.pieces-place-end.ensures)) c.requires.line c.line_of-line.ensures c.stop.ensures c.beside.ensures.value c.max-most.ensures
      c.loop-place.invariant.bound;
}

pub beside-requires-clause-safe : goal.beside-requires-clause-safe
beside-requires-clause-safe c =
    subst (λ (s : Stop). IsSafe (2 ^ 30) s.at) (sym c.stop.ensures)
    (stop_safe c.args.paths.now c.args.path c.loop-place.place c.requires.paths c.requires.within (omega (arith, c.loop-place-test.true, c.pieces-place-end.ensures)) c.requires.line)
