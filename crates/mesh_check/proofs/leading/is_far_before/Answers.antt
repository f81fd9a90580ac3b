use Rattle.std.proofs.Common.{ℕ}
use Rattle.mesh_paths.specs.Stops.{point_of}
use Rattle.mesh_check.specs.Heights.{IsFarFromLine}
use Rattle.mesh_check.proofs.Sizes.{before_at}
use Rattle.mesh_check.proofs.leading.is_far_before.Goals as goal

pub returns : goal.returns
returns c = λ t j follows.
    before_at (λ (m : ℕ). IsFarFromLine c.args.units c.args.line (point_of c.args.paths.now.stops c.args.path m)) c.args.place j (c.is_stop_far.ensures t) follows
