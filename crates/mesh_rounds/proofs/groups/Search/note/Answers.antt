use Rattle.std.proofs.Common.{[], ◌∷◌}
use Rattle.mesh_rounds.proofs.Pairs.{noted_kept, noted_first, noted_second}
use Rattle.mesh_rounds.proofs.groups.Search.note.Goals as goal

pub returns-clause-goes : goal.returns-clause-goes
returns-clause-goes c =
    record {
      kept = λ x l. rw c.in_ok-push.ensures.items (noted_kept x c.args.self.now.pairs.items (c.args.pair ∷ []) l);
      over = λ e. e;
    }

pub returns-clause-first : goal.returns-clause-first
returns-clause-first c = rw c.in_ok-push.ensures.items (noted_first c.args.self.now.pairs.items c.args.pair)

pub returns-clause-second : goal.returns-clause-second
returns-clause-second c = rw c.in_ok-push.ensures.items (noted_second c.args.self.now.pairs.items c.args.pair)
