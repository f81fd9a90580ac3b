use Rattle.std.proofs.Common.{inl, inr, ⊎_elim}
use Rattle.mesh_rounds.proofs.Rounding.{keeps_four, keeps_before}
use Rattle.mesh_rounds.proofs.rounds.split_pair.Goals as goal

pub returns-clause-grows : goal.returns-clause-grows
returns-clause-grows c =
    rw (c.in_ok-push-4.ensures.items, c.in_ok-push-3.ensures.items, c.in_ok-push-2.ensures.items, c.in_ok-push.ensures.items, c.pieces-pieces.ensures)
    (λ _ x w. ⊎_elim (λ l. inl l) (λ l. inr (keeps_four c.args.born.now.items _ _ _ _ x l)) (c.in_ok-split_waiting.ensures.grows x w))

pub returns-clause-listed : goal.returns-clause-listed
returns-clause-listed c =
    rw (c.in_ok-push-4.ensures.items, c.in_ok-push-3.ensures.items, c.in_ok-push-2.ensures.items, c.in_ok-push.ensures.items)
    (keeps_before c.args.born.now.items _ _ _ _)
