use Rattle.std.proofs.Common.{◌≡◌, true, ◌∙◌, subst, sym}
use Rattle.std.proofs.lemmas.Bool.{true≢false}
use Rattle.mesh_lattice.proofs.Options.{match_none}
use Rattle.mesh_store.specs.declared.tree.Tree.{Tree}
use Rattle.mesh_store.specs.Cells.{Cell, IsAt, reaches, listed_at, IsCellClear, MeetsLive}
use Rattle.mesh_store.proofs.Listing.{fork_is_clear}
use Rattle.mesh_store.proofs.tree.Tree.+find.Goals as goal
use Rattle.mesh_store.proofs.tree.Tree.+find.Goals.{then-below+in_default, else-below}

pub returns-then-beyond : goal.returns-then-beyond
returns-then-beyond t c =
    let low : reaches c.in-Fork.cut c.args.s true ≡ true → (p : Cell) → IsAt c.args.s p → IsCellClear c.args.s (listed_at c.in-Fork.low.value p) c.args.live.now =
    elim c.if-below.branch [
      | then-below+in_default w ↦ λ e. rw w.deref-then-below.ensures at w.in_default.ensures
      | else-below w ↦ λ e. absurd (true≢false (sym e ∙ sym c.reaches-below.ensures ∙ w.if-below.false))
    ] in
    match_none c.find-then-beyond.result (λ m. MeetsLive c.args.s c.args.live.now m)
    (λ high.
    subst (λ (z : Tree). (p : Cell) → IsAt c.args.s p → IsCellClear c.args.s (listed_at z p) c.args.live.now) (sym c.in-Fork.is)
    (fork_is_clear c.in-Fork.cut (listed_at c.in-Fork.low.value) (listed_at c.in-Fork.high.value) c.args.s c.args.live.now low (λ e. high)))
    (rw c.deref-then-beyond.ensures at c.find-then-beyond.ensures)

pub returns-else-beyond : goal.returns-else-beyond
returns-else-beyond t c =
    let low : reaches c.in-Fork.cut c.args.s true ≡ true → (p : Cell) → IsAt c.args.s p → IsCellClear c.args.s (listed_at c.in-Fork.low.value p) c.args.live.now =
    elim c.if-below.branch [
      | then-below+in_default w ↦ λ e. rw w.deref-then-below.ensures at w.in_default.ensures
      | else-below w ↦ λ e. absurd (true≢false (sym e ∙ sym c.reaches-below.ensures ∙ w.if-below.false))
    ] in
    subst (λ (z : Tree). (p : Cell) → IsAt c.args.s p → IsCellClear c.args.s (listed_at z p) c.args.live.now) (sym c.in-Fork.is)
    (fork_is_clear c.in-Fork.cut (listed_at c.in-Fork.low.value) (listed_at c.in-Fork.high.value) c.args.s c.args.live.now low
    (λ e. absurd (true≢false (sym e ∙ sym c.reaches-beyond.ensures ∙ c.if-beyond.false))))
