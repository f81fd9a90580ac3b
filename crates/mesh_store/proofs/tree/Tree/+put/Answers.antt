use Rattle.std.proofs.Common.{◌≡◌, true, ◌∙◌, subst, sym}
use Rattle.std.proofs.lemmas.Bool.{true≢false}
use Rattle.mesh_store.specs.declared.tree.Tree.{Tree}
use Rattle.mesh_store.specs.Cells.{reaches, listed_at, StandsIn, HasListed, KeepsListed}
use Rattle.mesh_store.proofs.Listing.{listed_more, kept_same, fork_keeps, fork_lists}
use Rattle.mesh_store.proofs.tree.Tree.+put.Goals as goal
use Rattle.mesh_store.proofs.tree.Tree.+put.Goals.{then-below+in_ok-crowded-in-Fork, else-below}

pub returns-in_err-crowded-in-Fork-clause-kept : goal.returns-in_err-crowded-in-Fork-clause-kept
returns-in_err-crowded-in-Fork-clause-kept t c = λ e p reach l.
    fork_keeps c.in-Fork.cut (listed_at c.in-Fork.low.value) (listed_at c.in-Fork.high.value) (listed_at c.put.new.self) (listed_at c.in-Fork.high.value)
    (rw c.deref_mut.ensures.value at c.in_err-crowded-in-Fork.ensures.kept) (kept_same (listed_at c.in-Fork.high.value)) e p reach
    (subst (λ (z : Tree). StandsIn e (listed_at z p)) c.in-Fork.is l)

pub returns-in_err-other-in-Fork-clause-kept : goal.returns-in_err-other-in-Fork-clause-kept
returns-in_err-other-in-Fork-clause-kept t c = λ e p reach l.
    let low : KeepsListed (listed_at c.in-Fork.low.value) (listed_at c.if-below.self.1.1.0.value) =
    elim c.if-below.branch [
      | then-below+in_ok-crowded-in-Fork w ↦ rw w.self-is (rw w.deref_mut.ensures.value at w.in_ok-crowded-in-Fork.ensures.kept)
      | else-below w ↦ rw w.self-is (kept_same (listed_at c.in-Fork.low.value))
    ] in
    fork_keeps c.in-Fork.cut (listed_at c.in-Fork.low.value) (listed_at c.in-Fork.high.value) (listed_at c.if-below.self.1.1.0.value) (listed_at c.put-then-beyond.new.self)
    low (rw c.deref_mut-then-beyond.ensures.value at c.in_err-other-in-Fork.ensures.kept) e p reach
    (subst (λ (z : Tree). StandsIn e (listed_at z p)) c.in-Fork.is l)

pub returns-in_ok-self-in-Leaf-clause-kept : goal.returns-in_ok-self-in-Leaf-clause-kept
returns-in_ok-self-in-Leaf-clause-kept t c = λ e p reach l.
    let was : StandsIn e c.in-Leaf.listed.items = subst (λ (z : Tree). StandsIn e (listed_at z p)) c.in-Leaf.is l in
    let left : StandsIn e c.in_ok-more-in-Leaf.more.items = rw c.in_ok-more-in-Leaf.ensures.items (rw c.deref.ensures.value was) in
    c.in_ok-self-in-Leaf.ensures e (rw c.in_ok-push-in-Leaf-2.ensures.items (listed_more e c.in_ok-more-in-Leaf.more.items _ left)) p reach

pub returns-then-beyond-clause-kept : goal.returns-then-beyond-clause-kept
returns-then-beyond-clause-kept t c = λ e p reach l.
    let low : KeepsListed (listed_at c.in-Fork.low.value) (listed_at c.if-below.self.1.1.0.value) =
    elim c.if-below.branch [
      | then-below+in_ok-crowded-in-Fork w ↦ rw w.self-is (rw w.deref_mut.ensures.value at w.in_ok-crowded-in-Fork.ensures.kept)
      | else-below w ↦ rw w.self-is (kept_same (listed_at c.in-Fork.low.value))
    ] in
    fork_keeps c.in-Fork.cut (listed_at c.in-Fork.low.value) (listed_at c.in-Fork.high.value) (listed_at c.if-below.self.1.1.0.value) (listed_at c.put-then-beyond.new.self)
    low (rw c.deref_mut-then-beyond.ensures.value at c.in_ok-other-in-Fork.ensures.kept) e p reach
    (subst (λ (z : Tree). StandsIn e (listed_at z p)) c.in-Fork.is l)

pub returns-then-beyond-clause-listed : goal.returns-then-beyond-clause-listed
returns-then-beyond-clause-listed t c =
    let low : reaches c.in-Fork.cut c.args.e true ≡ true → HasListed (listed_at c.if-below.self.1.1.0.value) c.args.e =
    elim c.if-below.branch [
      | then-below+in_ok-crowded-in-Fork w ↦ λ e. rw w.self-is w.in_ok-crowded-in-Fork.ensures.listed
      | else-below w ↦ λ e. absurd (true≢false (sym e ∙ sym c.reaches-below.ensures ∙ w.if-below.false))
    ] in
    fork_lists c.in-Fork.cut (listed_at c.if-below.self.1.1.0.value) (listed_at c.put-then-beyond.new.self) c.args.e low (λ e. c.in_ok-other-in-Fork.ensures.listed)

pub returns-else-beyond-clause-kept : goal.returns-else-beyond-clause-kept
returns-else-beyond-clause-kept t c = λ e p reach l.
    let low : KeepsListed (listed_at c.in-Fork.low.value) (listed_at c.if-below.self.1.1.0.value) =
    elim c.if-below.branch [
      | then-below+in_ok-crowded-in-Fork w ↦ rw w.self-is (rw w.deref_mut.ensures.value at w.in_ok-crowded-in-Fork.ensures.kept)
      | else-below w ↦ rw w.self-is (kept_same (listed_at c.in-Fork.low.value))
    ] in
    fork_keeps c.in-Fork.cut (listed_at c.in-Fork.low.value) (listed_at c.in-Fork.high.value) (listed_at c.if-below.self.1.1.0.value) (listed_at c.in-Fork.high.value)
    low (kept_same (listed_at c.in-Fork.high.value)) e p reach
    (subst (λ (z : Tree). StandsIn e (listed_at z p)) c.in-Fork.is l)

pub returns-else-beyond-clause-listed : goal.returns-else-beyond-clause-listed
returns-else-beyond-clause-listed t c =
    let low : reaches c.in-Fork.cut c.args.e true ≡ true → HasListed (listed_at c.if-below.self.1.1.0.value) c.args.e =
    elim c.if-below.branch [
      | then-below+in_ok-crowded-in-Fork w ↦ λ e. rw w.self-is w.in_ok-crowded-in-Fork.ensures.listed
      | else-below w ↦ λ e. absurd (true≢false (sym e ∙ sym c.reaches-below.ensures ∙ w.if-below.false))
    ] in
    fork_lists c.in-Fork.cut (listed_at c.if-below.self.1.1.0.value) (listed_at c.in-Fork.high.value) c.args.e low
    (λ e. absurd (true≢false (sym e ∙ sym c.reaches-beyond.ensures ∙ c.if-beyond.false)))
