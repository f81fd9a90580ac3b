use Rattle.std.proofs.Common.{◌≡◌, ℕ, ◌+◌, ◌/◌, ◌<◌, ◌⊎◌, ⊎_elim, get_or, sym, ◌∙◌, ap, arith}
use Rattle.std.proofs.lemmas.List.{get_or_default}
use Rattle.mesh_pairs.proofs.Listing.{grows_all, grows_itself, settled_kept}
use Rattle.mesh_pairs.proofs.pairs.Pairs.find_of.Goals as goal

below_or_at : (k n : ℕ) → k < n + 1 → (k < n) ⊎ (k ≡ n)
below_or_at k n h = grind arith

pub loop-run-init : goal.loop-run-init
loop-run-init c = record { listed = c.requires.listed; grows = grows_itself c.args.self.now; settled = λ r j h. absurd (omega arith) }

pub loop-run-preserved : goal.loop-run-preserved
loop-run-preserved c =
    let v = c.loop-run.invariant in
    let more = c.in_ok-find_in.ensures in
    record {
      listed = more.listed;
      grows = grows_all c.args.self.now c.loop-run.self c.find_in.new.self v.grows more.grows;
      settled = λ r j h at order within. ⊎_elim
          (λ (l : r < c.loop-run.run-index). settled_kept c.args.edges.now c.loop-run.self c.find_in.new.self c.args.i j more.grows (v.settled r j l at order within))
          (λ (e : r ≡ c.loop-run.run-index). more.settled j (at ∙ ap (λ (n : ℕ). get_or c.args.runs.now n 0) e) order within)
          (below_or_at r c.loop-run.run-index h);
    }

pub returns-clause-settled : goal.returns-clause-settled
returns-clause-settled c = λ j has order within.
    c.loop-run.invariant.settled has.0 j (omega (arith, has.1, c.loop-run-test.false)) (sym (get_or_default c.args.runs.now has.0 0 (j / 8) has.1 ∙ has.2)) order within
