use Rattle.std.proofs.Common.{◌≡◌, ℕ, ◌+◌, ◌/◌, ◌<◌, ◌⊎◌, ⊎_elim, length, replicate, arith, rules}
use Rattle.mesh_pairs.proofs.Listing.{none_listed, settled_kept}
use Rattle.mesh_pairs.proofs.pairs.Pairs.find.Goals as goal

below_or_at : (k n : ℕ) → k < n + 1 → (k < n) ⊎ (k ≡ n)
below_or_at k n h = grind arith

pub loop-run-init : goal.loop-run-init
loop-run-init c =
    let room : c.in_ok-vec.field-0.items ≡ replicate (length c.args.edges.now) 2 = search rules in
    record {
      listed = none_listed c.args.edges.now _ c.in_ok-with_capacity.ensures.items c.new.ensures.items room;
      settled = λ i j l. absurd (omega arith);
    }

pub loop-run-preserved : goal.loop-run-preserved
loop-run-preserved c =
    let v = c.loop-run.invariant in
    let more = c.in_ok-find_from.ensures in
    record {
      listed = more.listed;
      settled = λ i j l order within. ⊎_elim
          (λ (b : i / 8 < c.loop-run.run). settled_kept c.args.edges.now c.loop-run.pairs c.find_from.new.self i j more.grows (v.settled i j b order within))
          (λ (e : i / 8 ≡ c.loop-run.run). more.settled i j e order within)
          (below_or_at (i / 8) c.loop-run.run l);
    }

pub returns : goal.returns
returns c = record {
  listed = c.loop-run.invariant.listed;
  settled = λ i j order within. c.loop-run.invariant.settled i j (omega (arith, order, within, c.loop-run-test.false, c.requires.tree.tree.many, c.requires.tree.boxes.many)) order within;
}
