use Rattle.std.proofs.Common.{◌≡◌, ◌∙◌, ℕ, suc, ◌+◌, ◌-◌, false, length, refl, subst, sym, arith}
use Rattle.std.proofs.lemmas.Bool.{both_ways}
use borrow.Author.Count.{below_more}
use Rattle.mesh_convex.specs.Convex.{edge_at, start_at, TurnLeft}
use Rattle.mesh_convex.proofs.Turns.{loop_turns, turn_on, turning_on}
use Rattle.mesh_convex.proofs.convex.is_convex_loop.Goals as goal

pub loop-k-preserved : goal.loop-k-preserved
loop-k-preserved c =
    let es = c.args.edges.now in
    let k = c.loop-k.k in
    let some = c.loop-k.invariant.0 in
    let chained = c.loop-k.invariant.1.0 in
    let following : k + 1 ≡ suc k = omega arith in
    let next : (edge_at es k).1 ≡ start_at es (suc k) =
    subst (λ (n : ℕ). (edge_at es k).1 ≡ start_at es n) following (c.leads_to-in-loop-k.ensures.0 c.if-not-leads_to-2.false) in
    let on = turning_on (start_at es 0) (edge_at es 0).1 (start_at es 1) (start_at es (k - 1)) (edge_at es k) (start_at es (suc k)) (chained 0 some) next
    (c.is_turning_on.ensures.0 c.if-not-is_turning_on.false) in (
      omega arith,
      (
        below_more (λ (j : ℕ). (edge_at es j).1 ≡ start_at es (suc j)) k chained next,
        subst (λ (n : ℕ). TurnLeft (start_at es) (suc n)) (sym following) (turn_on (start_at es) k some c.loop-k.invariant.1.1 on),
      ),
    )

pub returns-then-not-is_turning_on : goal.returns-then-not-is_turning_on
returns-then-not-is_turning_on c = (
  λ t. absurd (both_ways false refl t),
  λ loop. sym c.if-not-is_turning_on.true ∙ c.is_turning_on.ensures.1 (loop_turns c.args.edges.now loop c.loop-k.k c.loop-k.invariant.0 (omega (arith, c.if-count-lt3.false, c.loop-k-test.true, c.loop-k.auto.k-end))),
)

pub returns : goal.returns
returns c = (
  λ t.
      let es = c.args.edges.now in
      let k = c.loop-k.k in
      let last : suc k ≡ length es = omega (arith, c.if-count-lt3.false, c.loop-k-test.false, c.loop-k.auto.k-end) in
      record {
        many = omega (arith, c.if-count-lt3.false);
        chained = λ j h. c.loop-k.invariant.1.0 j (omega (arith, h, last));
        closed = λ j e.
            let same : length es - 1 ≡ j = omega (arith, e) in
            subst (λ (n : ℕ). (edge_at es n).1 ≡ start_at es 0) same (c.leads_to-2.ensures.0 t);
        left = subst (λ (n : ℕ). TurnLeft (start_at es) n) last c.loop-k.invariant.1.1;
      },
  λ loop.
      let es = c.args.edges.now in
      let n : suc (length es - 1) ≡ length es = omega (arith, c.if-count-lt3.false) in
      c.leads_to-2.ensures.1 (loop.closed (length es - 1) n),
)
