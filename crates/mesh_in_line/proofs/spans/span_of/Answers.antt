use Rattle.std.proofs.Common.{rules, inr, ◌∙◌}
use Rattle.mesh_in_line.proofs.Placed.{placed_at}
use Rattle.mesh_in_line.proofs.spans.span_of.Goals as goal

pub returns-then-start-end : goal.returns-then-start-end
returns-then-start-end c =
    let start = placed_at c.args.level c.args.e.0 _ (c.in_ok-start.ensures.at ∙ c.turned.ensures) in
    let end = placed_at c.args.level c.args.e.1 _ (c.in_ok-end.ensures.at ∙ c.turned-2.ensures) in
    inr (record {
      within = c.in_ok-end.ensures.within;
      rising = c.if-start-end.true;
      along = search rules;
      ends = λ i. (start i, end i);
    })

pub returns-then-end-start : goal.returns-then-end-start
returns-then-end-start c =
    let start = placed_at c.args.level c.args.e.0 _ (c.in_ok-start.ensures.at ∙ c.turned.ensures) in
    let end = placed_at c.args.level c.args.e.1 _ (c.in_ok-end.ensures.at ∙ c.turned-2.ensures) in
    inr (record {
      within = c.in_ok-start.ensures.within;
      rising = c.if-end-start.true;
      along = search rules;
      ends = λ i. (start i, end i);
    })
