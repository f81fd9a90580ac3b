use Rattle.std.proofs.Common.{◌≡◌, ℕ, ◌+◌, ◌<◌, List, [], ◌∷◌, ◌++◌, length, take, add-one, refl, sym, ◌∙◌, ap, subst, arith}
use Rattle.std.proofs.Math.Seq.{take-length, take-suc}
use Rattle.std.proofs.lemmas.List.{get_or_read_under}
use Rattle.mesh_plane.specs.Plane.{Point}
use Rattle.mesh_points.specs.declared.edges.NumberedEdge.{NumberedEdge}
use Rattle.mesh_points.specs.Edges.{edge_at, no_edge, IsNumbered}
use Rattle.mesh_paths.proofs.Starting.{paths_begun}
use Rattle.mesh_paths.proofs.paths.Paths.start.Goals as goal

pub loop-k-init : goal.loop-k-init
loop-k-init c = record {
  filed = c.in_ok-paths.ensures.filed;
  edges = c.in_ok-paths.ensures.edges;
  points = c.in_ok-paths.ensures.points;
  splits = c.in_ok-paths.ensures.splits;
  held = λ k h. absurd (omega (arith, c.in_ok-paths.ensures.filed.count, ap length c.in_ok-paths.ensures.edges));
  below = c.in_ok-paths.ensures.below;
}

pub begin-requires-clause-numbered : goal.begin-requires-clause-numbered
begin-requires-clause-numbered c =
    let es : List NumberedEdge = c.args.given.list.items in
    let low : c.loop-k.k < length es = omega (arith, c.loop-k-test.true, c.len-k-end.ensures) in
    let is : c.index.result.now ≡ edge_at es c.loop-k.k = get_or_read_under es c.loop-k.k (length es) c.index.result.now no_edge c.index.ensures low refl in
    subst (λ (ps : List Point). IsNumbered ps c.index.result.now) (sym c.loop-k.invariant.points)
    (subst (IsNumbered c.args.given.points) (sym is) (c.requires.numbered c.loop-k.k low))

pub loop-k-preserved : goal.loop-k-preserved
loop-k-preserved c =
    let es : List NumberedEdge = c.args.given.list.items in
    let low : c.loop-k.k < length es = omega (arith, c.loop-k-test.true, c.len-k-end.ensures) in
    let is : c.index.result.now ≡ edge_at es c.loop-k.k = get_or_read_under es c.loop-k.k (length es) c.index.result.now no_edge c.index.ensures low refl in
    let more : c.loop-k.paths.edges.items ++ c.index.result.now ∷ [] ≡ take (c.loop-k.k + 1) es =
    (λ i. c.loop-k.invariant.edges i ++ is i ∷ []) ∙ (sym (take-suc es c.loop-k.k no_edge low) ∙ ap (λ (n : ℕ). take n es) (sym (add-one c.loop-k.k))) in
    record {
      filed = c.in_ok-first.ensures.filed;
      edges = c.in_ok-first.ensures.edges ∙ more;
      points = c.begin.ensures.points ∙ c.loop-k.invariant.points;
      splits = c.begin.ensures.splits ∙ c.loop-k.invariant.splits;
      held = c.in_ok-first.ensures.held c.loop-k.invariant.splits c.loop-k.invariant.held;
      below = c.in_ok-first.ensures.below;
    }

pub returns-clause-paths : goal.returns-clause-paths
returns-clause-paths c =
    let es : List NumberedEdge = c.args.given.list.items in
    let end : c.loop-k.k ≡ length es = omega (arith, c.loop-k-test.false, c.loop-k.auto.k-end, c.len-k-end.ensures) in
    paths_begun c.loop-k.paths c.args.given.points es c.loop-k.invariant.filed c.loop-k.invariant.held c.loop-k.invariant.splits
    (c.loop-k.invariant.edges ∙ (ap (λ (n : ℕ). take n es) end ∙ take-length es)) c.requires.numbered
