-- The walk goes on from vertex to vertex.
use Rattle.std.proofs.Common.{◌≡◌, true, false, ℕ, ◌<◌, slice_index_or, ◌+◌, ◌∷◌, List, drop, length, sym, ◌∙◌, ap, arith}
use Rattle.std.proofs.lemmas.List.{drop_more, drop_all, nil_from_length}
use Rattle.mesh_join.specs.VariableStyles.{Vertex}
use Rattle.mesh_offset.proofs.Adding.{on_ok_then}
use Rattle.mesh_variable_stroke.proofs.Thin.{thin_starts, thin_next, thin_steps}
use Rattle.mesh_variable_stroke.proofs.Walking.{none_adds, walk_starts, next_safe, walk_steps, walk_ends, kept_through}
use Rattle.mesh_variable_stroke.proofs.builder.draw.Goals as goal

pub returns-in_default-clause-ok : goal.returns-in_default-clause-ok
returns-in_default-clause-ok g c =
    none_adds g.I.IntNumber.unit c.args.sweeper.now c.args.path.now c.args.segments.now.items
    (nil_from_length c.args.path.now c.in_default.ensures.cases)

pub loop-vertex-init : goal.loop-vertex-init
loop-vertex-init g c = record {
  walked =
      walk_starts g.I.IntNumber.unit c.args.sweeper.now c.args.path.now c.args.segments.now.items c.in-Some.first.now
      c.in-Some.rest.now c.circle_of.result c.new-walk.result c.in-Some.ensures.cases.0 c.circle_of.ensures
      c.new-walk.ensures c.requires;
  thin =
      thin_starts c.args.path.now c.in-Some.first.now c.in-Some.rest.now c.circle_of.result c.new-walk.result
      c.in-Some.ensures.cases.0 c.circle_of.ensures c.new-walk.ensures;
  capacity = omega arith;
}

-- the vertices to come begin with the next one
left_is : (rest : List Vertex) (i : ℕ) (v : Vertex) → i < length rest → v ≡ slice_index_or rest i v → drop i rest ≡ v ∷ drop (i + 1) rest
left_is rest i v l h = drop_more rest i v l ∙ ap (λ (x : Vertex). x ∷ drop (i + 1) rest) (sym h)

pub step-requires-clause-walk : goal.step-requires-clause-walk
step-requires-clause-walk g c = c.loop-vertex.invariant.walked.good

pub step-requires-clause-next : goal.step-requires-clause-next
step-requires-clause-next g c =
    next_safe g.I.IntNumber.unit c.args.sweeper.now c.args.path.now c.args.segments.now.items
    c.loop-vertex.segments.items c.loop-vertex.sweeper c.loop-vertex.walk c.vertex-item.result
    (drop (c.loop-vertex.vertex-index + 1) c.in-Some.rest.now) c.circle_of-in-loop-vertex.result
    c.circle_of-in-loop-vertex.ensures
    (rw (left_is c.in-Some.rest.now c.loop-vertex.vertex-index c.vertex-item.result c.loop-vertex-test.true c.vertex-item.is) at c.loop-vertex.invariant.walked)

pub returns-in_err-step-clause-kept : goal.returns-in_err-step-clause-kept
returns-in_err-step-clause-kept g c =
    kept_through g.I.IntNumber.unit c.args.sweeper.now c.args.path.now c.args.segments.now.items
    c.loop-vertex.segments.items c.loop-vertex.sweeper c.loop-vertex.walk
    (drop c.loop-vertex.vertex-index c.in-Some.rest.now) c.step.new.segments.items c.loop-vertex.invariant.walked c.step.ensures.kept

pub returns-in_err-step-clause-same : goal.returns-in_err-step-clause-same
returns-in_err-step-clause-same g c = c.step.ensures.same ∙ c.loop-vertex.invariant.walked.same

pub returns-in_err-step-clause-thin : goal.returns-in_err-step-clause-thin
returns-in_err-step-clause-thin g c h =
    let ok : false ≡ true = c.in_err-step.ensures.thin (c.loop-vertex.invariant.thin h).walk
    (thin_next c.loop-vertex.walk c.vertex-item.result (drop (c.loop-vertex.vertex-index + 1) c.in-Some.rest.now)
    c.circle_of-in-loop-vertex.result c.circle_of-in-loop-vertex.ensures
    (rw (left_is c.in-Some.rest.now c.loop-vertex.vertex-index c.vertex-item.result c.loop-vertex-test.true c.vertex-item.is) at (c.loop-vertex.invariant.thin h))) in
    absurd (cc)

pub loop-vertex-preserved : goal.loop-vertex-preserved
loop-vertex-preserved g c = record {
  walked =
      walk_steps g.I.IntNumber.unit c.args.sweeper.now c.args.path.now c.args.segments.now.items
      c.loop-vertex.segments.items c.loop-vertex.sweeper c.loop-vertex.walk c.vertex-item.result
      (drop (c.loop-vertex.vertex-index + 1) c.in-Some.rest.now) c.circle_of-in-loop-vertex.result
      c.step.new.segments.items c.step.new.sweeper c.step.new.self c.circle_of-in-loop-vertex.ensures
      (rw (left_is c.in-Some.rest.now c.loop-vertex.vertex-index c.vertex-item.result c.loop-vertex-test.true c.vertex-item.is) at c.loop-vertex.invariant.walked)
      c.in_ok-step.ensures.ok c.in_ok-step.ensures.walk c.in_ok-step.ensures.good c.in_ok-step.ensures.kept c.in_ok-step.ensures.same;
  thin = λ h.
      thin_steps g.I.IntNumber.unit c.loop-vertex.walk c.vertex-item.result
      (drop (c.loop-vertex.vertex-index + 1) c.in-Some.rest.now) c.circle_of-in-loop-vertex.result c.step.new.self
      c.circle_of-in-loop-vertex.ensures
      (rw (left_is c.in-Some.rest.now c.loop-vertex.vertex-index c.vertex-item.result c.loop-vertex-test.true c.vertex-item.is) at (c.loop-vertex.invariant.thin h))
      c.in_ok-step.ensures.walk;
  capacity = omega (arith, c.loop-vertex.invariant.capacity, c.in_ok-step.ensures.capacity);
}

pub finish-requires : goal.finish-requires
finish-requires g c = c.loop-vertex.invariant.walked.good

pub returns-clause-ok : goal.returns-clause-ok
returns-clause-ok g c =
    on_ok_then c.finish.result c.finish.ensures.ok
    (λ h. walk_ends g.I.IntNumber.unit c.args.sweeper.now c.args.path.now c.args.segments.now.items
    c.loop-vertex.segments.items c.loop-vertex.sweeper c.loop-vertex.walk c.finish.new.segments.items
    (rw (drop_all c.loop-vertex.vertex-index c.in-Some.rest.now (omega (arith, c.loop-vertex-test.false))) at c.loop-vertex.invariant.walked) h)

pub returns-clause-thin : goal.returns-clause-thin
returns-clause-thin g c h = c.finish.ensures.thin (c.loop-vertex.invariant.thin h).walk

pub returns-clause-kept : goal.returns-clause-kept
returns-clause-kept g c =
    kept_through g.I.IntNumber.unit c.args.sweeper.now c.args.path.now c.args.segments.now.items
    c.loop-vertex.segments.items c.loop-vertex.sweeper c.loop-vertex.walk
    (drop c.loop-vertex.vertex-index c.in-Some.rest.now) c.finish.new.segments.items c.loop-vertex.invariant.walked c.finish.ensures.kept

pub returns-clause-same : goal.returns-clause-same
returns-clause-same g c = c.finish.ensures.same ∙ c.loop-vertex.invariant.walked.same
