use Rattle.std.proofs.Common.{arith, rules}
use Rattle.std.proofs.lemmas.List.Sorted.{IsPartitionPoint-from_clause}
use Rattle.mesh_plane.specs.Plane.{Edge}
use Rattle.mesh_plane.specs.Order.{point_lt}
use Rattle.mesh_shapes.proofs.Tracing.{parted_at}
use Rattle.mesh_shapes.proofs.trace.first_from.Goals as goal

pub returns-clause-before : goal.returns-clause-before
returns-clause-before c =
    let point = IsPartitionPoint-from_clause (λ (e : Edge). point_lt e.0 c.args.at) _ _ c.partition_point.ensures.partitioned (parted_at c.args.edges.now c.args.at c.requires) (λ a r q k. search rules) in
    λ k d h. point.0 k d (omega arith) h

pub returns-clause-after : goal.returns-clause-after
returns-clause-after c =
    let point = IsPartitionPoint-from_clause (λ (e : Edge). point_lt e.0 c.args.at) _ _ c.partition_point.ensures.partitioned (parted_at c.args.edges.now c.args.at c.requires) (λ a r q k. search rules) in
    λ k d l h. point.1 k d l h
