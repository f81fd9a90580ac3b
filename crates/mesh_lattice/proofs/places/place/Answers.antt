use Rattle.std.proofs.Common.{arith, rules}
use Rattle.std.proofs.lemmas.List.Sorted.{IsPartitionPoint-from_clause}
use Rattle.std.specs.Prelude.{int_le}
use Rattle.mesh_lattice.specs.declared.places.Mark.{Mark}
use Rattle.mesh_lattice.proofs.PlacesAmong.{parted_at, place_is}
use Rattle.mesh_lattice.proofs.places.place.Goals as goal

pub returns-clause-value : goal.returns-clause-value
returns-clause-value c =
    let ms = c.args.marks.now in
    let point = IsPartitionPoint-from_clause (λ (m : Mark). int_le m.at c.args.q.at) _ _ c.partition_point.ensures.partitioned (parted_at ms c.args.q.at c.requires) (λ a r q k. search rules) in
    place_is ms c.args.q.at c.partition_point.result c.partition_point.ensures.bound (λ k d h. point.0 k d (omega arith) h) (λ k d l h. point.1 k d l h)
