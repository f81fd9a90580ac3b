use Rattle.std.proofs.Common.{rules}
use Rattle.std.proofs.lemmas.Int.{to_z-of_z}
use mir.Syntax.{w32}
use mir.Val.{SFits}
use Rattle.mesh_store.proofs.bounding.bounding_box.Goals as goal

pub returns : goal.returns
returns c =
    let s = c.args.s in
    let a : SFits w32 s.0.0 = search rules in
    let b : SFits w32 s.1.0 = search rules in
    let f : SFits w32 s.0.1 = search rules in
    let g : SFits w32 s.1.1 = search rules in
    let west = simp (to_z-of_z w32 s.0.0 a, to_z-of_z w32 s.1.0 b) at c.min.ensures in
    let south = simp (to_z-of_z w32 s.0.1 f, to_z-of_z w32 s.1.1 g) at c.min-2.ensures in
    let east = simp (to_z-of_z w32 s.0.0 a, to_z-of_z w32 s.1.0 b) at c.max.ensures in
    let north = simp (to_z-of_z w32 s.0.1 f, to_z-of_z w32 s.1.1 g) at c.max-2.ensures in
    rw (to_z-of_z w32 c.min.result (record { sfits = c.min.type_inv }), to_z-of_z w32 c.min-2.result (record { sfits = c.min-2.type_inv }), to_z-of_z w32 c.max.result (record { sfits = c.max.type_inv }), to_z-of_z w32 c.max-2.result (record { sfits = c.max-2.type_inv }))
    (record {
      west_of_start = west.self_bound;
      west_of_end = west.other_bound;
      south_of_start = south.self_bound;
      south_of_end = south.other_bound;
      east_of_start = east.self_bound;
      east_of_end = east.other_bound;
      north_of_start = north.self_bound;
      north_of_end = north.other_bound;
    })
