-- The nets are read and compared, or the failure is handed on.
use Rattle.std.proofs.Common.{◌<◌, ◌^◌, List, sym, subst, arith, ◌∙◌}
use Rattle.std.specs.List.{All}
use Rattle.mesh_nets.specs.declared.nets.NetClearance.{NetClearance}
use Rattle.mesh_arrays.specs.ShapeRooms.{shape_lists}
use Rattle.mesh_arrays.proofs.NetClearances.{all_in_range, answers}
use Rattle.mesh_arrays.proofs.nets.near_nets.Goals as goal

pub in_64_bits-requires : goal.in_64_bits-requires
in_64_bits-requires g c =
    subst (λ (found : List NetClearance). All (λ (pair : NetClearance). pair.squared < 2 ^ 64) found) (sym c.deref-2.ensures.value)
    (all_in_range _ c.args.distance c.in_ok-found.found.items (omega arith) c.in_ok-found.ensures)

pub returns : goal.returns
returns g c =
    answers g.P.Flat.item_of (shape_lists c.args.points.now c.args.contour_ends.now c.args.net_ends.now) c.args.distance c.in_ok-read_shapes.field-0.items c.in_ok-nets.nets.items
    c.in_ok-found.found.items c.in_ok-in_64_bits.field-0 c.in_ok-read_shapes.ensures c.in_ok-nets.ensures (rw c.deref.ensures.value at c.in_ok-found.ensures)
    (c.in_ok-in_64_bits.ensures ∙ c.deref-2.ensures.value)
