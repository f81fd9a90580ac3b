-- Lemmas over points: the points beside a corner that turns from the east to the north do not turn back.
use Rattle.std.proofs.Common.{ℕ, ◌<◌, arith}
use Rattle.std.specs.Prelude.{ℤ, pos, ◌*ℤ◌, ◌≤ℤ◌}
use Rattle.std.proofs.lemmas.Int.{ints}
use Rattle.mesh_plane.specs.Plane.{Point, cross, turn}
use Rattle.mesh_num.specs.Direction.{IsDirection, scaled_direction}
use Rattle.mesh_num.proofs.Scaling.{scaled_turn_kept}
use Rattle.mesh_arc.specs.Arcs.{sense_of}
use Rattle.mesh_arc.specs.declared.arc.ArcDirection.TheVariants.{Counterclockwise}
use Rattle.mesh_join.specs.Joints.{contact}
use Rattle.mesh_offset.proofs.Quarters.{quarters_turn}

pub turns_on : (unit : ℕ) (radius : ℤ) (v n m : Point) → 0 < unit → IsDirection unit (pos 1, pos 0) n → IsDirection unit (pos 0, pos 1) m →
    pos 0 ≤ℤ (sense_of Counterclockwise *ℤ turn v (contact unit radius Counterclockwise v n) (contact unit radius Counterclockwise v m))
turns_on unit radius v n m some p q =
    let s : Point = scaled_direction unit radius n in
    let t : Point = scaled_direction unit radius m in
    let kept : pos 0 ≤ℤ cross s t = scaled_turn_kept radius some p q (omega (arith, ints)) in
    omega (arith, ints, quarters_turn v s t, kept)
