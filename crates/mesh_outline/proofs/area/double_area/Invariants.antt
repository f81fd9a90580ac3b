use Rattle.std.proofs.Common.{◌≡◌, ◌^◌, ◌*◌, ◌≤◌, drop}
use Rattle.std.specs.Prelude.{◌+ℤ◌, unsigned_abs}
use Rattle.mesh_plane.specs.Plane.{cross}
use Rattle.mesh_plane.specs.Winding.{total, route}
use Rattle.mesh_outline.proofs.area.double_area.Given as goal

-- the area so far and that of the edges that are left make up the whole
abbrev pub invariant-loop-point : goal.invariant-loop-point
invariant-loop-point g l = record {
  sum : total cross (route l.first l.rest l.first) ≡ l.area +ℤ total cross (route l.previous (drop l.point-index l.rest) l.first);
  size : unsigned_abs l.area ≤ l.point-index * 2 ^ 63;
}
