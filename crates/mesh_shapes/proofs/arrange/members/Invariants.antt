use Rattle.std.proofs.Common.{◌≡◌, ℕ, ◌<◌, length, get_or}
use Rattle.std.specs.Prelude.{Vec}
use Rattle.std.specs.declared.alloc.Global.{Global}
use Rattle.mesh_shapes.specs.Vectors.{rings_of_vecs}
use Rattle.mesh_shapes.proofs.Shapes.{AreMembersTo}
use Rattle.mesh_shapes.proofs.Taking.{AreApartTo}
use Rattle.mesh_shapes.proofs.arrange.members.Given as goal

abbrev pub invariant-loop-i : goal.invariant-loop-i
invariant-loop-i l = record {
  len : length l.members.items ≡ length l.rings;
  members : (h : ℕ) (d : Vec ℕ Global) → h < length l.rings → AreMembersTo (rings_of_vecs l.rings) l.i h (get_or l.members.items h d).items;
  apart : (h : ℕ) (d : Vec ℕ Global) → h < length l.rings → AreApartTo l.homes l.i h (get_or l.members.items h d).items;
}
