use Rattle.std.proofs.Common.{rules, ◌≡◌, refl, sym, ◌∙◌}
use mir.Syntax.{w128}
use mir.Val.{to_z, of_z}
use Rattle.mesh_plane.specs.Winding.{refined}
use Rattle.mesh_boundary.specs.Private.Stars.{segment}
use Rattle.mesh_boundary.proofs.BoundaryCounted.{counted_at}
use Rattle.mesh_boundary.proofs.StarLists.{have_stars}
use Rattle.mesh_boundary.proofs.flood.Flood.new.Goals as goal

pub loop-k-preserved : goal.loop-k-preserved
loop-k-preserved c = record {
  known = λ es is split.
      let ks = c.args.segments.now in
      let have = have_stars es ks c.args.stars.now.parts.items c.args.stars.now.members.items c.args.stars.now.ends.items c.requires.stars is split in
      let w = c.in_ok-winding.winding in
      let kept : to_z w128 (of_z w128 w) ≡ w = search rules in
      let level = sym (counted_at es ks split.proper is (refined 2 (segment ks c.loop-k.k).0.0)) ∙ (sym c.in_ok-winding.ensures.value ∙ sym kept) in
      c.in_ok-pour.ensures es have (c.in_ok-start.ensures es have refl level (c.loop-k.invariant.known es is split));
  rows = c.in_ok-winding.ensures.rows;
}
