-- The edges of both zones are resolved.
use Rattle.std.proofs.Common.{List, subst}
use Rattle.mesh_plane.specs.Plane.{Edge}
use Rattle.mesh_num.specs.Paths.{shapes_of}
use Rattle.mesh_lattice.specs.FillRules.{filled_by}
use Rattle.mesh_lattice.specs.declared.fill.WindingRule.TheVariants as winding_rule
use Rattle.mesh_below.specs.Laws.{AreRegions}
use Rattle.mesh_below.specs.Options.{choices_of}
use Rattle.mesh_boolean.proofs.Overlapping.{pair_edges_are}
use Rattle.mesh_boolean.proofs.overlaps.add_overlap.Goals as goal

pub combined-requires-clause-first : goal.combined-requires-clause-first
combined-requires-clause-first g c = rw c.index-zones-first.is (c.requires.safe c.args.pair.0 c.index-zones-first.result c.requires.first)

pub combined-requires-clause-second : goal.combined-requires-clause-second
combined-requires-clause-second g c = rw c.index-zones-second.is (c.requires.safe c.args.pair.1 c.index-zones-second.result c.requires.second)

pub returns : goal.returns
returns g c = record {
  answer = shapes_of c.in_ok-shapes.shapes.items;
  has =
      subst (λ (es : List Edge). AreRegions es (filled_by (winding_rule.AtLeast 2)) (choices_of g.I.WideUInt.WideUnsigned.value c.args.options) (shapes_of c.in_ok-shapes.shapes.items))
      (pair_edges_are c.args.zones.now c.args.pair.0 c.args.pair.1 c.index-zones-first.result c.index-zones-second.result c.requires.first c.requires.second c.index-zones-first.is c.index-zones-second.is)
      c.in_ok-shapes.ensures.regions;
  safe = c.in_ok-shapes.ensures.safe;
  added = c.in_ok-list_unless_empty.ensures;
}
