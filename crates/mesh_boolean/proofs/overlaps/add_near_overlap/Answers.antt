-- The edges of both zones are resolved.
use Rattle.std.proofs.Common.{◌≡◌, List, subst}
use Rattle.mesh_plane.specs.Plane.{Edge}
use Rattle.mesh_num.specs.Paths.{shapes_of}
use Rattle.mesh_lattice.specs.FillRules.{filled_by}
use Rattle.mesh_lattice.specs.declared.fill.WindingRule.TheVariants as winding_rule
use Rattle.mesh_below.specs.Nearness.{AreCountedRegions}
use Rattle.mesh_below.specs.Options.{choices_of}
use Rattle.mesh_offset.specs.Counting.{CountsAttempts}
use Rattle.mesh_boolean.proofs.Overlapping.{pair_edges_are}
use Rattle.mesh_boolean.proofs.overlaps.add_near_overlap.Goals as goal

pub near_combined-requires-clause-first : goal.near_combined-requires-clause-first
near_combined-requires-clause-first g c = rw c.index-zones-first.is (c.requires.safe c.args.pair.0 c.index-zones-first.result c.requires.first)

pub near_combined-requires-clause-second : goal.near_combined-requires-clause-second
near_combined-requires-clause-second g c = rw c.index-zones-second.is (c.requires.safe c.args.pair.1 c.index-zones-second.result c.requires.second)

pub returns-clause-adds : goal.returns-clause-adds
returns-clause-adds g c = record {
  answer = shapes_of c.in_ok-near.near.shapes.items;
  has =
      subst (λ (es : List Edge). AreCountedRegions c.in_ok-near.near.nearness es (filled_by (winding_rule.AtLeast 2)) (choices_of g.I.WideUInt.WideUnsigned.value c.args.options) (shapes_of c.in_ok-near.near.shapes.items)
      c.args.count.now c.near_combined.new.count)
      (pair_edges_are c.args.zones.now c.args.pair.0 c.args.pair.1 c.index-zones-first.result c.index-zones-second.result c.requires.first c.requires.second c.index-zones-first.is c.index-zones-second.is)
      c.in_ok-near.ensures.standing;
  safe = c.in_ok-near.ensures.safe;
  added = c.in_ok-list_unless_empty.ensures;
}

pub returns-in_err-near-clause-counted : goal.returns-in_err-near-clause-counted
returns-in_err-near-clause-counted g c =
    subst (λ (es : List Edge). CountsAttempts 1 (λ (fs : List Edge). fs ≡ es) c.args.count.now c.near_combined.new.count)
    (pair_edges_are c.args.zones.now c.args.pair.0 c.args.pair.1 c.index-zones-first.result c.index-zones-second.result c.requires.first c.requires.second c.index-zones-first.is c.index-zones-second.is)
    c.near_combined.ensures.counted

pub returns-in_err-list_unless_empty-clause-counted : goal.returns-in_err-list_unless_empty-clause-counted
returns-in_err-list_unless_empty-clause-counted g c =
    subst (λ (es : List Edge). CountsAttempts 1 (λ (fs : List Edge). fs ≡ es) c.args.count.now c.near_combined.new.count)
    (pair_edges_are c.args.zones.now c.args.pair.0 c.args.pair.1 c.index-zones-first.result c.index-zones-second.result c.requires.first c.requires.second c.index-zones-first.is c.index-zones-second.is)
    c.near_combined.ensures.counted

pub returns-clause-counted : goal.returns-clause-counted
returns-clause-counted g c =
    subst (λ (es : List Edge). CountsAttempts 1 (λ (fs : List Edge). fs ≡ es) c.args.count.now c.near_combined.new.count)
    (pair_edges_are c.args.zones.now c.args.pair.0 c.args.pair.1 c.index-zones-first.result c.index-zones-second.result c.requires.first c.requires.second c.index-zones-first.is c.index-zones-second.is)
    c.near_combined.ensures.counted
