-- How often zones cover the plane, and booleans of polygons that wind once round what they hold.
use Rattle.std.specs.Prelude.{ℕ, ◌<◌, ◌⊎◌, ◌≡◌, Bool, false, List, map, ℤ, pos, max, nat_le, count_by, Vec}
use Rattle.std.specs.List.{flat_map}
use Rattle.std.specs.declared.alloc.Global.{Global}
use Rattle.mesh_plane.specs.Plane.{Point, Edge}
use Rattle.mesh_plane.specs.Winding.{winding}
use Rattle.mesh_num.specs.Paths.{shapes_of}
use Rattle.mesh_num.specs.Segments.{proper_edges}
use Rattle.mesh_lattice.specs.FillRules.{filled_by}
use Rattle.mesh_lattice.specs.declared.fill.WindingRule.{WindingRule}
use Rattle.mesh_lattice.specs.declared.fill.WindingRule.TheVariants as winding_rule
use Rattle.mesh_regions.specs.Regions.{OutsideBent}
use Rattle.mesh_lattice.specs.Nearness.{IsFarFrom}
use Rattle.mesh_below.specs.Laws.{AreRegions}
use Rattle.mesh_below.specs.Nearness.{AreRegionsBeyond}
use Rattle.mesh_shapes.specs.Resolution.{Choices}
use Rattle.mesh_offset.specs.Adding.{answer_edges}
use Rattle.mesh_offset.specs.Regions.{WindsOnceWhere}
use Rattle.mesh_boolean.specs.Booleans.{both_edges}
use Rattle.mesh_boolean.specs.Regions.{holds_point}
use Rattle.mesh_boolean.specs.Rules.{combine, way_of}
use Rattle.mesh_boolean.specs.declared.rule.BooleanRule.{BooleanRule}
use Rattle.mesh_boolean.specs.declared.rule.Way.{Way}
use Rattle.mesh_boolean.specs.declared.rule.Way.TheVariants as way

-- polygons wind once or not at all round each point of each grid, as every answer does that leaves nothing out and runs
-- counterclockwise
abbrev pub WindOnce : List (List (List Point)) → Type 0
WindOnce answer =
    (m : ℕ) → 0 < m → (q : Point)
    → (winding m q (answer_edges answer) ≡ pos 0) ⊎ (winding m q (answer_edges answer) ≡ pos 1)

-- answers that leave nothing out and run counterclockwise do so
abbrev pub AnswersWindOnce : Type 0
AnswersWindOnce =
    (edges : List Edge) (fill : ℤ → Bool) (options : Choices) (answer : List (List (List Point)))
    → AreRegions edges fill options answer → options.least_area ≡ 0 → options.clockwise ≡ false → WindOnce answer

-- the edges that are resolved of two lists of polygons, and the rule by which
abbrev pub edges_by : Way → List (List (List Point)) → List (List (List Point)) → List Edge
edges_by way.Subject first second = proper_edges (answer_edges first)
edges_by way.Clip first second = proper_edges (answer_edges second)
edges_by (way.Together sense rule) first second = both_edges sense first second

abbrev pub rule_by : Way → WindingRule
rule_by way.Subject = winding_rule.Positive
rule_by way.Clip = winding_rule.Positive
rule_by (way.Together sense rule) = rule

-- a boolean of polygons: their edges are resolved once; outside the boxes of bent edges the answer winds once where the
-- boolean keeps the point
pub record AreOverlaidRegions (rule : BooleanRule) (first second : List (List (List Point))) (choices : Choices)
    (answer : List (List (List Point))) : Type 0 where
  pub regions : AreRegions (edges_by (way_of rule) first second) (filled_by (rule_by (way_of rule))) choices answer
  pub fills : WindsOnceWhere (λ m q. combine rule (holds_point first m q) (holds_point second m q))
      (λ m q. OutsideBent regions.resolution.splits (edges_by (way_of rule) first second) m q) choices answer

-- the same with an error bound, in 64ths of a grid unit: at each point farther than `k` from each edge of the polygons the
-- answer winds once where the boolean keeps the point
pub record AreOverlaidRegionsBeyond (k : ℕ) (rule : BooleanRule) (first second : List (List (List Point)))
    (choices : Choices) (answer : List (List (List Point))) : Type 0 where
  pub beyond : AreRegionsBeyond k (edges_by (way_of rule) first second) (filled_by (rule_by (way_of rule))) choices answer
  pub fills : WindsOnceWhere (λ m q. combine rule (holds_point first m q) (holds_point second m q))
      (λ m q. IsFarFrom k m (edges_by (way_of rule) first second) q) choices answer

-- zones as the code holds them
abbrev pub zones_of : List (Vec (Vec (Vec Point Global) Global) Global) → List (List (List (List Point)))
zones_of zones = map (λ zone. shapes_of zone.items) zones

-- the edges of all zones
abbrev pub zone_edges : List (List (List (List Point))) → List Edge
zone_edges zones = proper_edges (flat_map answer_edges zones)

-- at least so many of the zones hold the point, and one at least
abbrev pub is_covered : ℕ → List (List (List (List Point))) → ℕ → Point → Bool
is_covered least zones m q = nat_le (max least 1) (count_by (λ zone. holds_point zone m q) zones)

-- where at least so many zones cover the plane: all their edges are resolved once; outside the boxes of bent edges the
-- answer winds once where so many zones hold the point
pub record AreCoveredRegions (least : ℕ) (zones : List (List (List (List Point)))) (choices : Choices)
    (answer : List (List (List Point))) : Type 0 where
  pub regions : AreRegions (zone_edges zones) (filled_by (winding_rule.AtLeast least)) choices answer
  pub fills : WindsOnceWhere (is_covered least zones)
      (λ m q. OutsideBent regions.resolution.splits (zone_edges zones) m q) choices answer

-- the same with an error bound, in 64ths of a grid unit: at each point farther than `k` from each edge of the zones the
-- answer winds once where so many zones hold the point
pub record AreCoveredRegionsBeyond (k least : ℕ) (zones : List (List (List (List Point)))) (choices : Choices)
    (answer : List (List (List Point))) : Type 0 where
  pub beyond : AreRegionsBeyond k (zone_edges zones) (filled_by (winding_rule.AtLeast least)) choices answer
  pub fills : WindsOnceWhere (is_covered least zones) (λ m q. IsFarFrom k m (zone_edges zones) q) choices answer
