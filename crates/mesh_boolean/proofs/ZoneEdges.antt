-- Lemmas over points and lists: booleans of polygons, and how often zones cover points.
use Rattle.std.proofs.Common.{◌≡◌, ◌⊎◌, inl, inr, ⊎_elim, ℕ, ◌+◌, ◌<◌, ◌≤◌, Bool, true, false, cond, List, [], ◌∷◌, ◌++◌, length, take, get_or, take_all, refl, sym, ◌∙◌, ap, subst, arith}
use Rattle.std.specs.Prelude.{ℤ, pos, ◌+ℤ◌, int_lt, nat_le, max, count_by, Vec}
use Rattle.std.specs.List.{All, flat_map}
use Rattle.std.specs.declared.alloc.Global.{Global}
use Rattle.std.proofs.lemmas.Int.{ints}
use Rattle.std.proofs.lemmas.List.{append-nil, map_more}
use Rattle.std.proofs.lemmas.List.Concat.{flat_map-append}
use Rattle.std.proofs.lemmas.List.Elements.{All-head, All-tail}
use Rattle.std.proofs.lemmas.List.Sums.{sum_by-cons}
use Rattle.mesh_plane.specs.Plane.{Point, Edge}
use Rattle.mesh_plane.specs.Winding.{crossing_on, winding}
use Rattle.mesh_plane.proofs.ClosedLists.{all_mapped}
use Rattle.mesh_plane.proofs.Crossings.{crossing_on_odd}
use Rattle.mesh_plane.proofs.Sums.{total_append}
use Rattle.mesh_num.specs.Paths.{shapes_of}
use Rattle.mesh_num.specs.Segments.{SignedEdge, proper_edges}
use Rattle.mesh_lattice.specs.Counted.{bit}
use Rattle.mesh_lattice.specs.FillRules.{filled_by}
use Rattle.mesh_lattice.specs.Reach.{ArePointsSafe}
use Rattle.mesh_lattice.specs.Split.{after}
use Rattle.mesh_lattice.specs.declared.fill.FillRule.TheVariants.{Positive}
use Rattle.mesh_lattice.specs.declared.fill.WindingRule.TheVariants as winding_rule
use Rattle.mesh_shapes.specs.Resolution.{Choices}
use Rattle.mesh_below.specs.Laws.{AreRegions}
use Rattle.mesh_below.specs.Nearness.{AreRegionsBeyond}
use Rattle.mesh_offset.specs.Adding.{AddsInSense, answer_edges}
use Rattle.mesh_offset.specs.Built.{AddsClosed}
use Rattle.mesh_offset.proofs.Adding.{adds_more}
use Rattle.mesh_offset.proofs.ProperEdges.{proper_edges_total}
use Rattle.mesh_offset.proofs.Resolving.{adds_answer}
use Rattle.mesh_boolean.specs.Private.Given.{AreGiven, AreZonesGiven}
use Rattle.mesh_boolean.specs.Regions.{holds_point}
use Rattle.mesh_boolean.specs.Rules.{combine, way_of}
use Rattle.mesh_boolean.specs.Zones.{AreCoveredRegions, AreCoveredRegionsBeyond, AreOverlaidRegions, AreOverlaidRegionsBeyond, WindOnce, edges_by, is_covered, rule_by, zone_edges, zones_of}
use Rattle.mesh_boolean.specs.declared.rule.BooleanRule.{BooleanRule}
use Rattle.mesh_boolean.specs.declared.rule.Way.{Way}
use Rattle.mesh_boolean.specs.declared.rule.Way.TheVariants as way
use Rattle.mesh_boolean.proofs.Adding.{closed_edges_are, closed_resolvable}
use Rattle.mesh_boolean.proofs.Combining.{IsRuleFor, both_wind, rule_for}

-- ---- two lists of polygons

pub given_of : (unit : ℕ) (by : Way) (first second : List (List (List Point))) (given : List Edge) (ss : List SignedEdge) → proper_edges given ≡ edges_by by first second →
    AddsClosed unit [] ss given → AreGiven unit by first second ss
given_of unit by first second given ss is closed = record {
  resolvable = closed_resolvable unit given ss ss refl closed;
  same = closed_edges_are unit given ss ss refl closed ∙ is;
}

-- a winding of 0 or 1
once_bit : (w : ℤ) → (w ≡ pos 0) ⊎ (w ≡ pos 1) → w ≡ bit (int_lt (pos 0) w)
once_bit w once = ⊎_elim (λ (e : w ≡ pos 0). rw e refl) (λ (e : w ≡ pos 1). rw e refl) once

-- the last rule fills what is resolved where the boolean keeps the point
filled_where : (first second : List (List (List Point))) → WindOnce first → WindOnce second → (rule : BooleanRule) (by : Way) → IsRuleFor rule by → (m : ℕ) → 0 < m → (q : Point) →
    filled_by (rule_by by) (winding m q (edges_by by first second)) ≡ combine rule (holds_point first m q) (holds_point second m q)
filled_where first second s t rule way.Subject law m some q =
    ap (int_lt (pos 0)) (proper_edges_total (crossing_on m q) (crossing_on_odd m q) (answer_edges first)) ∙ law (holds_point first m q) (holds_point second m q)
filled_where first second s t rule way.Clip law m some q =
    ap (int_lt (pos 0)) (proper_edges_total (crossing_on m q) (crossing_on_odd m q) (answer_edges second)) ∙ law (holds_point first m q) (holds_point second m q)
filled_where first second s t rule (way.Together sense sum) law m some q =
    ap (filled_by sum)
    (both_wind m q sense first second (bit (holds_point first m q)) (bit (holds_point second m q))
    (once_bit (winding m q (answer_edges first)) (s m some q)) (once_bit (winding m q (answer_edges second)) (t m some q)))
    ∙ law (holds_point first m q) (holds_point second m q)

module _ (first second : List (List (List Point))) (s : WindOnce first) (t : WindOnce second) (rule : BooleanRule) (choices : Choices) (answer : List (List (List Point))) where
  pub overlaid_regions : AreRegions (edges_by (way_of rule) first second) (filled_by (rule_by (way_of rule))) choices answer → AreOverlaidRegions rule first second choices answer
  overlaid_regions regions = record {
    regions = regions;
    fills = λ small forward m some q out.
        regions.answered small forward m q
        ∙ (regions.given m some q out ∙ ap bit (filled_where first second s t rule (way_of rule) (rule_for rule) m some q));
  }

  pub overlaid_beyond : (k : ℕ) → AreRegionsBeyond k (edges_by (way_of rule) first second) (filled_by (rule_by (way_of rule))) choices answer →
      AreOverlaidRegionsBeyond k rule first second choices answer
  overlaid_beyond k beyond = record {
    beyond = beyond;
    fills = λ small forward m some q far.
        beyond.regions.answered small forward m q
        ∙ (beyond.exact m some q far ∙ ap bit (filled_where first second s t rule (way_of rule) (rule_for rule) m some q));
  }

-- ---- zones

-- one zone more
pub zones_more : (unit : ℕ) (zones : List (Vec (Vec (Vec Point Global) Global) Global)) (zone : Vec (Vec (Vec Point Global) Global) Global) (i : ℕ) (mid new : List SignedEdge) → i < length zones →
    zone ≡ get_or zones i zone → All (ArePointsSafe unit) (zones_of zones) → AreZonesGiven unit (zones_of (take i zones)) mid →
    AddsInSense Positive mid new (answer_edges (shapes_of zone.items)) → AreZonesGiven unit (zones_of (take (i + 1) zones)) new
zones_more unit zones zone i mid new l is safe before added =
    let items : Vec (Vec (Vec Point Global) Global) Global → List (List (List Point)) = λ z. shapes_of z.items in
    let own : ArePointsSafe unit (shapes_of zone.items) =
    subst (λ (z : Vec (Vec (Vec Point Global) Global) Global). ArePointsSafe unit (shapes_of z.items)) (sym is) (all_mapped (ArePointsSafe unit) items zones safe i zone l) in
    let more : zones_of (take (i + 1) zones) ≡ zones_of (take i zones) ++ shapes_of zone.items ∷ [] =
    map_more items zones i zone l ∙ ap (λ (z : Vec (Vec (Vec Point Global) Global) Global). zones_of (take i zones) ++ shapes_of z.items ∷ []) (sym is) in
    let edges : flat_map answer_edges (zones_of (take (i + 1) zones)) ≡ flat_map answer_edges (zones_of (take i zones)) ++ answer_edges (shapes_of zone.items) =
    ap (flat_map answer_edges) more
    ∙ flat_map-append answer_edges (zones_of (take i zones)) (shapes_of zone.items ∷ [])
    ∙ ap (λ (es : List Edge). flat_map answer_edges (zones_of (take i zones)) ++ es) (append-nil (answer_edges (shapes_of zone.items))) in
    subst (AddsClosed unit [] new) (sym edges)
    (adds_more unit [] mid new (flat_map answer_edges (zones_of (take i zones))) (answer_edges (shapes_of zone.items)) before
    (adds_answer unit Positive (shapes_of zone.items) mid new own added))

-- all zones
pub zones_all : (unit : ℕ) (zones : List (Vec (Vec (Vec Point Global) Global) Global)) (i : ℕ) (ss : List SignedEdge) → length zones ≤ i →
    AreZonesGiven unit (zones_of (take i zones)) ss → AreZonesGiven unit (zones_of zones) ss
zones_all unit zones i ss past h = subst (λ (zs : List (Vec (Vec (Vec Point Global) Global) Global)). AreZonesGiven unit (zones_of zs) ss) (take_all i zones past) h

-- all zones together wind as many times as zones hold the point
counted_more : (b : Bool) (n : ℕ) (w : ℤ) → w ≡ pos n → bit b +ℤ w ≡ pos (cond b 1 0 + n)
counted_more true n w h = omega (arith, ints, h)
counted_more false n w h = omega (arith, ints, h)

zones_wind : (m : ℕ) → 0 < m → (q : Point) (zones : List (List (List (List Point)))) → All WindOnce zones →
    winding m q (flat_map answer_edges zones) ≡ pos (count_by (λ zone. holds_point zone m q) zones)
zones_wind m some q [] once = refl
zones_wind m some q (zone ∷ zones) once =
    let more = sum_by-cons (λ z. cond (holds_point z m q) 1 0) zone zones in
    total_append (crossing_on m q) (answer_edges zone) (flat_map answer_edges zones)
    ∙ (ap (λ (w : ℤ). w +ℤ winding m q (flat_map answer_edges zones)) (once_bit (winding m q (answer_edges zone)) (All-head WindOnce zone zones once m some q))
    ∙ (counted_more (holds_point zone m q) (count_by (λ z. holds_point z m q) zones) (winding m q (flat_map answer_edges zones)) (zones_wind m some q zones (All-tail WindOnce zone zones once))
    ∙ ap pos (sym more)))

-- so many of them, and one at least
least_filled : (least n : ℕ) → filled_by (winding_rule.AtLeast least) (pos n) ≡ nat_le (max least 1) n
least_filled least n = grind (arith, ints)

module _ (least : ℕ) (zones : List (List (List (List Point)))) (choices : Choices) (answer : List (List (List Point))) where
  -- all edges together are filled where so many zones hold the point
  covered_where : All WindOnce zones → (m : ℕ) → 0 < m → (q : Point) → filled_by (winding_rule.AtLeast least) (winding m q (zone_edges zones)) ≡ is_covered least zones m q
  covered_where once m some q =
      ap (filled_by (winding_rule.AtLeast least))
      (proper_edges_total (crossing_on m q) (crossing_on_odd m q) (flat_map answer_edges zones) ∙ zones_wind m some q zones once)
      ∙ least_filled least (count_by (λ zone. holds_point zone m q) zones)

  pub covered_regions : All WindOnce zones → AreRegions (zone_edges zones) (filled_by (winding_rule.AtLeast least)) choices answer → AreCoveredRegions least zones choices answer
  covered_regions once regions = record {
    regions = regions;
    fills = λ small forward m some q out. regions.answered small forward m q ∙ (regions.given m some q out ∙ ap bit (covered_where once m some q));
  }

  pub covered_beyond : (k : ℕ) → All WindOnce zones → AreRegionsBeyond k (zone_edges zones) (filled_by (winding_rule.AtLeast least)) choices answer →
      AreCoveredRegionsBeyond k least zones choices answer
  covered_beyond k once beyond = record {
    beyond = beyond;
    fills = λ small forward m some q far. beyond.regions.answered small forward m q ∙ (beyond.exact m some q far ∙ ap bit (covered_where once m some q));
  }

-- answers wind once or not at all
pub answer_once : (edges : List Edge) (fill : ℤ → Bool) (options : Choices) (answer : List (List (List Point))) → AreRegions edges fill options answer →
    options.least_area ≡ 0 → options.clockwise ≡ false → WindOnce answer
answer_once edges fill options answer regions small forward m some q =
    let is : winding m q (answer_edges answer) ≡ bit (fill (winding m q (after regions.resolution.splits edges))) =
    regions.answered small forward m q ∙ regions.split m some q in
    rw is (either (fill (winding m q (after regions.resolution.splits edges))))
  where
    either : (b : Bool) → (bit b ≡ pos 0) ⊎ (bit b ≡ pos 1)
    either true = inr refl
    either false = inl refl
