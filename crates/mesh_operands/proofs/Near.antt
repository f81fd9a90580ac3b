-- Lemmas over lists: operands with an error bound, and the count of splits through all resolvings.
use Rattle.std.proofs.Common.{◌≡◌, ◌⊎◌, inl, inr, ⊎_elim, ℕ, ◌+◌, ◌*◌, ◌<◌, ◌≤◌, false, List, [], ◌∷◌, ◌++◌, map, length, take, take_all, get_or, refl, sym, ap, ◌∙◌, subst, arith}
use Rattle.std.specs.Prelude.{max, pos, ◌≤ℤ◌, Vec}
use Rattle.std.specs.List.{All, AllZip, Contains, sum_by}
use Rattle.std.specs.declared.alloc.Global.{Global}
use Rattle.std.proofs.lemmas.Int.{ints}
use Rattle.std.proofs.lemmas.List.{get_or-map, length-map, map-append, map_more, take-map}
use Rattle.std.proofs.lemmas.List.Elements.{All-cons, All-nil, All-push, All-weaker, Contains-append_left, Contains-push}
use Rattle.std.proofs.lemmas.List.Sums.{sum_by_push, sum_by-take-le}
use Rattle.std.proofs.lemmas.Slice.Zip.{AllZip-long, all_zipped_more}
use Rattle.mesh_plane.specs.Plane.{Point, Edge}
use Rattle.mesh_plane.proofs.Whole.{either_order}
use Rattle.mesh_num.specs.Paths.{shapes_of}
use Rattle.mesh_num.specs.Segments.{proper_edges}
use Rattle.mesh_lattice.specs.FillRules.{filled, filled_by}
use Rattle.mesh_lattice.specs.declared.fill.FillRule.TheVariants.{Positive}
use Rattle.mesh_split.specs.declared.count.SplitCount.{SplitCount}
use Rattle.mesh_shapes.specs.Resolution.{Choices}
use Rattle.mesh_below.specs.Options.{plain}
use Rattle.mesh_offset.specs.Counting.{CountsAttempts}
use Rattle.mesh_offset.proofs.Counting.{counts_fewer, counts_more, counts_weaker}
use Rattle.mesh_outline.specs.Nearness.{IsGreatest}
use Rattle.mesh_boolean.specs.Booleans.{closed_edges}
use Rattle.mesh_boolean.specs.Overlaps.{IsPairDrawing}
use Rattle.mesh_boolean.specs.Rules.{way_of, winding_rule_for}
use Rattle.mesh_boolean.specs.Zones.{WindOnce, edges_by, zones_of}
use Rattle.mesh_boolean.specs.declared.rule.BooleanFill.{BooleanFill}
use Rattle.mesh_boolean.specs.declared.rule.BooleanFillRule.{BooleanFillRule}
use Rattle.mesh_boolean.specs.declared.rule.BooleanRule.{BooleanRule}
use Rattle.mesh_boolean.specs.declared.rule.BooleanRule.TheVariants as by_rule
use Rattle.mesh_boolean.proofs.ZoneEdges.{answer_once}
use Rattle.mesh_drawing.specs.Drawn.{Drawn, as_outline, as_stroke, as_variable_stroke}
use Rattle.mesh_drawing.specs.Nearness.{CountsDrawn}
use Rattle.mesh_operands.specs.Nearness.{AreInTurn, AreToldZones, IsBooleanWithin, IsBothDrawing, IsCountedRegionOf, IsOfBothWithin, IsRegionDrawing, IsTold, IsZoneDrawing, IsZonesDrawing, ToldRegion, lists_of, regions_in}
use Rattle.mesh_operands.specs.Operands.{Given, GivenBoolean, as_drawing, as_paths}
use Rattle.mesh_operands.proofs.Zones.{zones_more}

-- ---- regions wind once or not at all

pub counted_once : (k unit : ℕ) (fill : BooleanFillRule) (choices : Choices) (given : Given) (answer : List (List (List Point))) (old new : SplitCount) → IsCountedRegionOf k unit fill choices given answer old new →
    choices.least_area ≡ 0 → choices.clockwise ≡ false → WindOnce answer
counted_once k unit fill choices (as_paths paths) answer old new h small forward = answer_once (closed_edges paths) (filled_by (winding_rule_for fill)) choices answer h.near.beyond.regions small forward
counted_once k unit fill choices (as_drawing (as_outline style paths)) answer old new h small forward =
    answer_once (proper_edges h.0.outline.given) (filled Positive) choices answer h.0.beyond.regions small forward
counted_once k unit fill choices (as_drawing (as_stroke style closed paths)) answer old new h small forward =
    answer_once h.0.stroke.built (filled Positive) choices answer h.0.beyond.regions small forward
counted_once k unit fill choices (as_drawing (as_variable_stroke options paths)) answer old new h small forward =
    answer_once h.0.stroke.built (filled Positive) choices answer h.0.beyond.regions small forward

pub told_once : (unit : ℕ) (fill : BooleanFillRule) (zones : List Given) (told : List ToldRegion) → AllZip (IsTold unit fill) zones told → All WindOnce (regions_in told)
told_once unit fill zones [] each = All-nil WindOnce
told_once unit fill [] (t ∷ told) each = absurd each
told_once unit fill (zone ∷ zones) (t ∷ told) each =
    All-cons WindOnce t.region (regions_in told) (counted_once t.nearness unit fill plain zone t.region t.before t.after each.0 refl refl) (told_once unit fill zones told each.1)

-- ---- attempts at one operand, and at two

pub drawn_counts : (unit : ℕ) (fill : BooleanFillRule) (drawn : Drawn) (old new : SplitCount) → CountsDrawn unit drawn old new → CountsAttempts (lists_of (as_drawing drawn)) (IsRegionDrawing unit fill (as_drawing drawn)) old new
drawn_counts unit fill (as_outline style paths) old new counts = counts
drawn_counts unit fill (as_stroke style closed paths) old new counts = counts
drawn_counts unit fill (as_variable_stroke options paths) old new counts = counts

module _ (unit : ℕ) (rule : BooleanRule) (fill : BooleanFill) (subject clip : Given) where
  subject_counts : (old new : SplitCount) → CountsAttempts (lists_of subject) (IsRegionDrawing unit fill.subject subject) old new → CountsAttempts (lists_of subject) (IsBothDrawing unit rule fill subject clip) old new
  subject_counts old new counts = counts_weaker (lists_of subject) (IsRegionDrawing unit fill.subject subject) (IsBothDrawing unit rule fill subject clip) (λ es drawn. IsBothDrawing.of_subject drawn) old new counts

  clip_counts : (old new : SplitCount) → CountsAttempts (lists_of clip) (IsRegionDrawing unit fill.clip clip) old new → CountsAttempts (lists_of clip) (IsBothDrawing unit rule fill subject clip) old new
  clip_counts old new counts = counts_weaker (lists_of clip) (IsRegionDrawing unit fill.clip clip) (IsBothDrawing unit rule fill subject clip) (λ es drawn. IsBothDrawing.of_clip drawn) old new counts

  -- of the subject alone
  pub counts_subject : (old new : SplitCount) → CountsAttempts (lists_of subject) (IsRegionDrawing unit fill.subject subject) old new → CountsAttempts (lists_of subject + lists_of clip + 1) (IsBothDrawing unit rule fill subject clip) old new
  counts_subject old new counts = counts_fewer (IsBothDrawing unit rule fill subject clip) (lists_of subject) (lists_of subject + lists_of clip + 1) (omega arith) old new (subject_counts old new counts)

  -- of the clip alone
  pub counts_clip : (old new : SplitCount) → CountsAttempts (lists_of clip) (IsRegionDrawing unit fill.clip clip) old new → CountsAttempts (lists_of subject + lists_of clip + 1) (IsBothDrawing unit rule fill subject clip) old new
  counts_clip old new counts = counts_fewer (IsBothDrawing unit rule fill subject clip) (lists_of clip) (lists_of subject + lists_of clip + 1) (omega arith) old new (clip_counts old new counts)

  both_counts : (old between new : SplitCount) → CountsAttempts (lists_of subject) (IsRegionDrawing unit fill.subject subject) old between → CountsAttempts (lists_of clip) (IsRegionDrawing unit fill.clip clip) between new →
      CountsAttempts (lists_of subject + lists_of clip) (IsBothDrawing unit rule fill subject clip) old new
  both_counts old between new s t = counts_more (IsBothDrawing unit rule fill subject clip) (lists_of subject) (lists_of clip) old between new (subject_counts old between s) (clip_counts between new t)

  -- of both alone
  pub counts_both : (old between new : SplitCount) → CountsAttempts (lists_of subject) (IsRegionDrawing unit fill.subject subject) old between → CountsAttempts (lists_of clip) (IsRegionDrawing unit fill.clip clip) between new →
      CountsAttempts (lists_of subject + lists_of clip + 1) (IsBothDrawing unit rule fill subject clip) old new
  counts_both old between new s t = counts_fewer (IsBothDrawing unit rule fill subject clip) (lists_of subject + lists_of clip) (lists_of subject + lists_of clip + 1) (omega arith) old new (both_counts old between new s t)

  -- and of both together
  pub counts_together : (first second : ToldRegion) (new : SplitCount) → IsTold unit fill.subject subject first → IsTold unit fill.clip clip second → second.before ≡ first.after →
      CountsAttempts (lists_of subject) (IsRegionDrawing unit fill.subject subject) first.before first.after → CountsAttempts (lists_of clip) (IsRegionDrawing unit fill.clip clip) first.after second.after →
      CountsAttempts 1 (λ (es : List Edge). es ≡ edges_by (way_of rule) first.region second.region) second.after new →
      CountsAttempts (lists_of subject + lists_of clip + 1) (IsBothDrawing unit rule fill subject clip) first.before new
  counts_together first second new one two turn s t u =
      counts_more (IsBothDrawing unit rule fill subject clip) (lists_of subject + lists_of clip) 1 first.before second.after new (both_counts first.before first.after second.after s t)
      (counts_weaker 1 (λ (es : List Edge). es ≡ edges_by (way_of rule) first.region second.region) (IsBothDrawing unit rule fill subject clip)
      (λ es is. subst (IsBothDrawing unit rule fill subject clip) (sym is) (IsBothDrawing.together first second one two)) second.after new u)

-- ---- zones one after another

-- the greater of two is the greatest of those before and the second
greater_pushed : (k l : ℕ) (ks : List ℕ) → IsGreatest k ks → IsGreatest (max k l) (ks ++ l ∷ [])
greater_pushed k l ks h = record {
  most =
      All-push (λ (x : ℕ). x ≤ max k l) ks l
      (All-weaker (λ (x : ℕ). x ≤ k) (λ (x : ℕ). x ≤ max k l) (λ x le. omega arith) ks h.most) (omega arith);
  reached =
      ⊎_elim (λ (o : pos l ≤ℤ pos k). above (omega (arith, ints, o))) (λ (o : pos k ≤ℤ pos l). below (omega (arith, ints, o)))
      (either_order (pos l) (pos k));
}
  where
    above : l ≤ k → (max k l ≡ 0) ⊎ Contains (ks ++ l ∷ []) (max k l)
    above le =
        let e : max k l ≡ k = omega arith in
        ⊎_elim (λ (z : k ≡ 0). inl (e ∙ z)) (λ (c : Contains ks k). inr (subst (Contains (ks ++ l ∷ [])) (sym e) (Contains-append_left ks (l ∷ []) k c))) h.reached

    below : k ≤ l → (max k l ≡ 0) ⊎ Contains (ks ++ l ∷ []) (max k l)
    below le = let e : max k l ≡ l = omega arith in inr (subst (Contains (ks ++ l ∷ [])) (sym e) (Contains-push ks l))

turn_more : (old between new : SplitCount) (told : List ToldRegion) (t : ToldRegion) → AreInTurn old between told → t.before ≡ between → t.after ≡ new → AreInTurn old new (told ++ t ∷ [])
turn_more old between new [] t turn before after = (before ∙ sym turn, after)
turn_more old between new (s ∷ told) t turn before after = (turn.0, turn_more s.after between new told t turn.1 before after)

-- what is told of zones, whose regions these are
abbrev pub AreTold : ℕ → ℕ → BooleanFillRule → List Given → List (List (List (List Point))) → SplitCount → SplitCount → Type 0
AreTold k unit fill zones regions old new = (told : List ToldRegion) × (regions_in told ≡ regions) × AreToldZones k unit fill zones told old new

pub told_none : (unit : ℕ) (fill : BooleanFillRule) (count : SplitCount) → AreTold 0 unit fill [] [] count count
told_none unit fill count = (
  [],
  refl,
  record { each = tt; turn = refl; greatest = record { most = All-nil (λ (l : ℕ). l ≤ 0); reached = inl refl } },
)

module _ {A : Type 0} (f : A → Given) (unit : ℕ) (fill : BooleanFillRule) (zones : List A) (i : ℕ) (zone : A) (low : i < length zones) (is : zone ≡ get_or zones i zone) where
  given_more : map f (take (i + 1) zones) ≡ map f (take i zones) ++ f zone ∷ []
  given_more = map_more f zones i zone low ∙ ap (λ x. map f (take i zones) ++ f x ∷ []) (sym is)

  pub told_more : (k own : ℕ) (regions new : List (Vec (Vec (Vec Point Global) Global) Global)) (region : Vec (Vec (Vec Point Global) Global) Global) (old between after : SplitCount) → new ≡ regions ++ region ∷ [] →
      AreTold k unit fill (map f (take i zones)) (zones_of regions) old between → IsCountedRegionOf own unit fill plain (f zone) (shapes_of region.items) between after →
      AreTold (max k own) unit fill (map f (take (i + 1) zones)) (zones_of new) old after
  told_more k own regions new region old between after joined before here =
      let one : ToldRegion = record { region = shapes_of region.items; nearness = own; before = between; after = after } in (
        before.0 ++ one ∷ [],
        map-append (λ (t : ToldRegion). t.region) before.0 (one ∷ [])
            ∙ (ap (λ rs. rs ++ shapes_of region.items ∷ []) before.1 ∙ sym (zones_more regions new region joined)),
        record {
          each = rw given_more (all_zipped_more (IsTold unit fill) (map f (take i zones)) before.0 (f zone) one before.2.each here);
          turn = turn_more old between after before.0 one before.2.turn refl refl;
          greatest =
              subst (IsGreatest (max k own)) (sym (map-append (λ (t : ToldRegion). t.nearness) before.0 (one ∷ [])))
              (greater_pushed k own (map (λ (t : ToldRegion). t.nearness) before.0) before.2.greatest);
        },
      )

  is_one : Contains (map f zones) (f zone)
  is_one = (i, rw (length-map zones f) low, get_or-map f zones i zone (f zone) low ∙ ap f (sym is))

  pub counts_zone : (old between new : SplitCount) → CountsAttempts (sum_by lists_of (map f (take i zones))) (IsZoneDrawing unit fill (map f zones)) old between →
      CountsAttempts (lists_of (f zone)) (IsRegionDrawing unit fill (f zone)) between new → CountsAttempts (sum_by lists_of (map f (take (i + 1) zones))) (IsZoneDrawing unit fill (map f zones)) old new
  counts_zone old between new before here =
      let sums : sum_by lists_of (map f (take (i + 1) zones)) ≡ sum_by lists_of (map f (take i zones)) + lists_of (f zone) = ap (sum_by lists_of) given_more ∙ sum_by_push lists_of (map f (take i zones)) (f zone) in
      rw sums
      (counts_more (IsZoneDrawing unit fill (map f zones)) (sum_by lists_of (map f (take i zones))) (lists_of (f zone)) old between new before
      (counts_weaker (lists_of (f zone)) (IsRegionDrawing unit fill (f zone)) (IsZoneDrawing unit fill (map f zones)) (λ es drawn. (f zone, is_one, drawn)) between new here))

-- of no more lists than those of all zones
pub counts_so_far : {A : Type 0} (f : A → Given) (unit : ℕ) (fill : BooleanFillRule) (zones : List A) (i : ℕ) (old new : SplitCount) →
    CountsAttempts (sum_by lists_of (map f (take i zones))) (IsZoneDrawing unit fill (map f zones)) old new → CountsAttempts (sum_by lists_of (map f zones)) (IsZoneDrawing unit fill (map f zones)) old new
counts_so_far f unit fill zones i old new counts =
    let less : sum_by lists_of (map f (take i zones)) ≤ sum_by lists_of (map f zones) = rw (sym (take-map f i zones)) (sum_by-take-le lists_of (map f zones) i) in
    counts_fewer (IsZoneDrawing unit fill (map f zones)) (sum_by lists_of (map f (take i zones))) (sum_by lists_of (map f zones)) less old new counts

pub told_all : {A : Type 0} (f : A → Given) (k unit : ℕ) (fill : BooleanFillRule) (zones : List A) (i : ℕ) (regions : List (List (List (List Point)))) (old new : SplitCount) → length zones ≤ i →
    AreTold k unit fill (map f (take i zones)) regions old new → AreTold k unit fill (map f zones) regions old new
told_all f k unit fill zones i regions old new past all = subst (λ zs. AreTold k unit fill (map f zs) regions old new) (take_all i zones past) all

-- ---- all zones together

module _ (unit : ℕ) (fill : BooleanFillRule) (zones : List Given) (IsGiven : List (List (List (List Point))) → List Edge → Type 0) where
  zones_counts : (lists : ℕ) (old new : SplitCount) → CountsAttempts lists (IsZoneDrawing unit fill zones) old new → CountsAttempts lists (IsZonesDrawing unit fill zones IsGiven) old new
  zones_counts lists old new counts = counts_weaker lists (IsZoneDrawing unit fill zones) (IsZonesDrawing unit fill zones IsGiven) (λ es drawn. IsZonesDrawing.of_zone drawn) old new counts

  -- of each zone alone
  pub counts_zones : (lists more : ℕ) (old new : SplitCount) → CountsAttempts lists (IsZoneDrawing unit fill zones) old new → CountsAttempts (lists + more) (IsZonesDrawing unit fill zones IsGiven) old new
  counts_zones lists more old new counts = counts_fewer (IsZonesDrawing unit fill zones IsGiven) lists (lists + more) (omega arith) old new (zones_counts lists old new counts)

  -- and of all together
  pub counts_all : (lists more : ℕ) (told : List ToldRegion) (old between new : SplitCount) → AllZip (IsTold unit fill) zones told → CountsAttempts lists (IsZoneDrawing unit fill zones) old between →
      CountsAttempts more (IsGiven (regions_in told)) between new → CountsAttempts (lists + more) (IsZonesDrawing unit fill zones IsGiven) old new
  counts_all lists more told old between new each first second =
      counts_more (IsZonesDrawing unit fill zones IsGiven) lists more old between new (zones_counts lists old between first)
      (counts_weaker more (IsGiven (regions_in told)) (IsZonesDrawing unit fill zones IsGiven) (λ es given. IsZonesDrawing.together told each given) between new second)

-- there are as many regions as zones
pub told_long : (unit : ℕ) (fill : BooleanFillRule) (zones : List Given) (told : List ToldRegion) → AllZip (IsTold unit fill) zones told → length (regions_in told) ≡ length zones
told_long unit fill zones told each = length-map told (λ (t : ToldRegion). t.region) ∙ AllZip-long (IsTold unit fill) zones told each

-- attempts at pairs of their regions
pub pair_counts : (unit : ℕ) (fill : BooleanFillRule) (zones : List Given) (told : List ToldRegion) (regions : List (Vec (Vec (Vec Point Global) Global) Global)) (old new : SplitCount) → AllZip (IsTold unit fill) zones told →
    regions_in told ≡ zones_of regions → CountsAttempts (length regions * length regions) (IsPairDrawing (zones_of regions)) old new → CountsAttempts (length zones * length zones) (IsPairDrawing (regions_in told)) old new
pair_counts unit fill zones told regions old new each same counts =
    let long : length regions ≡ length zones =
    sym (length-map regions (λ (z : Vec (Vec (Vec Point Global) Global) Global). shapes_of z.items)) ∙ (ap length (sym same) ∙ told_long unit fill zones told each) in
    rw same (subst (λ n. CountsAttempts (n * n) (IsPairDrawing (zones_of regions)) old new) long counts)

-- ---- both operands together, by each rule that looks at both

pub by_both : (k unit : ℕ) (choices : Choices) (asked : GivenBoolean) (answer : List (List (List Point))) (old new : SplitCount) →
    (asked.rule ≡ by_rule.Intersect) ⊎ ((asked.rule ≡ by_rule.Union) ⊎ ((asked.rule ≡ by_rule.Difference) ⊎ ((asked.rule ≡ by_rule.InverseDifference) ⊎ (asked.rule ≡ by_rule.Xor)))) →
    IsOfBothWithin k unit choices asked answer old new → IsBooleanWithin (way_of asked.rule) k unit choices asked answer old new
by_both k unit choices asked answer old new (inl is) made = subst (λ by. IsBooleanWithin by k unit choices asked answer old new) (sym (ap way_of is)) made
by_both k unit choices asked answer old new (inr (inl is)) made = subst (λ by. IsBooleanWithin by k unit choices asked answer old new) (sym (ap way_of is)) made
by_both k unit choices asked answer old new (inr (inr (inl is))) made = subst (λ by. IsBooleanWithin by k unit choices asked answer old new) (sym (ap way_of is)) made
by_both k unit choices asked answer old new (inr (inr (inr (inl is)))) made = subst (λ by. IsBooleanWithin by k unit choices asked answer old new) (sym (ap way_of is)) made
by_both k unit choices asked answer old new (inr (inr (inr (inr is)))) made = subst (λ by. IsBooleanWithin by k unit choices asked answer old new) (sym (ap way_of is)) made
