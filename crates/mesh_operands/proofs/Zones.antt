-- Lemmas over lists: operands that may take part, and their regions.
use Rattle.std.proofs.Common.{◌≡◌, ℕ, ◌+◌, ◌<◌, ◌≤◌, false, List, [], ◌∷◌, ◌++◌, map, length, take, take_all, get_or, refl, sym, ap, ◌∙◌, subst}
use Rattle.std.specs.Prelude.{Vec}
use Rattle.std.specs.List.{All}
use Rattle.std.specs.declared.alloc.Global.{Global}
use Rattle.std.proofs.lemmas.List.{map-append, map_more}
use Rattle.std.proofs.lemmas.List.Elements.{All-cons, All-nil, All-push}
use Rattle.std.proofs.lemmas.Slice.Zip.{all_zipped_more}
use Rattle.mesh_plane.specs.Plane.{Point}
use Rattle.mesh_plane.proofs.ClosedLists.{all_mapped}
use Rattle.mesh_num.specs.Paths.{shapes_of}
use Rattle.mesh_num.specs.Segments.{proper_edges}
use Rattle.mesh_lattice.specs.FillRules.{filled, filled_by}
use Rattle.mesh_lattice.specs.Reach.{ArePointsSafe}
use Rattle.mesh_lattice.specs.declared.fill.FillRule.TheVariants.{Positive}
use Rattle.mesh_lattice.specs.declared.fill.WindingRule.{WindingRule}
use Rattle.mesh_shapes.specs.Resolution.{Choices}
use Rattle.mesh_below.specs.Options.{plain}
use Rattle.mesh_boolean.specs.Booleans.{closed_edges}
use Rattle.mesh_boolean.specs.Rules.{winding_rule_for}
use Rattle.mesh_boolean.specs.Zones.{WindOnce, zones_of}
use Rattle.mesh_boolean.specs.declared.rule.BooleanFillRule.{BooleanFillRule}
use Rattle.mesh_boolean.proofs.ZoneEdges.{answer_once}
use Rattle.mesh_drawing.specs.Drawn.{as_outline, as_stroke, as_variable_stroke}
use Rattle.mesh_operands.specs.Operands.{Given, as_drawing, as_paths}
use Rattle.mesh_operands.specs.Combining.{AreRegionsOfZones, IsRegionOf}

-- ---- each of some items, as they are read

-- one item more
pub one_more : {A G : Type 0} (f : A → G) (P : G → Type 0) (items : List A) (i : ℕ) (item : A) → i < length items → item ≡ get_or items i item → All P (map f (take i items)) → P (f item) →
    All P (map f (take (i + 1) items))
one_more f P items i item l is before here =
    subst (All P)
    (sym (map_more f items i item l ∙ ap (λ x. map f (take i items) ++ f x ∷ []) (sym is)))
    (All-push P (map f (take i items)) (f item) before here)

-- all items
pub all_read : {A G : Type 0} (f : A → G) (P : G → Type 0) (items : List A) (i : ℕ) → length items ≤ i → All P (map f (take i items)) → All P (map f items)
all_read f P items i past all = subst (λ xs. All P (map f xs)) (take_all i items past) all

-- one of all
pub one_of : {A G : Type 0} (f : A → G) (P : G → Type 0) (items : List A) (i : ℕ) (item : A) → i < length items → item ≡ get_or items i item → All P (map f items) → P (f item)
one_of f P items i item l is all = subst (λ x. P (f x)) (sym is) (all_mapped P f items all i item l)

-- ---- regions wind once or not at all

pub region_once : (unit : ℕ) (rule : WindingRule) (choices : Choices) (given : Given) (answer : List (List (List Point))) → IsRegionOf unit rule choices given answer →
    choices.least_area ≡ 0 → choices.clockwise ≡ false → WindOnce answer
region_once unit rule choices (as_paths paths) answer regions small forward = answer_once (closed_edges paths) (filled_by rule) choices answer regions small forward
region_once unit rule choices (as_drawing (as_outline style paths)) answer regions small forward =
    answer_once (proper_edges regions.outline.given) (filled Positive) choices answer regions.regions small forward
region_once unit rule choices (as_drawing (as_stroke style closed paths)) answer regions small forward =
    answer_once regions.stroke.built (filled Positive) choices answer regions.regions small forward
region_once unit rule choices (as_drawing (as_variable_stroke options paths)) answer regions small forward =
    answer_once regions.stroke.built (filled Positive) choices answer regions.regions small forward

pub regions_once : (unit : ℕ) (fill : BooleanFillRule) (zones : List Given) (regions : List (List (List (List Point)))) → AreRegionsOfZones unit fill zones regions → All WindOnce regions
regions_once unit fill zones [] each = All-nil WindOnce
regions_once unit fill [] (region ∷ regions) each = absurd each
regions_once unit fill (zone ∷ zones) (region ∷ regions) each =
    All-cons WindOnce region regions (region_once unit (winding_rule_for fill) plain zone region each.0 refl refl) (regions_once unit fill zones regions each.1)

-- ---- the regions of zones, one after another

pub zones_more : (regions new : List (Vec (Vec (Vec Point Global) Global) Global)) (region : Vec (Vec (Vec Point Global) Global) Global) → new ≡ regions ++ region ∷ [] →
    zones_of new ≡ zones_of regions ++ shapes_of region.items ∷ []
zones_more regions new region is =
    ap (λ zs. zones_of zs) is ∙ map-append (λ (z : Vec (Vec (Vec Point Global) Global) Global). shapes_of z.items) regions (region ∷ [])

pub regions_more : {A : Type 0} (f : A → Given) (unit : ℕ) (fill : BooleanFillRule) (zones : List A) (i : ℕ) (zone : A) (regions new : List (Vec (Vec (Vec Point Global) Global) Global)) (region : Vec (Vec (Vec Point Global) Global) Global) → i < length zones → zone ≡ get_or zones i zone → new ≡ regions ++ region ∷ [] →
    AreRegionsOfZones unit fill (map f (take i zones)) (zones_of regions) → IsRegionOf unit (winding_rule_for fill) plain (f zone) (shapes_of region.items) →
    AreRegionsOfZones unit fill (map f (take (i + 1) zones)) (zones_of new)
regions_more f unit fill zones i zone regions new region l is joined before here =
    let given : map f (take (i + 1) zones) ≡ map f (take i zones) ++ f zone ∷ [] = map_more f zones i zone l ∙ ap (λ x. map f (take i zones) ++ f x ∷ []) (sym is) in
    rw (given, zones_more regions new region joined)
    (all_zipped_more (IsRegionOf unit (winding_rule_for fill) plain) (map f (take i zones)) (zones_of regions) (f zone) (shapes_of region.items) before here)

pub safe_more : (unit : ℕ) (regions new : List (Vec (Vec (Vec Point Global) Global) Global)) (region : Vec (Vec (Vec Point Global) Global) Global) → new ≡ regions ++ region ∷ [] →
    All (ArePointsSafe unit) (zones_of regions) → ArePointsSafe unit (shapes_of region.items) → All (ArePointsSafe unit) (zones_of new)
safe_more unit regions new region joined before here =
    subst (All (ArePointsSafe unit)) (sym (zones_more regions new region joined)) (All-push (ArePointsSafe unit) (zones_of regions) (shapes_of region.items) before here)

pub regions_all : {A : Type 0} (f : A → Given) (unit : ℕ) (fill : BooleanFillRule) (zones : List A) (i : ℕ) (regions : List (List (List (List Point)))) → length zones ≤ i →
    AreRegionsOfZones unit fill (map f (take i zones)) regions → AreRegionsOfZones unit fill (map f zones) regions
regions_all f unit fill zones i regions past all = subst (λ zs. AreRegionsOfZones unit fill (map f zs) regions) (take_all i zones past) all

pub zones_each : (unit : ℕ) (zones : List (Vec (Vec (Vec Point Global) Global) Global)) → All (ArePointsSafe unit) (zones_of zones) →
    All (λ (z : Vec (Vec (Vec Point Global) Global) Global). ArePointsSafe unit (shapes_of z.items)) zones
zones_each unit zones all k d low = all_mapped (ArePointsSafe unit) (λ (z : Vec (Vec (Vec Point Global) Global) Global). shapes_of z.items) zones all k d low
