-- Which pairs of zones overlap, and where. A zone is the shapes of an answer, and a pair is named by the places of both.
use Rattle.std.specs.Prelude.{ℕ, ◌<◌, ◌≤◌, ◌≡◌, ◌≢◌, ◌⊎◌, List, [], ◌∷◌, map, length, get_or, ◌<ℤ◌}
use Rattle.std.specs.List.{All, AllPairs, Contains, flat_map}
use Rattle.mesh_plane.specs.Plane.{Point, Edge}
use Rattle.mesh_num.specs.Paths.{contours_of, shapes_of}
use Rattle.mesh_num.specs.Rectangle.{IsInRectangle}
use Rattle.mesh_lattice.specs.FillRules.{filled_by}
use Rattle.mesh_lattice.specs.declared.fill.FillRule.TheVariants.{Positive}
use Rattle.mesh_lattice.specs.declared.fill.WindingRule.TheVariants as winding_rule
use Rattle.mesh_below.specs.Laws.{AreRegions}
use Rattle.mesh_below.specs.Nearness.{AreCountedRegions}
use Rattle.mesh_shapes.specs.Resolution.{Choices}
use Rattle.mesh_split.specs.declared.count.SplitCount.{SplitCount}
use Rattle.mesh_boolean.specs.Booleans.{both_edges}
use Rattle.mesh_boolean.specs.declared.overlaps.ZoneOverlap.{ZoneOverlap}

-- the places of two zones, and the polygons where they overlap
abbrev pub Overlap : Type 0
Overlap = ℕ × (ℕ × List (List (List Point)))

-- what the program's records hold
abbrev pub overlap_of : {I W U : Type 0} → ZoneOverlap I W U → Overlap
overlap_of o = (o.first, (o.second, shapes_of o.shapes.items))

abbrev pub overlaps_of : {I W U : Type 0} → List (ZoneOverlap I W U) → List Overlap
overlaps_of found = map overlap_of found

-- ---- boxes

-- all points of a zone
abbrev pub points_of : List (List (List Point)) → List Point
points_of zone = flat_map (λ contour. contour) (contours_of zone)

-- two rectangles have no point in common: one lies wholly to the west of the other, or wholly to the south
abbrev pub AreRectanglesApart : Edge → Edge → Type 0
AreRectanglesApart b c = (b.1.0 <ℤ c.0.0 ⊎ c.1.0 <ℤ b.0.0) ⊎ (b.1.1 <ℤ c.0.1 ⊎ c.1.1 <ℤ b.0.1)

-- two zones lie in rectangles that have no point in common
pub record AreBoxesApart (first second : List (List (List Point))) : Type 0 where
  pub first_box : Edge
  pub second_box : Edge
  pub first_inside : All (λ p. IsInRectangle first_box p) (points_of first)
  pub second_inside : All (λ p. IsInRectangle second_box p) (points_of second)
  pub apart : AreRectanglesApart first_box second_box

-- ---- pairs

-- the edges of both zones are resolved, filled where they wind at least twice: where both zones are
abbrev pub AreCommonRegions : List (List (List (List Point))) → Choices → ℕ → ℕ → List (List (List Point)) → Type 0
AreCommonRegions zones choices i j answer =
    AreRegions (both_edges Positive (get_or zones i []) (get_or zones j [])) (filled_by (winding_rule.AtLeast 2)) choices
    answer

-- a pair is listed with what both zones have in common, and that is not nothing
pub record IsOverlap (zones : List (List (List (List Point)))) (choices : Choices) (o : Overlap) : Type 0 where
  pub ascending : o.0 < o.1.0
  pub within : o.1.0 < length zones
  pub some : o.1.1 ≢ []
  pub regions : AreCommonRegions zones choices o.0 o.1.0 o.1.1

-- the pair (i, j) comes before the pair (k, l) in lexicographic order
abbrev pub IsPairBefore : ℕ → ℕ → ℕ → ℕ → Type 0
IsPairBefore i j k l = (i < k) ⊎ ((i ≡ k) × (j < l))

-- the same of two overlaps
abbrev pub IsOverlapBefore : Overlap → Overlap → Type 0
IsOverlapBefore o p = IsPairBefore o.0 o.1.0 p.0 p.1.0

-- a pair is listed
abbrev pub IsListed : List Overlap → ℕ → ℕ → Type 0
IsListed found i j = (answer : List (List (List Point))) × Contains found (i, (j, answer))

-- a pair is listed, or its boxes are apart, or both zones were resolved and have nothing in common
abbrev pub IsDecided : List (List (List (List Point))) → Choices → List Overlap → ℕ → ℕ → Type 0
IsDecided zones choices found i j =
    IsListed found i j ⊎ (AreBoxesApart (get_or zones i []) (get_or zones j []) ⊎ AreCommonRegions zones choices i j [])

-- the pairs of zones that overlap, each once, in lexicographic order, and where; each other pair has its reason
pub record AreOverlaps (zones : List (List (List (List Point)))) (choices : Choices) (found : List Overlap)
    : Type 0 where
  pub each : All (λ o. IsOverlap zones choices o) found
  pub ordered : AllPairs IsOverlapBefore found
  pub others : (i j : ℕ) → i < j → j < length zones → IsDecided zones choices found i j

-- ---- with an error bound, in 64ths of a grid unit, and one count of splits

-- the edges of both zones of a pair
abbrev pub pair_edges : List (List (List (List Point))) → ℕ → ℕ → List Edge
pair_edges zones i j = both_edges Positive (get_or zones i []) (get_or zones j [])

-- what both zones of a pair have in common: exact at each point farther than `k` from all their edges, and the splits
-- that it comes of were counted on
abbrev pub AreCountedCommonRegions : ℕ → List (List (List (List Point))) → Choices → ℕ × ℕ → SplitCount → SplitCount
    → List (List (List Point)) → Type 0
AreCountedCommonRegions k zones choices pair old new answer =
    AreCountedRegions k (pair_edges zones pair.0 pair.1) (filled_by (winding_rule.AtLeast 2)) choices answer old new

-- what is told of a pair of zones that was resolved: what both have in common, how near that is, and the count before and
-- after
pub record ToldPair : Type 0 where
  pub pair : ℕ × ℕ
  pub common : List (List (List Point))
  pub nearness : ℕ
  pub before : SplitCount
  pub after : SplitCount

-- it is so
pub record IsToldPair (zones : List (List (List (List Point)))) (choices : Choices) (t : ToldPair) : Type 0 where
  pub ascending : t.pair.0 < t.pair.1
  pub within : t.pair.1 < length zones
  pub regions : AreCountedCommonRegions t.nearness zones choices t.pair t.before t.after t.common

-- one pair was resolved after another: each count begins where the one before it ended
abbrev pub PairsInTurn : SplitCount → SplitCount → List ToldPair → Type 0
PairsInTurn old new [] = old ≡ new
PairsInTurn old new (t ∷ more) = (t.before ≡ old) × PairsInTurn t.after new more

-- the places of pairs
abbrev pub places_of : List ToldPair → List (ℕ × ℕ)
places_of told = map (λ (t : ToldPair). t.pair) told

-- what is listed of a pair: what both zones have in common, unless that is nothing
abbrev pub listed_of : ℕ × ℕ → List (List (List Point)) → List Overlap
listed_of pair [] = []
listed_of pair (shape ∷ more) = (pair.0, (pair.1, shape ∷ more)) ∷ []

-- what is listed of all pairs
abbrev pub all_listed : List ToldPair → List Overlap
all_listed told = flat_map (λ (t : ToldPair). listed_of t.pair t.common) told

-- the pairs of zones that overlap, as above: each pair was resolved once, in order, with one count of splits, or its boxes
-- are apart. `k` is the greatest nearness of the pairs that were resolved, or 0 where none was
pub record AreOverlapsBeyond (k : ℕ) (zones : List (List (List (List Point)))) (choices : Choices)
    (found : List Overlap) (old new : SplitCount) : Type 0 where
  pub told : List ToldPair
  pub each : All (IsToldPair zones choices) told
  pub ordered : AllPairs (λ (p q : ℕ × ℕ). IsPairBefore p.0 p.1 q.0 q.1) (places_of told)
  pub turn : PairsInTurn old new told
  pub most : All (λ (t : ToldPair). t.nearness ≤ k) told
  pub reached : (k ≡ 0) ⊎ Contains (map (λ (t : ToldPair). t.nearness) told) k
  pub listing : found ≡ all_listed told
  pub others : (i j : ℕ) → i < j → j < length zones
      → Contains (places_of told) (i, j) ⊎ AreBoxesApart (get_or zones i []) (get_or zones j [])

-- edges that are resolved to find overlaps: those of two zones
pub record IsPairDrawing (zones : List (List (List (List Point)))) (edges : List Edge) : Type 0 where
  pub first : ℕ
  pub second : ℕ
  pub ascending : first < second
  pub within : second < length zones
  pub same : edges ≡ pair_edges zones first second
