-- Outlines that are exact away from the drawn edges. Distances are in 64ths of a grid unit.
use Rattle.std.specs.Prelude.{ℕ, ◌≡◌, ◌⊎◌, ◌+◌, ◌≤◌, true, Option, Some, None, List, [], length, map, sum_by}
use Rattle.std.specs.List.{All, AllZip, Contains, flat_map}
use Rattle.std.specs.List.Sorted.{IsPermutation}
use Rattle.mesh_plane.specs.Plane.{Point, Edge}
use Rattle.mesh_num.specs.Segments.{proper_edges}
use Rattle.mesh_lattice.specs.FillRules.{filled}
use Rattle.mesh_lattice.specs.Nearness.{IsFarFrom, StaysNear}
use Rattle.mesh_lattice.specs.Split.{occurs}
use Rattle.mesh_lattice.specs.declared.fill.FillRule.TheVariants.{Positive}
use Rattle.mesh_below.specs.Nearness.{AreRegionsBeyond}
use Rattle.mesh_below.specs.Options.{plain}
use Rattle.mesh_shapes.specs.Contours.{double_area}
use Rattle.mesh_shapes.specs.Resolution.{Choices}
use Rattle.mesh_join.specs.Styles.{OffsetJoin, OutlineStyle}
use Rattle.mesh_split.specs.declared.count.SplitCount.{SplitCount}
use Rattle.mesh_offset.specs.Adding.{answer_edges, in_sense}
use Rattle.mesh_offset.specs.Counting.{CountsStanding}
use Rattle.mesh_offset.specs.Regions.{WindsOnceWhere}
use Rattle.mesh_outline.specs.Building.{style_for}
use Rattle.mesh_outline.specs.Outline.{outline_edges}
use Rattle.mesh_outline.specs.Regions.{more_fill}
use Rattle.mesh_outline.specs.Resolved.{Give, IsOutline, fill_for}

-- the edges that are drawn of a contour that moves so, none where it does not move
abbrev pub edges_moved : ℕ → List Point → Option OffsetJoin → List Edge
edges_moved unit contour (Some way) = outline_edges unit way contour
edges_moved unit contour None = []

-- the edges that are drawn of a contour
abbrev pub drawn_of : ℕ → OutlineStyle → List Point → List Edge
drawn_of unit style contour = edges_moved unit contour (style_for style (double_area contour))

-- the edges that are drawn of all contours
abbrev pub all_drawn : ℕ → OutlineStyle → List (List Point) → List Edge
all_drawn unit style contours = flat_map (drawn_of unit style) contours

-- what a contour gives to the outline, the nearness of its own resolving and how many splits of that stand: of the
-- answer of a contour that moves, else nothing
pub data GivesNear (unit : ℕ) (style : OutlineStyle) (contour : List Point) : List Edge → ℕ → ℕ → Type 0 where
  moved : {way : OffsetJoin} {answer : List (List (List Point))} {k : ℕ}
      → style_for style (double_area contour) ≡ Some way
      → (built : List Edge) → IsPermutation built (outline_edges unit way contour)
      → (beyond : AreRegionsBeyond k built (filled (fill_for (double_area contour))) plain answer)
      → GivesNear unit style contour (in_sense (fill_for (double_area contour)) (answer_edges answer)) k
      (length beyond.regions.resolution.splits)
  ignored : style_for style (double_area contour) ≡ None → GivesNear unit style contour [] 0 0

-- what is told of a contour: the edges that it gives, and of its own resolving the nearness and how many splits stand
pub record ToldGive : Type 0 where
  pub edges : List Edge
  pub nearness : ℕ
  pub splits : ℕ

-- the greatest of some numbers, 0 where there is none
pub record IsGreatest (k : ℕ) (ks : List ℕ) : Type 0 where
  pub most : All (λ (l : ℕ). l ≤ k) ks
  pub reached : (k ≡ 0) ⊎ Contains ks k

-- the edges that contours give together, and the greatest nearness of their own resolvings
pub record GiveNear (k unit : ℕ) (style : OutlineStyle) (contours : List (List Point)) (given : List Edge) : Type 0 where
  pub told : List ToldGive
  pub each : AllZip (λ (contour : List Point) (t : ToldGive). GivesNear unit style contour t.edges t.nearness t.splits)
      contours told
  pub joined : given ≡ flat_map (λ (t : ToldGive). t.edges) told
  pub greatest : IsGreatest k (map (λ (t : ToldGive). t.nearness) told)

-- an answer is the outline of contours, and exact at each point farther than `k` from each drawn edge: there it winds
-- once where more contours fill than clear, and nowhere else. `k` is the greatest nearness of the contours' own
-- resolvings and that of the last one, added
pub record AreOutlineRegionsBeyond (k unit : ℕ) (style : OutlineStyle) (choices : Choices) (contours : List (List Point))
    (answer : List (List (List Point))) : Type 0 where
  pub first : ℕ
  pub last : ℕ
  pub added : k ≡ first + last
  pub outline : IsOutline unit style choices contours answer
  pub give : GiveNear first unit style contours outline.given
  pub beyond : AreRegionsBeyond last (proper_edges outline.given) (filled Positive) choices answer
  pub same : beyond.regions.resolution ≡ outline.resolution
  pub fills : WindsOnceWhere (more_fill unit style contours)
      (λ m q. IsFarFrom k m (all_drawn unit style contours) q) choices answer
  -- and each point of its contours lies within `k` of a drawn edge
  pub close : (e : Edge) → occurs e (answer_edges answer) ≡ true → StaysNear k (all_drawn unit style contours) e

-- edges that are resolved on the way to an outline: those that are drawn of one contour, in whatever order, and those
-- that contours give together
pub data IsOutlineDrawing (unit : ℕ) (style : OutlineStyle) (contours : List (List Point)) : List Edge → Type 0 where
  alone : {contour : List Point} {built : List Edge} → Contains contours contour
      → IsPermutation built (drawn_of unit style contour) → IsOutlineDrawing unit style contours built
  together : {given : List Edge} → Give unit style contours given
      → IsOutlineDrawing unit style contours (proper_edges given)

-- how many splits stand of the contours' own resolvings, together
abbrev pub first_splits : List ToldGive → ℕ
first_splits told = sum_by (λ (t : ToldGive). t.splits) told

-- an answer is such an outline, and the splits that stand of the contours' own resolvings and of the last one were
-- counted on, each of them once, with those of attempts that were given up
abbrev pub AreCountedOutlineRegions : ℕ → ℕ → OutlineStyle → Choices → List (List Point) → List (List (List Point))
    → SplitCount → SplitCount → Type 0
AreCountedOutlineRegions k unit style choices contours answer old new =
    (near : AreOutlineRegionsBeyond k unit style choices contours answer)
    × CountsStanding (length contours + 1) (IsOutlineDrawing unit style contours)
    (first_splits near.give.told + length near.beyond.regions.resolution.splits) old new
