-- Lemmas over points and lists: the answer of edges that wind as pieces winds once round what these fill.
use Rattle.std.proofs.Common.{◌≡◌, ℕ, ◌+◌, ◌<◌, map, Bool, true, false, cond, ◌||◌, List, [], ◌∷◌, refl, sym, ◌∙◌, ap, arith}
use Rattle.std.specs.Prelude.{ℤ, pos, count_by, int_lt}
use Rattle.std.specs.List.{All, flat_map, list_any}
use Rattle.std.specs.List.Sorted.{IsPermutation}
use Rattle.std.proofs.lemmas.Int.{ints}
use Rattle.std.proofs.lemmas.List.Sorted.{IsPermutation-sym}
use Rattle.std.proofs.lemmas.List.Sums.{sum_by-cons}
use Rattle.mesh_plane.specs.Plane.{Point, Edge}
use Rattle.mesh_plane.specs.Winding.{IsBit, boundary, crossing_on, holds, pieces_total, winding}
use Rattle.mesh_plane.proofs.Comparing.{less_test}
use Rattle.mesh_plane.proofs.Pieces.{pieces_counted}
use Rattle.mesh_plane.proofs.Sums.{pieces_total_flat_map, sum_of_same, total_flat_map, total_permutation}
use Rattle.mesh_lattice.specs.FillRules.{filled}
use Rattle.mesh_lattice.specs.Counted.{bit}
use Rattle.mesh_lattice.specs.declared.fill.FillRule.TheVariants.{Positive}
use Rattle.mesh_below.specs.Regions.{OutsideBent}
use Rattle.mesh_shapes.specs.Resolution.{Choices}
use Rattle.mesh_regions.specs.BoundaryLaws.{once}
use Rattle.mesh_shapes.specs.Contours.{vertices}
use Rattle.mesh_below.specs.Laws.{AreRegions}
use Rattle.mesh_offset.specs.Pieces.{WindAsPieces}
use Rattle.mesh_offset.specs.Regions.{WindsOnceWhere, is_held, wind_above}

-- ---- edges of many paths

-- where the edges of each path wind as its pieces, those of all paths wind as all pieces, in whatever order they were built
pub built_sum : {P : Type 0} (draw : P → List Edge) (pieces : P → List (List Point)) → ((path : P) → WindAsPieces (pieces path) (draw path)) →
    (paths : List P) (built : List Edge) → IsPermutation built (flat_map draw paths) → WindAsPieces (flat_map pieces paths) built
built_sum draw pieces sum paths built same m q =
    total_permutation (crossing_on m q) (flat_map draw paths) built (IsPermutation-sym built (flat_map draw paths) same)
    ∙ (total_flat_map (crossing_on m q) draw paths
    ∙ (sum_of_same (λ path. winding m q (draw path)) (λ path. pieces_total (crossing_on m q) (pieces path)) (λ path. sum path m q) paths
    ∙ sym (pieces_total_flat_map (crossing_on m q) pieces paths)))

-- ---- what pieces fill

-- a number of some is above 0 where there is one
some_counted : {A : Type 0} (test : A → Bool) (xs : List A) → int_lt (pos 0) (pos (count_by test xs)) ≡ list_any test xs
some_counted test [] = refl
some_counted test (x ∷ xs) =
    ap (λ (n : ℕ). int_lt (pos 0) (pos n)) (sum_by-cons (λ y. cond (test y) 1 0) x xs) ∙ by (test x) (some_counted test xs)
  where
    by : (b : Bool) → int_lt (pos 0) (pos (count_by test xs)) ≡ list_any test xs → int_lt (pos 0) (pos (cond b 1 0 + count_by test xs)) ≡ (b || list_any test xs)
    by true h = less_test (pos 0) (pos (1 + count_by test xs)) (omega (arith, ints))
    by false h = ap (λ (n : ℕ). int_lt (pos 0) (pos n)) (omega arith) ∙ h

module _ (built : List Edge) (choices : Choices) (answer : List (List (List Point))) (regions : AreRegions built (filled Positive) choices answer)
    (pieces : List (List Point)) (sum : WindAsPieces pieces built) where
  -- where the contours wind once round what the edges that were built fill
  module _ (IsPlain : ℕ → Point → Type 0)
      (given : (m : ℕ) → 0 < m → (q : Point) → IsPlain m q →
      winding m q (flat_map boundary (map (vertices choices.all_vertices) regions.resolution.contours)) ≡ once (filled Positive) (winding m q built)) where
    -- the answer winds once where the pieces wind above 0
    pub winds_above : WindsOnceWhere (wind_above pieces) IsPlain choices answer
    winds_above least forward m some q plain =
        regions.answered least forward m q ∙ (given m some q plain ∙ ap (λ (w : ℤ). bit (int_lt (pos 0) w)) (sum m q))

    -- and where one of them holds the point, if none is turned round
    pub winds_held : ((m : ℕ) (q : Point) → All (λ (piece : List Point). IsBit (winding m q (boundary piece))) pieces) →
        WindsOnceWhere (is_held pieces) IsPlain choices answer
    winds_held bits least forward m some q plain =
        winds_above least forward m some q plain
        ∙ ap bit (ap (int_lt (pos 0)) (pieces_counted m q pieces (bits m q)) ∙ some_counted (holds m q) pieces)

  -- so outside the boxes of bent edges
  pub regions_above : WindsOnceWhere (wind_above pieces) (OutsideBent regions.resolution.splits built) choices answer
  regions_above = winds_above (OutsideBent regions.resolution.splits built) regions.given

  pub regions_held : ((m : ℕ) (q : Point) → All (λ (piece : List Point). IsBit (winding m q (boundary piece))) pieces) →
      WindsOnceWhere (is_held pieces) (OutsideBent regions.resolution.splits built) choices answer
  regions_held = winds_held (OutsideBent regions.resolution.splits built) regions.given
