-- Lemmas over points and lists: answers are exact away from the given edges.
use Rattle.std.proofs.Common.{◌≡◌, ℕ, ◌<◌, Bool, true, false, List, sym, ◌∙◌, ap, subst}
use Rattle.std.specs.Prelude.{ℤ, pos}
use Rattle.std.specs.List.{flat_map}
use Rattle.mesh_num.specs.Paths.{contours_of}
use Rattle.mesh_plane.specs.Plane.{Point, Edge}
use Rattle.mesh_plane.specs.Winding.{boundary, winding, IsBalanced}
use Rattle.mesh_lattice.specs.Clean.{IsOn, IsProper, refined_edge}
use Rattle.mesh_lattice.specs.Nearness.{IsFarFrom, IsNearness}
use Rattle.mesh_lattice.proofs.Each.{Each}
use Rattle.mesh_lattice.proofs.NearSplits.{far_winding, segments_near}
use Rattle.mesh_lattice.specs.Split.{EdgeSplit, after, occurs}
use Rattle.mesh_regions.specs.BoundaryLaws.{once}
use Rattle.mesh_shapes.specs.Resolution.{Choices, IsResolution}
use Rattle.mesh_below.specs.Laws.{AreRegions}
use Rattle.mesh_ahead.specs.Counting.{CountsWith}
use Rattle.mesh_split.specs.declared.count.SplitCount.{SplitCount}
use Rattle.mesh_below.specs.Nearness.{AreCountedRegions, AreRegionsBeyond, IsCountedResolution, IsNearResolution}
use Rattle.mesh_below.proofs.Again.{answer_covered}
use Rattle.mesh_below.specs.Private.Resolving.{ResolvesBy}
use Rattle.mesh_below.proofs.AnswerRegions.{regions_made, resolved_split}
use Rattle.mesh_below.proofs.Covered.{IsCovered, covered_back}
use Rattle.mesh_below.proofs.NoBend.{each_found}

-- a resolution whose nearness is known is made of regions that are exact beyond it
beyond_of : (k : ℕ) (edges : List Edge) (fill : ℤ → Bool) (options : Choices) (answer : List (List (List Point))) →
    IsProper edges → IsBalanced edges → fill (pos 0) ≡ false → (near : IsNearResolution k edges fill options answer) →
    (beyond : AreRegionsBeyond k edges fill options answer) × (beyond.regions.resolution ≡ near.resolution)
beyond_of k edges fill options answer proper balanced empty near = (
  record {
    regions = regions;
    nearness = nearness;
    unmoved = unmoved;
    exact = λ (m : ℕ) (some : 0 < m) (q : Point) (far : IsFarFrom k m edges q). regions.split m some q ∙ ap (once fill) (unmoved m some q far);
    close = λ (e : Edge) (o : occurs e own ≡ true) (m : ℕ) (some : 0 < m) (q : Point) (on : IsOn (refined_edge m e) q).
        let at = (each_found (IsCovered es) (covered_back es) own covered e o).cover m some q on in
        segments_near edges regions.resolution.splits k nearness at.segment at.stands m some q at.on;
  },
  made.1,
)
  where
    made : (regions : AreRegions edges fill options answer) × (regions.resolution ≡ near.resolution)
    made = regions_made edges fill options answer proper balanced empty near.resolution

    regions : AreRegions edges fill options answer
    regions = made.0

    es : List Edge
    es = after regions.resolution.splits edges

    own : List Edge
    own = flat_map boundary (contours_of answer)

    covered : Each (IsCovered es) own
    covered = answer_covered edges fill options answer regions.resolution (resolved_split edges fill options answer proper balanced regions.resolution)

    nearness : IsNearness edges regions.resolution.splits k
    nearness = subst (λ (r : IsResolution edges fill options answer). IsNearness edges r.splits k) (sym made.1) near.nearness

    unmoved : (m : ℕ) → 0 < m → (q : Point) → IsFarFrom k m edges q → winding m q es ≡ winding m q edges
    unmoved m some q far = far_winding edges regions.resolution.splits k nearness m some q far

-- and where its splits are counted, so are those of the regions
pub counted_beyond : (k : ℕ) (edges : List Edge) (fill : ℤ → Bool) (options : Choices) (answer : List (List (List Point))) (old new : SplitCount) →
    IsProper edges → IsBalanced edges → fill (pos 0) ≡ false → IsCountedResolution k edges fill options answer old new → AreCountedRegions k edges fill options answer old new
counted_beyond k edges fill options answer old new proper balanced empty counted =
    let made = beyond_of k edges fill options answer proper balanced empty counted.near in
    record {
      beyond = made.0;
      counted = subst (λ (r : IsResolution edges fill options answer). CountsWith edges old new r.splits) (sym made.1) counted.counted;
    }

-- what edges come of by these splits, its nearness and its count
pub counted_resolution : (k : ℕ) (edges : List Edge) (fill : ℤ → Bool) (options : Choices) (answer : List (List (List Point))) (old new : SplitCount) (splits : List EdgeSplit) →
    IsNearness edges splits k → CountsWith edges old new splits → ResolvesBy splits edges fill options answer → IsCountedResolution k edges fill options answer old new
counted_resolution k edges fill options answer old new splits near counted by = record {
  near = record {
    resolution = by.0;
    nearness = subst (λ (ks : List EdgeSplit). IsNearness edges ks k) (sym by.1) near;
  };
  counted = subst (CountsWith edges old new) (sym by.1) counted;
}

-- of the same edges, by the same choices, into the same answer
pub same_counted : (k : ℕ) (es own : List Edge) (fill : ℤ → Bool) (choices options : Choices) (answer shapes : List (List (List Point))) (old new : SplitCount) →
    es ≡ own → choices ≡ options → answer ≡ shapes → IsCountedResolution k es fill choices answer old new → IsCountedResolution k own fill options shapes old new
same_counted k es own fill choices options answer shapes old new e o a counted =
    subst (λ (x : List Edge × (Choices × List (List (List Point)))). IsCountedResolution k x.0 fill x.1.0 x.1.1 old new) (λ i. (e i, (o i, a i))) counted
