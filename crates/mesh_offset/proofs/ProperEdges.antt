-- Lemmas over points and lists: edges whose ends are one point are left out, add nothing to a sum, and none of them stays.
use Rattle.std.proofs.Common.{◌≡◌, ◌≤◌, cond, List, [], ◌∷◌, ◌++◌, length, refl, ◌∙◌, ap, arith}
use Rattle.std.specs.Prelude.{ℤ, pos, false, not}
use Rattle.std.specs.List.{All, flat_map}
use Rattle.std.specs.List.Sorted.{IsPermutation}
use Rattle.std.proofs.lemmas.Bool.{not-false}
use Rattle.std.proofs.lemmas.List.Elements.{All-head, All-tail, filter-append, All-from_recursion, recursion_from_All}
use Rattle.std.proofs.lemmas.List.Sorted.{All-permutation}
use Rattle.std.proofs.lemmas.List.Sums.{length-filter, count_by-le-length}
use Rattle.mesh_plane.specs.Plane.{Point, Edge}
use Rattle.mesh_plane.specs.Winding.{total, same_point, IsOdd}
use Rattle.mesh_plane.proofs.Whole.{linear}
use Rattle.mesh_plane.proofs.Sums.{sum_of_filter}
use Rattle.mesh_plane.proofs.Comparing.{decides_point}
use Rattle.mesh_num.specs.Segments.{proper_edges, segments_of}
use Rattle.mesh_num.proofs.SegmentLists.{edges_of_segments}
use Rattle.mesh_num.proofs.Subjects.{segments_of_subjects}
use Rattle.mesh_lattice.specs.Clean.{IsProper}
use Rattle.mesh_lattice.proofs.SoundSplits.{ProperEnds, proper_each, each_proper}
use Rattle.mesh_below.proofs.Resolving.{all_occurs}
use Rattle.mesh_below.proofs.Subjects.{subjects_proper}

module _ (f : Point → Point → ℤ) (odd : IsOdd f) where
  point_total : (e : Edge) → not (same_point e.0 e.1) ≡ false → f e.0 e.1 ≡ pos 0
  point_total e h =
      let same : e.0 ≡ e.1 = (decides_point e.0 e.1).0 (not-false (same_point e.0 e.1) h) in
      omega (arith, linear, odd e.1 e.1, ap (λ p. f p e.1) same)

  pub proper_edges_total : (es : List Edge) → total f (proper_edges es) ≡ total f es
  proper_edges_total es = sum_of_filter (λ (e : Edge). f e.0 e.1) (λ (e : Edge). not (same_point e.0 e.1)) point_total es

-- of two lists, and of many
pub proper_append : (es gs : List Edge) → proper_edges (es ++ gs) ≡ proper_edges es ++ proper_edges gs
proper_append es gs = filter-append (λ (e : Edge). not (same_point e.0 e.1)) es gs

pub proper_flat_map : {A : Type 0} (g : A → List Edge) (xs : List A)
    → proper_edges (flat_map g xs) ≡ flat_map (λ x. proper_edges (g x)) xs
proper_flat_map g [] = refl
proper_flat_map g (x ∷ xs) =
    proper_append (g x) (flat_map g xs) ∙ ap (λ l. proper_edges (g x) ++ l) (proper_flat_map g xs)

-- there are no more of them
pub proper_length : (es : List Edge) → length (proper_edges es) ≤ length es
proper_length es =
    omega (
      arith,
      length-filter (λ (e : Edge). not (same_point e.0 e.1)) es,
      count_by-le-length (λ (e : Edge). not (same_point e.0 e.1)) es,
    )

-- ---- edges none of which ends where it starts

-- those that are kept are such
pub proper_kept : (es : List Edge) → IsProper (proper_edges es)
proper_kept es = rw (edges_of_segments es) at (subjects_proper (segments_of es) (segments_of_subjects es))

pub all_proper : (es : List Edge) → IsProper es → All ProperEnds es
all_proper es h = All-from_recursion ProperEnds es (proper_each es h)

pub proper_if_all : (es : List Edge) → All ProperEnds es → IsProper es
proper_if_all es h = each_proper es (recursion_from_All ProperEnds es h)

-- and so are they in another order
pub proper_permutation : (es gs : List Edge) → IsPermutation es gs → IsProper es → IsProper gs
proper_permutation es gs same h = proper_if_all gs (All-permutation ProperEnds es gs same (all_proper es h))

-- where all are such, all are kept
kept_all : (es : List Edge) → All (λ (e : Edge). same_point e.0 e.1 ≡ false) es → proper_edges es ≡ es
kept_all [] h = refl
kept_all (e ∷ es) h =
    let apart = All-head (λ (f : Edge). same_point f.0 f.1 ≡ false) e es h in
    (λ i. cond (not (apart i)) (e ∷ proper_edges es) (proper_edges es))
    ∙ ap (λ l. e ∷ l) (kept_all es (All-tail (λ (f : Edge). same_point f.0 f.1 ≡ false) e es h))

pub proper_same : (es : List Edge) → IsProper es → proper_edges es ≡ es
proper_same es h = kept_all es (all_occurs (λ (e : Edge). same_point e.0 e.1 ≡ false) es h)
