-- Lemmas over edges: a resolution of edges is one of the same edges in any order.
use Rattle.std.proofs.Common.{◌≡◌, ℕ, Bool, cond, not, ◌&&◌, ◌||◌, List, [], ◌∷◌, refl, sym, ◌∙◌, ap, arith}
use Rattle.std.specs.Prelude.{ℤ}
use Rattle.std.specs.List.{list_any, flat_map}
use Rattle.std.specs.List.Sorted.{IsPermutation}
use Rattle.std.proofs.lemmas.List.Sorted.{list_any-IsPermutation}
use Rattle.mesh_plane.specs.Plane.{Point, Edge}
use Rattle.mesh_plane.specs.Winding.{sum_of, crossing_on, boundary}
use Rattle.mesh_plane.proofs.Sums.{sum_of_append, sum_of_permutation}
use Rattle.mesh_plane.proofs.Whole.{linear}
use Rattle.mesh_lattice.specs.Boundary.{IsBoundary, middle}
use Rattle.mesh_lattice.specs.Clean.{IsClean}
use Rattle.mesh_lattice.specs.Counted.{along}
use Rattle.mesh_lattice.specs.Split.{same_ends, occurs, EdgeSplit, split_edge, split_by, after, IsLegal, no_cut, split}
use Rattle.mesh_lattice.proofs.Splits.{occurs_cut}
use Rattle.mesh_shapes.specs.Resolution.{Choices, IsResolution}
use Rattle.mesh_apart.proofs.Boundaries.{sides_same}

-- the same edges stand in both lists, and each sum over both is one
record AreAlike (es fs : List Edge) : Type 0 where
  stand : (e : Edge) → occurs e es ≡ occurs e fs
  sums : (f : Edge → ℤ) → sum_of f es ≡ sum_of f fs

occurs_any : (e : Edge) (es : List Edge) → occurs e es ≡ list_any (same_ends e) es
occurs_any e [] = refl
occurs_any e (d ∷ es) = ap (λ (b : Bool). same_ends e d || b) (occurs_any e es)

alike_permuted : (es fs : List Edge) → IsPermutation es fs → AreAlike es fs
alike_permuted es fs h = record {
  stand = λ (e : Edge). occurs_any e es ∙ (list_any-IsPermutation (same_ends e) es fs h ∙ sym (occurs_any e fs));
  sums = λ (f : Edge → ℤ). sym (sum_of_permutation f es fs h);
}

-- ---- splits keep that

sum_cut : (f : Edge → ℤ) (k : EdgeSplit) (es : List Edge) → sum_of f (split_by k es) ≡ sum_of (λ (e : Edge). sum_of f (split_edge k e)) es
sum_cut f k [] = refl
sum_cut f k (e ∷ es) = omega (arith, linear, sum_cut f k es, sum_of_append f (split_edge k e) (split_by k es))

alike_cut : (k : EdgeSplit) (es fs : List Edge) → AreAlike es fs → AreAlike (split_by k es) (split_by k fs)
alike_cut k es fs h = record {
  stand = λ (q : Edge).
      occurs_cut q k.ends k.at es
      ∙ ((λ i. (h.stand q i && not (same_ends q k.ends)) || (h.stand k.ends i && (same_ends q (k.ends.0, k.at) || same_ends q (k.at, k.ends.1))))
      ∙ sym (occurs_cut q k.ends k.at fs));
  sums = λ (f : Edge → ℤ). sum_cut f k es ∙ (h.sums (λ (e : Edge). sum_of f (split_edge k e)) ∙ sym (sum_cut f k fs));
}

alike_after : (ks : List EdgeSplit) (es fs : List Edge) → AreAlike es fs → AreAlike (after ks es) (after ks fs)
alike_after [] es fs h = h
alike_after (k ∷ ks) es fs h = alike_cut k (after ks es) (after ks fs) (alike_after ks es fs h)

legal_alike : (es fs : List Edge) (ks : List EdgeSplit) → IsLegal es ks → AreAlike es fs → IsLegal fs ks
legal_alike es fs ks legal alike = by legal alike
  where
    by : {es : List Edge} {ks : List EdgeSplit} → IsLegal es ks → AreAlike es fs → IsLegal fs ks
    by no_cut alike = no_cut
    by (split {given} {ks} {e} {f} {c} l x y m) alike =
        let left = alike_after ks given fs alike in
        split (by l alike) (sym (left.stand e) ∙ x) (sym (left.stand f) ∙ y) m

-- ---- what is left

clean_alike : (es fs : List Edge) → AreAlike es fs → IsClean es → IsClean fs
clean_alike es fs alike clean e f here there differ m some = clean e f (alike.stand e ∙ here) (alike.stand f ∙ there) differ m some

boundary_alike : (es fs : List Edge) → AreAlike es fs → (fill : ℤ → Bool) (bs : List Edge) → IsBoundary es fill bs → IsBoundary fs fill bs
boundary_alike es fs alike fill bs h = record {
  counts = λ (e : Edge).
      let sides = sides_same es fs e (alike.sums (λ (d : Edge). crossing_on 2 (middle e) d.0 d.1)) (alike.sums (along e)) in
      h.counts e ∙ (λ i. cond {A = ℕ} (alike.stand e i && (fill (sides.0 i) && not (fill (sides.1 i)))) 1 0);
}

pub rearranged : (es fs : List Edge) → IsPermutation es fs → (fill : ℤ → Bool) (options : Choices) (x : List (List (List Point))) → IsResolution es fill options x → IsResolution fs fill options x
rearranged es fs h fill options x r =
    let alike = alike_permuted es fs h in
    let left = alike_after r.splits es fs alike in
    record {
      splits = r.splits;
      legal = legal_alike es fs r.splits r.legal alike;
      clean = clean_alike (after r.splits es) (after r.splits fs) left r.clean;
      contours = r.contours;
      bounded = boundary_alike (after r.splits es) (after r.splits fs) left fill (flat_map boundary r.contours) r.bounded;
      begun = r.begun;
      arranged = r.arranged;
    }
