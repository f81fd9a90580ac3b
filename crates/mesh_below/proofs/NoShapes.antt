-- Lemmas over lists: a resolution of no edge answers no shape.
use Rattle.std.proofs.Common.{◌≡◌, Bool, List, [], ◌∷◌, ◌++◌, map, length, refl, ◌∙◌, ap, subst, arith}
use Rattle.std.specs.Prelude.{ℤ}
use Rattle.std.specs.List.{All, filter, flat_map, enumerate_from}
use Rattle.std.specs.List.Sorted.{IsPermutation}
use Rattle.std.proofs.lemmas.Bool.{false≢true, or_left}
use Rattle.std.proofs.lemmas.List.{nil_from_length}
use Rattle.std.proofs.lemmas.List.Elements.{All-head}
use Rattle.std.proofs.lemmas.List.Sorted.{length_permutation}
use Rattle.mesh_plane.specs.Plane.{Point, Edge}
use Rattle.mesh_plane.specs.Winding.{route, boundary}
use Rattle.mesh_lattice.specs.Boundary.{IsBoundary}
use Rattle.mesh_shapes.specs.Contours.{IsBegun}
use Rattle.mesh_shapes.specs.Resolution.{Choices, Ring, ring_of, is_large, answered, rings_by_shape, AreArranged, IsResolution}
use Rattle.mesh_lattice.specs.Split.{same_ends, occurs}
use Rattle.mesh_regions.proofs.BoundaryFill.{boundary_cover}
use Rattle.mesh_lattice.proofs.Ends.{ends_self}
use Rattle.mesh_lattice.proofs.KeptBySplits.{after_none}

boundary_none : (bs : List Edge) (fill : ℤ → Bool) → IsBoundary [] fill bs → bs ≡ []
boundary_none [] fill is = refl
boundary_none (b ∷ bs) fill is = absurd (false≢true (boundary_cover [] (b ∷ bs) fill is b (or_left (same_ends b b) (occurs b bs) (ends_self b))))

no_edges : {A : Type 0} (x : A) (xs : List A) → x ∷ xs ≡ [] → ⊥
no_edges x xs e = let none : length (x ∷ xs) ≡ 0 = ap length e in absurd (omega (arith, none))

contours_none : (all : Bool) (cs : List (List Point)) → All (IsBegun all) cs → flat_map boundary cs ≡ [] → cs ≡ []
contours_none all [] begun none = refl
contours_none all ([] ∷ cs) begun none = absurd (All-head (IsBegun all) [] cs begun).at_least
contours_none all ((p ∷ []) ∷ cs) begun none = absurd (no_edges (p, p) (flat_map boundary cs) none)
contours_none all ((p ∷ q ∷ xs) ∷ cs) begun none = absurd (no_edges (p, q) (route q xs p ++ flat_map boundary cs) none)

permuted_none : {A : Type 0} (ys : List A) → IsPermutation [] ys → ys ≡ []
permuted_none ys h = nil_from_length ys (length_permutation [] ys h)

arranged_none : (clockwise : Bool) (rings : List Ring) (answer : List (List (List Point))) → rings ≡ [] → AreArranged clockwise rings answer → answer ≡ []
arranged_none clockwise rings answer none a =
    a.shapes ∙ ap (λ (rs : List Ring). map (map (answered clockwise)) (rings_by_shape (enumerate_from 0 rs))) (permuted_none a.sorted (subst (λ (rs : List Ring). IsPermutation rs a.sorted) none a.same))

pub no_shapes : (fill : ℤ → Bool) (options : Choices) (answer : List (List (List Point))) → IsResolution [] fill options answer → answer ≡ []
no_shapes fill options answer r =
    let bounds : flat_map boundary r.contours ≡ [] =
    boundary_none (flat_map boundary r.contours) fill (subst (λ (es : List Edge). IsBoundary es fill (flat_map boundary r.contours)) (after_none r.splits) r.bounded) in
    let none : r.contours ≡ [] = contours_none options.all_vertices r.contours r.begun bounds in
    arranged_none options.clockwise (filter (is_large options.least_area) (map (ring_of options.all_vertices) r.contours)) answer
    (ap (λ (cs : List (List Point)). filter (is_large options.least_area) (map (ring_of options.all_vertices) cs)) none) r.arranged
