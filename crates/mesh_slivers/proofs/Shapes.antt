-- Lemmas over lists: shapes without their slivers wind as they did, farther than the width from the edges left out.
use Rattle.std.proofs.Common.{◌≡◌, ℕ, ◌*◌, ◌<◌, true, false, Bool, cond, List, [], ◌∷◌, ◌++◌, refl, sym, ◌∙◌, arith}
use Rattle.std.specs.Prelude.{ℤ, pos, ◌&&◌, not, map}
use Rattle.std.specs.List.{filter, flat_map}
use Rattle.mesh_plane.specs.Plane.{Point, Edge}
use Rattle.mesh_plane.specs.Winding.{sum_of, crossing_on, winding, boundary}
use Rattle.mesh_plane.proofs.Sums.{sum_of_append, sum_of_flat_map}
use Rattle.mesh_plane.proofs.Whole.{linear}
use Rattle.mesh_lattice.proofs.Each.{Each, each_of, each_left, each_right}
use Rattle.mesh_slivers.specs.Slivers.{is_sliver, are_slivers, without_holes, without_slivers, sliver_holes, left_out, WindAlike}
use Rattle.mesh_slivers.proofs.Strips.{LiesFar}
use Rattle.mesh_slivers.proofs.Winding.{sliver_round}

each_flat : {A B : Type 0} (P : B → Type 0) (g : A → List B) (xs : List A) → Each P (flat_map g xs) → Each (λ (x : A). Each P (g x)) xs
each_flat P g [] h = tt
each_flat P g (x ∷ xs) h = (each_left P (g x) (flat_map g xs) h, each_flat P g xs (each_right P (g x) (flat_map g xs) h))

module _ (width m : ℕ) (some : 0 < m) (q : Point) where
  abbrev IsFar : List Point → Type 0
  IsFar contour = Each (LiesFar (64 * width) m q) (boundary contour)

  -- how often the contour winds round the point
  abbrev winds : List Point → ℤ
  winds contour = winding m q (boundary contour)

  slivers_none : (shape : List (List Point)) → are_slivers width shape ≡ true → Each IsFar shape → sum_of winds shape ≡ pos 0
  slivers_none [] thin far = refl
  slivers_none (c ∷ cs) thin far =
      omega (arith, linear, sliver_round width m some q c (both_true (is_sliver width c) (are_slivers width cs) thin).0 far.0, slivers_none cs (both_true (is_sliver width c) (are_slivers width cs) thin).1 far.1)
    where
      both_true : (s t : Bool) → (s && t) ≡ true → (s ≡ true) × (t ≡ true)
      both_true s t e = grind arith

  holes_kept : (holes : List (List Point)) → Each IsFar (filter (is_sliver width) holes) →
      sum_of winds (filter (λ (hole : List Point). not (is_sliver width hole)) holes) ≡ sum_of winds holes
  holes_kept [] far = refl
  holes_kept (c ∷ cs) far = at (λ (f : Each IsFar (filter (is_sliver width) cs)). holes_kept cs f) (is_sliver width c) refl far
    where
      at : (Each IsFar (filter (is_sliver width) cs) → sum_of winds (filter (λ (hole : List Point). not (is_sliver width hole)) cs) ≡ sum_of winds cs) →
          (t : Bool) → is_sliver width c ≡ t → Each IsFar (cond t (c ∷ filter (is_sliver width) cs) (filter (is_sliver width) cs)) →
          sum_of winds (cond (not t) (c ∷ filter (λ (hole : List Point). not (is_sliver width hole)) cs) (filter (λ (hole : List Point). not (is_sliver width hole)) cs)) ≡ sum_of winds (c ∷ cs)
      at more true e far = omega (arith, linear, sliver_round width m some q c e far.0, more far.1)
      at more false e far = omega (arith, linear, more far)

  shape_kept : (shape : List (List Point)) → Each IsFar (sliver_holes width shape) → sum_of winds (without_holes width shape) ≡ sum_of winds shape
  shape_kept [] far = refl
  shape_kept (outer ∷ holes) far = omega (arith, linear, holes_kept holes far)

  shapes_kept : (shapes : List (List (List Point))) → Each (λ (shape : List (List Point)). Each IsFar (left_out width shape)) shapes →
      sum_of winds (flat_map (λ (shape : List (List Point)). shape) (without_slivers width shapes)) ≡ sum_of winds (flat_map (λ (shape : List (List Point)). shape) shapes)
  shapes_kept [] far = refl
  shapes_kept (shape ∷ shapes) far = at (shapes_kept shapes far.1) (are_slivers width shape) refl far.0
    where
      all : List (List (List Point)) → List (List Point)
      all given = flat_map (λ (s : List (List Point)). s) given

      left : List (List (List Point))
      left = filter (λ (s : List (List Point)). not (are_slivers width s)) shapes

      at : sum_of winds (all (map (without_holes width) left)) ≡ sum_of winds (all shapes) → (t : Bool) → are_slivers width shape ≡ t → Each IsFar (cond t shape (sliver_holes width shape)) →
          sum_of winds (all (map (without_holes width) (cond (not t) (shape ∷ left) left))) ≡ sum_of winds (shape ++ all shapes)
      at rest true e far = omega (arith, linear, rest, slivers_none shape e far, sum_of_append winds shape (all shapes))
      at rest false e far =
          omega (arith, linear, rest, shape_kept shape far, sum_of_append winds shape (all shapes), sum_of_append winds (without_holes width shape) (all (map (without_holes width) left)))

pub winds_alike : (width : ℕ) (shapes : List (List (List Point))) → WindAlike width shapes (without_slivers width shapes)
winds_alike width shapes m some q far =
    sum_of_flat_map (λ (e : Edge). crossing_on m q e.0 e.1) boundary (flat_map (λ (shape : List (List Point)). shape) (without_slivers width shapes))
    ∙ (shapes_kept width m some q shapes
    (each_flat (IsFar width m some q) (left_out width) shapes
    (each_flat (LiesFar (64 * width) m q) boundary (flat_map (left_out width) shapes)
    (each_of (LiesFar (64 * width) m q) (flat_map boundary (flat_map (left_out width) shapes)) far)))
    ∙ sym (sum_of_flat_map (λ (e : Edge). crossing_on m q e.0 e.1) boundary (flat_map (λ (shape : List (List Point)). shape) shapes)))
