-- Lemmas over lists: contours each of whose points is a vertex.
use Rattle.std.proofs.Common.{◌≡◌, ◌≤◌, suc, Bool, true, false, cond, List, [], ◌∷◌, map, length, refl, sym, ◌∙◌, ap, arith}
use Rattle.std.specs.Prelude.{ℤ, pos}
use Rattle.std.specs.List.{All}
use Rattle.std.proofs.lemmas.Int.{ints}
use Rattle.std.proofs.lemmas.List.Elements.{All-head, All-tail}
use Rattle.mesh_plane.specs.Plane.{Point, Edge}
use Rattle.mesh_plane.specs.Turning.{turns_at, first_or}
use Rattle.mesh_plane.specs.Winding.{sum_of, boundary}
use Rattle.mesh_plane.proofs.ClosedLists.{boundary_length}
use Rattle.mesh_plane.proofs.Sums.{sum_of_ones}
use Rattle.mesh_shapes.specs.Contours.{turning_points, vertices}
use Rattle.mesh_below.specs.Private.Rings.{IsWhole}

-- ---- vertices

few : (a : Point) (xs : List Point) (z : Point) → length (turning_points a xs z) ≤ length xs
few a [] z = omega arith
few a (x ∷ xs) z = by (turns_at a x (first_or z xs)) (few x xs z)
  where
    by : (b : Bool) → length (turning_points x xs z) ≤ length xs → length (cond b (x ∷ turning_points x xs z) (turning_points x xs z)) ≤ suc (length xs)
    by true h = omega (arith, h)
    by false h = omega (arith, h)

-- where there are as many turning points as points, all are
all_turn : (a : Point) (xs : List Point) (z : Point) → length (turning_points a xs z) ≡ length xs → turning_points a xs z ≡ xs
all_turn a [] z h = refl
all_turn a (x ∷ xs) z h = by (turns_at a x (first_or z xs)) (all_turn x xs z) h
  where
    by : (b : Bool) → (length (turning_points x xs z) ≡ length xs → turning_points x xs z ≡ xs) →
        length (cond b (x ∷ turning_points x xs z) (turning_points x xs z)) ≡ suc (length xs) → cond b (x ∷ turning_points x xs z) (turning_points x xs z) ≡ x ∷ xs
    by true rest e = ap (λ (ps : List Point). x ∷ ps) (rest (omega (arith, e)))
    by false rest e = absurd (let l = few x xs z in omega (arith, e, l))

pub whole_vertices : (all : Bool) (c : List Point) → length (vertices all c) ≡ length c → IsWhole all c
whole_vertices all [] h = refl
whole_vertices true (p ∷ xs) h = refl
whole_vertices false (p ∷ xs) h = ap (λ (ps : List Point). p ∷ ps) (all_turn p xs p (omega (arith, h)))

pub whole_all : (all : Bool) (cs : List (List Point)) → All (IsWhole all) cs → map (vertices all) cs ≡ cs
whole_all all [] h = refl
whole_all all (c ∷ cs) h =
    let own = All-head (IsWhole all) c cs h in
    let rest = whole_all all cs (All-tail (IsWhole all) c cs h) in
    λ i. own i ∷ rest i

-- ---- lengths

-- closed lists with the same sums over their edges are equally long
pub same_length : (c d : List Point) → ((f : Edge → ℤ) → sum_of f (boundary c) ≡ sum_of f (boundary d)) → length c ≡ length d
same_length c d same =
    let one = sym (sum_of_ones (boundary c)) ∙ (same (λ (e : Edge). pos 1) ∙ sum_of_ones (boundary d)) in
    let first = boundary_length c in
    let second = boundary_length d in
    omega (arith, ints, one, first, second)
