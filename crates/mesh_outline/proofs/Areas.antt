-- Lemmas over whole numbers: what 128 bits keep of products of coordinates and of their sums, and areas of paths.
use Rattle.std.proofs.Common.{◌≡◌, ℕ, suc, ◌+◌, ◌^◌, ◌<◌, ◌≤◌, List, [], ◌∷◌, length, drop, take, get_or, ◌∙◌, sym, ap, subst, add-one, take_all, arith}
use Rattle.std.specs.Prelude.{ℤ, pos, ◌+ℤ◌, ◌-ℤ◌, ◌*ℤ◌, unsigned_abs}
use Rattle.std.proofs.lemmas.Int.{fits_signed_from_abs}
use Rattle.std.proofs.Math.Seq.{drop-cons}
use Rattle.std.proofs.lemmas.List.{drop_all}
use mir.Syntax.{w128}
use mir.Val.{to_z, of_z, SFits}
use Rattle.mesh_plane.specs.Bounds.{IsWithin}
use Rattle.mesh_plane.specs.Plane.{Point, cross}
use Rattle.mesh_plane.specs.Winding.{total, route}
use Rattle.std.proofs.lemmas.List.Elements.{All-more}
use Rattle.mesh_plane.proofs.Whole.{linear}
use Rattle.mesh_plane.proofs.Sizes.{within_size, sum_size, difference_size, product_size, size_kept}
use Rattle.mesh_shapes.specs.Contours.{double_area}
use Rattle.mesh_offset.proofs.Adding.{rest_from}
use Rattle.mesh_outline.specs.Resolved.{DoAreasFit}

coordinates_product : (a b : ℤ) → IsWithin (2 ^ 31) a → IsWithin (2 ^ 31) b → unsigned_abs (a *ℤ b) ≤ 2 ^ 62
coordinates_product a b v w =
    product_size a b (2 ^ 31) (2 ^ 31) (within_size (2 ^ 31) a v) (within_size (2 ^ 31) b w)

pub product_kept : (a b : ℤ) → IsWithin (2 ^ 31) a → IsWithin (2 ^ 31) b →
    to_z w128 (of_z w128 (to_z w128 (of_z w128 a) *ℤ to_z w128 (of_z w128 b))) ≡ a *ℤ b
product_kept a b v w =
    let s : unsigned_abs a ≤ 2 ^ 31 = within_size (2 ^ 31) a v in
    let t : unsigned_abs b ≤ 2 ^ 31 = within_size (2 ^ 31) b w in
    let p : unsigned_abs (a *ℤ b) ≤ 2 ^ 62 = coordinates_product a b v w in
    rw (size_kept a (omega arith), size_kept b (omega arith)) (size_kept (a *ℤ b) (omega arith))

-- the size of a difference of two products of coordinates, and what 128 bits keep of it
pub cross_size : (a b x y : ℤ) → IsWithin (2 ^ 31) a → IsWithin (2 ^ 31) b → IsWithin (2 ^ 31) x → IsWithin (2 ^ 31) y →
    unsigned_abs ((a *ℤ b) -ℤ (x *ℤ y)) ≤ 2 ^ 63
cross_size a b x y q r s t =
    difference_size (a *ℤ b) (x *ℤ y) (2 ^ 62) (2 ^ 62) (coordinates_product a b q r) (coordinates_product x y s t)

pub cross_fits : (a b x y : ℤ) → IsWithin (2 ^ 31) a → IsWithin (2 ^ 31) b → IsWithin (2 ^ 31) x → IsWithin (2 ^ 31) y →
    SFits w128 ((a *ℤ b) -ℤ (x *ℤ y))
cross_fits a b x y q r s t =
    let p : unsigned_abs ((a *ℤ b) -ℤ (x *ℤ y)) ≤ 2 ^ 63 = cross_size a b x y q r s t in
    fits_signed_from_abs w128 ((a *ℤ b) -ℤ (x *ℤ y)) (omega arith)

-- a sum that 128 bits keep
pub sum_kept : (x y : ℤ) (m n : ℕ) → unsigned_abs x ≤ m → unsigned_abs y ≤ n → m + n < 2 ^ 127 →
    to_z w128 (of_z w128 (x +ℤ to_z w128 (of_z w128 y))) ≡ x +ℤ y
sum_kept x y m n h k l =
    let p : unsigned_abs (x +ℤ y) ≤ m + n = sum_size x y m n h k in
    rw (size_kept y (omega arith)) (size_kept (x +ℤ y) (omega arith))

-- an edge goes over from what is left to what is done
pub area_step : (first previous point : Point) (rest : List Point) (i : ℕ) (s a x : ℤ) → i < length rest →
    s ≡ a +ℤ total cross (route previous (drop i rest) first) → point ≡ get_or rest i point → x ≡ cross previous point →
    s ≡ (a +ℤ x) +ℤ total cross (route point (drop (i + 1) rest) first)
area_step first previous point rest i s a x l e f g =
    let h : s ≡ a +ℤ (cross previous point +ℤ total cross (route point (drop (i + 1) rest) first)) =
    e ∙ ap (λ (ps : List Point). a +ℤ total cross (route previous ps first)) (rest_from rest i point l f) in
    omega (arith, linear, h, g)

-- the last edge closes the contour
pub area_end : (first previous : Point) (rest : List Point) (i : ℕ) (s a x : ℤ) → length rest ≤ i →
    s ≡ a +ℤ total cross (route previous (drop i rest) first) → x ≡ cross previous first → s ≡ a +ℤ x
area_end first previous rest i s a x l e f =
    let h : s ≡ a +ℤ (cross previous first +ℤ pos 0) = e ∙ ap (λ (ps : List Point). a +ℤ total cross (route previous ps first)) (drop_all i rest l) in
    omega (arith, linear, h, f)

-- one more path whose area fits
pub areas_fit_more : (half : ℕ) (paths : List (List Point)) (i : ℕ) → i < length paths → DoAreasFit half (take i paths) →
    IsWithin half (double_area (get_or paths i [])) → DoAreasFit half (take (i + 1) paths)
areas_fit_more half paths i h before here = All-more (λ (path : List Point). IsWithin half (double_area path)) paths i [] h before here

-- after the last path all areas fit
pub all_areas_fit : (half : ℕ) (paths : List (List Point)) (i : ℕ) → length paths ≤ i → DoAreasFit half (take i paths) → DoAreasFit half paths
all_areas_fit half paths i h fit = subst (λ (ps : List (List Point)). DoAreasFit half ps) (take_all i paths h) fit
