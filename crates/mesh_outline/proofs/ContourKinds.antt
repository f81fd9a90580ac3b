-- Lemmas over lists: the kinds of contours.
use Rattle.std.proofs.Common.{◌≡◌, ℕ, ◌<◌, List, [], ◌∷◌, length, get_or, map, ap, ◌∙◌, arith}
use Rattle.std.proofs.lemmas.List.{get_or-map, length-map}
use Rattle.mesh_plane.specs.Plane.{Point}
use Rattle.mesh_outline.specs.Kinds.{contour_kind}
use Rattle.mesh_outline.specs.declared.kind.ContourKind.{ContourKind}

-- there are as many as contours
pub kind_count : (paths : List (List Point)) (kinds : List ContourKind) → kinds ≡ map contour_kind paths → length kinds ≡ length paths
kind_count paths kinds e = ap (λ (ks : List ContourKind). length ks) e ∙ length-map paths contour_kind

-- and each is that of its contour
pub kind_at : (paths : List (List Point)) (kinds : List ContourKind) (i : ℕ) (d : ContourKind) → kinds ≡ map contour_kind paths → i < length paths →
    get_or kinds i d ≡ contour_kind (get_or paths i [])
kind_at paths kinds i d e h = ap (λ (ks : List ContourKind). get_or ks i d) e ∙ get_or-map contour_kind paths i [] d h

-- where there is one kind there is a contour
pub one_path : (paths : List (List Point)) (kinds : List ContourKind) (kind : ContourKind) → kinds ≡ map contour_kind paths → kinds ≡ kind ∷ [] → 0 < length paths
one_path paths kinds kind e one =
    let count = kind_count paths kinds e in
    let own = ap (λ (ks : List ContourKind). length ks) one in
    omega (arith, count, own)
