-- Lemmas over distances: a clearance that fits or does not, and paths through the points of vertices.
use Rattle.std.proofs.Common.{◌≡◌, ℕ, ◌<◌, ◌≤◌, ◌+◌, ◌^◌, ◌⊎◌, inl, inr, Bool, List, [], ◌∷◌, ◌++◌, length, map, take, get_or, Global, sym, ap, subst, ◌∙◌}
use Rattle.std.specs.Prelude.{Option, None, Some, IfSome, MatchOption}
use Rattle.std.specs.List.{All, flat_map}
use Rattle.std.specs.declared.vec.Vec.{Vec}
use Rattle.std.proofs.lemmas.List.{map-append, take_more}
use Rattle.std.proofs.lemmas.List.Elements.{All-nil, All-weaker}
use Rattle.mesh_num.specs.Paths.{paths_of}
use Rattle.mesh_plane.specs.Plane.{Point, Edge}
use Rattle.mesh_clearance.specs.Clearance.{AreApart, AreAllApart, IsClearance, WindAsAtVertices, sections}
use Rattle.mesh_clearance.proofs.Symmetries.{apart_less}
use Rattle.mesh_join.specs.VariableStyles.{Vertex}
use Rattle.mesh_variable_stroke.specs.Drawn.{vertex_points}
use Rattle.mesh_drawing.specs.Drawn.{Drawn}
use Rattle.mesh_service.specs.Distances.{AreAskedDistances, IsToldClearance, edges_in}
use Rattle.mesh_service.specs.Lines.{told_shapes_text}
use Rattle.mesh_service.specs.Private.Asking.{ListsMeasured}
use Rattle.mesh_service.specs.declared.distances.Distances.{Distances}

-- where one list has no edge, any number parts them
all_apart_none : (t : ℕ) (es fs : List Edge) → (es ≡ []) ⊎ (fs ≡ []) → AreAllApart t es fs
all_apart_none t es fs (inl none) = subst (λ (l : List Edge). AreAllApart t l fs) (sym none) (All-nil (λ (e : Edge). All (AreApart t e) fs))
all_apart_none t es fs (inr none) =
    subst (λ (l : List Edge). AreAllApart t es l) (sym none) (λ k d low. All-nil (AreApart t (get_or es k d)))

-- a lesser number does too
all_apart_less : (s t : ℕ) (es fs : List Edge) → s ≤ t → AreAllApart t es fs → AreAllApart s es fs
all_apart_less s t es fs less h =
    All-weaker (λ (e : Edge). All (AreApart t e) fs) (λ (e : Edge). All (AreApart s e) fs)
    (λ (e : Edge) (k : All (AreApart t e) fs).
    All-weaker (AreApart t e) (AreApart s e) (λ (f : Edge) (x : AreApart t e f). apart_less s t e f less x) fs k)
    es h

-- what is found is told where it fits
pub clearance_told : (closed : Bool) (shapes : List (List (List Point))) (paths : List (List Point)) (found told : Option ℕ) →
    MatchOption found ((edges_in shapes ≡ []) ⊎ (flat_map (sections closed) paths ≡ [])) (IsClearance (edges_in shapes) (flat_map (sections closed) paths)) →
    IfSome found (λ (t : ℕ). All (WindAsAtVertices t closed (edges_in shapes)) paths) →
    MatchOption found (told ≡ None) (λ (t : ℕ). MatchOption told (2 ^ 64 ≤ t) (λ (s : ℕ). s ≡ t)) → IsToldClearance closed shapes paths told
clearance_told closed shapes paths None told none wind fits =
    subst (IsToldClearance closed shapes paths) (sym fits) (all_apart_none (2 ^ 64) (edges_in shapes) (flat_map (sections closed) paths) none)
clearance_told closed shapes paths (Some t) None apart wind fits =
    all_apart_less (2 ^ 64) t (edges_in shapes) (flat_map (sections closed) paths) fits apart.apart
clearance_told closed shapes paths (Some t) (Some s) apart wind fits =
    subst (λ (n : ℕ). IsToldClearance closed shapes paths (Some n)) (sym fits) (apart, wind)

-- the same of the same paths
pub told_of : (closed : Bool) (shapes : List (List (List Point))) (ps qs : List (List Point)) (told : Option ℕ) → ps ≡ qs → IsToldClearance closed shapes ps told →
    IsToldClearance closed shapes qs told
told_of closed shapes ps qs told same h = subst (λ (rs : List (List Point)). IsToldClearance closed shapes rs told) same h

-- shapes are listed with what is told of them
pub listed_measured : (asked : Bool) (unit : ℕ) (drawn : Drawn) (nearness : Option ℕ) (shapes : List (List (List Point))) (told : Option Distances) (line : List ℕ) →
    AreAskedDistances asked unit drawn shapes told → line ≡ told_shapes_text nearness told shapes → ListsMeasured asked unit drawn nearness shapes line
listed_measured asked unit drawn nearness shapes told line distances written = record { told = told; distances = distances; written = written }

-- one path more
pub path_more : (lists new : List (Vec Point Global)) (paths : List (Vec Vertex Global)) (i : ℕ) (points : Vec Point Global) (path : Vec Vertex Global) →
    i < length paths → path ≡ get_or paths i path → points.items ≡ vertex_points path.items → new ≡ lists ++ points ∷ [] →
    paths_of lists ≡ map vertex_points (paths_of (take i paths)) → paths_of new ≡ map vertex_points (paths_of (take (i + 1) paths))
path_more lists new paths i points path low here made pushed so_far =
    let through : List (Vec Vertex Global) → List (List Point) = λ ps. map vertex_points (paths_of ps) in
    ap paths_of pushed ∙ map-append (λ (p : Vec Point Global). p.items) lists (points ∷ [])
    ∙ ap (λ (ls : List (List Point)). ls ++ points.items ∷ []) so_far
    ∙ ap (λ (l : List Point). through (take i paths) ++ l ∷ []) (made ∙ ap (λ (p : Vec Vertex Global). vertex_points p.items) here)
    ∙ sym (joined (take i paths) (get_or paths i path)) ∙ ap through (sym (take_more paths i path low))
  where
    joined : (ps : List (Vec Vertex Global)) (p : Vec Vertex Global) →
        map vertex_points (paths_of (ps ++ p ∷ [])) ≡ map vertex_points (paths_of ps) ++ vertex_points p.items ∷ []
    joined ps p =
        ap (map vertex_points) (map-append (λ (q : Vec Vertex Global). q.items) ps (p ∷ [])) ∙ map-append vertex_points (paths_of ps) (p.items ∷ [])
