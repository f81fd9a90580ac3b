-- Lemmas over points and lists: paths, and the edges that are drawn of them.
use Rattle.std.proofs.Common.{◌≡◌, ℕ, ◌<◌, ◌+◌, List, [], ◌∷◌, ◌++◌, get_or, take, length, Option, Some, None, sym, ap, ◌∙◌}
use Rattle.std.specs.Prelude.{Result, Ok, Err, IfOk}
use Rattle.std.specs.List.{AllZip}
use Rattle.std.specs.declared.vec.Vec.{Vec}
use Rattle.std.specs.declared.alloc.Global.{Global}
use Rattle.std.proofs.lemmas.List.{get_or-map, length-map, map-append, take_more}
use Rattle.std.proofs.lemmas.Slice.Zip.{all_zipped_more}
use Rattle.mesh_num.specs.Paths.{paths_of}
use Rattle.mesh_plane.specs.Plane.{Point}
use Rattle.mesh_outline.specs.Kinds.{contour_kind, way_for}
use Rattle.mesh_outline.specs.declared.kind.ContourKind.{ContourKind}
use Rattle.mesh_outline.specs.Outline.{outline_edges}
use Rattle.mesh_join.specs.Styles.{OffsetJoin, OutlineStyle}
use Rattle.mesh_drawing.specs.Drawings.{served_edges, moved_edges}

-- ---- the paths that vectors hold, one after another

pub path_count : {X : Type 0} (paths : List (Vec X Global)) → length (paths_of paths) ≡ length paths
path_count {X} paths = length-map paths (λ (p : Vec X Global). p.items)

pub path_here : {X : Type 0} (paths : List (Vec X Global)) (i : ℕ) (path : Vec X Global) → i < length paths → path ≡ get_or paths i path →
    get_or (paths_of paths) i [] ≡ path.items
path_here {X} paths i path h e = get_or-map (λ (p : Vec X Global). p.items) paths i path [] h ∙ ap (λ (p : Vec X Global). p.items) (sym e)

pub one_listed : {X Y : Type 0} (R : List X → List Y → Type 0) (paths : List (Vec X Global)) (i : ℕ) (path : Vec X Global) (lists new : List (Vec Y Global)) (list : Vec Y Global) →
    i < length paths → path ≡ get_or paths i path → new ≡ lists ++ list ∷ [] → AllZip R (take i (paths_of paths)) (paths_of lists) → R path.items list.items →
    AllZip R (take (i + 1) (paths_of paths)) (paths_of new)
one_listed {X} {Y} R paths i path lists new list h e f before here =
    let l : i < length (paths_of paths) = rw (path_count paths) h in
    let t : take (i + 1) (paths_of paths) ≡ take i (paths_of paths) ++ path.items ∷ [] =
    take_more (paths_of paths) i [] l ∙ ap (λ (p : List X). take i (paths_of paths) ++ p ∷ []) (path_here paths i path h e) in
    let n : paths_of new ≡ paths_of lists ++ list.items ∷ [] = ap (λ (ls : List (Vec Y Global)). paths_of ls) f ∙ map-append (λ (v : Vec Y Global). v.items) lists (list ∷ []) in
    rw (t, n) (all_zipped_more R (take i (paths_of paths)) (paths_of lists) path.items list.items before here)

-- what two clauses say of an answer
pub answer_meets : {A E : Type 0} (r : Result A E) (P Q R : A → Type 0) → ((x : A) → P x → Q x → R x) → IfOk r P → IfOk r Q → IfOk r R
answer_meets (Ok x) P Q R both p q = both x p q
answer_meets (Err e) P Q R both p q = tt

-- ---- the edges by the kind

-- of a path that moves they are its outline
pub served_moved : (unit : ℕ) (style : OutlineStyle) (kind : ContourKind) (way : OffsetJoin) (points : List Point) → kind ≡ contour_kind points → way_for style kind ≡ Some way →
    outline_edges unit way points ≡ served_edges unit style points
served_moved unit style kind way points e moves =
    sym (ap (λ (o : Option OffsetJoin). moved_edges unit o points) (sym (ap (way_for style) e) ∙ moves))

-- of one that does not move there are none
pub served_none : (unit : ℕ) (style : OutlineStyle) (kind : ContourKind) (points : List Point) → kind ≡ contour_kind points → way_for style kind ≡ None →
    [] ≡ served_edges unit style points
served_none unit style kind points e stays =
    sym (ap (λ (o : Option OffsetJoin). moved_edges unit o points) (sym (ap (way_for style) e) ∙ stays))
