-- Lemmas over points and lists: segments stand for their edges.
use Rattle.std.proofs.Common.{◌≡◌, Bool, true, false, cond, not, List, [], ◌∷◌, ◌++◌, refl, sym, ◌∙◌, ap, append_assoc}
use Rattle.std.specs.Prelude.{pos, negsuc}
use Rattle.std.proofs.lemmas.List.{map-append}
use Rattle.mesh_plane.specs.Plane.{Point, Edge}
use Rattle.mesh_plane.specs.Winding.{same_point}
use Rattle.mesh_plane.specs.Order.{point_lt}
use Rattle.mesh_num.specs.Segments.{SignedEdge, edge_of, edges_of, subject_of, edge_between, segment_between, proper_edges, segments_of}

pub edge_of_subject : (p r : Point) → edge_of (subject_of p r) ≡ (p, r)
edge_of_subject p r = step (point_lt p r)
  where
    step : (b : Bool) → edge_of (cond b ((p, r), pos 1) ((r, p), negsuc 0)) ≡ (p, r)
    step true = refl
    step false = refl

pub edges_of_between : (p r : Point) → edges_of (segment_between p r) ≡ edge_between p r
edges_of_between p r = step (same_point p r)
  where
    step : (b : Bool) → edges_of (cond b [] (subject_of p r ∷ [])) ≡ cond b [] ((p, r) ∷ [])
    step true = refl
    step false = ap (λ e. e ∷ []) (edge_of_subject p r)

-- the edges of the segments of some edges are those whose ends differ
pub edges_of_segments : (es : List Edge) → edges_of (segments_of es) ≡ proper_edges es
edges_of_segments [] = refl
edges_of_segments (e ∷ es) =
    map-append edge_of (segment_between e.0 e.1) (segments_of es)
    ∙ ap (λ l. l ++ edges_of (segments_of es)) (edges_of_between e.0 e.1)
    ∙ ap (λ l. edge_between e.0 e.1 ++ l) (edges_of_segments es)
    ∙ step (same_point e.0 e.1)
  where
    step : (b : Bool) → cond b [] (e ∷ []) ++ proper_edges es ≡ cond (not b) (e ∷ proper_edges es) (proper_edges es)
    step true = refl
    step false = refl

pub segments_of-append : (es fs : List Edge) → segments_of (es ++ fs) ≡ segments_of es ++ segments_of fs
segments_of-append [] fs = refl
segments_of-append (e ∷ es) fs = ap (λ l. segment_between e.0 e.1 ++ l) (segments_of-append es fs) ∙ sym (append_assoc (segment_between e.0 e.1) (segments_of es) (segments_of fs))

pub edges_of-append : (ss ts : List SignedEdge) → edges_of (ss ++ ts) ≡ edges_of ss ++ edges_of ts
edges_of-append ss ts = map-append edge_of ss ts
