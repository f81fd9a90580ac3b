-- Lemmas over points and lists: the edges of contours are added one after another.
use Rattle.std.proofs.Common.{◌≡◌, ℕ, ◌+◌, ◌<◌, ◌≤◌, List, [], ◌∷◌, ◌++◌, length, take, drop, get_or, take_all, refl, sym, ap, ◌∙◌}
use Rattle.std.specs.List.{flat_map}
use Rattle.std.proofs.lemmas.Grind.{flat_map-append}
use Rattle.std.proofs.lemmas.List.{take_more, append-nil, drop_all}
use Rattle.std.proofs.lemmas.Slice.Zip.{all_zipped_more}
use Rattle.mesh_plane.specs.Plane.{Point, Edge}
use Rattle.mesh_plane.specs.Winding.{route, boundary}
use Rattle.mesh_num.specs.Segments.{SignedEdge, segments_of, segment_between}
use Rattle.mesh_lattice.specs.declared.fill.FillRule.{FillRule}
use Rattle.mesh_lattice.specs.declared.fill.FillRule.TheVariants.{Positive, Negative}
use Rattle.mesh_join.specs.Styles.{OutlineStyle}
use Rattle.mesh_outline.specs.Private.Given.{AddsGiven, AreGiven}
use Rattle.mesh_outline.specs.Resolved.{Gives, Give}
use Rattle.mesh_offset.proofs.Adding.{adds_more, added_more}

-- ---- what contours give

-- no contour gives an edge
pub give_none : (unit : ℕ) (style : OutlineStyle) → Give unit style [] []
give_none unit style = record { edges = []; each = tt; joined = refl }

-- what one contour more gives
pub give_next : (unit : ℕ) (style : OutlineStyle) (contours : List (List Point)) (contour : List Point) (given edges : List Edge) → Give unit style contours given → Gives unit style contour edges →
    Give unit style (contours ++ contour ∷ []) (given ++ edges)
give_next unit style contours contour given edges h k = record {
  edges = h.edges ++ edges ∷ [];
  each = all_zipped_more (Gives unit style) contours h.edges contour edges h.each k;
  joined =
      ap (λ (es : List Edge). es ++ edges) h.joined ∙ ap (λ (es : List Edge). all h.edges ++ es) (sym (append-nil edges))
      ∙ sym (flat_map-append (λ (es : List Edge). es) h.edges (edges ∷ []));
}
  where
    all : List (List Edge) → List Edge
    all edges = flat_map (λ (es : List Edge). es) edges

-- one contour more
pub give_more : (unit : ℕ) (style : OutlineStyle) (paths : List (List Point)) (i : ℕ) (mid new : List SignedEdge) → i < length paths →
    AreGiven unit style (take i paths) mid → AddsGiven unit style (get_or paths i []) mid new → AreGiven unit style (take (i + 1) paths) new
give_more unit style paths i mid new l h k = (
  h.0 ++ k.0,
  rw (take_more paths i [] l) (give_next unit style (take i paths) (get_or paths i []) h.0 k.0 h.1 k.1),
  adds_more unit [] mid new h.0 k.0 h.2 k.2,
)

-- all contours
pub give_all : (unit : ℕ) (style : OutlineStyle) (paths : List (List Point)) (i : ℕ) (ss : List SignedEdge) → length paths ≤ i →
    AreGiven unit style (take i paths) ss → AreGiven unit style paths ss
give_all unit style paths i ss past h = rw (take_all i paths past) at h
