-- Lemmas over points and lists: the edges of closed contours are added, and may be resolved.
use Rattle.std.proofs.Common.{◌≡◌, ℕ, ◌+◌, ◌<◌, ◌≤◌, List, [], ◌∷◌, ◌++◌, length, drop, get_or, sym, ap, ◌∙◌, append_assoc}
use Rattle.std.specs.List.{All}
use Rattle.std.proofs.lemmas.List.{append-nil, drop_all, drop_more}
use Rattle.std.proofs.lemmas.List.Elements.{All-append, All-filter}
use Rattle.mesh_plane.specs.Bounds.{IsSafe}
use Rattle.mesh_plane.specs.Plane.{Point, Edge}
use Rattle.mesh_plane.specs.Winding.{route, boundary, IsBalanced}
use Rattle.mesh_plane.proofs.Balance.{balanced_append, boundary_balanced}
use Rattle.mesh_plane.proofs.ClosedLists.{boundary_all}
use Rattle.mesh_num.specs.Segments.{SignedEdge, IsSubject, edges_of, proper_edges, segment_between, segments_of}
use Rattle.mesh_num.proofs.SegmentLists.{edges_of_segments, segments_of-append}
use Rattle.mesh_num.proofs.Subjects.{segments_of_subjects}
use Rattle.mesh_below.specs.Reach.{AreEdgesSafe}
use Rattle.mesh_offset.proofs.Resolving.{proper_balanced}

-- an edge goes over from what is left of a contour to what is added
pub closed_step : (first start end : Point) (others : List Point) (i : ℕ) (mid new all : List SignedEdge) → i < length others →
    end ≡ get_or others i end → new ≡ mid ++ segment_between start end →
    mid ++ segments_of (route start (drop i others) first) ≡ all →
    new ++ segments_of (route end (drop (i + 1) others) first) ≡ all
closed_step first start end others i mid new all below is added before =
    let left = segments_of (route end (drop (i + 1) others) first) in
    let more : drop i others ≡ end ∷ drop (i + 1) others =
    drop_more others i end below ∙ ap (λ (p : Point). p ∷ drop (i + 1) others) (sym is) in
    ap (λ ss. ss ++ left) added ∙ append_assoc mid (segment_between start end) left
    ∙ ap (λ ps. mid ++ segments_of (route start ps first)) (sym more) ∙ before

-- the last edge closes the contour
pub closed_end : (contour : List Point) (first start : Point) (others : List Point) (i : ℕ) (old mid new : List SignedEdge) →
    contour ≡ first ∷ others → length others ≤ i →
    mid ++ segments_of (route start (drop i others) first) ≡ old ++ segments_of (route first others first) →
    new ≡ mid ++ segment_between start first → new ≡ old ++ segments_of (boundary contour)
closed_end contour first start others i old mid new is past before added =
    added ∙ ap (λ ss. mid ++ ss) (sym (append-nil (segment_between start first)))
    ∙ ap (λ ps. mid ++ segments_of (route start ps first)) (sym (drop_all i others past))
    ∙ before ∙ ap (λ ps. old ++ segments_of (boundary ps)) (sym is)

-- the segments of two contours, one after the other
pub both_added : (first second : List Point) (none mid ss : List SignedEdge) → none ≡ [] → mid ≡ none ++ segments_of (boundary first) →
    ss ≡ mid ++ segments_of (boundary second) → ss ≡ segments_of (boundary first ++ boundary second)
both_added first second none mid ss e f g =
    g ∙ ap (λ l. l ++ segments_of (boundary second)) (f ∙ ap (λ l. l ++ segments_of (boundary first)) e)
    ∙ sym (segments_of-append (boundary first) (boundary second))

module _ (first second : List Point) (ss : List SignedEdge) (added : ss ≡ segments_of (boundary first ++ boundary second)) where
  pub both_edges : edges_of ss ≡ proper_edges (boundary first ++ boundary second)
  both_edges = ap edges_of added ∙ edges_of_segments (boundary first ++ boundary second)

  pub both_subjects : All IsSubject ss
  both_subjects = rw added (segments_of_subjects (boundary first ++ boundary second))

  pub both_balanced : IsBalanced (edges_of ss)
  both_balanced =
      rw both_edges (proper_balanced (boundary first ++ boundary second)
      (balanced_append (boundary first) (boundary second) (boundary_balanced first) (boundary_balanced second)))

  pub both_safe : (unit : ℕ) → All (IsSafe unit) first → All (IsSafe unit) second → AreEdgesSafe unit (edges_of ss)
  both_safe unit h k =
      let P : Edge → Type 0 = λ e. IsSafe unit e.0 × IsSafe unit e.1 in
      rw both_edges (All-filter _ P (boundary first ++ boundary second)
      (All-append P (boundary first) (boundary second) (boundary_all (IsSafe unit) first h) (boundary_all (IsSafe unit) second k)))
