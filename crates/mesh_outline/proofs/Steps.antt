-- Lemmas over points and lists: what a corner and a section add to segments, and the room that they need.
use Rattle.std.proofs.Common.{◌≡◌, ℕ, ◌+◌, ◌≤◌, Bool, true, false, cond, List, ◌++◌, length, sym, ap, ◌∙◌, append_assoc, append-nil, length-append, arith}
use Rattle.mesh_num.specs.Segments.{SignedEdge, segments_of, segment_between}
use Rattle.mesh_join.specs.Joins.{join_edges}
use Rattle.mesh_join.specs.Styles.{OffsetJoin}
use Rattle.mesh_outline.specs.Private.Sections.{corner_segments, top_segments}
use Rattle.mesh_outline.specs.Outline.{Section, SectionPair, inner_edges, outer_edges, parts, joined, joint_at}

-- ---- corners

-- an outer corner adds its join
pub outer_added : (unit : ℕ) (style : OffsetJoin) (c : SectionPair) (out : Bool) (old new : List SignedEdge) → out ≡ parts style.offset c → out ≡ true →
    new ≡ old ++ segments_of (join_edges unit style.join (joint_at style.offset c)) → new ≡ old ++ corner_segments unit style c
outer_added unit style c out old new h k e =
    e ∙ ap (λ (b : Bool). old ++ segments_of (cond b (outer_edges (joined unit style) c) (inner_edges c))) (sym k ∙ h)

-- those of an inner corner go to the vertex and from there; `p` and `n` are the sections of the corner
module _ (unit : ℕ) (style : OffsetJoin) (p n : Section) (c : SectionPair) (out : Bool) (e : p ≡ c.0) (f : n ≡ c.1)
    (h : out ≡ parts style.offset c) (k : out ≡ false) where
  inner_segments : segment_between p.b_top p.b ++ segment_between n.a n.a_top ≡ corner_segments unit style c
  inner_segments =
      ap (λ (ss : List SignedEdge). segment_between p.b_top p.b ++ ss) (sym (append-nil (segment_between n.a n.a_top)))
      ∙ ap (λ (d : SectionPair). segments_of (inner_edges d)) (λ i. (e i, f i))
      ∙ ap (λ (b : Bool). segments_of (cond b (outer_edges (joined unit style) c) (inner_edges c))) (sym k ∙ h)

  inner_length : length (corner_segments unit style c) ≡ length (segment_between p.b_top p.b) + length (segment_between n.a n.a_top)
  inner_length = ap (λ (ss : List SignedEdge). length ss) (sym inner_segments) ∙ length-append (segment_between p.b_top p.b) (segment_between n.a n.a_top)

  pub inner_added : (old mid new : List SignedEdge) → mid ≡ old ++ segment_between p.b_top p.b → new ≡ mid ++ segment_between n.a n.a_top →
      new ≡ old ++ corner_segments unit style c
  inner_added old mid new first last =
      last ∙ ap (λ (ss : List SignedEdge). ss ++ segment_between n.a n.a_top) first
      ∙ append_assoc old (segment_between p.b_top p.b) (segment_between n.a n.a_top) ∙ ap (λ (ss : List SignedEdge). old ++ ss) inner_segments

  pub inner_room_first : (held capacity : ℕ) → held + length (corner_segments unit style c) ≤ capacity → held + length (segment_between p.b_top p.b) ≤ capacity
  inner_room_first held capacity room = omega (arith, room, inner_length)

  pub inner_room_last : (old mid : List SignedEdge) (capacity more : ℕ) → mid ≡ old ++ segment_between p.b_top p.b → capacity ≤ more →
      length old + length (corner_segments unit style c) ≤ capacity → length mid + length (segment_between n.a n.a_top) ≤ more
  inner_room_last old mid capacity more first grown room =
      let held = ap (λ (ss : List SignedEdge). length ss) first ∙ length-append old (segment_between p.b_top p.b) in
      omega (arith, room, grown, inner_length, held)

-- ---- sections: after the corner before it the moved edge of `s` is added

pub step_added : (s t : Section) (old mid new corner : List SignedEdge) → s ≡ t → mid ≡ old ++ corner → new ≡ mid ++ top_segments s → new ≡ old ++ (corner ++ top_segments t)
step_added s t old mid new corner e first last =
    last ∙ ap (λ (ss : List SignedEdge). ss ++ top_segments s) first ∙ append_assoc old corner (top_segments s) ∙ ap (λ (x : Section). old ++ (corner ++ top_segments x)) e

pub step_room : (s t : Section) (old mid corner : List SignedEdge) (capacity more : ℕ) → s ≡ t → mid ≡ old ++ corner → capacity ≤ more →
    length old + length (corner ++ top_segments t) ≤ capacity → length mid + length (top_segments s) ≤ more
step_room s t old mid corner capacity more e first grown room =
    let held = ap (λ (ss : List SignedEdge). length ss) first ∙ length-append old corner in
    let all = length-append corner (top_segments t) in
    let own = ap (λ (x : Section). length (top_segments x)) e in
    omega (arith, room, grown, held, all, own)
