-- Lemmas over points and lists: what the builder's walk round the sections adds.
use Rattle.std.proofs.Common.{◌≡◌, ◌≢◌, ℕ, List, [], ◌∷◌, ◌++◌, map, refl, sym, ◌∙◌, ap, append_assoc, append-nil}
use Rattle.std.specs.List.{All}
use Rattle.std.specs.List.Sorted.{IsPermutation}
use Rattle.std.proofs.lemmas.List.Elements.{All-append, All-nil, All-head, All-tail}
use Rattle.std.proofs.lemmas.List.Sorted.{IsPermutation-append_comm, IsPermutation-refl}
use Rattle.mesh_plane.specs.Plane.{Point, Edge}
use Rattle.mesh_plane.specs.Winding.{route}
use Rattle.mesh_num.specs.Segments.{SignedEdge, edges_of, IsSubject}
use Rattle.mesh_plane.proofs.ClosedLists.{woven}
use Rattle.mesh_num.proofs.Subjects.{segments_of_subjects, segment_between_subject}
use Rattle.mesh_join.specs.Cleaned.{cleaned_sections, IsCleanContour}
use Rattle.mesh_join.proofs.CleaningEnds.{cleaned_sections-ends}
use Rattle.mesh_num.proofs.SegmentLists.{edges_of_segments, edges_of-append}
use Rattle.mesh_outline.specs.Outline.{Section, SectionPair, top_edge, section_of, corner_edges}
use Rattle.mesh_outline.specs.Outline.{parts, joined, closed_outline, drawn_edges}
use Rattle.mesh_outline.specs.Building.{IsMovable}
use Rattle.mesh_outline.specs.Private.Sections.{IsMoved, IsCorner, corner_segments, top_segments}
use Rattle.mesh_offset.specs.Built.{Adds}
use Rattle.mesh_join.specs.Styles.{OffsetJoin}
use Rattle.mesh_outline.proofs.Padding.{movable_within}
use Rattle.mesh_outline.proofs.OutlineWalk.{drawn_top, drawn_corner, drawn_by_walk}

-- what one step of the walk adds: the corner before a section, then its moved edge
abbrev pub step_segments : ℕ → OffsetJoin → Section → Section → List SignedEdge
step_segments unit style p n = corner_segments unit style (p, n) ++ top_segments n

-- what is still to be added where the walk stands at `p` and goes on through the edges back to `first`
abbrev pub to_come : ℕ → OffsetJoin → Section → List Edge → Section → List SignedEdge
to_come unit style p es first = woven (step_segments unit style) (corner_segments unit style) p (map (section_of unit style.offset) es) first

-- all that the walk adds
abbrev pub walk_segments : ℕ → OffsetJoin → List Edge → List SignedEdge
walk_segments unit style [] = []
walk_segments unit style (e ∷ es) = top_segments (section_of unit style.offset e) ++ to_come unit style (section_of unit style.offset e) es (section_of unit style.offset e)

-- neighbouring sections meet, from `p` on through the edges back to `first`
abbrev pub Continues : ℕ → OffsetJoin → Section → List Edge → Section → Type 0
Continues unit style p [] first = IsCorner unit style (p, first)
Continues unit style p (e ∷ es) first = IsCorner unit style (p, section_of unit style.offset e) × Continues unit style (section_of unit style.offset e) es first

top_edges : (s : Section) → edges_of (top_segments s) ≡ drawn_top s
top_edges s = ap edges_of (sym (append-nil (top_segments s))) ∙ edges_of_segments (top_edge s ∷ [])

corner_edges_of : (unit : ℕ) (style : OffsetJoin) (c : SectionPair) → edges_of (corner_segments unit style c) ≡ drawn_corner (parts style.offset) (joined unit style) c
corner_edges_of unit style c = edges_of_segments (corner_edges (parts style.offset) (joined unit style) c)

-- the edges that a step adds
abbrev step_edges : ℕ → OffsetJoin → Section → Section → List Edge
step_edges unit style p n = drawn_corner (parts style.offset) (joined unit style) (p, n) ++ drawn_top n

woven_edges : (unit : ℕ) (style : OffsetJoin) (p : Section) (xs : List Section) (z : Section) →
    edges_of (woven (step_segments unit style) (corner_segments unit style) p xs z) ≡ woven (step_edges unit style) (drawn_corner (parts style.offset) (joined unit style)) p xs z
woven_edges unit style p [] z = corner_edges_of unit style (p, z)
woven_edges unit style p (x ∷ xs) z =
    edges_of-append (step_segments unit style p x) (woven (step_segments unit style) (corner_segments unit style) x xs z)
    ∙ (ap (λ l. l ++ edges_of (woven (step_segments unit style) (corner_segments unit style) x xs z)) (edges_of-append (corner_segments unit style (p, x)) (top_segments x))
    ∙ rw (corner_edges_of unit style (p, x), top_edges x, woven_edges unit style x xs z) refl)

-- the edges of the walk are those of the outline, in another order
pub walk_permutes : (unit : ℕ) (style : OffsetJoin) (e : Edge) (es : List Edge) →
    IsPermutation (edges_of (walk_segments unit style (e ∷ es))) (closed_outline unit style (e ∷ es))
walk_permutes unit style e es =
    let s = section_of unit style.offset e in
    let rest = map (section_of unit style.offset) es in
    rw (edges_of-append (top_segments s) (to_come unit style s es s), top_edges s, woven_edges unit style s rest s)
    (drawn_by_walk (parts style.offset) (joined unit style) (step_edges unit style) (λ p n. IsPermutation-append_comm (drawn_corner (parts style.offset) (joined unit style) (p, n)) (drawn_top n)) s rest)

-- an edge with different ends, both of which stay safe where they are moved
pub record IsFit (unit : ℕ) (style : OffsetJoin) (e : Edge) : Type 0 where
  pub differ : e.0 ≢ e.1
  pub safe_a : IsMovable unit style e.0
  pub safe_b : IsMovable unit style e.1

moved : (unit : ℕ) (style : OffsetJoin) (e : Edge) → IsFit unit style e → IsMoved unit style.offset (section_of unit style.offset e)
moved unit style e h = record { made = refl; differ = h.differ; safe_a = movable_within unit style e.0 h.safe_a; safe_b = movable_within unit style e.1 h.safe_b }

-- a closed list of fit edges can be walked round
pub continues : (unit : ℕ) (style : OffsetJoin) (p : Edge) (es : List Edge) (z : Edge) →
    IsFit unit style p → IsFit unit style z → All (IsFit unit style) es → All (λ (c : Edge × Edge). c.0.1 ≡ c.1.0) (route p es z) →
    Continues unit style (section_of unit style.offset p) es (section_of unit style.offset z)
continues unit style p [] z fp fz fits closed = record {
  previous = moved unit style p fp;
  next = moved unit style z fz;
  met = All-head (λ (c : Edge × Edge). c.0.1 ≡ c.1.0) (p, z) [] closed;
  movable = fp.safe_b;
}
continues unit style p (e ∷ es) z fp fz fits closed =
    let fe = All-head (IsFit unit style) e es fits in (
      record {
        previous = moved unit style p fp;
        next = moved unit style e fe;
        met = All-head (λ (c : Edge × Edge). c.0.1 ≡ c.1.0) (p, e) (route e es z) closed;
        movable = fp.safe_b;
      },
      continues unit style e es z fe fz (All-tail (IsFit unit style) e es fits) (All-tail (λ (c : Edge × Edge). c.0.1 ≡ c.1.0) (p, e) (route e es z) closed),
    )

-- each segment of the walk is as `Segment::subject` gives it
woven_subjects : (unit : ℕ) (style : OffsetJoin) (p : Section) (xs : List Section) (z : Section) → All IsSubject (woven (step_segments unit style) (corner_segments unit style) p xs z)
woven_subjects unit style p [] z = segments_of_subjects (corner_edges (parts style.offset) (joined unit style) (p, z))
woven_subjects unit style p (x ∷ xs) z =
    All-append IsSubject (step_segments unit style p x) (woven (step_segments unit style) (corner_segments unit style) x xs z)
    (All-append IsSubject (corner_segments unit style (p, x)) (top_segments x) (segments_of_subjects (corner_edges (parts style.offset) (joined unit style) (p, x))) (segment_between_subject x.a_top x.b_top))
    (woven_subjects unit style x xs z)

walk_subjects : (unit : ℕ) (style : OffsetJoin) (e : Edge) (es : List Edge) → All IsSubject (walk_segments unit style (e ∷ es))
walk_subjects unit style e es =
    let s = section_of unit style.offset e in
    All-append IsSubject (top_segments s) (to_come unit style s es s) (segment_between_subject s.a_top s.b_top) (woven_subjects unit style s (map (section_of unit style.offset) es) s)

-- the whole walk adds the outline
pub walk_adds : (unit : ℕ) (style : OffsetJoin) (contour : List Edge) (e : Edge) (es : List Edge) (old new : List SignedEdge) →
    contour ≡ e ∷ es → new ≡ old ++ walk_segments unit style contour → Adds old new (closed_outline unit style contour)
walk_adds unit style contour e es old new c h =
    rw c
    (walk_segments unit style (e ∷ es), rw c at h, walk_permutes unit style e es, walk_subjects unit style e es)

-- no section adds nothing
pub none_adds : (unit : ℕ) (style : OffsetJoin) (contour : List Edge) (old : List SignedEdge) → contour ≡ [] → Adds old old (closed_outline unit style contour)
unfolding drawn_edges
none_adds unit style contour old c = rw c ([], sym (append-nil old), IsPermutation-refl [], All-nil IsSubject)

fit_edges : (unit : ℕ) (style : OffsetJoin) (es : List Edge) → All (λ (e : Edge). e.0 ≢ e.1) es → All (λ (e : Edge). IsMovable unit style e.0 × IsMovable unit style e.1) es → All (IsFit unit style) es
fit_edges unit style es proper ends = λ k d h. record { differ = proper k d h; safe_a = (ends k d h).0; safe_b = (ends k d h).1 }

-- the edges of a contour whose points can be moved are fit
walk_fits : (unit : ℕ) (style : OffsetJoin) (points : List Point) (e : Edge) (es : List Edge) →
    All (IsMovable unit style) points → cleaned_sections points ≡ e ∷ es → IsCleanContour (cleaned_sections points) → All (IsFit unit style) (e ∷ es)
walk_fits unit style points e es movable c clean =
    let proper = rw c at clean.proper in
    let ends = rw c at (cleaned_sections-ends (IsMovable unit style) points movable) in
    fit_edges unit style (e ∷ es) proper ends

pub first_fits : (unit : ℕ) (style : OffsetJoin) (points : List Point) (e : Edge) (es : List Edge) →
    All (IsMovable unit style) points → cleaned_sections points ≡ e ∷ es → IsCleanContour (cleaned_sections points) → IsFit unit style e
first_fits unit style points e es movable c clean = All-head (IsFit unit style) e es (walk_fits unit style points e es movable c clean)

-- the sections of a contour whose points can be moved can be walked round
pub walk_continues : (unit : ℕ) (style : OffsetJoin) (points : List Point) (e : Edge) (es : List Edge) (first : Section) → first ≡ section_of unit style.offset e →
    All (IsMovable unit style) points → cleaned_sections points ≡ e ∷ es → IsCleanContour (cleaned_sections points) →
    Continues unit style first es first
walk_continues unit style points e es first made movable c clean =
    let closed = rw c at clean.closed in
    let fits = walk_fits unit style points e es movable c clean in
    let fe = All-head (IsFit unit style) e es fits in
    rw made (continues unit style e es e fe fe (All-tail (IsFit unit style) e es fits) closed)

-- after the first moved edge
pub walk_starts : (unit : ℕ) (style : OffsetJoin) (contour : List Edge) (e : Edge) (es : List Edge) (first : Section) (old new : List SignedEdge) →
    contour ≡ e ∷ es → first ≡ section_of unit style.offset e → new ≡ old ++ top_segments first →
    new ++ to_come unit style first es first ≡ old ++ walk_segments unit style contour
walk_starts unit style contour e es first old new c made h =
    rw (c, h, made) (append_assoc old (top_segments (section_of unit style.offset e)) (to_come unit style (section_of unit style.offset e) es (section_of unit style.offset e)))

-- after the last corner
pub walk_ends : (unit : ℕ) (style : OffsetJoin) (contour : List Edge) (e : Edge) (es left : List Edge) (p first : Section) (old now new : List SignedEdge) →
    contour ≡ e ∷ es → left ≡ [] → now ++ to_come unit style p left first ≡ old ++ walk_segments unit style contour →
    new ≡ now ++ corner_segments unit style (p, first) → Adds old new (closed_outline unit style contour)
walk_ends unit style contour e es left p first old now new c none todo h =
    walk_adds unit style contour e es old new c (h ∙ rw none at todo)
