-- Lemmas over points and lists: where there is room for the whole outline, there is room for each step of the builder's walk.
use Rattle.std.proofs.Common.{◌≡◌, ℕ, ◌+◌, ◌*◌, ◌≤◌, ◌^◌, List, ◌∷◌, [], ◌++◌, length, length-append, arith, ap}
use Rattle.std.specs.Prelude.{IsTrue}
use Rattle.std.proofs.lemmas.List.{length-map}
use Rattle.std.proofs.lemmas.List.Sorted.{length_permutation}
use Rattle.mesh_plane.specs.Plane.{Point, Edge}
use Rattle.mesh_num.specs.Segments.{SignedEdge, edge_of, edges_of}
use Rattle.mesh_join.specs.Cleaned.{cleaned_sections}
use Rattle.mesh_join.specs.Joins.{has_few}
use Rattle.mesh_join.specs.Styles.{OffsetJoin}
use Rattle.mesh_outline.specs.Outline.{Section, section_of, closed_outline, outline_edges}
use Rattle.mesh_outline.specs.Private.Sections.{corner_segments, top_segments}
use Rattle.mesh_outline.proofs.BuilderWalk.{step_segments, to_come, walk_segments, walk_permutes}
use Rattle.mesh_outline.proofs.BuilderTheorems.{outline_few}

-- the walk adds as many segments as the outline has edges
walk_length : (unit : ℕ) (style : OffsetJoin) (e : Edge) (es : List Edge) →
    length (walk_segments unit style (e ∷ es)) ≡ length (closed_outline unit style (e ∷ es))
walk_length unit style e es =
    omega (
      arith,
      length_permutation (edges_of (walk_segments unit style (e ∷ es))) (closed_outline unit style (e ∷ es)) (walk_permutes unit style e es),
      length-map (walk_segments unit style (e ∷ es)) edge_of,
    )

-- what is added first fits
pub room_first : (unit : ℕ) (style : OffsetJoin) (contour : List Edge) (e : Edge) (es : List Edge) (first : Section) (n cap : ℕ) →
    contour ≡ e ∷ es → first ≡ section_of unit style.offset e → n + length (closed_outline unit style contour) ≤ cap →
    n + length (top_segments first) ≤ cap
room_first unit style contour e es first n cap c made room =
    let s = section_of unit style.offset e in
    let whole = rw c at room in
    rw made (omega (arith, whole, walk_length unit style e es, length-append (top_segments s) (to_come unit style s es s)))

-- so does all that is still to come
room_left : (unit : ℕ) (style : OffsetJoin) (contour : List Edge) (e : Edge) (es : List Edge) (old now more : List SignedEdge) (cap : ℕ) →
    contour ≡ e ∷ es → now ++ more ≡ old ++ walk_segments unit style contour → length old + length (closed_outline unit style contour) ≤ cap →
    length now + length more ≤ cap
room_left unit style contour e es old now more cap c todo room =
    let whole = rw c at room in
    let same : length (now ++ more) ≡ length (old ++ walk_segments unit style (e ∷ es)) = ap length (rw c at todo) in
    omega (arith, whole, same, walk_length unit style e es, length-append now more, length-append old (walk_segments unit style (e ∷ es)))

-- the next step
pub room_step : (unit : ℕ) (style : OffsetJoin) (contour : List Edge) (e : Edge) (es left rest : List Edge) (f : Edge) (p next first : Section) (old now : List SignedEdge) (cap grown : ℕ) →
    contour ≡ e ∷ es → left ≡ f ∷ rest → next ≡ section_of unit style.offset f → now ++ to_come unit style p left first ≡ old ++ walk_segments unit style contour →
    cap ≤ grown → length old + length (closed_outline unit style contour) ≤ cap → length now + length (corner_segments unit style (p, next) ++ top_segments next) ≤ grown
room_step unit style contour e es left rest f p next first old now cap grown c l made todo more room =
    let s = section_of unit style.offset f in
    let fits = room_left unit style contour e es old now (to_come unit style p (f ∷ rest) first) cap c (rw l at todo) room in
    rw made (omega (arith, fits, more, length-append (step_segments unit style p s) (to_come unit style s rest first)))

-- and the last corner
pub room_last : (unit : ℕ) (style : OffsetJoin) (contour : List Edge) (e : Edge) (es left : List Edge) (p first : Section) (old now : List SignedEdge) (cap grown : ℕ) →
    contour ≡ e ∷ es → left ≡ [] → now ++ to_come unit style p left first ≡ old ++ walk_segments unit style contour →
    cap ≤ grown → length old + length (closed_outline unit style contour) ≤ cap → length now + length (corner_segments unit style (p, first)) ≤ grown
room_last unit style contour e es left p first old now cap grown c l todo more room =
    let fits = room_left unit style contour e es old now (corner_segments unit style (p, first)) cap c (rw l at todo) room in
    omega (arith, fits, more)

-- where joins have few edges, four for each section are room enough
pub room_of_four : (unit : ℕ) (style : OffsetJoin) (points : List Point) (n cap : ℕ) → 2 ^ 14 ≤ unit → IsTrue (has_few style.join.kind) →
    n + 4 * length (cleaned_sections points) ≤ cap → n + length (outline_edges unit style points) ≤ cap
room_of_four unit style points n cap least few room = omega (arith, room, outline_few unit style points least few)
