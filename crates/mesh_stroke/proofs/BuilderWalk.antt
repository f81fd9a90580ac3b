-- Lemmas over points and lists: what the builder's walk along the edges of a path adds.
use Rattle.std.proofs.Common.{◌≡◌, ◌≢◌, ℕ, List, [], ◌∷◌, ◌++◌, refl, sym, subst, ◌∙◌, ap, append_assoc, append-nil, arith}
use Rattle.std.specs.Prelude.{Bool, true, false, not, pos, ◌≤ℤ◌, unsigned_abs, IsTrue}
use Rattle.std.proofs.lemmas.Int.{ints}
use Rattle.std.specs.List.{All, flat_map}
use Rattle.std.specs.List.Sorted.{IsPermutation}
use Rattle.std.proofs.lemmas.Grind.{flat_map-append}
use Rattle.std.proofs.lemmas.List.Elements.{All-nil, All-head, All-tail, All-filter}
use Rattle.std.proofs.lemmas.List.Sorted.{IsPermutation-refl, IsPermutation-append_right, IsPermutation-append_comm}
use Rattle.mesh_plane.specs.Plane.{Point, Edge}
use Rattle.mesh_plane.specs.Winding.{route, same_point}
use Rattle.mesh_plane.proofs.ClosedLists.{woven}
use Rattle.mesh_plane.specs.Turning.{last_of}
use Rattle.mesh_num.specs.Segments.{SignedEdge, segments_of, edges_of, proper_edges, IsSubject}
use Rattle.mesh_num.proofs.Subjects.{segments_of_subjects}
use Rattle.mesh_num.proofs.SegmentLists.{edges_of_segments, segments_of-append}
use Rattle.mesh_num.specs.Rectangle.{IsSafeWidened}
use Rattle.mesh_join.specs.Joins.{join_padding}
use Rattle.mesh_join.proofs.Joins.{padding_covers}
use Rattle.mesh_stroke.specs.Caps.{drawn_cap, cap_padding}
use Rattle.mesh_offset.proofs.Padding.{safe_within_less}
use Rattle.mesh_offset.proofs.ProperEdges.{proper_append, proper_flat_map}
use Rattle.mesh_offset.specs.Built.{Adds}
use Rattle.mesh_stroke.specs.Building.{IsStrokable}
use Rattle.mesh_offset.specs.Walks.{pairs}
use Rattle.mesh_offset.proofs.Walks.{woven_through}
use Rattle.mesh_stroke.specs.Paths.{neighbours, path_edges}
use Rattle.mesh_stroke.specs.Styles.{StrokeStyle, stroke_padding}
use Rattle.mesh_stroke.specs.Strokes.{EdgePair, side_edges, corner_edges, path_ends, drawn_edges}
use Rattle.mesh_stroke.specs.Private.Sections.{Section, section_of, own_edge, IsMade, IsCorner, AreEnds}
use Rattle.mesh_stroke.proofs.Chains.{neighbours_all, path_chain, Joined}
use Rattle.mesh_stroke.proofs.Reach.{join_covered, start_covered, end_covered, radius_covered, cap_padding_least}

route_split : {A : Type 0} (x : A) (xs : List A) (z : A) → route x xs z ≡ pairs (x ∷ xs) ++ (last_of x xs, z) ∷ []
route_split x [] z = refl
route_split x (y ∷ ys) z = ap (λ (l : List _). (x, y) ∷ l) (route_split y ys z)

without_woven : {A : Type 0} (step : A → A → List Edge) (final : A × A → List Edge) (p : A) (xs : List A) (z : A) →
    proper_edges (woven step final p xs z) ≡ woven (λ q n. proper_edges (step q n)) (λ c. proper_edges (final c)) p xs z
without_woven step final p [] z = refl
without_woven step final p (x ∷ xs) z =
    proper_append (step p x) (woven step final x xs z) ∙ ap (λ l. proper_edges (step p x) ++ l) (without_woven step final x xs z)

module _ (unit : ℕ) (style : StrokeStyle) (closed : Bool) where
  abbrev sides : Edge → List Edge
  sides = side_edges unit style.radius style.side

  abbrev at : EdgePair → List Edge
  at = corner_edges unit style.radius style.side style.join

  -- what one step of the walk adds: the corner before an edge, then its sides
  abbrev pub step_edges : Edge → Edge → List Edge
  step_edges p n = corner_edges unit style.radius style.side style.join (p, n) ++ side_edges unit style.radius style.side n

  abbrev pub ends_by : Bool → EdgePair → List Edge
  ends_by true c = corner_edges unit style.radius style.side style.join c
  ends_by false c = path_ends unit style.radius style.side style.start style.end false c.1 c.0

  -- what the walk adds at its end, with its last edge and its first: the last corner, or both caps
  abbrev pub end_edges : EdgePair → List Edge
  end_edges = ends_by closed

  -- what is still to be added where the walk stands at `p` and goes on through the edges
  abbrev pub to_come : Edge → List Edge → Edge → List Edge
  to_come p es first = woven step_edges end_edges p es first

  -- all that the walk adds
  abbrev pub walk_edges : List Edge → List Edge
  walk_edges [] = []
  walk_edges (e ∷ es) = side_edges unit style.radius style.side e ++ to_come e es e

  -- the caps or the last corner end the list of the corners
  tail_is : (b : Bool) (e : Edge) (es : List Edge) →
      flat_map at (pairs (e ∷ es)) ++ ends_by b (last_of e es, e) ≡ flat_map at (neighbours b (e ∷ es)) ++ path_ends unit style.radius style.side style.start style.end b e (last_of e es)
  tail_is true e es =
      let last : EdgePair = (last_of e es, e) in
      let a : flat_map at (pairs (e ∷ es) ++ last ∷ []) ≡ flat_map at (pairs (e ∷ es)) ++ (at last ++ []) = flat_map-append at (pairs (e ∷ es)) (last ∷ []) in
      sym (append-nil (flat_map at (route e es e)) ∙ (ap (flat_map at) (route_split e es e) ∙ (a ∙ ap (λ l. flat_map at (pairs (e ∷ es)) ++ l) (append-nil (at last)))))
  tail_is false e es = refl

  -- all that the walk adds is what is drawn along the edges, in another order
  pub walk_permutes : (e : Edge) (es : List Edge) → IsPermutation (edges_of (segments_of (walk_edges (e ∷ es)))) (drawn_edges unit style closed (e ∷ es))
  unfolding drawn_edges
  walk_permutes e es =
      let top : Edge → List Edge = λ g. proper_edges (sides g) in
      let corner : EdgePair → List Edge = λ c. proper_edges (at c) in
      let step : Edge → Edge → List Edge = λ q n. proper_edges (step_edges q n) in
      let final : EdgePair → List Edge = λ c. proper_edges (end_edges c) in
      let mixed : (q n : Edge) → IsPermutation (step q n) (top n ++ corner (q, n)) =
      λ q n. rw (proper_append (at (q, n)) (sides n)) (IsPermutation-append_comm (corner (q, n)) (top n)) in
      let rest : IsPermutation (top e ++ woven step final e es e) (top e ++ (flat_map top es ++ (flat_map corner (pairs (e ∷ es)) ++ final (last_of e es, e)))) =
      IsPermutation-append_right (top e) (woven step final e es e) (flat_map top es ++ (flat_map corner (pairs (e ∷ es)) ++ final (last_of e es, e)))
      (woven_through top corner step final mixed e es e) in
      let from : edges_of (segments_of (walk_edges (e ∷ es))) ≡ top e ++ woven step final e es e =
      edges_of_segments (walk_edges (e ∷ es)) ∙ (proper_append (sides e) (to_come e es e) ∙ ap (λ l. top e ++ l) (without_woven step_edges end_edges e es e)) in
      let to : proper_edges (flat_map sides (e ∷ es) ++ (flat_map at (neighbours closed (e ∷ es)) ++ path_ends unit style.radius style.side style.start style.end closed e (last_of e es)))
      ≡ top e ++ (flat_map top es ++ (flat_map corner (pairs (e ∷ es)) ++ final (last_of e es, e))) =
      ap (λ l. proper_edges (flat_map sides (e ∷ es) ++ l)) (sym (tail_is closed e es))
      ∙ (proper_append (flat_map sides (e ∷ es)) (flat_map at (pairs (e ∷ es)) ++ end_edges (last_of e es, e))
      ∙ (ap (λ l. proper_edges (flat_map sides (e ∷ es)) ++ l) (proper_append (flat_map at (pairs (e ∷ es))) (end_edges (last_of e es, e)))
      ∙ (ap (λ l. proper_edges (flat_map sides (e ∷ es)) ++ (l ++ final (last_of e es, e))) (proper_flat_map at (pairs (e ∷ es)))
      ∙ (ap (λ l. l ++ (flat_map corner (pairs (e ∷ es)) ++ final (last_of e es, e))) (proper_flat_map sides (e ∷ es))
      ∙ append_assoc (top e) (flat_map top es) (flat_map corner (pairs (e ∷ es)) ++ final (last_of e es, e)))))) in
      subst (λ l. IsPermutation (edges_of (segments_of (walk_edges (e ∷ es)))) l) (sym to)
      (subst (λ l. IsPermutation l (top e ++ (flat_map top es ++ (flat_map corner (pairs (e ∷ es)) ++ final (last_of e es, e))))) (sym from) rest)

  -- so the whole walk adds it
  pub walk_adds : (all : List Edge) (e : Edge) (es : List Edge) (old new : List SignedEdge) →
      all ≡ e ∷ es → new ≡ old ++ segments_of (walk_edges all) → Adds old new (drawn_edges unit style closed all)
  walk_adds all e es old new c h =
      rw c
      (segments_of (walk_edges (e ∷ es)), rw c at h, walk_permutes e es, segments_of_subjects (walk_edges (e ∷ es)))

  -- no edge adds nothing
  pub none_adds : (all : List Edge) (old : List SignedEdge) → all ≡ [] → Adds old old (drawn_edges unit style closed all)
  unfolding drawn_edges
  none_adds all old c = rw c ([], sym (append-nil old), IsPermutation-refl [], All-nil IsSubject)

  -- after the sides of the first edge
  pub walk_starts : (all : List Edge) (e : Edge) (es : List Edge) (old new : List SignedEdge) → all ≡ e ∷ es → new ≡ old ++ segments_of (sides e) →
      new ++ segments_of (to_come e es e) ≡ old ++ segments_of (walk_edges all)
  walk_starts all e es old new c h =
      rw (c, h)
      (append_assoc old (segments_of (sides e)) (segments_of (to_come e es e)) ∙ ap (λ l. old ++ l) (sym (segments_of-append (sides e) (to_come e es e))))

  -- after a corner and the sides of the next edge
  pub walk_goes_on : (p n : Edge) (left rest : List Edge) (first : Edge) (now new all : List SignedEdge) → left ≡ n ∷ rest →
      new ≡ now ++ segments_of (step_edges p n) → now ++ segments_of (to_come p left first) ≡ all → new ++ segments_of (to_come n rest first) ≡ all
  walk_goes_on p n left rest first now new all l h todo =
      let k : now ++ segments_of (step_edges p n ++ to_come n rest first) ≡ all = rw l at todo in
      let a : segments_of (step_edges p n ++ to_come n rest first) ≡ segments_of (step_edges p n) ++ segments_of (to_come n rest first) =
      segments_of-append (step_edges p n) (to_come n rest first) in
      ap (λ l. l ++ segments_of (to_come n rest first)) h
      ∙ (append_assoc now (segments_of (step_edges p n)) (segments_of (to_come n rest first)) ∙ (ap (λ l. now ++ l) (sym a) ∙ k))

  -- after the caps, or the last corner
  pub walk_ends : (all : List Edge) (e : Edge) (es left : List Edge) (p first : Edge) (old now new : List SignedEdge) →
      all ≡ e ∷ es → left ≡ [] → now ++ segments_of (to_come p left first) ≡ old ++ segments_of (walk_edges all) →
      new ≡ now ++ segments_of (end_edges (p, first)) → Adds old new (drawn_edges unit style closed all)
  walk_ends all e es left p first old now new c none todo h =
      walk_adds all e es old new c (h ∙ rw none at todo)

-- an edge with different ends, both of which stay safe where they move by the padding
pub record IsFit (unit : ℕ) (style : StrokeStyle) (e : Edge) : Type 0 where
  pub differ : e.0 ≢ e.1
  pub safe_a : IsStrokable unit style e.0
  pub safe_b : IsStrokable unit style e.1

-- the edges still to come are fit and follow each other, from `p` on, and back to `first` where the path is closed
abbrev pub Continues : ℕ → StrokeStyle → Bool → Edge → List Edge → Edge → Type 0
Continues unit style closed p [] first = IsTrue closed → p.1 ≡ first.0
Continues unit style closed p (e ∷ es) first = IsFit unit style e × (p.1 ≡ e.0) × Continues unit style closed e es first

continues_round : (unit : ℕ) (style : StrokeStyle) (p : Edge) (es : List Edge) (first : Edge) → All (IsFit unit style) es → All Joined (route p es first) →
    Continues unit style true p es first
continues_round unit style p [] first fits joined = λ yes. All-head Joined (p, first) [] joined
continues_round unit style p (e ∷ es) first fits joined = (
  All-head (IsFit unit style) e es fits,
  All-head Joined (p, e) (route e es first) joined,
  continues_round unit style e es first (All-tail (IsFit unit style) e es fits) (All-tail Joined (p, e) (route e es first) joined),
)

continues_open : (unit : ℕ) (style : StrokeStyle) (p : Edge) (es : List Edge) (first : Edge) → All (IsFit unit style) es → All Joined (pairs (p ∷ es)) →
    Continues unit style false p es first
continues_open unit style p [] first fits joined = λ no. let k : false ≡ true = no in cc
continues_open unit style p (e ∷ es) first fits joined = (
  All-head (IsFit unit style) e es fits,
  All-head Joined (p, e) (pairs (e ∷ es)) joined,
  continues_open unit style e es first (All-tail (IsFit unit style) e es fits) (All-tail Joined (p, e) (pairs (e ∷ es)) joined),
)

path_fits : (unit : ℕ) (style : StrokeStyle) (closed : Bool) (points : List Point) → All (IsStrokable unit style) points → All (IsFit unit style) (path_edges closed points)
path_fits unit style closed points safe =
    let proper = (path_chain closed points).proper in
    let ends : All (λ (e : Edge). IsStrokable unit style e.0 × IsStrokable unit style e.1) (path_edges closed points) =
    All-filter (λ (e : Edge). not (same_point e.0 e.1)) (λ (e : Edge). IsStrokable unit style e.0 × IsStrokable unit style e.1) (neighbours closed points)
    (neighbours_all (IsStrokable unit style) closed points safe) in
    λ k d h. record { differ = proper k d h; safe_a = (ends k d h).0; safe_b = (ends k d h).1 }

-- the walk along a path can begin
pub path_begins : (unit : ℕ) (style : StrokeStyle) (closed : Bool) (points : List Point) (e : Edge) (es : List Edge) → All (IsStrokable unit style) points →
    path_edges closed points ≡ e ∷ es → IsFit unit style e × Continues unit style closed e es e
path_begins unit style closed points e es safe c = by closed (rw c at (path_fits unit style closed points safe)) (rw c at (path_chain closed points).joined)
  where
    by : (b : Bool) → All (IsFit unit style) (e ∷ es) → All Joined (neighbours b (e ∷ es)) → IsFit unit style e × Continues unit style b e es e
    by true fits joined = (All-head (IsFit unit style) e es fits, continues_round unit style e es e (All-tail (IsFit unit style) e es fits) joined)
    by false fits joined = (All-head (IsFit unit style) e es fits, continues_open unit style e es e (All-tail (IsFit unit style) e es fits) joined)

-- ---- sections

-- the section of a fit edge
pub fit_made : (unit : ℕ) (style : StrokeStyle) (s : Section) (e : Edge) → s ≡ section_of unit style.radius e → IsFit unit style e → IsMade unit style.radius s
fit_made unit style s e h fit =
    let own : own_edge s ≡ e = ap own_edge h in
    let less = λ (v : Point) (safe : IsStrokable unit style v). safe_within_less unit (stroke_padding style) (pos (unsigned_abs style.radius)) v (omega (arith, ints)) (radius_covered style) safe in
    record {
      made = h ∙ ap (section_of unit style.radius) (sym own);
      differ = subst (λ (g : Edge). g.0 ≢ g.1) (sym own) fit.differ;
      safe_a = subst (λ (g : Edge). IsSafeWidened unit (pos (unsigned_abs style.radius)) g.0) (sym own) (less e.0 fit.safe_a);
      safe_b = subst (λ (g : Edge). IsSafeWidened unit (pos (unsigned_abs style.radius)) g.1) (sym own) (less e.1 fit.safe_b);
    }

pub fit_radius : (unit : ℕ) (style : StrokeStyle) (v : Point) → IsStrokable unit style v → IsSafeWidened unit (pos (unsigned_abs style.radius)) v
fit_radius unit style v safe = safe_within_less unit (stroke_padding style) (pos (unsigned_abs style.radius)) v (omega (arith, ints)) (radius_covered style) safe

-- two sections of fit edges that meet make a corner
pub fit_corner : (unit : ℕ) (style : StrokeStyle) → pos 0 ≤ℤ style.radius → (p n : Section) (e g : Edge) →
    p ≡ section_of unit style.radius e → n ≡ section_of unit style.radius g → IsFit unit style e → IsFit unit style g → e.1 ≡ g.0 → IsCorner unit style.radius style.join (p, n)
fit_corner unit style sign p n e g hp hn fe fg met = record {
  previous = fit_made unit style p e hp fe;
  next = fit_made unit style n g hn fg;
  met = ap (λ (s : Section). s.b) hp ∙ (met ∙ sym (ap (λ (s : Section). s.a) hn));
  sign = sign;
  movable = subst (λ (s : Section). IsSafeWidened unit (join_padding style.join.kind style.radius) s.b) (sym hp)
      (safe_within_less unit (stroke_padding style) (join_padding style.join.kind style.radius) e.1 (omega (arith, ints, padding_covers style.join style.radius)) (join_covered style) fe.safe_b);
}

-- and the sections of the first and the last edge the ends of a path
pub fit_ends : (unit : ℕ) (style : StrokeStyle) → pos 0 ≤ℤ style.radius → (first last : Section) (e g : Edge) →
    first ≡ section_of unit style.radius e → last ≡ section_of unit style.radius g → IsFit unit style e → IsFit unit style g → AreEnds unit style.radius (drawn_cap style.side style.start) (drawn_cap style.side style.end) first last
fit_ends unit style sign first last e g hf hl fe fg = record {
  first = fit_made unit style first e hf fe;
  last = fit_made unit style last g hl fg;
  sign = sign;
  safe_start = subst (λ (s : Section). IsSafeWidened unit (cap_padding (drawn_cap style.side style.start) style.radius) s.a) (sym hf)
      (safe_within_less unit (stroke_padding style) (cap_padding (drawn_cap style.side style.start) style.radius) e.0 (cap_padding_least (drawn_cap style.side style.start) style.radius) (start_covered style) fe.safe_a);
  safe_end = subst (λ (s : Section). IsSafeWidened unit (cap_padding (drawn_cap style.side style.end) style.radius) s.b) (sym hl)
      (safe_within_less unit (stroke_padding style) (cap_padding (drawn_cap style.side style.end) style.radius) g.1 (cap_padding_least (drawn_cap style.side style.end) style.radius) (end_covered style) fg.safe_b);
}

-- no point, no edge
pub no_points : (closed : Bool) (points : List Point) → points ≡ [] → path_edges closed points ≡ []
no_points true points e = rw e refl
no_points false points e = rw e refl
