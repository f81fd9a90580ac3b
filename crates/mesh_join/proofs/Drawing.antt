-- Lemmas over lists: vectors that are appended to twice, and edges that are drawn one by one.
use Rattle.std.proofs.Common.{◌≡◌, ℕ, ◌≤◌, List, [], ◌∷◌, ◌++◌, map, length, take, drop, refl, sym, ◌∙◌, ap, arith}
use Rattle.std.proofs.Common.{append_assoc, append-nil}
use Rattle.std.proofs.Math.Seq.{take-append_seam}
use Rattle.std.proofs.lemmas.List.{take-append-drop}
use Rattle.mesh_plane.specs.Plane.{Point, Edge}
use Rattle.mesh_plane.specs.Winding.{route}
use Rattle.mesh_num.specs.Segments.{SignedEdge, segments_of}
use Rattle.mesh_num.proofs.SegmentLists.{segments_of-append}

-- ---- what stands after two steps

pub appends_both : (old now then : List SignedEdge) (es gs : List Edge) → now ≡ old ++ segments_of es
    → then ≡ now ++ segments_of gs → then ≡ old ++ segments_of (es ++ gs)
appends_both old now then es gs h k =
    k ∙ ap (λ (ss : List SignedEdge). ss ++ segments_of gs) h ∙ append_assoc old (segments_of es) (segments_of gs)
    ∙ ap (λ (ss : List SignedEdge). old ++ ss) (sym (segments_of-append es gs))

pub kept_both : (old now then : List SignedEdge) (added : List SignedEdge) → now ≡ old ++ added
    → take (length now) then ≡ now → take (length old) then ≡ old
kept_both old now then added h k =
    let e : then ≡ old ++ (added ++ drop (length now) then) =
    sym (take-append-drop (length now) then)
    ∙ ap (λ (ss : List SignedEdge). ss ++ drop (length now) then) (k ∙ h)
    ∙ append_assoc old added (drop (length now) then) in
    ap (take (length old)) e ∙ take-append_seam old (added ++ drop (length now) then)

-- ---- the edges from `from` to `to`: `past last directions` are the points that these directions give past `last`

-- what is left to draw after some directions: `last` is the last point that was drawn to, `capacity` what the vector
-- has room for
pub record IsDrawn (past : Point → List Point → List Point) (from to : Point) (old : List SignedEdge) (room : ℕ)
    (drawn : List Point) (last : Point) (now : List SignedEdge) (capacity : ℕ) : Type 0 where
  pub goes_on : (rest : List Point)
      → now ++ segments_of (route last (past last rest) to)
      ≡ old ++ segments_of (route from (past from (drawn ++ rest)) to)
  pub added : List SignedEdge
  pub now_is : now ≡ old ++ added
  pub grown : room ≤ capacity

pub drawing_starts : (past : Point → List Point → List Point) (from to : Point) (old : List SignedEdge) (room : ℕ)
    → IsDrawn past from to old room [] from old room
drawing_starts past from to old room =
    record { goes_on = λ rest. refl; added = []; now_is = sym (append-nil old); grown = omega arith }

-- what is drawn through one point more
pub through_one : (now : List SignedEdge) (last p : Point) (es : List Edge)
    → (now ++ segments_of (route last [] p)) ++ segments_of es ≡ now ++ segments_of ((last, p) ∷ es)
through_one now last p es =
    append_assoc now (segments_of (route last [] p)) (segments_of es)
    ∙ ap (λ (ss : List SignedEdge). now ++ ss) (sym (segments_of-append (route last [] p) es))

one_more : (past : Point → List Point → List Point) (from to : Point) (old : List SignedEdge) (drawn : List Point)
    (d : Point) (rest : List Point)
    → old ++ segments_of (route from (past from (drawn ++ (d ∷ rest))) to)
    ≡ old ++ segments_of (route from (past from ((drawn ++ (d ∷ [])) ++ rest)) to)
one_more past from to old drawn d rest =
    ap (λ (ds : List Point). old ++ segments_of (route from (past from ds) to)) (sym (append_assoc drawn (d ∷ []) rest))

-- a direction gives one point more
pub drawing_takes : (past : Point → List Point → List Point) (from to : Point) (old : List SignedEdge) (room : ℕ)
    (drawn : List Point) (last : Point) (now : List SignedEdge) (capacity : ℕ) (d p : Point) (more : List SignedEdge)
    (grown : ℕ)
    → IsDrawn past from to old room drawn last now capacity
    → ((rest : List Point) → past last (d ∷ rest) ≡ p ∷ past p rest)
    → more ≡ now ++ segments_of (route last [] p) → capacity ≤ grown
    → IsDrawn past from to old room (drawn ++ (d ∷ [])) p more grown
drawing_takes past from to old room drawn last now capacity d p more grown h gives m g = record {
  goes_on = λ rest.
      ap (λ (ss : List SignedEdge). ss ++ segments_of (route p (past p rest) to)) m
      ∙ through_one now last p (route p (past p rest) to)
      ∙ ap (λ (points : List Point). now ++ segments_of (route last points to)) (sym (gives rest))
      ∙ h.goes_on (d ∷ rest)
      ∙ one_more past from to old drawn d rest;
  added = h.added ++ segments_of (route last [] p);
  now_is =
      m ∙ ap (λ (ss : List SignedEdge). ss ++ segments_of (route last [] p)) h.now_is
      ∙ append_assoc old h.added (segments_of (route last [] p));
  grown = omega (arith, h.grown, g);
}

-- or it gives none
pub drawing_skips : (past : Point → List Point → List Point) (from to : Point) (old : List SignedEdge) (room : ℕ)
    (drawn : List Point) (last : Point) (now : List SignedEdge) (capacity : ℕ) (d : Point)
    → IsDrawn past from to old room drawn last now capacity
    → ((rest : List Point) → past last (d ∷ rest) ≡ past last rest)
    → IsDrawn past from to old room (drawn ++ (d ∷ [])) last now capacity
drawing_skips past from to old room drawn last now capacity d h gives = record {
  goes_on = λ rest.
      ap (λ (points : List Point). now ++ segments_of (route last points to)) (sym (gives rest))
      ∙ h.goes_on (d ∷ rest)
      ∙ one_more past from to old drawn d rest;
  added = h.added;
  now_is = h.now_is;
  grown = h.grown;
}

-- the last edge
pub drawing_ends : (past : Point → List Point → List Point) (from to : Point) (old : List SignedEdge) (room : ℕ)
    (drawn : List Point) (last : Point) (now : List SignedEdge) (capacity : ℕ)
    → IsDrawn past from to old room drawn last now capacity → past last [] ≡ []
    → now ++ segments_of (route last [] to) ≡ old ++ segments_of (route from (past from drawn) to)
drawing_ends past from to old room drawn last now capacity h none =
    ap (λ (points : List Point). now ++ segments_of (route last points to)) (sym none)
    ∙ h.goes_on []
    ∙ ap (λ (ds : List Point). old ++ segments_of (route from (past from ds) to)) (append-nil drawn)

-- what the vector held first stays, where what it holds now does
pub still_kept : (past : Point → List Point → List Point) (from to : Point) (old : List SignedEdge) (room : ℕ)
    (drawn : List Point) (last : Point) (now : List SignedEdge) (capacity : ℕ) (then : List SignedEdge)
    → IsDrawn past from to old room drawn last now capacity → take (length now) then ≡ now
    → take (length old) then ≡ old
still_kept past from to old room drawn last now capacity then h k = kept_both old now then h.added h.now_is k

-- ---- where each direction gives the point `at` it

abbrev pub each : (Point → Point) → Point → List Point → List Point
each at last directions = map at directions

pub each_takes : (at : Point → Point) (from to : Point) (old : List SignedEdge) (room : ℕ) (drawn : List Point)
    (last : Point) (now : List SignedEdge) (capacity : ℕ) (d p : Point) (more : List SignedEdge) (grown : ℕ)
    → IsDrawn (each at) from to old room drawn last now capacity → p ≡ at d
    → more ≡ now ++ segments_of (route last [] p) → capacity ≤ grown
    → IsDrawn (each at) from to old room (drawn ++ (d ∷ [])) p more grown
each_takes at from to old room drawn last now capacity d p more grown h e m g =
    drawing_takes (each at) from to old room drawn last now capacity d p more grown h
    (λ rest. ap (λ (q : Point). q ∷ map at rest) (sym e)) m g

pub each_ends : (at : Point → Point) (from to : Point) (old : List SignedEdge) (room : ℕ) (drawn : List Point)
    (last : Point) (now : List SignedEdge) (capacity : ℕ)
    → IsDrawn (each at) from to old room drawn last now capacity
    → now ++ segments_of (route last [] to) ≡ old ++ segments_of (route from (map at drawn) to)
each_ends at from to old room drawn last now capacity h =
    drawing_ends (each at) from to old room drawn last now capacity h refl
