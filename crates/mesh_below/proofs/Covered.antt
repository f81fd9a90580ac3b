-- Lemmas over points and lists: the edges of an answer's contours meet in whole points alone.
use Rattle.std.proofs.Common.{◌≡◌, ◌⊎◌, ⊎_elim, ℕ, ◌<◌, Bool, true, false, cond, List, [], ◌∷◌, reverse, refl, sym, ◌∙◌, ap, subst}
use Rattle.std.specs.Prelude.{pos}
use Rattle.std.proofs.lemmas.Bool.{cases_Bool}
use Rattle.std.proofs.lemmas.List.{reverse-append}
use Rattle.mesh_plane.specs.Plane.{Point, Edge, minus, turn}
use Rattle.mesh_plane.specs.Turning.{turns_at}
use Rattle.mesh_plane.specs.Winding.{route, boundary, refined}
use Rattle.mesh_plane.proofs.ClosedLists.{route_append}
use Rattle.mesh_plane.proofs.Crossings.{turn_flip}
use Rattle.mesh_plane.proofs.Whole.{linear}
use Rattle.std.proofs.Common.{arith}
use Rattle.mesh_lattice.specs.Clean.{IsOn, IsClean, IsProper, refined_edge}
use Rattle.mesh_lattice.specs.Split.{back, same_ends, occurs}
use Rattle.mesh_lattice.proofs.Boxes.{turn_start, turn_end, on_back}
use Rattle.mesh_lattice.proofs.Each.{Each, each_append, proper_of}
use Rattle.mesh_lattice.proofs.Ends.{decides_end, decides_ends}
use Rattle.mesh_shapes.specs.Contours.{turning_points, vertices, reversed}
use Rattle.mesh_below.specs.Meeting.{AreOnOneLine, IsWhole, MeetInWholePoints}
use Rattle.mesh_below.proofs.EdgeParts.{line_through, three_on_line}
use Rattle.mesh_below.proofs.NoBend.{each_found}
use Rattle.mesh_below.proofs.Straight.{LookAlike, RunsThrough, apart_alike, straight_alike, alike_through, whole_alike, on_parts, middle_on, whole_apart, runs_refined}

-- a point of an edge, on the grid `m`, lies on a segment of the edge's line
pub record IsCoveredAt (es : List Edge) (k : Edge) (m : ℕ) (z : Point) : Type 0 where
  pub segment : Edge
  pub stands : occurs segment es ≡ true
  pub on : IsOn (refined_edge m segment) z
  start : turn k.0 k.1 segment.0 ≡ pos 0
  end : turn k.0 k.1 segment.1 ≡ pos 0

-- an edge whose ends differ, each point of which lies on a segment of its line
pub record IsCovered (es : List Edge) (k : Edge) : Type 0 where
  pub proper : k.0 ≡ k.1 → ⊥
  pub cover : (m : ℕ) → 0 < m → (z : Point) → IsOn (refined_edge m k) z → IsCoveredAt es k m z

pub covered_back : (es : List Edge) (k : Edge) → IsCovered es k → IsCovered es (back k)
covered_back es k h = record {
  proper = λ (e : k.1 ≡ k.0). h.proper (sym e);
  cover = λ (m : ℕ) (some : 0 < m) (z : Point) (on : IsOn (refined_edge m (back k)) z).
      let c = h.cover m some z (on_back (refined_edge m (back k)) z on) in
      let one = c.start in
      let two = c.end in
      record {
        segment = c.segment;
        stands = c.stands;
        on = c.on;
        start = omega (arith, linear, turn_flip k.0 k.1 c.segment.0, one);
        end = omega (arith, linear, turn_flip k.0 k.1 c.segment.1, two);
      };
}

module _ (es : List Edge) (proper : IsProper es) where
  pub covered_itself : (e : Edge) → occurs e es ≡ true → IsCovered es e
  covered_itself e o = record {
    proper = proper_of es proper e o;
    cover = λ (m : ℕ) (some : 0 < m) (z : Point) (on : IsOn (refined_edge m e) z). record {
      segment = e;
      stands = o;
      on = on;
      start = turn_start e.0 e.1;
      end = turn_end e.0 e.1;
    };
  }

  -- a covered edge, and a segment that runs on straight from it
  covered_on : (a x n : Point) → IsCovered es (a, x) → occurs (x, n) es ≡ true → RunsThrough a x n → IsCovered es (a, n)
  covered_on a x n h o through = record {
    proper = whole_apart a x n through;
    cover = λ (m : ℕ) (some : 0 < m) (z : Point) (on : IsOn (refined_edge m (a, n)) z).
        ⊎_elim (first m some z) (second m some z) (on_parts (refined m a) (refined m x) (refined m n) z (runs_refined m some a x n through) on);
  }
    where
      middle : turn a n x ≡ pos 0
      middle = (middle_on a x n through).on_line

      first : (m : ℕ) → 0 < m → (z : Point) → IsOn (refined_edge m (a, x)) z → IsCoveredAt es (a, n) m z
      first m some z on =
          let c = h.cover m some z on in
          record {
            segment = c.segment;
            stands = c.stands;
            on = c.on;
            start = line_through a n a x c.segment.0 h.proper (turn_start a n) middle c.start;
            end = line_through a n a x c.segment.1 h.proper (turn_start a n) middle c.end;
          }

      second : (m : ℕ) → 0 < m → (z : Point) → IsOn (refined_edge m (x, n)) z → IsCoveredAt es (a, n) m z
      second m some z on = record { segment = (x, n); stands = o; on = on; start = middle; end = turn_end a n }

  abbrev Stands : Edge → Type 0
  Stands e = occurs e es ≡ true

  run : (a p x : Point) (xs : List Point) (z : Point) → IsCovered es (a, x) → LookAlike (minus x a) (minus x p) → Each Stands (route p (x ∷ xs) z) →
      Each (IsCovered es) (route a (turning_points p (x ∷ xs) z) z)
  run a p x [] z m alike stands = by (turns_at p x z) refl
    where
      by : (b : Bool) → turns_at p x z ≡ b → Each (IsCovered es) (route a (cond b (x ∷ []) []) z)
      by true h = (m, (covered_itself (x, z) stands.1.0, tt))
      by false h =
          let through : RunsThrough a x z =
          alike_through (minus x a) (minus x p) (minus z x) alike
          (straight_alike p x z h (proper_of es proper (p, x) stands.0) (proper_of es proper (x, z) stands.1.0)) in
          (covered_on a x z m stands.1.0 through, tt)
  run a p x (n ∷ ys) z m alike stands =
      by (turns_at p x n) refl
      (run x x n ys z (covered_itself (x, n) stands.1.0) (apart_alike x n (proper_of es proper (x, n) stands.1.0)) stands.1)
      (λ (k : IsCovered es (a, n)) (l : LookAlike (minus n a) (minus n x)). run a x n ys z k l stands.1)
    where
      by : (b : Bool) → turns_at p x n ≡ b → Each (IsCovered es) (route x (turning_points x (n ∷ ys) z) z) →
          (IsCovered es (a, n) → LookAlike (minus n a) (minus n x) → Each (IsCovered es) (route a (turning_points x (n ∷ ys) z) z)) →
          Each (IsCovered es) (route a (cond b (x ∷ turning_points x (n ∷ ys) z) (turning_points x (n ∷ ys) z)) z)
      by true h kept further = (m, kept)
      by false h kept further =
          let through : RunsThrough a x n =
          alike_through (minus x a) (minus x p) (minus n x) alike
          (straight_alike p x n h (proper_of es proper (p, x) stands.0) (proper_of es proper (x, n) stands.1.0)) in
          further (covered_on a x n m stands.1.0 through) (whole_alike a x n through)

  all_covered : (xs : List Edge) → Each Stands xs → Each (IsCovered es) xs
  all_covered [] h = tt
  all_covered (e ∷ xs) h = (covered_itself e h.0, all_covered xs h.1)

  -- the edges between the answered vertices of a contour are covered by its own
  pub vertices_covered : (all : Bool) (c : List Point) → Each Stands (boundary c) → Each (IsCovered es) (boundary (vertices all c))
  vertices_covered all [] stands = tt
  vertices_covered true (p ∷ xs) stands = all_covered (boundary (p ∷ xs)) stands
  vertices_covered false (p ∷ []) stands = all_covered (boundary (p ∷ [])) stands
  vertices_covered false (p ∷ x ∷ ys) stands =
      run p p x ys p (covered_itself (p, x) stands.0) (apart_alike p x (proper_of es proper (p, x) stands.0)) stands

  -- ---- where covered edges meet

  one_line : (k l s t : Edge) → (l.0 ≡ l.1 → ⊥) → (s.0 ≡ s.1 → ⊥) → turn k.0 k.1 s.0 ≡ pos 0 → turn k.0 k.1 s.1 ≡ pos 0 →
      turn l.0 l.1 t.0 ≡ pos 0 → turn l.0 l.1 t.1 ≡ pos 0 → ((s ≡ t) ⊎ (s ≡ back t)) → AreOnOneLine k l
  one_line k l s t lp sp a b c d same = (
    line_through k.0 k.1 s.0 s.1 l.0 sp a b (three_on_line l.0 l.1 s.0 s.1 l.0 lp ends.0 ends.1 (turn_start l.0 l.1)),
    line_through k.0 k.1 s.0 s.1 l.1 sp a b (three_on_line l.0 l.1 s.0 s.1 l.1 lp ends.0 ends.1 (turn_end l.0 l.1)),
  )
    where
      ends : (turn l.0 l.1 s.0 ≡ pos 0) × (turn l.0 l.1 s.1 ≡ pos 0)
      ends =
          ⊎_elim
          (λ (e : s ≡ t). (ap (λ (v : Edge). turn l.0 l.1 v.0) e ∙ c, ap (λ (v : Edge). turn l.0 l.1 v.1) e ∙ d))
          (λ (e : s ≡ back t). (ap (λ (v : Edge). turn l.0 l.1 v.0) e ∙ d, ap (λ (v : Edge). turn l.0 l.1 v.1) e ∙ c))
          same

  module _ (clean : IsClean es) where
    covered_meet : (k l : Edge) → IsCovered es k → IsCovered es l → (AreOnOneLine k l → ⊥) → (m : ℕ) → 0 < m → (z : Point) →
        IsOn (refined_edge m k) z → IsOn (refined_edge m l) z → IsWhole m z
    covered_meet k l h j apart m some z on of =
        ⊎_elim
        (λ (e : same_ends c.segment d.segment ≡ true).
        absurd (apart (one_line k l c.segment d.segment j.proper (proper_of es proper c.segment c.stands) c.start c.end d.start d.end
        ((decides_ends c.segment d.segment).0 e))))
        (λ (e : same_ends c.segment d.segment ≡ false).
        let shared = (clean c.segment d.segment c.stands d.stands e m some).shared z c.on d.on in
        ⊎_elim (λ (x : z ≡ refined m c.segment.0). (c.segment.0, x)) (λ (x : z ≡ refined m c.segment.1). (c.segment.1, x))
        ((decides_end z (refined_edge m c.segment)).0 shared.0))
        (cases_Bool (same_ends c.segment d.segment))
      where
        c : IsCoveredAt es k m z
        c = h.cover m some z on

        d : IsCoveredAt es l m z
        d = j.cover m some z of

    pub covered_meet_whole : (bs : List Edge) → Each (IsCovered es) bs → MeetInWholePoints bs
    covered_meet_whole bs h k l first second = covered_meet k l (each_found (IsCovered es) (covered_back es) bs h k first) (each_found (IsCovered es) (covered_back es) bs h l second)

-- covered edges have different ends
pub covered_proper : (es bs : List Edge) → Each (IsCovered es) bs → (e : Edge) → occurs e bs ≡ true → e.0 ≡ e.1 → ⊥
covered_proper es bs h e o = (each_found (IsCovered es) (covered_back es) bs h e o).proper

-- ---- a closed list the other way about

module _ (Q : Edge → Type 0) (turned : (e : Edge) → Q e → Q (back e)) where
  route_reversed : (a : Point) (xs : List Point) (z : Point) → Each Q (route a xs z) → Each Q (route z (reverse xs) a)
  route_reversed a [] z h = (turned (a, z) h.0, tt)
  route_reversed a (x ∷ xs) z h =
      subst (Each Q) (sym (ap (λ (l : List Point). route z l a) (reverse-append (x ∷ []) xs) ∙ route_append z (reverse xs) x [] a))
      (each_append Q (route z (reverse xs) x) ((x, a) ∷ []) (route_reversed x xs z h.1) (turned (a, x) h.0, tt))

  pub boundary_reversed : (c : List Point) → Each Q (boundary c) → Each Q (boundary (reversed c))
  boundary_reversed [] h = h
  boundary_reversed (p ∷ xs) h = route_reversed p xs p h
