-- Lemmas over points and lists: the edges of an answer meet in whole points alone, and an answer handed in again is answered
-- again.
use Rattle.std.proofs.Common.{◌≡◌, ℕ, Bool, true, List, [], ◌∷◌, refl, sym, ◌∙◌}
use Rattle.std.specs.Prelude.{ℤ}
use Rattle.std.specs.List.{All, flat_map}
use Rattle.std.specs.List.Sorted.{IsPermutation}
use Rattle.std.proofs.lemmas.Bool.{both_ways}
use Rattle.std.proofs.lemmas.List.Elements.{All-nil, All-cons, All-weaker, All-from_recursion, recursion_from_All}
use Rattle.std.proofs.lemmas.List.Sorted.{IsPermutation-sym}
use Rattle.mesh_num.specs.Paths.{contours_of}
use Rattle.mesh_plane.specs.Plane.{Point, Edge}
use Rattle.mesh_plane.specs.Winding.{IsBalanced, boundary, crossing_on, winding}
use Rattle.mesh_plane.proofs.Balance.{balanced_append, balanced_permutation, boundary_balanced}
use Rattle.mesh_plane.proofs.ClosedLists.{all_flat_map}
use Rattle.mesh_plane.proofs.Sums.{sum_of_permutation, total_permutation}
use Rattle.mesh_lattice.specs.Clean.{IsProper}
use Rattle.mesh_lattice.specs.Split.{occurs, after}
use Rattle.mesh_lattice.proofs.Each.{Each, each_left, each_of, each_right}
use Rattle.mesh_lattice.proofs.SoundSplits.{each_proper}
use Rattle.mesh_regions.specs.Regions.{OutsideBent, is_bent}
use Rattle.mesh_regions.specs.SideLaws.{AreSplit}
use Rattle.mesh_regions.proofs.BoundaryFill.{boundary_cover}
use Rattle.mesh_shapes.specs.Contours.{vertices}
use Rattle.mesh_shapes.specs.Resolution.{Choices, IsResolution}
use Rattle.mesh_below.specs.Meeting.{MeetInWholePoints}
use Rattle.mesh_below.proofs.AnswerPoints.{answer_contours}
use Rattle.mesh_below.proofs.Covered.{IsCovered, boundary_reversed, covered_back, covered_meet_whole, covered_proper, vertices_covered}
use Rattle.mesh_below.proofs.Merging.{same_occurs}
use Rattle.mesh_below.proofs.NoBend.{never_bent}

-- ---- the edges of an answer

module _ (edges : List Edge) (fill : ℤ → Bool) (options : Choices) (answer : List (List (List Point))) (r : IsResolution edges fill options answer)
    (split : AreSplit (after r.splits edges)) where
  abbrev es : List Edge
  es = after r.splits edges

  abbrev AreCovered : List Point → Type 0
  AreCovered c = Each (IsCovered es) (boundary c)

  stands : (cs : List (List Point)) → Each (λ (e : Edge). occurs e es ≡ true) (flat_map boundary cs) →
      All (λ (c : List Point). AreCovered (vertices options.all_vertices c)) cs
  stands [] h = All-nil (λ (c : List Point). AreCovered (vertices options.all_vertices c))
  stands (c ∷ cs) h =
      All-cons (λ (d : List Point). AreCovered (vertices options.all_vertices d)) c cs
      (vertices_covered es split.proper options.all_vertices c (each_left (λ (e : Edge). occurs e es ≡ true) (boundary c) (flat_map boundary cs) h))
      (stands cs (each_right (λ (e : Edge). occurs e es ≡ true) (boundary c) (flat_map boundary cs) h))

  -- are covered by split segments
  pub answer_covered : Each (IsCovered es) (flat_map boundary (contours_of answer))
  answer_covered =
      recursion_from_All (IsCovered es) (flat_map boundary (contours_of answer))
      (all_flat_map (IsCovered es) boundary (contours_of answer)
      (All-weaker AreCovered (λ (c : List Point). All (IsCovered es) (boundary c)) (λ c h. All-from_recursion (IsCovered es) (boundary c) h) (contours_of answer)
      (all_flat_map AreCovered (λ (shape : List (List Point)). shape) answer
      (answer_contours AreCovered (boundary_reversed (IsCovered es) (covered_back es)) edges fill options answer r
      (stands r.contours
      (each_of (λ (e : Edge). occurs e es ≡ true) (flat_map boundary r.contours)
      (λ (e : Edge) (o : occurs e (flat_map boundary r.contours) ≡ true). boundary_cover es (flat_map boundary r.contours) fill r.bounded e o)))))))

  -- so they meet in whole points alone
  pub answer_meets : MeetInWholePoints (flat_map boundary (contours_of answer))
  answer_meets = covered_meet_whole es split.proper split.clean (flat_map boundary (contours_of answer)) answer_covered

  pub answer_proper : IsProper (flat_map boundary (contours_of answer))
  answer_proper =
      each_proper (flat_map boundary (contours_of answer))
      (each_of (λ (e : Edge). e.0 ≡ e.1 → ⊥) (flat_map boundary (contours_of answer)) (covered_proper es (flat_map boundary (contours_of answer)) answer_covered))

-- ---- in any order

pub closed_balanced : (cs : List (List Point)) → IsBalanced (flat_map boundary cs)
closed_balanced [] = λ p. refl
closed_balanced (c ∷ cs) = balanced_append (boundary c) (flat_map boundary cs) (boundary_balanced c) (closed_balanced cs)

module _ (es own : List Edge) (same : IsPermutation es own) where
  listed : (e : Edge) → occurs e es ≡ true → occurs e own ≡ true
  listed e o = sym (same_occurs es own (λ (f : Edge → ℤ). sym (sum_of_permutation f es own same)) e) ∙ o

  pub order_meets : MeetInWholePoints own → MeetInWholePoints es
  order_meets h e f first second = h e f (listed e first) (listed f second)

  pub order_proper : IsProper own → IsProper es
  order_proper h e o = h e (listed e o)

  pub order_balanced : IsBalanced own → IsBalanced es
  order_balanced h = balanced_permutation own es (IsPermutation-sym es own same) h

  pub order_winds : (m : ℕ) (q : Point) → winding m q es ≡ winding m q own
  order_winds m q = sym (total_permutation (crossing_on m q) es own same)

-- ---- no edge that is given is bent

pub nowhere_bent : (edges : List Edge) (fill : ℤ → Bool) (options : Choices) (answer : List (List (List Point))) → (r : IsResolution edges fill options answer) →
    IsProper edges → MeetInWholePoints edges → (m : ℕ) (q : Point) → OutsideBent r.splits edges m q
nowhere_bent edges fill options answer r proper meet m q e o t on = both_ways (is_bent r.splits e) (never_bent edges r.splits r.legal proper meet e o) t
