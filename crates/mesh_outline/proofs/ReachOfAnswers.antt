-- Lemmas over points and lists: how far the answer of an outline reaches.
use Rattle.std.proofs.Common.{◌≡◌, sym, ℕ, ◌≤◌, ◌^◌, ◌⊎◌, inl, inr, ⊎_elim, List, [], ◌∷◌, Bool, true, false}
use Rattle.std.proofs.Common.{cond, ◌&&◌, refl, ◌∙◌, ap, arith}
use Rattle.std.specs.Prelude.{ℤ, pos, int_lt, count_by}
use Rattle.std.specs.List.{All, Contains}
use Rattle.std.specs.Ordering.{int_eq}
use Rattle.std.proofs.lemmas.Bool.{true≢false}
use Rattle.std.proofs.lemmas.Bool.Decides.{Decides-int_eq}
use Rattle.std.proofs.lemmas.List.Elements.{All-nil, All-head, All-tail, All-weaker, All-contains_itself}
use Rattle.std.proofs.lemmas.List.Sums.{sum_by-cons}
use Rattle.mesh_plane.specs.Plane.{Point, Edge}
use Rattle.mesh_plane.specs.Winding.{boundary, winding}
use Rattle.mesh_plane.proofs.ClosedLists.{all_flat_map}
use Rattle.mesh_lattice.specs.Counted.{bit}
use Rattle.mesh_lattice.specs.Nearness.{IsFarFrom}
use Rattle.mesh_shapes.specs.Contours.{double_area}
use Rattle.mesh_shapes.specs.Resolution.{Choices}
use Rattle.mesh_join.specs.Cleaned.{cleaned_sections}
use Rattle.mesh_join.specs.Styles.{OffsetJoin, OutlineStyle, outer, inner}
use Rattle.mesh_reach.specs.Reach.{IsReachedByOne}
use Rattle.mesh_reach.proofs.Pieces.{IsDrawnAlong, reached_more, drawn_more}
use Rattle.mesh_reach.proofs.Within.{at_itself, beside_drawn, near_or_far, nested}
use Rattle.mesh_outline.specs.Kinds.{kind_for, way_for}
use Rattle.mesh_outline.specs.Nearness.{AreOutlineRegionsBeyond, all_drawn, drawn_of, edges_moved}
use Rattle.mesh_outline.specs.Outline.{outline_edges}
use Rattle.mesh_outline.specs.Regions.{is_filled, is_cleared}
use Rattle.mesh_outline.specs.declared.kind.ContourKind.{ContourKind}
use Rattle.mesh_outline.specs.declared.kind.ContourKind.TheVariants.{Outer, Hole, Ignored}
use Rattle.mesh_outline.specs.Reach.{encloses, excludes, contour_sections, DiffersWithinReach}
use Rattle.mesh_outline.specs.Reach.{outline_reach, both_reach}
use Rattle.mesh_outline.proofs.ReachOfEdges.{outline_along}
use Rattle.mesh_outline.proofs.ReachOfPieces.{outline_edges_reach}

-- two tests that agree of one more item count alike
counted_more : {A : Type 0} (t u : A → Bool) (x : A) (xs : List A) → t x ≡ u x → count_by t xs ≡ count_by u xs →
    count_by t (x ∷ xs) ≡ count_by u (x ∷ xs)
counted_more {A} t u x xs e rest =
    let same = ap (λ (b : Bool). cond {A = ℕ} b 1 0) e in
    omega (
      arith,
      same,
      rest,
      sum_by-cons (λ (y : A). cond {A = ℕ} (t y) 1 0) x xs,
      sum_by-cons
          (λ (y : A). cond {A = ℕ} (u y) 1 0) x xs,
    )

module _ (unit : ℕ) (least : 2 ^ 14 ≤ unit) (style : OutlineStyle) where
  outer_covered : outline_reach (outer style) ≤ both_reach style
  outer_covered = omega arith

  inner_covered : outline_reach (inner style) ≤ both_reach style
  inner_covered = omega arith

  -- ---- what is drawn

  contour_along : (all : List Edge) (contour : List Point) → All (Contains all) (cleaned_sections contour) →
      All (IsDrawnAlong (both_reach style) all) (drawn_of unit style contour)
  contour_along all contour listed = by (kind_for (double_area contour))
    where
      Along : Edge → Type 0
      Along = IsDrawnAlong (both_reach style) all

      moved : (way : OffsetJoin) → outline_reach way ≤ both_reach style → All Along (outline_edges unit way contour)
      moved way covered =
          All-weaker (IsDrawnAlong (outline_reach way) (cleaned_sections contour)) Along
          (drawn_more (outline_reach way) (both_reach style) (cleaned_sections contour) all covered listed)
          (outline_edges unit way contour) (outline_along unit least way contour)

      by : (kind : ContourKind) → All Along (edges_moved unit contour (way_for style kind))
      by Outer = moved (outer style) outer_covered
      by Hole = moved (inner style) inner_covered
      by Ignored = All-nil Along

  all_along : (all : List Edge) (contours : List (List Point)) →
      All (λ (contour : List Point). All (Contains all) (cleaned_sections contour)) contours →
      All (IsDrawnAlong (both_reach style) all) (all_drawn unit style contours)
  all_along all contours listed =
      all_flat_map (IsDrawnAlong (both_reach style) all) (drawn_of unit style) contours
      (All-weaker (λ (contour : List Point). All (Contains all) (cleaned_sections contour))
      (λ (contour : List Point). All (IsDrawnAlong (both_reach style) all) (drawn_of unit style contour))
      (contour_along all) contours listed)

  -- ---- where it winds as contours do

  unmoved : (way : OffsetJoin) → outline_reach way ≤ both_reach style →
      (all : List Edge) (contour : List Point) (m : ℕ) (q : Point) →
      All (Contains all) (cleaned_sections contour) →
      IsReachedByOne (both_reach style) m all q ⊎
      (winding m q (outline_edges unit way contour) ≡ winding m q (boundary contour))
  unmoved way covered all contour m q listed = by (int_eq moved own) refl
    where
      moved : ℤ
      moved = winding m q (outline_edges unit way contour)

      own : ℤ
      own = winding m q (boundary contour)

      by : (t : Bool) → int_eq moved own ≡ t → IsReachedByOne (both_reach style) m all q ⊎ (moved ≡ own)
      by true e = inr ((Decides-int_eq moved own).0 e)
      by false e =
          inl (reached_more (outline_reach way) (both_reach style) m (cleaned_sections contour) all q covered listed
          (outline_edges_reach unit least way contour m q
          (λ (same : moved ≡ own). true≢false (sym ((Decides-int_eq moved own).1 same) ∙ e))))

  counted : (all : List Edge) (m : ℕ) (q : Point) (contours : List (List Point)) →
      All (λ (contour : List Point). All (Contains all) (cleaned_sections contour)) contours →
      IsReachedByOne (both_reach style) m all q
      ⊎ ((count_by (is_filled unit style m q) contours ≡ count_by (encloses m q) contours)
      × (count_by (is_cleared unit style m q) contours ≡ count_by (excludes m q) contours))
  counted all m q [] listed = inr (refl, refl)
  counted all m q (contour ∷ contours) listed =
      let Listed : List Point → Type 0 = λ (c : List Point). All (Contains all) (cleaned_sections c) in
      let here : Listed contour = All-head Listed contour contours listed in
      ⊎_elim (λ (r : IsReachedByOne (both_reach style) m all q). inl r)
      (λ (o : winding m q (outline_edges unit (outer style) contour) ≡ winding m q (boundary contour)).
      ⊎_elim (λ (r : IsReachedByOne (both_reach style) m all q). inl r)
      (λ (i : winding m q (outline_edges unit (inner style) contour) ≡ winding m q (boundary contour)).
      ⊎_elim (λ (r : IsReachedByOne (both_reach style) m all q). inl r)
      (λ (rest : (count_by (is_filled unit style m q) contours ≡ count_by (encloses m q) contours) ×
      (count_by (is_cleared unit style m q) contours ≡ count_by (excludes m q) contours)).
      inr (
        counted_more (is_filled unit style m q) (encloses m q) contour contours
            (ap (λ (z : ℤ). int_lt (pos 0) (double_area contour) && int_lt (pos 0) z) o) rest.0,
        counted_more (is_cleared unit style m q) (excludes m q) contour contours
            (ap (λ (z : ℤ). int_lt (double_area contour) (pos 0) && int_lt z (pos 0)) i) rest.1,
      ))
      (counted all m q contours (All-tail Listed contour contours listed)))
      (unmoved (inner style) inner_covered all contour m q here))
      (unmoved (outer style) outer_covered all contour m q here)

pub outline_answers_reach : (unit : ℕ) → 2 ^ 14 ≤ unit →
    (k : ℕ) (style : OutlineStyle) (choices : Choices) (contours : List (List Point))
    (answer : List (List (List Point))) →
    AreOutlineRegionsBeyond k unit style choices contours answer → DiffersWithinReach k style choices contours answer
outline_answers_reach unit least k style choices contours answer made no_area way m some q winds =
    ⊎_elim
    (beside_drawn k (both_reach style) m all q)
    (λ (far : IsFarFrom k m (all_drawn unit style contours) q).
    ⊎_elim
    (at_itself k (both_reach style) m all q)
    (λ (same : (count_by (is_filled unit style m q) contours ≡ count_by (encloses m q) contours) ×
    (count_by (is_cleared unit style m q) contours ≡ count_by (excludes m q) contours)).
    absurd (winds (made.fills no_area way m some q far ∙ (λ i. bit (int_lt (pos (same.1 i)) (pos (same.0 i)))))))
    (counted unit least style all m q contours listed))
    (near_or_far (IsDrawnAlong (both_reach style) all) k m some (all_drawn unit style contours) q
    (all_along unit least style all contours listed))
  where
    all : List Edge
    all = contour_sections contours

    listed : All (λ (contour : List Point). All (Contains (contour_sections contours)) (cleaned_sections contour))
        contours
    listed =
        nested (Contains (contour_sections contours)) cleaned_sections contours
        (All-contains_itself (contour_sections contours))
