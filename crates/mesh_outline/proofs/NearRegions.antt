-- Lemmas over points and lists: outlines are exact away from the drawn edges.
use Rattle.std.proofs.Common.{◌≡◌, ⊎_elim, ℕ, ◌+◌, ◌^◌, ◌≤◌, ◌<◌, true, not, List, [], ◌∷◌, length, map, refl, sym, ◌∙◌, ap, subst, arith}
use Rattle.std.specs.Prelude.{ℤ, pos, ◌-ℤ◌, Some, count_by, int_lt}
use Rattle.std.specs.List.{All, AllZip, flat_map}
use Rattle.std.proofs.lemmas.Bool.{false≢true, or_cases, or_left, or_right}
use Rattle.std.proofs.lemmas.List.Elements.{All-head, All-tail}
use Rattle.std.proofs.lemmas.List.Folds.{flat_map-map}
use Rattle.mesh_plane.specs.Plane.{Point, Edge}
use Rattle.mesh_plane.specs.Winding.{crossing_on, same_point, winding}
use Rattle.mesh_plane.proofs.Crossings.{crossing_on_odd}
use Rattle.mesh_plane.proofs.Sums.{total_permutation}
use Rattle.mesh_num.specs.Segments.{proper_edges}
use Rattle.mesh_lattice.specs.Counted.{bit}
use Rattle.mesh_lattice.specs.FillRules.{filled}
use Rattle.mesh_lattice.specs.Nearness.{IsFarFrom, StaysNear}
use Rattle.mesh_lattice.specs.Split.{occurs}
use Rattle.mesh_lattice.specs.declared.fill.FillRule.TheVariants.{Positive}
use Rattle.mesh_lattice.specs.Clean.{IsOn, refined_edge}
use Rattle.mesh_lattice.proofs.NearEdges.{far_from_through, far_less, near_through, stays_more}
use Rattle.mesh_lattice.proofs.Splits.{occurs_append}
use Rattle.mesh_shapes.specs.Contours.{double_area}
use Rattle.mesh_shapes.specs.Resolution.{Choices}
use Rattle.mesh_below.specs.Nearness.{AreCountedRegions}
use Rattle.mesh_join.specs.Styles.{OffsetJoin, OutlineStyle}
use Rattle.mesh_offset.specs.Adding.{answer_edges}
use Rattle.mesh_split.specs.declared.count.SplitCount.{SplitCount}
use Rattle.mesh_offset.specs.Counting.{CountsStanding}
use Rattle.mesh_offset.specs.Regions.{WindsOnceWhere}
use Rattle.mesh_offset.proofs.Counting.{standing_more, standing_of_one}
use Rattle.mesh_offset.proofs.Occurring.{kept, permuted, sensed}
use Rattle.mesh_offset.proofs.ProperEdges.{proper_edges_total}
use Rattle.mesh_outline.specs.Building.{style_for}
use Rattle.mesh_outline.specs.Nearness.{AreCountedOutlineRegions, GivesNear, GiveNear, IsOutlineDrawing, ToldGive, all_drawn, drawn_of, edges_moved, first_splits}
use Rattle.mesh_outline.specs.Outline.{outline_edges}
use Rattle.mesh_outline.specs.Regions.{is_cleared, is_filled, more_fill}
use Rattle.mesh_outline.specs.Resolved.{Gives, Give, fill_for}
use Rattle.mesh_outline.proofs.Regions.{above_less, ignored_counts, moved_counts, one_more}

-- the edges of a contour that moves so are those that are drawn of it
pub drawn_moved : (unit : ℕ) (style : OutlineStyle) (contour : List Point) (way : OffsetJoin) → style_for style (double_area contour) ≡ Some way →
    outline_edges unit way contour ≡ drawn_of unit style contour
drawn_moved unit style contour way moves = ap (edges_moved unit contour) (sym moves)

module _ (unit : ℕ) (style : OutlineStyle) where
  -- ---- what contours give stays near what is drawn

  gives_near : (contour : List Point) (es : List Edge) (k n first : ℕ) (ds : List Edge) → GivesNear unit style contour es k n → k ≤ first →
      ((e : Edge) → occurs e (drawn_of unit style contour) ≡ true → occurs e ds ≡ true) → (f : Edge) → occurs f es ≡ true → StaysNear first ds f
  gives_near contour _ _ _ first ds (GivesNear.moved {way = way} {answer = answer} {k = k} moves built same beyond) most drawn f o =
      stays_more k first built ds f most
      (λ (e : Edge) (p : occurs e built ≡ true).
      drawn e (subst (λ (gs : List Edge). occurs e gs ≡ true) (drawn_moved unit style contour way moves) (permuted built (outline_edges unit way contour) same e p)))
      (beyond.close f (sensed (fill_for (double_area contour)) (answer_edges answer) f o))
  gives_near contour _ _ _ first ds (GivesNear.ignored none) most drawn f o = absurd (false≢true o)

  give_near : (contours : List (List Point)) (told : List ToldGive) (first : ℕ) (ds : List Edge) →
      AllZip (λ (contour : List Point) (t : ToldGive). GivesNear unit style contour t.edges t.nearness t.splits) contours told →
      All (λ (l : ℕ). l ≤ first) (map (λ (t : ToldGive). t.nearness) told) →
      ((e : Edge) → occurs e (all_drawn unit style contours) ≡ true → occurs e ds ≡ true) →
      (f : Edge) → occurs f (flat_map (λ (t : ToldGive). t.edges) told) ≡ true → StaysNear first ds f
  give_near [] [] first ds each most drawn f o = absurd (false≢true o)
  give_near [] (t ∷ told) first ds each most drawn f o = absurd each
  give_near (contour ∷ contours) [] first ds each most drawn f o = absurd each
  give_near (contour ∷ contours) (t ∷ told) first ds each most drawn f o =
      ⊎_elim
      (λ (here : occurs f t.edges ≡ true).
      gives_near contour t.edges t.nearness t.splits first ds each.0 (All-head (λ (l : ℕ). l ≤ first) t.nearness (map (λ (t : ToldGive). t.nearness) told) most)
      (λ (e : Edge) (p : occurs e (drawn_of unit style contour) ≡ true).
      drawn e (occurs_append e (drawn_of unit style contour) (all_drawn unit style contours) ∙ or_left _ _ p)) f here)
      (λ (there : occurs f (flat_map (λ (t : ToldGive). t.edges) told) ≡ true).
      give_near contours told first ds each.1 (All-tail (λ (l : ℕ). l ≤ first) t.nearness (map (λ (t : ToldGive). t.nearness) told) most)
      (λ (e : Edge) (p : occurs e (all_drawn unit style contours) ≡ true).
      drawn e (occurs_append e (drawn_of unit style contour) (all_drawn unit style contours) ∙ or_right _ _ p)) f there)
      (or_cases (occurs f t.edges) (occurs f (flat_map (λ (t : ToldGive). t.edges) told))
      (sym (occurs_append f t.edges (flat_map (λ (t : ToldGive). t.edges) told)) ∙ o))

  -- ---- what contours give winds as they fill and clear

  module _ (m : ℕ) (some : 0 < m) (q : Point) (first : ℕ) where
    gives_winds : 2 ^ 14 ≤ unit → (contour : List Point) (es : List Edge) (k n : ℕ) → GivesNear unit style contour es k n → k ≤ first → IsFarFrom first m (drawn_of unit style contour) q →
        winding m q es ≡ bit (is_filled unit style m q contour) -ℤ bit (is_cleared unit style m q contour)
    gives_winds least contour _ _ _ (GivesNear.moved {way = way} {answer = answer} {k = k} moves built same beyond) most far =
        moved_counts unit least m some q style contour way answer moves
        (beyond.regions.answered refl refl m q
        ∙ (beyond.exact m some q
        (λ (e : Edge) (o : occurs e built ≡ true).
        far_less k first m (drawn_of unit style contour) q most far e
        (subst (λ (gs : List Edge). occurs e gs ≡ true) (drawn_moved unit style contour way moves) (permuted built (outline_edges unit way contour) same e o)))
        ∙ ap (λ (w : ℤ). bit (filled (fill_for (double_area contour)) w)) (sym (total_permutation (crossing_on m q) built (outline_edges unit way contour) same))))
    gives_winds least contour _ _ _ (GivesNear.ignored none) most far = ignored_counts unit least m some q style contour none

    give_winds : 2 ^ 14 ≤ unit → (contours : List (List Point)) (told : List ToldGive) →
        AllZip (λ (contour : List Point) (t : ToldGive). GivesNear unit style contour t.edges t.nearness t.splits) contours told →
        All (λ (l : ℕ). l ≤ first) (map (λ (t : ToldGive). t.nearness) told) → IsFarFrom first m (all_drawn unit style contours) q →
        winding m q (flat_map (λ (t : ToldGive). t.edges) told)
        ≡ pos (count_by (is_filled unit style m q) contours) -ℤ pos (count_by (is_cleared unit style m q) contours)
    give_winds least [] [] each most far = refl
    give_winds least [] (t ∷ told) each most far = absurd each
    give_winds least (contour ∷ contours) [] each most far = absurd each
    give_winds least (contour ∷ contours) (t ∷ told) each most far =
        one_more unit least m some q style contour contours t.edges (flat_map (λ (t : ToldGive). t.edges) told)
        (gives_winds least contour t.edges t.nearness t.splits each.0 (All-head (λ (l : ℕ). l ≤ first) t.nearness (map (λ (t : ToldGive). t.nearness) told) most)
        (λ (e : Edge) (p : occurs e (drawn_of unit style contour) ≡ true).
        far e (occurs_append e (drawn_of unit style contour) (all_drawn unit style contours) ∙ or_left _ _ p)))
        (give_winds least contours told each.1 (All-tail (λ (l : ℕ). l ≤ first) t.nearness (map (λ (t : ToldGive). t.nearness) told) most)
        (λ (e : Edge) (p : occurs e (all_drawn unit style contours) ≡ true).
        far e (occurs_append e (drawn_of unit style contour) (all_drawn unit style contours) ∙ or_right _ _ p)))

  -- ---- the outline

  gives_of : (contour : List Point) (es : List Edge) (k n : ℕ) → GivesNear unit style contour es k n → Gives unit style contour es
  gives_of contour _ _ _ (GivesNear.moved moves built same beyond) =
      Gives.moved moves (record { built = built; same = same; resolution = beyond.regions.resolution })
  gives_of contour _ _ _ (GivesNear.ignored none) = Gives.ignored none

  each_gives : (contours : List (List Point)) (told : List ToldGive) →
      AllZip (λ (contour : List Point) (t : ToldGive). GivesNear unit style contour t.edges t.nearness t.splits) contours told →
      AllZip (Gives unit style) contours (map (λ (t : ToldGive). t.edges) told)
  each_gives [] [] each = tt
  each_gives [] (t ∷ told) each = absurd each
  each_gives (contour ∷ contours) [] each = absurd each
  each_gives (contour ∷ contours) (t ∷ told) each = (gives_of contour t.edges t.nearness t.splits each.0, each_gives contours told each.1)

  pub give_of : (first : ℕ) (contours : List (List Point)) (given : List Edge) → GiveNear first unit style contours given → Give unit style contours given
  give_of first contours given give = record {
    edges = map (λ (t : ToldGive). t.edges) give.told;
    each = each_gives contours give.told give.each;
    joined = give.joined ∙ sym (flat_map-map (λ (es : List Edge). es) (λ (t : ToldGive). t.edges) give.told);
  }

  pub outline_beyond : 2 ^ 14 ≤ unit → (first last : ℕ) (choices : Choices) (contours : List (List Point)) (given : List Edge) (answer : List (List (List Point))) →
      (old between new : SplitCount) → (give : GiveNear first unit style contours given) →
      CountsStanding (length contours) (IsOutlineDrawing unit style contours) (first_splits give.told) old between →
      AreCountedRegions last (proper_edges given) (filled Positive) choices answer between new →
      AreCountedOutlineRegions (first + last) unit style choices contours answer old new
  outline_beyond least first last choices contours given answer old between new give firsts standing = (
    record {
      first = first;
      last = last;
      added = refl;
      outline = record { given = given; give = give_of first contours given give; resolution = standing.beyond.regions.resolution };
      give = give;
      beyond = standing.beyond;
      same = refl;
      fills = fills;
      close = λ (e : Edge) (o : occurs e (answer_edges answer) ≡ true) (m : ℕ) (some : 0 < m) (q : Point) (on : IsOn (refined_edge m e) q).
          let near = standing.beyond.close e o m some q on in
          near_through first last m some (all_drawn unit style contours) near.edge q (given_near near.edge near.listed) near.near;
    },
    standing_more (IsOutlineDrawing unit style contours) (length contours) 1 (first_splits give.told) (length standing.beyond.regions.resolution.splits) old between new firsts
        (standing_of_one (IsOutlineDrawing unit style contours) (proper_edges given) standing.beyond.regions.resolution.splits between new
        (IsOutlineDrawing.together (give_of first contours given give)) standing.counted),
  )
    where
      given_near : (f : Edge) → occurs f (proper_edges given) ≡ true → StaysNear first (all_drawn unit style contours) f
      given_near f o =
          give_near contours give.told first (all_drawn unit style contours) give.each give.greatest.most (λ (e : Edge) (p : occurs e (all_drawn unit style contours) ≡ true). p) f
          (subst (λ (es : List Edge). occurs f es ≡ true) give.joined (kept (λ (e : Edge). not (same_point e.0 e.1)) given f o))

      fills : WindsOnceWhere (more_fill unit style contours) (λ m q. IsFarFrom (first + last) m (all_drawn unit style contours) q) choices answer
      fills small forward m some q far =
          standing.beyond.regions.answered small forward m q
          ∙ (standing.beyond.exact m some q
          (far_from_through first last m some (all_drawn unit style contours) (proper_edges given) q given_near
          far)
          ∙ ap bit
          (ap (int_lt (pos 0))
          (proper_edges_total (crossing_on m q) (crossing_on_odd m q) given
          ∙ (ap (winding m q) give.joined
          ∙ give_winds m some q first least contours give.told give.each give.greatest.most
          (far_less first (first + last) m (all_drawn unit style contours) q (omega arith) far)))
          ∙ above_less (pos (count_by (is_filled unit style m q) contours)) (pos (count_by (is_cleared unit style m q) contours))))
