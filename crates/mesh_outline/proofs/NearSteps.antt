-- Lemmas over points and lists: the steps of an outline whose nearness is told.
use Rattle.std.proofs.Common.{◌≡◌, ◌⊎◌, inl, inr, ⊎_elim, ℕ, ◌+◌, ◌<◌, ◌≤◌, ◌^◌, List, [], ◌∷◌, ◌++◌, map, length, take, get_or, take_all, refl, sym, ◌∙◌, ap, subst, arith}
use Rattle.std.specs.Prelude.{Some, None, max, pos, ◌≤ℤ◌}
use Rattle.std.proofs.lemmas.Int.{ints}
use Rattle.mesh_plane.proofs.Whole.{either_order}
use Rattle.std.specs.List.{All, Contains, flat_map}
use Rattle.std.specs.List.Sorted.{IsPermutation}
use Rattle.std.proofs.lemmas.Grind.{flat_map-append}
use Rattle.std.proofs.lemmas.List.{append-nil, length-take, map-append, take_more}
use Rattle.std.proofs.lemmas.List.Sums.{sum_by_push}
use Rattle.std.proofs.lemmas.List.Elements.{All-nil, All-push, All-weaker, Contains-append_left, Contains-get_or, Contains-push}
use Rattle.std.proofs.lemmas.Slice.Zip.{all_zipped_more}
use Rattle.mesh_plane.specs.Plane.{Point, Edge}
use Rattle.mesh_num.specs.Segments.{SignedEdge, edges_of, proper_edges}
use Rattle.mesh_lattice.specs.FillRules.{filled}
use Rattle.mesh_lattice.specs.Reach.{ArePointsSafe}
use Rattle.mesh_lattice.specs.declared.fill.FillRule.{FillRule}
use Rattle.mesh_lattice.specs.declared.fill.FillRule.TheVariants.{Positive}
use Rattle.mesh_shapes.specs.Contours.{double_area}
use Rattle.mesh_shapes.specs.Resolution.{Choices}
use Rattle.mesh_below.specs.Asked.{AreResolvable}
use Rattle.mesh_below.specs.Nearness.{AreCountedRegions}
use Rattle.mesh_below.specs.Options.{plain}
use Rattle.mesh_join.specs.Styles.{OffsetJoin, OutlineStyle}
use Rattle.mesh_offset.specs.Adding.{added_edges, answer_edges, in_sense}
use Rattle.mesh_ahead.specs.Counting.{CountsSplits}
use Rattle.mesh_split.specs.declared.count.SplitCount.{SplitCount}
use Rattle.mesh_offset.specs.Counting.{CountsAttempts, CountsStanding}
use Rattle.mesh_offset.proofs.Adding.{adds_more, adds_nothing}
use Rattle.mesh_offset.proofs.Counting.{counts_more, counts_of_one, counts_weaker, standing_fewer, standing_more, standing_none, standing_of_one, standing_weaker}
use Rattle.mesh_offset.proofs.Resolving.{given_balanced, given_edges, given_safe, given_subjects}
use Rattle.mesh_outline.specs.Building.{style_for}
use Rattle.mesh_outline.specs.Kinds.{contour_kind, kind_fill, way_for}
use Rattle.mesh_outline.specs.Nearness.{AreCountedOutlineRegions, GivesNear, GiveNear, IsGreatest, IsOutlineDrawing, ToldGive, drawn_of, edges_moved, first_splits}
use Rattle.mesh_outline.proofs.NearRegions.{give_of, outline_beyond}
use Rattle.mesh_outline.specs.Outline.{outline_edges}
use Rattle.mesh_outline.specs.Private.Near.{AddsGivenNear, AddsNear, AreGivenCounted, AreGivenNear, ComesNear}
use Rattle.mesh_outline.specs.Resolved.{fill_for}
use Rattle.mesh_outline.specs.declared.kind.ContourKind.{ContourKind}

-- ---- one contour

-- what the overlay says of the edges that were built
pub comes_near : (k unit : ℕ) (way : OffsetJoin) (fill : FillRule) (path : List Point) (old built ss : List SignedEdge) (choices : Choices) (answer : List (List (List Point))) (before after : SplitCount) →
    old ≡ [] → ss ≡ built → choices ≡ plain → IsPermutation (added_edges old built) (outline_edges unit way path) →
    AreCountedRegions k (edges_of ss) (filled fill) choices answer before after → ArePointsSafe unit answer → ComesNear k unit (outline_edges unit way path) fill answer before after
comes_near k unit way fill path old built ss choices answer before after e f d same standing safe = record {
  built = edges_of built;
  same = rw e at same;
  standing = rw (f, d) at standing;
  safe = safe;
}

pub built_drawn : (unit : ℕ) (way : OffsetJoin) (path : List Point) (old built ss : List SignedEdge) → old ≡ [] → ss ≡ built →
    IsPermutation (added_edges old built) (outline_edges unit way path) → IsPermutation (edges_of ss) (outline_edges unit way path)
built_drawn unit way path old built ss e f same = rw f (rw e at same)

-- the edges that are drawn of a contour of this kind
pub drawn_kind : (unit : ℕ) (style : OutlineStyle) (kind : ContourKind) (way : OffsetJoin) (path : List Point) → kind ≡ contour_kind path → way_for style kind ≡ Some way →
    (es : List Edge) → IsPermutation es (outline_edges unit way path) → IsPermutation es (drawn_of unit style path)
drawn_kind unit style kind way path k moves es same =
    subst (IsPermutation es) (ap (edges_moved unit path) (sym moves ∙ ap (way_for style) k)) same

-- what a contour gives that moves in this way
pub near_moved : (nearness unit : ℕ) (style : OutlineStyle) (kind : ContourKind) (way : OffsetJoin) (fill : FillRule) (path : List Point) (old new : List SignedEdge) (before after : SplitCount) →
    kind ≡ contour_kind path → way_for style kind ≡ Some way → fill ≡ kind_fill kind →
    AddsNear nearness unit way fill path old new before after → AddsGivenNear nearness unit style path old new before after
near_moved nearness unit style kind way fill path old new before after k moves e h =
    let own : fill ≡ fill_for (double_area path) = e ∙ ap kind_fill k in
    let here : style_for style (double_area path) ≡ Some way = sym (ap (way_for style) k) ∙ moves in
    let g : AddsNear nearness unit way (fill_for (double_area path)) path old new before after = rw own at h in
    let beyond = g.1.standing.beyond in (
      in_sense (fill_for (double_area path)) (answer_edges g.0),
      length beyond.regions.resolution.splits,
      GivesNear.moved here g.1.built g.1.same beyond,
      g.2,
      standing_of_one (λ (es : List Edge). IsPermutation es (drawn_of unit style path)) g.1.built beyond.regions.resolution.splits before after
          (drawn_kind unit style kind way path k moves g.1.built g.1.same) g.1.standing.counted,
    )

-- and what one gives that does not move
pub near_ignored : (unit : ℕ) (style : OutlineStyle) (kind : ContourKind) (path : List Point) (ss : List SignedEdge) (count : SplitCount) → kind ≡ contour_kind path → way_for style kind ≡ None →
    count.made < 2 ^ 64 → AddsGivenNear 0 unit style path ss ss count count
near_ignored unit style kind path ss count k none small = (
  [],
  0,
  GivesNear.ignored (sym (ap (way_for style) k) ∙ none),
  adds_nothing unit ss,
  standing_fewer (λ (es : List Edge). IsPermutation es (drawn_of unit style path)) 0 1 (omega arith) 0 count count
      (standing_none (λ (es : List Edge). IsPermutation es (drawn_of unit style path)) count small),
)

-- ---- one contour after another

-- the greater of two is the greatest of those before and the second
greater_pushed : (k l : ℕ) (ks : List ℕ) → IsGreatest k ks → IsGreatest (max k l) (ks ++ l ∷ [])
greater_pushed k l ks h = record {
  most =
      All-push (λ (x : ℕ). x ≤ max k l) ks l
      (All-weaker (λ (x : ℕ). x ≤ k) (λ (x : ℕ). x ≤ max k l) (λ x le. omega arith) ks h.most) (omega arith);
  reached =
      ⊎_elim (λ (o : pos l ≤ℤ pos k). above (omega (arith, ints, o))) (λ (o : pos k ≤ℤ pos l). below (omega (arith, ints, o)))
      (either_order (pos l) (pos k));
}
  where
    above : l ≤ k → (max k l ≡ 0) ⊎ Contains (ks ++ l ∷ []) (max k l)
    above le =
        let e : max k l ≡ k = omega arith in
        ⊎_elim (λ (z : k ≡ 0). inl (e ∙ z)) (λ (c : Contains ks k). inr (subst (Contains (ks ++ l ∷ [])) (sym e) (Contains-append_left ks (l ∷ []) k c))) h.reached

    below : k ≤ l → (max k l ≡ 0) ⊎ Contains (ks ++ l ∷ []) (max k l)
    below le = let e : max k l ≡ l = omega arith in inr (subst (Contains (ks ++ l ∷ [])) (sym e) (Contains-push ks l))

pub near_none : (unit : ℕ) (style : OutlineStyle) (all : List (List Point)) (count : SplitCount) → count.made < 2 ^ 64 → AreGivenCounted 0 unit style all [] [] count count
near_none unit style all count small = (([], none, adds_nothing unit []), standing_none (IsOutlineDrawing unit style all) count small)
  where
    none : GiveNear 0 unit style [] []
    none = record {
      told = [];
      each = tt;
      joined = refl;
      greatest = record { most = All-nil (λ (l : ℕ). l ≤ 0); reached = inl refl };
    }

pub near_more : (first own unit : ℕ) (style : OutlineStyle) (paths : List (List Point)) (i : ℕ) (mid new : List SignedEdge) (old between after : SplitCount) → i < length paths →
    AreGivenCounted first unit style paths (take i paths) mid old between → AddsGivenNear own unit style (get_or paths i []) mid new between after →
    AreGivenCounted (max first own) unit style paths (take (i + 1) paths) new old after
near_more first own unit style paths i mid new old between after l h k = ((before.0 ++ k.0, more, adds_more unit [] mid new before.0 k.0 before.2 k.3), counted)
  where
    before : AreGivenNear first unit style (take i paths) mid
    before = h.0

    one : ToldGive
    one = record { edges = k.0; nearness = own; splits = k.1 }

    more : GiveNear (max first own) unit style (take (i + 1) paths) (before.0 ++ k.0)
    more = record {
      told = before.1.told ++ one ∷ [];
      each =
          rw (take_more paths i [] l)
          (all_zipped_more (λ (contour : List Point) (t : ToldGive). GivesNear unit style contour t.edges t.nearness t.splits) (take i paths) before.1.told (get_or paths i []) one before.1.each k.2);
      joined =
          ap (λ (es : List Edge). es ++ k.0) before.1.joined ∙ ap (λ (es : List Edge). flat_map (λ (t : ToldGive). t.edges) before.1.told ++ es) (sym (append-nil k.0))
          ∙ sym (flat_map-append (λ (t : ToldGive). t.edges) before.1.told (one ∷ []));
      greatest =
          subst (IsGreatest (max first own)) (sym (map-append (λ (t : ToldGive). t.nearness) before.1.told (one ∷ [])))
          (greater_pushed first own (map (λ (t : ToldGive). t.nearness) before.1.told) before.1.greatest);
    }

    lists : length (take i paths) + 1 ≡ length (take (i + 1) paths)
    lists =
        let a = length-take i paths in
        let b = length-take (i + 1) paths in omega (arith, a, b, l)

    counted : CountsStanding (length (take (i + 1) paths)) (IsOutlineDrawing unit style paths) (first_splits (before.1.told ++ one ∷ [])) old after
    counted =
        subst (λ (n : ℕ). CountsStanding (length (take (i + 1) paths)) (IsOutlineDrawing unit style paths) n old after)
        (sym (sum_by_push (λ (t : ToldGive). t.splits) before.1.told one))
        (subst (λ (n : ℕ). CountsStanding n (IsOutlineDrawing unit style paths) (first_splits before.1.told + k.1) old after) lists
        (standing_more (IsOutlineDrawing unit style paths) (length (take i paths)) 1 (first_splits before.1.told) k.1 old between after h.1
        (standing_weaker (λ (es : List Edge). IsPermutation es (drawn_of unit style (get_or paths i []))) (IsOutlineDrawing unit style paths)
        (λ (es : List Edge) (same : IsPermutation es (drawn_of unit style (get_or paths i []))). IsOutlineDrawing.alone (Contains-get_or paths i [] l) same) 1 k.1 between after k.4)))

pub near_all : (first unit : ℕ) (style : OutlineStyle) (paths : List (List Point)) (i : ℕ) (ss : List SignedEdge) (old new : SplitCount) → length paths ≤ i →
    AreGivenCounted first unit style paths (take i paths) ss old new → AreGivenCounted first unit style paths paths ss old new
near_all first unit style paths i ss old new past h = subst (λ (ps : List (List Point)). AreGivenCounted first unit style paths ps ss old new) (take_all i paths past) h

-- the splits of one contour's own resolving were counted on
pub counts_contour : (unit : ℕ) (style : OutlineStyle) (paths : List (List Point)) (i : ℕ) (old between new : SplitCount) → i < length paths →
    CountsAttempts i (IsOutlineDrawing unit style paths) old between →
    CountsAttempts 1 (λ (es : List Edge). IsPermutation es (drawn_of unit style (get_or paths i []))) between new → CountsAttempts (i + 1) (IsOutlineDrawing unit style paths) old new
counts_contour unit style paths i old between new l before own =
    counts_more (IsOutlineDrawing unit style paths) i 1 old between new before
    (counts_weaker 1 (λ (es : List Edge). IsPermutation es (drawn_of unit style (get_or paths i []))) (IsOutlineDrawing unit style paths)
    (λ (es : List Edge) (same : IsPermutation es (drawn_of unit style (get_or paths i []))). IsOutlineDrawing.alone (Contains-get_or paths i [] l) same) between new own)

-- ---- what is resolved at last

module _ (first unit : ℕ) (style : OutlineStyle) (contours : List (List Point)) (ss held : List SignedEdge) (e : held ≡ ss) (h : AreGivenNear first unit style contours ss) where
  -- what contours give can be resolved
  pub near_resolvable : AreResolvable unit held
  near_resolvable = record {
    subject = rw e (given_subjects unit ss h.0 h.2);
    balanced = rw e (given_balanced unit ss h.0 h.2);
    safe = rw e (given_safe unit ss h.0 h.2);
  }

  held_edges : edges_of held ≡ proper_edges h.0
  held_edges = ap edges_of e ∙ given_edges unit ss h.0 h.2

  -- and the splits of that are counted on too
  pub counts_last : (old between new : SplitCount) → CountsAttempts (length contours) (IsOutlineDrawing unit style contours) old between →
      CountsSplits (edges_of held) between new → CountsAttempts (length contours + 1) (IsOutlineDrawing unit style contours) old new
  counts_last old between new before last =
      counts_more (IsOutlineDrawing unit style contours) (length contours) 1 old between new before
      (counts_of_one (IsOutlineDrawing unit style contours) (edges_of held) between new
      (subst (IsOutlineDrawing unit style contours) (sym held_edges) (IsOutlineDrawing.together (give_of unit style first contours h.0 h.1))) last)

-- the answer is the outline, exact beyond both distances, and the splits that stand are counted on
pub near_outline : (unit : ℕ) → 2 ^ 14 ≤ unit → (style : OutlineStyle) (first last : ℕ) (choices : Choices) (contours : List (List Point)) (ss held : List SignedEdge) (answer : List (List (List Point))) →
    (old between new : SplitCount) → held ≡ ss → AreGivenCounted first unit style contours contours ss old between →
    AreCountedRegions last (edges_of held) (filled Positive) choices answer between new → AreCountedOutlineRegions (first + last) unit style choices contours answer old new
near_outline unit least style first last choices contours ss held answer old between new e h standing =
    let given = h.0 in
    outline_beyond unit style least first last choices contours given.0 answer old between new given.1 h.1
    (subst (λ (es : List Edge). AreCountedRegions last es (filled Positive) choices answer between new) (ap edges_of e ∙ given_edges unit ss given.0 given.2) standing)
