-- Lemmas over points and lists: what comes of one contour, and what is resolved at last.
use Rattle.std.proofs.Common.{◌≡◌, ℕ, Bool, true, List, [], ◌∷◌, ◌++◌, map, length, get_or, ap, sym, ◌∙◌, arith}
use Rattle.std.specs.Prelude.{Some, None}
use Rattle.std.specs.List.{All}
use Rattle.std.specs.List.Sorted.{IsPermutation}
use Rattle.std.proofs.lemmas.List.{append-nil}
use Rattle.mesh_plane.specs.Plane.{Point}
use Rattle.mesh_num.specs.Segments.{SignedEdge, IsSubject, edges_of, segments_of}
use Rattle.mesh_shapes.specs.Contours.{double_area}
use Rattle.mesh_lattice.specs.FillRules.{filled}
use Rattle.mesh_lattice.specs.Reach.{ArePointsSafe}
use Rattle.mesh_below.specs.Answers.{AreOwnBoundary, IsSettled}
use Rattle.mesh_below.specs.Asked.{AreResolvable}
use Rattle.mesh_below.specs.Options.{plain}
use Rattle.mesh_shapes.specs.Resolution.{Choices, IsResolution}
use Rattle.mesh_lattice.specs.declared.fill.FillRule.{FillRule}
use Rattle.mesh_lattice.specs.declared.fill.FillRule.TheVariants.{Positive}
use Rattle.mesh_join.specs.Styles.{OffsetJoin, OutlineStyle, outer}
use Rattle.mesh_offset.specs.Built.{AddsClosed}
use Rattle.mesh_offset.proofs.ProperEdges.{proper_same}
use Rattle.mesh_offset.proofs.Resolving.{adds_answer, given_edges, given_subjects, given_balanced, given_safe}
use Rattle.mesh_outline.specs.Building.{style_for}
use Rattle.mesh_outline.specs.Kinds.{way_for}
use Rattle.mesh_outline.specs.Kinds.{contour_kind, kind_fill}
use Rattle.mesh_outline.specs.declared.kind.ContourKind.{ContourKind}
use Rattle.mesh_outline.specs.declared.kind.ContourKind.TheVariants.{Outer}
use Rattle.mesh_outline.specs.Outline.{outline_edges}
use Rattle.mesh_offset.specs.Adding.{in_sense, added, added_edges, answer_edges}
use Rattle.mesh_outline.specs.Private.Gathered.{IsResolvedAgain}
use Rattle.mesh_outline.specs.Private.Given.{AddsAnswer, AddsGiven, AreGiven, ComesAlone, IsResolvedTwice}
use Rattle.mesh_outline.specs.Resolved.{fill_for, IsAnswerAlone, Gives, IsOutline}

-- ---- one contour's answer

-- what the builder put into an empty vector has the form that the overlay asks
pub built_subject : (old built ss : List SignedEdge) → old ≡ [] → ss ≡ built → All IsSubject (added old built) → All IsSubject ss
built_subject old built ss e f h = rw f (rw e at h)

pub is_alone : (unit : ℕ) (style : OffsetJoin) (fill : FillRule) (path : List Point) (old built ss : List SignedEdge) (choices : Choices) (answer : List (List (List Point))) →
    old ≡ [] → ss ≡ built → choices ≡ plain → IsPermutation (added_edges old built) (outline_edges unit style path) →
    IsResolution (edges_of ss) (filled fill) choices answer → IsAnswerAlone unit style (filled fill) path answer
is_alone unit style fill path old built ss choices answer e f d same resolution = record {
  built = edges_of built;
  same = rw e at same;
  resolution = rw (f, d) at resolution;
}

-- with what the overlay says of it
pub comes_alone : (unit : ℕ) (style : OffsetJoin) (fill : FillRule) (path : List Point) (old built ss : List SignedEdge) (choices : Choices) (answer : List (List (List Point))) (settled own : Bool) →
    old ≡ [] → ss ≡ built → choices ≡ plain → IsPermutation (added_edges old built) (outline_edges unit style path) →
    IsResolution (edges_of ss) (filled fill) choices answer → ArePointsSafe unit answer → (settled ≡ true → IsSettled choices answer) →
    (own ≡ true → AreOwnBoundary (answer_edges answer)) → ComesAlone unit style fill path answer settled own
comes_alone unit style fill path old built ss choices answer settled own e f d same resolution safe is bounds = record {
  alone = is_alone unit style fill path old built ss choices answer e f d same resolution;
  safe = safe;
  is_settled = λ t. rw d at (is t);
  own_boundary = bounds;
}

-- what a contour gives that moves in this way
pub gives_moved : (unit : ℕ) (style : OutlineStyle) (kind : ContourKind) (way : OffsetJoin) (fill : FillRule) (path : List Point) (old new : List SignedEdge) →
    kind ≡ contour_kind path → way_for style kind ≡ Some way → fill ≡ kind_fill kind →
    AddsAnswer unit way fill path old new → AddsGiven unit style path old new
gives_moved unit style kind way fill path old new k moves e h =
    let own : fill ≡ fill_for (double_area path) = e ∙ ap kind_fill k in
    let here : style_for style (double_area path) ≡ Some way = sym (ap (way_for style) k) ∙ moves in
    let g : AddsAnswer unit way (fill_for (double_area path)) path old new = rw own at h in
    (in_sense (fill_for (double_area path)) (answer_edges g.0), Gives.moved here g.1, g.2)

-- a contour that does not move gives nothing
pub gives_nothing : (unit : ℕ) (style : OutlineStyle) (kind : ContourKind) (path : List Point) → kind ≡ contour_kind path → way_for style kind ≡ None → Gives unit style path []
gives_nothing unit style kind path k none = Gives.ignored (sym (ap (way_for style) k) ∙ none)

-- ---- what is resolved at last

-- what contours give can be resolved
pub resolvable : (unit : ℕ) (style : OutlineStyle) (contours : List (List Point)) (ss held : List SignedEdge) → held ≡ ss → AreGiven unit style contours ss → AreResolvable unit held
resolvable unit style contours ss held e h = record {
  subject = rw e (given_subjects unit ss h.0 h.2);
  balanced = rw e (given_balanced unit ss h.0 h.2);
  safe = rw e (given_safe unit ss h.0 h.2);
}

-- the answer is the outline of the contours
pub is_outline : (unit : ℕ) (style : OutlineStyle) (choices : Choices) (contours : List (List Point)) (ss : List SignedEdge) (answer : List (List (List Point))) →
    AreGiven unit style contours ss → IsResolution (edges_of ss) (filled Positive) choices answer →
    IsOutline unit style choices contours answer
is_outline unit style choices contours ss answer h resolution = record {
  given = h.0;
  give = h.1;
  resolution = rw (given_edges unit ss h.0 h.2) at resolution;
}

-- ---- shapes that are resolved once more

-- edges that are their own boundary need not be split again
pub again_arranged : (unit : ℕ) (choices : Choices) (shapes answer : List (List (List Point))) → AreOwnBoundary (answer_edges shapes) →
    IsResolution (answer_edges shapes) (filled Positive) choices answer → ArePointsSafe unit answer → IsResolvedAgain unit choices shapes answer
again_arranged unit choices shapes answer own resolution safe = record {
  resolution = rw (proper_same (answer_edges shapes) own.split.proper) resolution;
  safe = safe;
}

-- their edges as segments
pub closed_again : (unit : ℕ) (shapes : List (List (List Point))) (old ss : List SignedEdge) → old ≡ [] → ArePointsSafe unit shapes →
    ss ≡ old ++ segments_of (in_sense Positive (answer_edges shapes)) → AddsClosed unit [] ss (answer_edges shapes)
closed_again unit shapes old ss none safe added = rw none at (adds_answer unit Positive shapes old ss safe added)

module _ (unit : ℕ) (shapes : List (List (List Point))) (ss held : List SignedEdge) (e : held ≡ ss) (closed : AddsClosed unit [] ss (answer_edges shapes)) where
  pub again_resolvable : AreResolvable unit held
  again_resolvable = record {
    subject = rw e (given_subjects unit ss (answer_edges shapes) closed);
    balanced = rw e (given_balanced unit ss (answer_edges shapes) closed);
    safe = rw e (given_safe unit ss (answer_edges shapes) closed);
  }

  pub again_anew : (choices : Choices) (answer : List (List (List Point))) → IsResolution (edges_of held) (filled Positive) choices answer → ArePointsSafe unit answer →
      IsResolvedAgain unit choices shapes answer
  again_anew choices answer resolution stays = record {
    resolution = rw (given_edges unit ss (answer_edges shapes) closed) at (rw e at resolution);
    safe = stays;
  }

-- ---- one outer boundary

-- what is settled need not be resolved once more
pub twice_settled : (unit : ℕ) (way : OffsetJoin) (choices : Choices) (contour : List Point) (answer : List (List (List Point))) → choices ≡ plain →
    IsAnswerAlone unit way (filled Positive) contour answer → ArePointsSafe unit answer → IsSettled plain answer → IsResolvedTwice unit way choices contour answer
twice_settled unit way choices contour answer d alone safe settled = record {
  first = answer;
  alone = alone;
  resolution = rw (proper_same (answer_edges answer) settled.proper, d) settled.resolution;
  safe = safe;
}

pub twice_again : (unit : ℕ) (way : OffsetJoin) (choices : Choices) (contour : List Point) (first answer : List (List (List Point))) →
    IsAnswerAlone unit way (filled Positive) contour first → IsResolvedAgain unit choices first answer → IsResolvedTwice unit way choices contour answer
twice_again unit way choices contour first answer alone again = record {
  first = first;
  alone = alone;
  resolution = again.resolution;
  safe = again.safe;
}

-- what a contour gives that moves in this way and is filled in this sense
pub gives_answer : (unit : ℕ) (style : OutlineStyle) (way : OffsetJoin) (fill : FillRule) (path : List Point) (answer : List (List (List Point))) →
    fill ≡ fill_for (double_area path) → style_for style (double_area path) ≡ Some way → IsAnswerAlone unit way (filled fill) path answer →
    Gives unit style path (in_sense fill (answer_edges answer))
gives_answer unit style way fill path answer own here alone =
    let a : IsAnswerAlone unit way (filled (fill_for (double_area path))) path answer = rw own at alone in
    let g : Gives unit style path (in_sense (fill_for (double_area path)) (answer_edges answer)) = Gives.moved here a in
    rw own g

-- the way in which outer boundaries move
pub outer_way : (style : OutlineStyle) (way : OffsetJoin) → way ≡ outer style → way_for style Outer ≡ Some way
outer_way style way e = ap Some (sym e)

-- the outline of a source that is one outer boundary
pub single_outline : (unit : ℕ) (style : OutlineStyle) (way : OffsetJoin) (choices : Choices) (contours : List (List Point)) (path : List Point) (kinds : List ContourKind) (answer : List (List (List Point))) →
    kinds ≡ map contour_kind contours → kinds ≡ Outer ∷ [] → path ≡ get_or contours 0 [] → way ≡ outer style →
    IsResolvedTwice unit way choices path answer → IsOutline unit style choices contours answer
single_outline unit style way choices [] path kinds answer k single here w h = absurd (let e = ap length (sym k ∙ single) in omega (arith, e))
single_outline unit style way choices (c ∷ c' ∷ cs) path kinds answer k single here w h = absurd (let e = ap length (sym k ∙ single) in omega (arith, e))
single_outline unit style way choices (c ∷ []) path kinds answer k single here w h = record {
  given = answer_edges h.first;
  give = record {
    edges = answer_edges h.first ∷ [];
    each = (gives, tt);
    joined = sym (append-nil (answer_edges h.first));
  };
  resolution = h.resolution;
}
  where
    kind : contour_kind c ≡ Outer
    kind = ap (λ (ks : List ContourKind). get_or ks 0 Outer) (sym k ∙ single)

    gives : Gives unit style c (answer_edges h.first)
    gives =
        let alone : IsAnswerAlone unit way (filled Positive) c h.first = rw here at h.alone in
        gives_answer unit style way Positive c h.first (sym (ap kind_fill kind)) (ap (way_for style) kind ∙ ap Some (sym w)) alone
