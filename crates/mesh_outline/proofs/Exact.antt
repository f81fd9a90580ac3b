-- Lemmas over points and lists: where the edges that are drawn of all contours meet in whole points alone, no edge is bent on
-- the way to their outline.
use Rattle.std.proofs.Common.{◌≡◌, ◌⊎◌, inl, inr, ⊎_elim, ℕ, ◌≤◌, ◌<◌, ◌^◌, Bool, true, false, not, List, [], ◌∷◌, sym, ◌∙◌, subst}
use Rattle.std.specs.Prelude.{ℤ, pos, Some}
use Rattle.std.specs.Ordering.{int_eq}
use Rattle.std.specs.List.{AllZip, flat_map, list_any}
use Rattle.std.specs.List.Sorted.{IsPermutation}
use Rattle.std.proofs.lemmas.Bool.{both_ways, cases_Bool, false≢true, not-false, or_cases, or_left, or_parts, or_right}
use Rattle.std.proofs.lemmas.Bool.Decides.{Decides-int_eq}
use Rattle.mesh_plane.specs.Plane.{Point, Edge, turn}
use Rattle.mesh_plane.specs.Winding.{IsBalanced, same_point}
use Rattle.mesh_num.specs.Segments.{proper_edges}
use Rattle.mesh_lattice.specs.Clean.{IsClean, IsOn, IsProper, refined_edge}
use Rattle.mesh_lattice.specs.FillRules.{filled}
use Rattle.mesh_lattice.specs.Split.{after, back, occurs, same_ends, path}
use Rattle.mesh_lattice.specs.Splitting.{ComesFrom, Leads}
use Rattle.mesh_lattice.proofs.Boxes.{turn_start, turn_end}
use Rattle.mesh_lattice.proofs.Each.{proper_of}
use Rattle.mesh_lattice.proofs.Ends.{decides_ends}
use Rattle.mesh_lattice.proofs.Keys.{occurs_head}
use Rattle.mesh_lattice.proofs.SoundSplits.{legal_sound}
use Rattle.mesh_lattice.proofs.Splits.{occurs_append}
use Rattle.mesh_rounds.proofs.Paths.{comes_from, path_of_edge}
use Rattle.mesh_shapes.specs.Contours.{double_area}
use Rattle.mesh_shapes.specs.Resolution.{Choices}
use Rattle.mesh_below.specs.Laws.{AreRegions}
use Rattle.mesh_below.specs.Meeting.{AreOnOneLine, IsWhole, MeetInWholePoints}
use Rattle.mesh_below.specs.Options.{plain}
use Rattle.mesh_below.specs.Regions.{OutsideBent, is_bent}
use Rattle.mesh_below.proofs.Again.{answer_covered}
use Rattle.mesh_below.proofs.AnswerRegions.{resolved_split}
use Rattle.mesh_below.proofs.Covered.{IsCovered, IsCoveredAt, covered_back, covered_itself, covered_meet_whole}
use Rattle.mesh_below.proofs.EdgeParts.{line_through, on_whole_refined, three_on_line}
use Rattle.mesh_below.proofs.NoBend.{each_found}
use Rattle.mesh_join.specs.Styles.{OffsetJoin, OutlineStyle}
use Rattle.mesh_offset.specs.Adding.{answer_edges}
use Rattle.mesh_offset.specs.Regions.{WindsOnceWhere}
use Rattle.mesh_outline.specs.Building.{style_for}
use Rattle.mesh_outline.specs.Nearness.{all_drawn, drawn_of}
use Rattle.mesh_outline.specs.Outline.{outline_edges}
use Rattle.mesh_outline.specs.Regions.{AreOutlineRegions, AreRegionsAlone, AreRegionsEach, OutsideBentAlone, OutsideBentEach, more_fill}
use Rattle.mesh_outline.specs.Resolved.{Gives, Give, fill_for}
use Rattle.mesh_outline.proofs.Final.{alone_closed}
use Rattle.mesh_offset.proofs.Occurring.{kept, permuted, sensed}
use Rattle.mesh_outline.proofs.NearRegions.{drawn_moved}

-- ---- lines

-- both points lie on the line of an edge
abbrev OnLine : Edge → Edge → Type 0
OnLine g f = (turn g.0 g.1 f.0 ≡ pos 0) × (turn g.0 g.1 f.1 ≡ pos 0)

-- a path whose points lie on a line is made of edges of that line
leads_along : (g : Edge) (p : Point) (es : List Edge) (r : Point) → Leads p es r → turn g.0 g.1 p ≡ pos 0 →
    list_any (λ (f : Edge). not (int_eq (turn g.0 g.1 f.1) (pos 0))) es ≡ false → (f : Edge) → occurs f es ≡ true → OnLine g f
leads_along g p [] r leads start straight f o = absurd (false≢true o)
leads_along g p (d ∷ es) r leads start straight f o =
    ⊎_elim
    (λ (t : same_ends f d ≡ true).
    ⊎_elim (λ (x : f ≡ d). subst (OnLine g) (sym x) own) (λ (x : f ≡ back d). subst (OnLine g) (sym x) (own.1, own.0)) ((decides_ends f d).0 t))
    (λ (t : occurs f es ≡ true). leads_along g d.1 es r leads.1 own.1 parts.1 f t)
    (or_cases (same_ends f d) (occurs f es) o)
  where
    parts : (not (int_eq (turn g.0 g.1 d.1) (pos 0)) ≡ false) × (list_any (λ (f : Edge). not (int_eq (turn g.0 g.1 f.1) (pos 0))) es ≡ false)
    parts = or_parts (not (int_eq (turn g.0 g.1 d.1) (pos 0))) (list_any (λ (f : Edge). not (int_eq (turn g.0 g.1 f.1) (pos 0))) es) straight

    own : OnLine g d
    own = (
      subst (λ (z : Point). turn g.0 g.1 z ≡ pos 0) leads.0 start,
      (Decides-int_eq (turn g.0 g.1 d.1) (pos 0)).0 (not-false (int_eq (turn g.0 g.1 d.1) (pos 0)) parts.0),
    )

one_line_or_not : (k l : Edge) → AreOnOneLine k l ⊎ (AreOnOneLine k l → ⊥)
one_line_or_not k l =
    let start = Decides-int_eq (turn k.0 k.1 l.0) (pos 0) in
    let end = Decides-int_eq (turn k.0 k.1 l.1) (pos 0) in
    ⊎_elim
    (λ (s : int_eq (turn k.0 k.1 l.0) (pos 0) ≡ true).
    ⊎_elim
    (λ (t : int_eq (turn k.0 k.1 l.1) (pos 0) ≡ true). inl (start.0 s, end.0 t))
    (λ (t : int_eq (turn k.0 k.1 l.1) (pos 0) ≡ false). inr (λ (h : AreOnOneLine k l). false≢true (sym t ∙ end.1 h.1)))
    (cases_Bool (int_eq (turn k.0 k.1 l.1) (pos 0))))
    (λ (s : int_eq (turn k.0 k.1 l.0) (pos 0) ≡ false). inr (λ (h : AreOnOneLine k l). false≢true (sym s ∙ start.1 h.0)))
    (cases_Bool (int_eq (turn k.0 k.1 l.0) (pos 0)))

-- ---- edges that lie along others

-- a point of an edge, on the grid `m`, lies on one of some edges, which is of the same line
record LiesAt (es : List Edge) (k : Edge) (m : ℕ) (z : Point) : Type 0 where
  edge : Edge
  listed : occurs edge es ≡ true
  proper : edge.0 ≡ edge.1 → ⊥
  on : IsOn (refined_edge m edge) z
  line : AreOnOneLine k edge

-- each point of an edge whose ends differ does, or is whole
record LiesAlong (es : List Edge) (k : Edge) : Type 0 where
  proper : k.0 ≡ k.1 → ⊥
  points : (m : ℕ) → 0 < m → (z : Point) → IsOn (refined_edge m k) z → IsWhole m z ⊎ LiesAt es k m z

-- two edges that lie along others which meet in whole points alone meet so
along_meet : (es : List Edge) → MeetInWholePoints es → (k l : Edge) → LiesAlong es k → LiesAlong es l → (AreOnOneLine k l → ⊥) →
    (m : ℕ) → 0 < m → (z : Point) → IsOn (refined_edge m k) z → IsOn (refined_edge m l) z → IsWhole m z
along_meet es meet k l h j apart m some z on of =
    ⊎_elim (λ (w : IsWhole m z). w)
    (λ (a : LiesAt es k m z).
    ⊎_elim (λ (w : IsWhole m z). w)
    (λ (b : LiesAt es l m z).
    ⊎_elim
    (λ (line : AreOnOneLine a.edge b.edge). absurd (apart (one_line a b line)))
    (λ (parted : AreOnOneLine a.edge b.edge → ⊥). meet a.edge b.edge a.listed b.listed parted m some z a.on b.on)
    (one_line_or_not a.edge b.edge))
    (j.points m some z of))
    (h.points m some z on)
  where
    one_line : (a : LiesAt es k m z) (b : LiesAt es l m z) → AreOnOneLine a.edge b.edge → AreOnOneLine k l
    one_line a b line = (through l.0 (turn_start l.0 l.1), through l.1 (turn_end l.0 l.1))
      where
        through : (p : Point) → turn l.0 l.1 p ≡ pos 0 → turn k.0 k.1 p ≡ pos 0
        through p on =
            line_through k.0 k.1 b.edge.0 b.edge.1 p b.proper
            (line_through k.0 k.1 a.edge.0 a.edge.1 b.edge.0 a.proper a.line.0 a.line.1 line.0)
            (line_through k.0 k.1 a.edge.0 a.edge.1 b.edge.1 a.proper a.line.0 a.line.1 line.1)
            (three_on_line l.0 l.1 b.edge.0 b.edge.1 p j.proper b.line.0 b.line.1 on)

-- along more edges
along_more : (es ds : List Edge) (k : Edge) → ((e : Edge) → occurs e es ≡ true → occurs e ds ≡ true) → LiesAlong es k → LiesAlong ds k
along_more es ds k more h = record {
  proper = h.proper;
  points = λ (m : ℕ) (some : 0 < m) (z : Point) (on : IsOn (refined_edge m k) z).
      ⊎_elim (λ (w : IsWhole m z). inl w)
      (λ (a : LiesAt es k m z). inr (record { edge = a.edge; listed = more a.edge a.listed; proper = a.proper; on = a.on; line = a.line }))
      (h.points m some z on);
}

-- ---- an answer's edges lie along the given ones, where these meet in whole points alone

module _ (edges : List Edge) (fill : ℤ → Bool) (options : Choices) (answer : List (List (List Point))) (proper : IsProper edges) (balanced : IsBalanced edges)
    (meet : MeetInWholePoints edges) (made : AreRegions edges fill options answer) where
  -- a split segment is part of a given edge
  part : (s k : Edge) → occurs s (after made.resolution.splits edges) ≡ true → (s.0 ≡ s.1 → ⊥) → AreOnOneLine k s → (m : ℕ) → 0 < m → (z : Point) →
      IsOn (refined_edge m s) z → LiesAt edges k m z
  part s k o differ line m some z on = record {
    edge = g;
    listed = comes.is_given;
    proper = g_proper;
    on = on_whole_refined m some g s z differ (record { on_line = along.0; in_box = comes.start_in_box }, record { on_line = along.1; in_box = comes.end_in_box }) on;
    line = (
      line_through k.0 k.1 s.0 s.1 g.0 differ line.0 line.1 (three_on_line g.0 g.1 s.0 s.1 g.0 g_proper along.0 along.1 (turn_start g.0 g.1)),
      line_through k.0 k.1 s.0 s.1 g.1 differ line.0 line.1 (three_on_line g.0 g.1 s.0 s.1 g.1 g_proper along.0 along.1 (turn_end g.0 g.1)),
    );
  }
    where
      comes : ComesFrom edges made.resolution.splits s
      comes = comes_from made.resolution.splits (legal_sound edges made.resolution.splits made.resolution.legal) edges s o

      g : Edge
      g = comes.edge

      g_proper : g.0 ≡ g.1 → ⊥
      g_proper = proper_of edges proper g comes.is_given

      along : OnLine g s
      along =
          leads_along g g.0 (path made.resolution.splits g) g.1
          (path_of_edge made.resolution.splits (legal_sound edges made.resolution.splits made.resolution.legal) g).leads
          (turn_start g.0 g.1) (made.never_bent meet g comes.is_given) s comes.on_path

  answer_along : (k : Edge) → occurs k (answer_edges answer) ≡ true → LiesAlong edges k
  answer_along k o = record {
    proper = covered.proper;
    points = λ (m : ℕ) (some : 0 < m) (z : Point) (on : IsOn (refined_edge m k) z).
        let at : IsCoveredAt es k m z = covered.cover m some z on in
        ⊎_elim
        (λ (line : AreOnOneLine k at.segment). inr (part at.segment k at.stands (proper_of es whole at.segment at.stands) line m some z at.on))
        (λ (parted : AreOnOneLine k at.segment → ⊥).
        inl (covered_meet_whole es whole clean (k ∷ at.segment ∷ []) (covered, (covered_itself es whole at.segment at.stands, tt))
        k at.segment (occurs_head k (at.segment ∷ [])) (or_right (same_ends at.segment k) (occurs at.segment (at.segment ∷ [])) (occurs_head at.segment []))
        parted m some z on at.on))
        (one_line_or_not k at.segment);
  }
    where
      es : List Edge
      es = after made.resolution.splits edges

      whole : IsProper es
      whole = (resolved_split edges fill options answer proper balanced made.resolution).proper

      clean : IsClean es
      clean = made.resolution.clean

      covered : IsCovered es k
      covered =
          each_found (IsCovered es) (covered_back es) (answer_edges answer)
          (answer_covered edges fill options answer made.resolution (resolved_split edges fill options answer proper balanced made.resolution)) k o

-- ---- outlines

module _ (unit : ℕ) (least : 2 ^ 14 ≤ unit) (style : OutlineStyle) where
  -- the edges that a contour's own resolving is given are among those that are drawn of it
  built_drawn : (contour : List Point) (way : OffsetJoin) (built : List Edge) → style_for style (double_area contour) ≡ Some way →
      IsPermutation built (outline_edges unit way contour) → (e : Edge) → occurs e built ≡ true → occurs e (drawn_of unit style contour) ≡ true
  built_drawn contour way built moves same e o =
      subst (λ (gs : List Edge). occurs e gs ≡ true) (drawn_moved unit style contour way moves) (permuted built (outline_edges unit way contour) same e o)

  module _ (ds : List Edge) (meet : MeetInWholePoints ds) where
    -- no edge of a contour's own resolving is bent
    unbent_alone : (contour : List Point) (es : List Edge) → (gives : Gives unit style contour es) → AreRegionsAlone unit style contour es gives →
        ((e : Edge) → occurs e (drawn_of unit style contour) ≡ true → occurs e ds ≡ true) → (m : ℕ) (q : Point) → OutsideBentAlone unit style contour es gives m q
    unbent_alone contour _ (Gives.moved {way = way} moves alone) made more m q = λ (e : Edge) (o : occurs e alone.built ≡ true) bent inside.
        both_ways (is_bent alone.resolution.splits e)
        (subst (λ r. is_bent r.splits e ≡ false) made.1
        (made.0.never_bent
        (λ (f g : Edge) (x : occurs f alone.built ≡ true) (y : occurs g alone.built ≡ true).
        meet f g (more f (built_drawn contour way alone.built moves alone.same f x)) (more g (built_drawn contour way alone.built moves alone.same g y)))
        e o))
        bent
    unbent_alone contour _ (Gives.ignored none) made more m q = tt

    unbent_each : (contours : List (List Point)) (edges : List (List Edge)) → (each : AllZip (Gives unit style) contours edges) →
        AreRegionsEach unit style contours edges each → ((e : Edge) → occurs e (all_drawn unit style contours) ≡ true → occurs e ds ≡ true) →
        (m : ℕ) (q : Point) → OutsideBentEach unit style contours edges each m q
    unbent_each [] edges each made more m q = tt
    unbent_each (contour ∷ contours) [] each made more m q = tt
    unbent_each (contour ∷ contours) (es ∷ edges) each made more m q = (
      unbent_alone contour es each.0 made.0
          (λ (e : Edge) (o : occurs e (drawn_of unit style contour) ≡ true).
          more e (occurs_append e (drawn_of unit style contour) (all_drawn unit style contours) ∙ or_left _ _ o)) m q,
      unbent_each contours edges each.1 made.1
          (λ (e : Edge) (o : occurs e (all_drawn unit style contours) ≡ true).
          more e (occurs_append e (drawn_of unit style contour) (all_drawn unit style contours) ∙ or_right _ _ o)) m q,
    )

    -- what a contour gives lies along what is drawn
    gives_along : (contour : List Point) (es : List Edge) → (gives : Gives unit style contour es) → AreRegionsAlone unit style contour es gives →
        ((e : Edge) → occurs e (drawn_of unit style contour) ≡ true → occurs e ds ≡ true) → (k : Edge) → occurs k es ≡ true → LiesAlong ds k
    gives_along contour _ (Gives.moved {way = way} {answer = answer} moves alone) made more k o =
        let closed = alone_closed unit way (fill_for (double_area contour)) contour answer least alone in
        along_more alone.built ds k (λ (e : Edge) (x : occurs e alone.built ≡ true). more e (built_drawn contour way alone.built moves alone.same e x))
        (answer_along alone.built (filled (fill_for (double_area contour))) plain answer closed.0 closed.1
        (λ (f g : Edge) (x : occurs f alone.built ≡ true) (y : occurs g alone.built ≡ true).
        meet f g (more f (built_drawn contour way alone.built moves alone.same f x)) (more g (built_drawn contour way alone.built moves alone.same g y)))
        made.0 k (sensed (fill_for (double_area contour)) (answer_edges answer) k o))
    gives_along contour _ (Gives.ignored none) made more k o = absurd (false≢true o)

    give_along : (contours : List (List Point)) (edges : List (List Edge)) → (each : AllZip (Gives unit style) contours edges) →
        AreRegionsEach unit style contours edges each → ((e : Edge) → occurs e (all_drawn unit style contours) ≡ true → occurs e ds ≡ true) →
        (k : Edge) → occurs k (flat_map (λ (es : List Edge). es) edges) ≡ true → LiesAlong ds k
    give_along [] [] each made more k o = absurd (false≢true o)
    give_along [] (es ∷ edges) each made more k o = absurd each
    give_along (contour ∷ contours) [] each made more k o = absurd each
    give_along (contour ∷ contours) (es ∷ edges) each made more k o =
        ⊎_elim
        (λ (here : occurs k es ≡ true).
        gives_along contour es each.0 made.0
        (λ (e : Edge) (x : occurs e (drawn_of unit style contour) ≡ true).
        more e (occurs_append e (drawn_of unit style contour) (all_drawn unit style contours) ∙ or_left _ _ x)) k here)
        (λ (there : occurs k (flat_map (λ (es : List Edge). es) edges) ≡ true).
        give_along contours edges each.1 made.1
        (λ (e : Edge) (x : occurs e (all_drawn unit style contours) ≡ true).
        more e (occurs_append e (drawn_of unit style contour) (all_drawn unit style contours) ∙ or_right _ _ x)) k there)
        (or_cases (occurs k es) (occurs k (flat_map (λ (es : List Edge). es) edges))
        (sym (occurs_append k es (flat_map (λ (es : List Edge). es) edges)) ∙ o))

-- the outline of contours winds at each point as they fill and clear it
pub exact_outline : (unit : ℕ) → 2 ^ 14 ≤ unit → (style : OutlineStyle) (choices : Choices) (contours : List (List Point)) (answer : List (List (List Point))) →
    AreOutlineRegions unit style choices contours answer → MeetInWholePoints (all_drawn unit style contours) →
    WindsOnceWhere (more_fill unit style contours) (λ m q. Unit {0}) choices answer
exact_outline unit least style choices contours answer made meet small forward m some q anywhere =
    made.fills small forward m some q
    (unbent_each unit least style ds meet contours give.edges give.each made.alone (λ (e : Edge) (o : occurs e ds ≡ true). o) m q, unbent)
  where
    ds : List Edge
    ds = all_drawn unit style contours

    give : Give unit style contours made.outline.given
    give = made.outline.give

    along : (k : Edge) → occurs k (proper_edges made.outline.given) ≡ true → LiesAlong ds k
    along k o =
        give_along unit least style ds meet contours give.edges give.each made.alone (λ (e : Edge) (o : occurs e ds ≡ true). o) k
        (subst (λ (es : List Edge). occurs k es ≡ true) give.joined (kept (λ (e : Edge). not (same_point e.0 e.1)) made.outline.given k o))

    unbent : OutsideBent made.regions.resolution.splits (proper_edges made.outline.given) m q
    unbent e o bent inside =
        both_ways (is_bent made.regions.resolution.splits e)
        (made.regions.never_bent (λ (k l : Edge) (x : occurs k (proper_edges made.outline.given) ≡ true) (y : occurs l (proper_edges made.outline.given) ≡ true). along_meet ds meet k l (along k x) (along l y)) e o)
        bent
