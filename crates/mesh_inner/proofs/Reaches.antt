-- Lemmas over numbers and lists: the reach of a whole stroke is the least of those of its sections, joins and caps.
use Rattle.std.proofs.Common.{◌≡◌, ℕ, ◌<◌, List, [], ◌∷◌, ◌++◌, Bool, true, false, refl, sym, ◌∙◌, ap, subst, take, get_or, length, arith}
use Rattle.std.specs.Prelude.{ℤ, pos, ◌≤ℤ◌}
use Rattle.std.specs.List.{All}
use Rattle.std.proofs.lemmas.List.Elements.{All-head, All-tail}
use Rattle.mesh_plane.specs.Plane.{Edge}
use Rattle.mesh_plane.specs.Turning.{last_of}
use Rattle.mesh_plane.specs.Winding.{pairs_from}
use Rattle.mesh_num.specs.Rectangle.{IsSafeWidened}
use Rattle.mesh_num.specs.Segments.{proper_edges}
use Rattle.mesh_lattice.specs.Split.{back}
use Rattle.mesh_offset.proofs.Padding.{safe_within_less}
use Rattle.mesh_join.specs.Styles.{JoinStyle}
use Rattle.mesh_join.specs.declared.style.StrokeSide.{StrokeSide}
use Rattle.mesh_join.specs.declared.style.StrokeSide.TheVariants.{Both}
use Rattle.mesh_stroke.specs.Caps.{cap_padding, drawn_cap}
use Rattle.mesh_stroke.specs.Paths.{neighbours}
use Rattle.mesh_stroke.specs.Strokes.{EdgePair, facing, outer_edges}
use Rattle.mesh_stroke.specs.Styles.{StrokeStyle, stroke_padding}
use Rattle.mesh_stroke.proofs.BuilderWalk.{IsFit}
use Rattle.mesh_stroke.proofs.Reach.{cap_padding_least, start_covered, end_covered}
use Rattle.mesh_inner.specs.Inner.{IsSectionWide, HasJoinRoom, HasCapRoom, HaveEndsRoom, HasInnerReach}
use Rattle.mesh_inner.specs.Private.Walks.{AreStrokable, IsFitCorner, IsFitEdge, IsLimit}
use Rattle.mesh_inner.specs.Room.{FansHaveRoom}
use Rattle.mesh_inner.proofs.Joints.{fit_back}
use Rattle.mesh_inner.proofs.Limits.{limit_none, limit_push}
use Rattle.mesh_inner.proofs.Walks.{all_along, fit_corners, fit_edges, fits, last_all, last_pair, pair_at, pairs_are, pairs_grown, round_is}

pub none_of_length : {A : Type 0} (xs : List A) → length xs ≡ 0 → xs ≡ []
none_of_length [] h = refl
none_of_length (x ∷ xs) h = absurd (omega (arith, h))

module _ (unit : ℕ) (style : StrokeStyle) where
  -- ---- joins

  -- the walk's corner is fit for a join
  given_fits : (radius : ℤ) (join : JoinStyle) (before middle after : Edge) → radius ≡ style.radius → join ≡ style.join → before ≡ middle
      → IsFitCorner unit style.radius style.join (middle, after) → IsFitCorner unit radius join (before, after)
  given_fits radius join before middle after er ej eb h =
      subst (λ (r : ℤ). IsFitCorner unit r join (before, after)) (sym er)
      (subst (λ (j : JoinStyle). IsFitCorner unit style.radius j (before, after)) (sym ej)
      (subst (λ (b : Edge). IsFitCorner unit style.radius style.join (b, after)) (sym eb) h))

  pub corner_fits : (closed : Bool) (es : List Edge) (first : Edge) (others : List Edge) (radius : ℤ) (join : JoinStyle) (before after : Edge) (i : ℕ)
      → AreStrokable unit style closed es → es ≡ first ∷ others → radius ≡ style.radius → pos 0 ≤ℤ radius → join ≡ style.join
      → before ≡ last_of first (take i others) → i < length others → after ≡ get_or others i after → IsFitCorner unit radius join (before, after)
  corner_fits closed es first others radius join before after i h whole er sign ej at low is =
      given_fits radius join before (last_of first (take i others)) after er ej at
      (pair_at (IsFitCorner unit style.radius style.join) first others i after low is
      (all_along (IsFitCorner unit style.radius style.join) closed first others
      (fit_corners unit style (subst (λ (z : ℤ). pos 0 ≤ℤ z) er sign) closed (first ∷ others) (subst (AreStrokable unit style closed) whole h))))

  pub closing_fits : (closed : Bool) (es : List Edge) (first : Edge) (others walked : List Edge) (radius : ℤ) (join : JoinStyle) (before : Edge)
      → AreStrokable unit style closed es → es ≡ first ∷ others → closed ≡ true → radius ≡ style.radius → pos 0 ≤ℤ radius → join ≡ style.join
      → before ≡ last_of first walked → walked ≡ others → IsFitCorner unit radius join (before, first)
  closing_fits closed es first others walked radius join before h whole is_closed er sign ej at all =
      given_fits radius join before (last_of first others) first er ej (at ∙ ap (last_of first) all)
      (last_pair (IsFitCorner unit style.radius style.join) first others
      (fit_corners unit style (subst (λ (z : ℤ). pos 0 ≤ℤ z) er sign) true (first ∷ others)
      (subst (λ (b : Bool). AreStrokable unit style b (first ∷ others)) is_closed (subst (AreStrokable unit style closed) whole h))))

  -- its room, as the code says it
  abbrev pub JoinAt : ℤ → JoinStyle → ℕ → EdgePair → Type 0
  JoinAt radius join t c = FansHaveRoom t (facing c).0.1 (proper_edges (outer_edges unit radius join (facing c)))

  own_join : (radius : ℤ) (join : JoinStyle) (least result : ℤ) (c : EdgePair) → radius ≡ style.radius → join ≡ style.join
      → IsLimit result (λ t. (pos t ≤ℤ least) × JoinAt radius join t c) → IsLimit result (λ t. (pos t ≤ℤ least) × HasJoinRoom unit style t c)
  own_join radius join least result c er ej h =
      subst (λ (j : JoinStyle). IsLimit result (λ t. (pos t ≤ℤ least) × JoinAt style.radius j t c)) ej
      (subst (λ (r : ℤ). IsLimit result (λ t. (pos t ≤ℤ least) × JoinAt r join t c)) er h)

  pub joins_none : (limit : ℤ) (closed : Bool) (es : List Edge) → es ≡ [] → IsLimit limit (λ t. (pos t ≤ℤ limit) × All (HasJoinRoom unit style t) (neighbours closed es))
  joins_none limit closed es none =
      subst (λ (l : List Edge). IsLimit limit (λ t. (pos t ≤ℤ limit) × All (HasJoinRoom unit style t) (neighbours closed l))) (sym none) (by closed)
    where
      by : (b : Bool) → IsLimit limit (λ t. (pos t ≤ℤ limit) × All (HasJoinRoom unit style t) (neighbours b []))
      by true = limit_none (HasJoinRoom unit style) limit
      by false = limit_none (HasJoinRoom unit style) limit

  pub joins_pushed : (limit least result radius : ℤ) (join : JoinStyle) (first : Edge) (xs ys : List Edge) (before after : Edge)
      → radius ≡ style.radius → join ≡ style.join → before ≡ last_of first xs → ys ≡ xs ++ after ∷ []
      → IsLimit least (λ t. (pos t ≤ℤ limit) × All (HasJoinRoom unit style t) (pairs_from first xs))
      → IsLimit result (λ t. (pos t ≤ℤ least) × JoinAt radius join t (before, after))
      → IsLimit result (λ t. (pos t ≤ℤ limit) × All (HasJoinRoom unit style t) (pairs_from first ys))
  joins_pushed limit least result radius join first xs ys before after er ej at more so_far own =
      limit_push (HasJoinRoom unit style) (λ t. pos t ≤ℤ limit) least result (pairs_from first xs) (pairs_from first ys) (before, after)
      (pairs_grown first before xs ys after more at) so_far (own_join radius join least result (before, after) er ej own)

  pub joins_closed : (limit least result radius : ℤ) (join : JoinStyle) (closed : Bool) (es : List Edge) (first : Edge) (others walked : List Edge) (before : Edge)
      → es ≡ first ∷ others → closed ≡ true → radius ≡ style.radius → join ≡ style.join → before ≡ last_of first walked → walked ≡ others
      → IsLimit least (λ t. (pos t ≤ℤ limit) × All (HasJoinRoom unit style t) (pairs_from first walked))
      → IsLimit result (λ t. (pos t ≤ℤ least) × JoinAt radius join t (before, first))
      → IsLimit result (λ t. (pos t ≤ℤ limit) × All (HasJoinRoom unit style t) (neighbours closed es))
  joins_closed limit least result radius join closed es first others walked before whole is_closed er ej at all so_far own =
      subst (λ (b : Bool). IsLimit result (λ t. (pos t ≤ℤ limit) × All (HasJoinRoom unit style t) (neighbours b es))) (sym is_closed)
      (subst (λ (l : List Edge). IsLimit result (λ t. (pos t ≤ℤ limit) × All (HasJoinRoom unit style t) (neighbours true l))) (sym whole)
      (limit_push (HasJoinRoom unit style) (λ t. pos t ≤ℤ limit) least result (pairs_from first walked) (neighbours true (first ∷ others)) (before, first)
      round so_far (own_join radius join least result (before, first) er ej own)))
    where
      round : neighbours true (first ∷ others) ≡ pairs_from first walked ++ (before, first) ∷ []
      round =
          round_is first others ∙ ap (λ (l : List Edge). pairs_from first l ++ (last_of first l, first) ∷ []) (sym all)
          ∙ ap (λ (b : Edge). pairs_from first walked ++ (b, first) ∷ []) (sym at)

  pub joins_open : (limit least : ℤ) (closed : Bool) (es : List Edge) (first : Edge) (others walked : List Edge)
      → es ≡ first ∷ others → closed ≡ false → walked ≡ others
      → IsLimit least (λ t. (pos t ≤ℤ limit) × All (HasJoinRoom unit style t) (pairs_from first walked))
      → IsLimit least (λ t. (pos t ≤ℤ limit) × All (HasJoinRoom unit style t) (neighbours closed es))
  joins_open limit least closed es first others walked whole is_open all so_far =
      subst (λ (b : Bool). IsLimit least (λ t. (pos t ≤ℤ limit) × All (HasJoinRoom unit style t) (neighbours b es))) (sym is_open)
      (subst (λ (l : List Edge). IsLimit least (λ t. (pos t ≤ℤ limit) × All (HasJoinRoom unit style t) (neighbours false l))) (sym whole)
      (subst (λ (l : List EdgePair). IsLimit least (λ t. (pos t ≤ℤ limit) × All (HasJoinRoom unit style t) l))
      (ap (pairs_from first) all ∙ sym (pairs_are first others)) so_far))

  -- ---- sections

  pub first_fits : (closed : Bool) (es : List Edge) (first : Edge) (others : List Edge) (radius : ℤ) → AreStrokable unit style closed es → es ≡ first ∷ others
      → radius ≡ style.radius → IsFitEdge unit radius first
  first_fits closed es first others radius h whole er =
      subst (λ (r : ℤ). IsFitEdge unit r first) (sym er)
      (All-head (IsFitEdge unit style.radius) first others (fit_edges unit style closed (first ∷ others) (subst (AreStrokable unit style closed) whole h)))

  pub others_fit : (closed : Bool) (es : List Edge) (first : Edge) (others : List Edge) (radius : ℤ) → AreStrokable unit style closed es → es ≡ first ∷ others
      → radius ≡ style.radius → All (IsFitEdge unit radius) others
  others_fit closed es first others radius h whole er =
      subst (λ (r : ℤ). All (IsFitEdge unit r) others) (sym er)
      (All-tail (IsFitEdge unit style.radius) first others (fit_edges unit style closed (first ∷ others) (subst (AreStrokable unit style closed) whole h)))

  pub sections_all : (es : List Edge) (first : Edge) (others : List Edge) (radius sections : ℤ) → es ≡ first ∷ others → radius ≡ style.radius
      → IsLimit sections (λ t. All (IsSectionWide unit radius t) (first ∷ others)) → IsLimit sections (λ t. All (IsSectionWide unit style.radius t) es)
  sections_all es first others radius sections whole er h =
      subst (λ (l : List Edge). IsLimit sections (λ t. All (IsSectionWide unit style.radius t) l)) (sym whole)
      (subst (λ (r : ℤ). IsLimit sections (λ t. All (IsSectionWide unit r t) (first ∷ others))) er h)

  -- ---- caps

  pub start_fits : (closed : Bool) (es : List Edge) (first : Edge) (others : List Edge) (radius : ℤ) → AreStrokable unit style closed es → es ≡ first ∷ others
      → radius ≡ style.radius → IsFitEdge unit radius (back first)
  start_fits closed es first others radius h whole er =
      subst (λ (r : ℤ). IsFitEdge unit r (back first)) (sym er)
      (fit_back unit style.radius first
      (All-head (IsFitEdge unit style.radius) first others (fit_edges unit style closed (first ∷ others) (subst (AreStrokable unit style closed) whole h))))

  pub end_fits : (closed : Bool) (es : List Edge) (first : Edge) (others walked : List Edge) (last : Edge) (radius : ℤ) → AreStrokable unit style closed es → es ≡ first ∷ others
      → last ≡ last_of first walked → walked ≡ others → radius ≡ style.radius → IsFitEdge unit radius last
  end_fits closed es first others walked last radius h whole at all er =
      subst (λ (r : ℤ). IsFitEdge unit r last) (sym er)
      (subst (IsFitEdge unit style.radius) (sym (at ∙ ap (last_of first) all))
      (last_all (IsFitEdge unit style.radius) first others (fit_edges unit style closed (first ∷ others) (subst (AreStrokable unit style closed) whole h))))

  pub start_safe : (closed : Bool) (es : List Edge) (first : Edge) (others : List Edge) (radius : ℤ) → AreStrokable unit style closed es → es ≡ first ∷ others
      → style.side ≡ Both → radius ≡ style.radius → IsSafeWidened unit (cap_padding style.start radius) first.0
  start_safe closed es first others radius h whole both er =
      subst (λ (r : ℤ). IsSafeWidened unit (cap_padding style.start r) first.0) (sym er)
      (subst (λ (s : StrokeSide). IsSafeWidened unit (cap_padding (drawn_cap s style.start) style.radius) first.0) both
      (safe_within_less unit (stroke_padding style) (cap_padding (drawn_cap style.side style.start) style.radius) first.0
      (cap_padding_least (drawn_cap style.side style.start) style.radius) (start_covered style)
      (All-head (IsFit unit style) first others (fits unit style closed (first ∷ others) (subst (AreStrokable unit style closed) whole h))).safe_a))

  pub end_safe : (closed : Bool) (es : List Edge) (first : Edge) (others walked : List Edge) (last : Edge) (radius : ℤ) → AreStrokable unit style closed es → es ≡ first ∷ others
      → last ≡ last_of first walked → walked ≡ others → style.side ≡ Both → radius ≡ style.radius → IsSafeWidened unit (cap_padding style.end radius) last.1
  end_safe closed es first others walked last radius h whole at all both er =
      subst (λ (r : ℤ). IsSafeWidened unit (cap_padding style.end r) last.1) (sym er)
      (subst (λ (e : Edge). IsSafeWidened unit (cap_padding style.end style.radius) e.1) (sym (at ∙ ap (last_of first) all))
      (subst (λ (s : StrokeSide). IsSafeWidened unit (cap_padding (drawn_cap s style.end) style.radius) (last_of first others).1) both
      (safe_within_less unit (stroke_padding style) (cap_padding (drawn_cap style.side style.end) style.radius) (last_of first others).1
      (cap_padding_least (drawn_cap style.side style.end) style.radius) (end_covered style)
      (last_all (IsFit unit style) first others (fits unit style closed (first ∷ others) (subst (AreStrokable unit style closed) whole h))).safe_b)))

  -- a closed path has no ends, nor has one with no edge
  pub ends_closed : (limit : ℤ) (closed : Bool) (es : List Edge) → closed ≡ true → IsLimit limit (λ t. (pos t ≤ℤ limit) × HaveEndsRoom unit style closed t es)
  unfolding HaveEndsRoom
  ends_closed limit closed es is_closed =
      subst (λ (b : Bool). IsLimit limit (λ t. (pos t ≤ℤ limit) × HaveEndsRoom unit style b t es)) (sym is_closed) (λ t. (λ h. (h, tt), λ h. h.0))

  pub ends_none : (limit : ℤ) (closed : Bool) (es : List Edge) → closed ≡ false → es ≡ [] → IsLimit limit (λ t. (pos t ≤ℤ limit) × HaveEndsRoom unit style closed t es)
  unfolding HaveEndsRoom
  ends_none limit closed es is_open none =
      subst (λ (b : Bool). IsLimit limit (λ t. (pos t ≤ℤ limit) × HaveEndsRoom unit style b t es)) (sym is_open)
      (subst (λ (l : List Edge). IsLimit limit (λ t. (pos t ≤ℤ limit) × HaveEndsRoom unit style false t l)) (sym none) (λ t. (λ h. (h, tt), λ h. h.0)))

  -- the room of both
  pub ends_both : (limit start result radius : ℤ) (closed : Bool) (es : List Edge) (first : Edge) (others walked : List Edge) (begin last : Edge)
      → es ≡ first ∷ others → closed ≡ false → begin ≡ back first → last ≡ last_of first walked → walked ≡ others → radius ≡ style.radius
      → IsLimit start (λ t. (pos t ≤ℤ limit) × HasCapRoom unit radius t style.start begin)
      → IsLimit result (λ t. (pos t ≤ℤ start) × HasCapRoom unit radius t style.end last)
      → IsLimit result (λ t. (pos t ≤ℤ limit) × HaveEndsRoom unit style closed t es)
  unfolding HaveEndsRoom
  ends_both limit start result radius closed es first others walked begin last whole is_open eb at all er h k =
      subst (λ (b : Bool). IsLimit result (λ t. (pos t ≤ℤ limit) × HaveEndsRoom unit style b t es)) (sym is_open)
      (subst (λ (l : List Edge). IsLimit result (λ t. (pos t ≤ℤ limit) × HaveEndsRoom unit style false t l)) (sym whole) both)
    where
      h' : IsLimit start (λ t. (pos t ≤ℤ limit) × HasCapRoom unit style.radius t style.start (back first))
      h' =
          subst (λ (e : Edge). IsLimit start (λ t. (pos t ≤ℤ limit) × HasCapRoom unit style.radius t style.start e)) eb
          (subst (λ (r : ℤ). IsLimit start (λ t. (pos t ≤ℤ limit) × HasCapRoom unit r t style.start begin)) er h)

      k' : IsLimit result (λ t. (pos t ≤ℤ start) × HasCapRoom unit style.radius t style.end (last_of first others))
      k' =
          subst (λ (e : Edge). IsLimit result (λ t. (pos t ≤ℤ start) × HasCapRoom unit style.radius t style.end e)) (at ∙ ap (last_of first) all)
          (subst (λ (r : ℤ). IsLimit result (λ t. (pos t ≤ℤ start) × HasCapRoom unit r t style.end last)) er k)

      both : IsLimit result (λ t. (pos t ≤ℤ limit) × HaveEndsRoom unit style false t (first ∷ others))
      both t = (
        λ at'. let b = (k' t).0 at' in let a = (h' t).0 b.0 in (a.0, (a.1, b.1)),
        λ r. (k' t).1 ((h' t).1 (r.0, r.1.0), r.1.1),
      )

  -- ---- together

  pub reach_limit : (closed : Bool) (es : List Edge) (sections joins all : ℤ)
      → IsLimit sections (λ t. All (IsSectionWide unit style.radius t) es)
      → IsLimit joins (λ t. (pos t ≤ℤ sections) × All (HasJoinRoom unit style t) (neighbours closed es))
      → IsLimit all (λ t. (pos t ≤ℤ joins) × HaveEndsRoom unit style closed t es)
      → IsLimit all (λ t. HasInnerReach unit style closed t es)
  reach_limit closed es sections joins all s j e t = (
    λ at.
        let ends = (e t).0 at in
        let corners = (j t).0 ends.0 in
        record { sections = (s t).0 corners.0; joins = corners.1; ends = ends.1 },
    λ r. (e t).1 ((j t).1 ((s t).1 r.sections, r.joins), r.ends),
  )
