-- Lemmas over points and lists: the left and the right half of a stroke make the whole with butt caps.
use Rattle.std.proofs.Common.{◌≡◌, ◌≢◌, ℕ, ◌<◌, ◌≤◌, ◌^◌, List, [], ◌∷◌, sym, ◌∙◌, ap, arith, get_or}
use Rattle.std.specs.Prelude.{ℤ, pos, ◌+ℤ◌, Bool, true, false, cond, int_le}
use Rattle.std.specs.List.{All}
use Rattle.std.specs.List.Sorted.{IsPermutation}
use Rattle.std.proofs.lemmas.List.Elements.{All-head}
use Rattle.mesh_plane.specs.Plane.{Point, Edge}
use Rattle.mesh_plane.specs.Turning.{last_of}
use Rattle.mesh_plane.specs.Winding.{total, crossing_on, winding, IsOdd, IsStraight}
use Rattle.mesh_plane.proofs.Crossings.{crossing_on_odd}
use Rattle.mesh_plane.proofs.Sums.{sum_of_add, sum_of_same, total_append, total_permutation}
use Rattle.mesh_plane.proofs.Triangles.{crossing_on_straight}
use Rattle.mesh_plane.proofs.Whole.{linear}
use Rattle.mesh_join.specs.Styles.{JoinStyle}
use Rattle.mesh_join.specs.declared.style.StrokeSide.{StrokeSide}
use Rattle.mesh_join.specs.declared.style.StrokeSide.TheVariants.{Both, Left, Right}
use Rattle.mesh_stroke.specs.Caps.{CapKind}
use Rattle.mesh_stroke.specs.Halves.{half_style, whole_style, HalvesAddUp, HalvesMakeTheWhole, MakeTheWhole}
use Rattle.mesh_stroke.specs.Paths.{neighbours, path_edges}
use Rattle.mesh_stroke.specs.Styles.{StrokeStyle}
use Rattle.mesh_stroke.specs.Strokes.{EdgePair, right_of, left_of, side_edges, turns_right, facing, inner_edges}
use Rattle.mesh_stroke.specs.Strokes.{outer_edges, corner_edges, open_ends, drawn_edges, stroke_edges}
use Rattle.mesh_stroke.proofs.Chains.{IsChain, path_chain}
use Rattle.mesh_stroke.proofs.Reversal.{sides_of, corner_of, caps_of, parts}
use Rattle.mesh_stroke.proofs.StrokeSum.{across_back, halves_across}

module _ (f : Point → Point → ℤ) (odd : IsOdd f) (straight : IsStraight f) (unit : ℕ) (some : 0 < unit) where
  -- along an edge the halves draw both sides, and between them the path once each way
  sides_add : (radius : ℤ) (e : Edge)
      → total f (side_edges unit radius Left e) +ℤ total f (side_edges unit radius Right e)
      ≡ total f (side_edges unit radius Both e)
  sides_add radius e = omega (arith, linear, odd e.0 e.1)

  -- at a corner they draw what the whole draws, one of them the join and the other the edges through the vertex
  corner_adds : (radius : ℤ) (join : JoinStyle) (c : EdgePair)
      → total f (corner_edges unit radius Left join c) +ℤ total f (corner_edges unit radius Right join c)
      ≡ total f (corner_edges unit radius Both join c)
  corner_adds radius join c = by (turns_right c)
    where
      inner : List Edge
      inner = inner_edges unit radius (facing c)

      outer : List Edge
      outer = outer_edges unit radius join (facing c)

      by : (b : Bool) → total f (cond b outer inner) +ℤ total f (cond b inner outer)
          ≡ total f (corner_edges unit radius Both join c)
      by true = omega (arith, linear, total_append f inner outer)
      by false = omega (arith, linear, total_append f inner outer)

  -- and at the ends of an open path each of them one half of a butt cap
  ends_add : (radius : ℤ) (start end : CapKind) (first last : Edge) → first.0 ≢ first.1
      → total f (open_ends unit radius Left start end first last) +ℤ total f (open_ends unit radius Right start end first last)
      ≡ total f (open_ends unit radius Both CapKind.Butt CapKind.Butt first last)
  ends_add radius start end first last apart =
      omega (
        arith,
        linear,
        across_back f odd straight unit some radius Both first first.0 apart,
        halves_across f odd straight unit some radius first first.0,
        halves_across f odd straight unit some radius last last.1,
        odd first.0 (left_of unit radius first first.0),
        odd first.0 (right_of unit radius first first.0),
      )

  module _ (style : StrokeStyle) where
    abbrev left : StrokeStyle
    left = half_style Left style

    abbrev right : StrokeStyle
    right = half_style Right style

    abbrev whole : StrokeStyle
    whole = whole_style style

    caps_add : (closed : Bool) (first last : Edge) → first.0 ≢ first.1
        → caps_of f odd unit some left closed first last +ℤ caps_of f odd unit some right closed first last
        ≡ caps_of f odd unit some whole closed first last
    caps_add true first last apart = omega (arith, linear)
    caps_add false first last apart = ends_add style.radius style.start style.end first last apart

    drawn_add : (closed : Bool) (es : List Edge) → IsChain closed es
        → total f (drawn_edges unit left closed es) +ℤ total f (drawn_edges unit right closed es)
        ≡ total f (drawn_edges unit whole closed es)
    unfolding drawn_edges
    drawn_add closed [] chain = omega (arith, linear)
    drawn_add closed (e ∷ es) chain =
        let cs : List EdgePair = neighbours closed (e ∷ es) in
        let sides = λ (s : StrokeStyle). sides_of f odd unit some s in
        let corners = λ (s : StrokeStyle). corner_of f odd unit some s in
        omega (
          arith,
          linear,
          parts f odd unit some left closed e es,
          parts f odd unit some right closed e es,
          parts f odd unit some whole closed e es,
          sum_of_add (sides left) (sides right) (e ∷ es),
          sum_of_same (λ g. sides left g +ℤ sides right g) (sides whole) (sides_add style.radius) (e ∷ es),
          sum_of_add (corners left) (corners right) cs,
          sum_of_same (λ c. corners left c +ℤ corners right c) (corners whole) (corner_adds style.radius style.join) cs,
          caps_add closed e (last_of e es) (All-head (λ (g : Edge). g.0 ≢ g.1) e es chain.proper),
        )

    pub strokes_add : (closed : Bool) (points : List Point)
        → total f (stroke_edges unit left closed points) +ℤ total f (stroke_edges unit right closed points)
        ≡ total f (stroke_edges unit whole closed points)
    strokes_add closed points = by (int_le style.radius (pos 1))
      where
        edges : List Edge
        edges = path_edges closed points

        by : (b : Bool)
            → total f (cond b [] (drawn_edges unit left closed edges))
            +ℤ total f (cond b [] (drawn_edges unit right closed edges))
            ≡ total f (cond b [] (drawn_edges unit whole closed edges))
        by true = omega (arith, linear)
        by false = drawn_add closed edges (path_chain closed points)

-- so their windings add up
pub halves_add_up : (unit : ℕ) → 0 < unit → (style : StrokeStyle) (closed : Bool) (points : List Point)
    → HalvesAddUp unit style closed points
halves_add_up unit some style closed points =
    λ m q. strokes_add (crossing_on m q) (crossing_on_odd m q) (crossing_on_straight m q) unit some style closed points

pub halves_make_the_whole : HalvesMakeTheWhole
halves_make_the_whole unit least style closed points = halves_add_up unit (omega arith) style closed points

-- of each of many paths
pub halves_of_all : (unit : ℕ) → 2 ^ 14 ≤ unit → (style : StrokeStyle) (closed : Bool) (paths : List (List Point))
    → All (HalvesAddUp unit style closed) paths
halves_of_all unit least style closed paths k d h =
    halves_make_the_whole unit least style closed (get_or paths k d)

-- edges that are those of one half make the whole with the other half
module _ (unit : ℕ) (some : 0 < unit) (style : StrokeStyle) (closed : Bool) (points : List Point) (es : List Edge)
    (same : IsPermutation es (stroke_edges unit style closed points)) where
  abbrev winds : ℕ → Point → StrokeStyle → ℤ
  winds m q drawn = winding m q (stroke_edges unit drawn closed points)

  by_side : (side : StrokeSide) (m : ℕ) (q : Point) → style.side ≡ side
      → winding m q es ≡ winds m q (half_style side style)
  by_side side m q e =
      sym (total_permutation (crossing_on m q) es (stroke_edges unit style closed points) same)
      ∙ ap (λ (s : StrokeSide). winds m q (half_style s style)) e

  pub makes_the_whole : MakeTheWhole unit style closed points es
  makes_the_whole = record {
    left = λ e m q. omega (arith, linear, by_side Left m q e, halves_add_up unit some style closed points m q);
    right = λ e m q. omega (arith, linear, by_side Right m q e, halves_add_up unit some style closed points m q);
  }
