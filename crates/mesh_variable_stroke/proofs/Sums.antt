-- Lemmas over points and lists: what is drawn along a path of changing width is the boundaries of its pieces.
use Rattle.std.proofs.Common.{◌≡◌, ℕ, List, [], ◌∷◌, ◌++◌, map, refl, ◌∙◌, arith}
use Rattle.std.specs.Prelude.{ℤ, ◌+ℤ◌, ◌-ℤ◌, Bool, true, false, if◌then◌else◌}
use Rattle.std.specs.List.{flat_map}
use Rattle.mesh_plane.specs.Plane.{Point, Edge}
use Rattle.mesh_plane.specs.Winding.{total, route, pieces_total, IsOdd}
use Rattle.mesh_plane.proofs.Whole.{linear}
use Rattle.mesh_plane.proofs.Sums.{sum_of_same, total_append, total_flat_map, pieces_total_append}
use Rattle.mesh_plane.proofs.Sums.{pieces_total_flat_map}
use Rattle.mesh_plane.specs.Turning.{last_of}
use Rattle.mesh_arc.specs.declared.arc.ArcOptions.{ArcOptions}
use Rattle.mesh_join.specs.VariableStyles.{Vertex}
use Rattle.mesh_offset.proofs.ProperEdges.{proper_edges_total}
use Rattle.mesh_offset.specs.Walks.{pairs}
use Rattle.mesh_circle.specs.Sections.{Section}
use Rattle.mesh_circle.specs.declared.sweep.Sweep.{Sweep}
use Rattle.mesh_circle.specs.declared.sweep.Sweep.TheVariants.{Minor, Major}
use Rattle.mesh_circle.specs.Sweeps.{arc_edges, arc_pieces, circle_edges, circle_pieces}
use Rattle.mesh_circle.proofs.Sums.{arc_total, circle_total}
use Rattle.mesh_variable_stroke.specs.Chains.{circles_of, chains_of, Chain, Step}
use Rattle.mesh_variable_stroke.specs.declared.chain_end.ChainEnd.{ChainEnd}
use Rattle.mesh_variable_stroke.specs.declared.chain_end.ChainEnd.TheVariants.{Butt, Round}
use Rattle.mesh_variable_stroke.specs.VariableStrokes.{side_edges, section_piece, sweep_at, start_edges, start_pieces}
use Rattle.mesh_variable_stroke.specs.VariableStrokes.{end_edges, end_pieces, SectionPair, is_apart, has_left_arc}
use Rattle.mesh_variable_stroke.specs.VariableStrokes.{has_right_arc, left_edges, right_edges, joint_edges}
use Rattle.mesh_variable_stroke.specs.VariableStrokes.{left_pieces, right_pieces, joint_piece}
use Rattle.mesh_variable_stroke.specs.VariableStrokes.{joint_pieces, sections_of, are_butt, bare_edges}
use Rattle.mesh_variable_stroke.specs.VariableStrokes.{bare_pieces, edges_with, pieces_with, chain_edges, chain_pieces}
use Rattle.mesh_variable_stroke.specs.VariableStrokes.{variable_stroke_edges, variable_stroke_pieces}

module _ (f : Point → Point → ℤ) (odd : IsOdd f) (unit : ℕ) (options : ArcOptions) where
  -- the way across a section where it begins, and the way back where it ends
  abbrev across_start : Section → ℤ
  across_start s = f s.a_left s.a_right

  abbrev across_end : Section → ℤ
  across_end s = f s.b_right s.b_left

  -- ---- ends

  start_total : (end : ChainEnd) (s : Section) →
      total f (start_edges unit options end s) ≡ across_start s +ℤ pieces_total f (start_pieces unit options end s)
  start_total Butt s = omega (arith, linear)
  start_total Round s = arc_total f odd unit options s.a.center s.a_left s.a_right (sweep_at s.a s.b)

  end_total : (end : ChainEnd) (s : Section) →
      total f (end_edges unit options end s) ≡ across_end s +ℤ pieces_total f (end_pieces unit options end s)
  end_total Butt s = omega (arith, linear)
  end_total Round s = arc_total f odd unit options s.b.center s.b_right s.b_left (sweep_at s.b s.a)

  -- ---- joints

  -- an arc, or the edge between its ends alone
  side_total : (curved : Bool) (c x y : Point) (aligned : Sweep) →
      total f (if curved then arc_edges unit options c x y aligned else route x [] y)
      ≡ f x y +ℤ pieces_total f (if curved then arc_pieces unit options c x y aligned else [])
  side_total true c x y aligned = arc_total f odd unit options c x y aligned
  side_total false c x y aligned = omega (arith, linear)

  -- a joint goes across the end of one section and the start of the next
  joint_total : (j : SectionPair) →
      total f (joint_edges unit options j)
      ≡ pieces_total f (joint_pieces unit options j) +ℤ (across_end j.0 +ℤ across_start j.1)
  joint_total j = by (is_apart j)
    where
      by : (apart : Bool) →
          total f (if apart then end_edges unit options Butt j.0 ++ start_edges unit options Butt j.1
          else left_edges unit options j ++ right_edges unit options j)
          ≡ pieces_total f (if apart then []
          else joint_piece j ∷ (left_pieces unit options j ++ right_pieces unit options j))
          +ℤ (across_end j.0 +ℤ across_start j.1)
      by true = omega (arith, linear)
      by false =
          omega (
            arith,
            linear,
            total_append f (left_edges unit options j) (right_edges unit options j),
            pieces_total_append f (left_pieces unit options j) (right_pieces unit options j),
            side_total (has_left_arc j) j.0.b.center j.1.a_left j.0.b_left Minor,
            side_total (has_right_arc j) j.0.b.center j.0.b_right j.1.a_right Major,
            odd j.0.b_left j.0.b_right,
            odd j.1.a_left j.1.a_right,
          )

  -- ---- chains

  abbrev joints_along : List Section → ℤ
  joints_along ss = total f (flat_map (joint_edges unit options) (pairs ss))

  abbrev joint_pieces_along : List Section → ℤ
  joint_pieces_along ss = pieces_total f (flat_map (joint_pieces unit options) (pairs ss))

  -- sections and their joints leave the ways across both ends open
  along_total : (s : Section) (ss : List Section) →
      total f (flat_map side_edges (s ∷ ss)) +ℤ joints_along (s ∷ ss)
      ≡ (pieces_total f (map section_piece (s ∷ ss)) +ℤ joint_pieces_along (s ∷ ss))
      -ℤ (across_start s +ℤ across_end (last_of s ss))
  along_total s [] = omega (arith, linear)
  along_total s (t ∷ ss) =
      omega (
        arith,
        linear,
        along_total t ss,
        joint_total (s, t),
        total_append f (joint_edges unit options (s, t)) (flat_map (joint_edges unit options) (pairs (t ∷ ss))),
        pieces_total_append f (joint_pieces unit options (s, t))
            (flat_map (joint_pieces unit options) (pairs (t ∷ ss))),
      )

  -- a chain without sections: a circle or nothing
  bare_total : (chain : Chain) (steps : List Step) →
      total f (bare_edges unit options chain steps) ≡ pieces_total f (bare_pieces unit options chain steps)
  bare_total chain [] = by (are_butt chain.start_end chain.end)
    where
      by : (butt : Bool) →
          total f (if butt then [] else circle_edges unit options chain.start.center chain.start.radius)
          ≡ pieces_total f (if butt then [] else circle_pieces unit options chain.start.center chain.start.radius)
      by true = refl
      by false = circle_total f odd unit options chain.start.center chain.start.radius
  bare_total chain (s ∷ ss) = refl

  chain_total_with : (chain : Chain) (sections : List Section) →
      total f (edges_with unit options chain sections) ≡ pieces_total f (pieces_with unit options chain sections)
  chain_total_with chain [] = bare_total chain chain.steps
  chain_total_with chain (s ∷ ss) =
      omega (
        arith,
        linear,
        along_total s ss,
        start_total chain.start_end s,
        end_total chain.end (last_of s ss),
        total_append f (flat_map side_edges (s ∷ ss)) (joints ++ (start ++ end)),
        total_append f joints (start ++ end),
        total_append f start end,
        pieces_total_append f (map section_piece (s ∷ ss)) (between ++ (before ++ after)),
        pieces_total_append f between (before ++ after),
        pieces_total_append f before after,
      )
    where
      joints : List Edge
      joints = flat_map (joint_edges unit options) (pairs (s ∷ ss))

      start : List Edge
      start = start_edges unit options chain.start_end s

      end : List Edge
      end = end_edges unit options chain.end (last_of s ss)

      between : List (List Point)
      between = flat_map (joint_pieces unit options) (pairs (s ∷ ss))

      before : List (List Point)
      before = start_pieces unit options chain.start_end s

      after : List (List Point)
      after = end_pieces unit options chain.end (last_of s ss)

  chain_total : (chain : Chain) →
      total f (chain_edges unit options chain) ≡ pieces_total f (chain_pieces unit options chain)
  chain_total chain = chain_total_with chain (sections_of chain.steps)

  chains_total : (chains : List Chain) →
      total f (flat_map (chain_edges unit options) chains)
      ≡ pieces_total f (flat_map (chain_pieces unit options) chains)
  chains_total chains =
      omega (
        arith,
        linear,
        total_flat_map f (chain_edges unit options) chains,
        pieces_total_flat_map f (chain_pieces unit options) chains,
        sum_of_same (λ (c : Chain). total f (chain_edges unit options c))
            (λ (c : Chain). pieces_total f (chain_pieces unit options c)) chain_total chains,
      )

-- ---- paths

-- an odd function adds up over the edges of a stroke to what it does over its pieces
pub variable_total : (f : Point → Point → ℤ) → IsOdd f → (unit : ℕ) (options : ArcOptions) (vertices : List Vertex)
    → total f (variable_stroke_edges unit options vertices)
    ≡ pieces_total f (variable_stroke_pieces unit options vertices)
unfolding variable_stroke_edges variable_stroke_pieces
variable_total f odd unit options vertices =
    proper_edges_total f odd (flat_map (chain_edges unit options) (chains_of unit (circles_of vertices)))
    ∙ chains_total f odd unit options (chains_of unit (circles_of vertices))
