-- Lemmas over points and lists: what the edges of each stroke are promised.
use Rattle.std.proofs.Common.{◌≡◌, ℕ, ◌≤◌, ◌^◌, Bool, true, false, cond, List, [], ◌∷◌, ◌++◌, refl, sym, subst, ◌∙◌, append-nil, arith}
use Rattle.std.specs.Prelude.{ℤ, pos, ◌≤ℤ◌, ◌<ℤ◌, ◌↔◌, IsTrue, int_le}
use Rattle.std.specs.List.{All, flat_map}
use Rattle.std.specs.List.Sorted.{IsPermutation}
use Rattle.std.proofs.lemmas.Int.{ints, by_lt_z}
use Rattle.std.proofs.lemmas.List.Elements.{All-nil}
use Rattle.std.proofs.lemmas.List.Sorted.{IsPermutation-refl, IsPermutation-sym, All-permutation}
use Rattle.mesh_plane.specs.Plane.{Point, Edge}
use Rattle.mesh_plane.specs.Winding.{IsBalanced, total, boundary, winding, crossing_on, pieces_total, IsBit, IsOdd, IsStraight}
use Rattle.mesh_plane.specs.Turning.{last_of}
use Rattle.mesh_plane.specs.Bounds.{IsSafe}
use Rattle.mesh_plane.proofs.Sums.{total_permutation}
use Rattle.mesh_plane.proofs.Balance.{balanced_permutation, growth, growth_odd, growth_of_pieces, balanced_by_growth}
use Rattle.mesh_plane.proofs.Crossings.{crossing_on_odd}
use Rattle.mesh_plane.proofs.Pieces.{pieces_counted}
use Rattle.mesh_plane.proofs.Triangles.{crossing_on_straight}
use Rattle.mesh_plane.proofs.Whole.{linear}
use Rattle.mesh_num.specs.Segments.{SignedEdge, IsSubject}
use Rattle.mesh_lattice.specs.Clean.{IsProper}
use Rattle.mesh_offset.specs.Adding.{added_edges}
use Rattle.mesh_offset.specs.Built.{Adds}
use Rattle.mesh_offset.specs.Padding.{IsNear}
use Rattle.mesh_offset.proofs.Adding.{adds_edges}
use Rattle.mesh_offset.proofs.Padding.{ends_safe}
use Rattle.mesh_offset.proofs.ProperEdges.{proper_kept}
use Rattle.mesh_stroke.specs.Building.{IsStrokable}
use Rattle.mesh_stroke.specs.Drawn.{HasStockCaps, AreStroked}
use Rattle.mesh_stroke.specs.Paths.{neighbours, path_edges}
use Rattle.mesh_stroke.specs.Styles.{StrokeStyle, stroke_padding}
use Rattle.mesh_stroke.specs.Strokes.{side_edges, corner_edges, path_ends, drawn_edges, drawn_pieces, stroke_edges, stroke_pieces}
use Rattle.mesh_stroke.proofs.Chains.{path_chain}
use Rattle.mesh_stroke.proofs.Reach.{drawn_near, path_listed}
use Rattle.mesh_stroke.proofs.StrokeCount.{drawn_winds}
use Rattle.mesh_stroke.proofs.StrokeSum.{drawn_total}

module _ (unit : ℕ) (least : 2 ^ 14 ≤ unit) (style : StrokeStyle) (closed : Bool) (points : List Point) where
  abbrev edges : List Edge
  edges = path_edges closed points

  -- an odd and straight function adds up over the edges to what it does over the pieces
  pub stroke_total : (f : Point → Point → ℤ) → IsOdd f → IsStraight f → total f (stroke_edges unit style closed points) ≡ pieces_total f (stroke_pieces unit style closed points)
  stroke_total f odd straight = by (int_le style.radius (pos 1))
    where
      by : (b : Bool) → total f (cond b [] (drawn_edges unit style closed edges)) ≡ pieces_total f (cond b [] (drawn_pieces unit style closed edges))
      by true = refl
      by false = drawn_total f odd straight unit (omega arith) style closed edges (path_chain closed points)

  abbrev Winds : ℕ → Point → List Point → Type 0
  Winds m q piece = IsBit (winding m q (boundary piece))

  pub never_turned : HasStockCaps style closed → (m : ℕ) (q : Point) → All (Winds m q) (stroke_pieces unit style closed points)
  never_turned stock m q = by (int_le style.radius (pos 1)) refl
    where
      by : (b : Bool) → int_le style.radius (pos 1) ≡ b → All (Winds m q) (cond b [] (drawn_pieces unit style closed edges))
      by true h = All-nil (Winds m q)
      by false h = drawn_winds unit least m q style (omega (arith, ints, h)) closed stock edges (path_chain closed points)

  abbrev EndsNear : Edge → Type 0
  EndsNear e = IsNear (stroke_padding style) points e.0 × IsNear (stroke_padding style) points e.1

  near : All EndsNear (stroke_edges unit style closed points)
  near = by (int_le style.radius (pos 1)) refl
    where
      by : (b : Bool) → int_le style.radius (pos 1) ≡ b → All EndsNear (cond b [] (drawn_edges unit style closed edges))
      by true h = All-nil EndsNear
      by false h = drawn_near unit least style (omega (arith, ints, h)) points closed edges (path_chain closed points) (path_listed closed points)

  -- wherever the points lie, the edges of a stroke close up
  pub stroke_balanced : IsBalanced (stroke_edges unit style closed points)
  stroke_balanced =
      balanced_by_growth (stroke_edges unit style closed points)
      (λ g. stroke_total (growth g) (growth_odd g) (λ p r s h. omega (arith, linear)) ∙ growth_of_pieces g (stroke_pieces unit style closed points))

  -- the edges of a stroke have all that is promised of them, where the points stay safe within its padding
  pub are_stroked : All (IsStrokable unit style) points → AreStroked unit style closed points (stroke_edges unit style closed points)
  are_stroked safe = record {
    balanced = stroke_balanced;
    near = near;
    safe = ends_safe unit (stroke_padding style) points (stroke_edges unit style closed points) safe near;
    sum = λ m q. stroke_total (crossing_on m q) (crossing_on_odd m q) (crossing_on_straight m q);
    pieces = never_turned;
    count =
        λ stock m q.
        stroke_total (crossing_on m q) (crossing_on_odd m q) (crossing_on_straight m q) ∙ pieces_counted m q (stroke_pieces unit style closed points) (never_turned stock m q);
  }

  -- what is added has what is promised of the edges of the stroke
  pub adds_stroked : (old new : List SignedEdge) → All (IsStrokable unit style) points → Adds old new (stroke_edges unit style closed points) →
      AreStroked unit style closed points (added_edges old new)
  adds_stroked old new safe h = record {
    balanced = balanced_permutation es (added_edges old new) permuted stroked.balanced;
    near = All-permutation EndsNear es (added_edges old new) permuted stroked.near;
    safe = All-permutation (λ (e : Edge). IsSafe unit e.0 × IsSafe unit e.1) es (added_edges old new) permuted stroked.safe;
    sum = λ m q. total_permutation (crossing_on m q) es (added_edges old new) permuted ∙ stroked.sum m q;
    pieces = stroked.pieces;
    count = λ stock m q. total_permutation (crossing_on m q) es (added_edges old new) permuted ∙ stroked.count stock m q;
  }
    where
      es : List Edge
      es = stroke_edges unit style closed points

      stroked : AreStroked unit style closed points es
      stroked = are_stroked safe

      permuted : IsPermutation es (added_edges old new)
      permuted = IsPermutation-sym (added_edges old new) es (adds_edges old new es h)

  -- a stroke of a radius of at most 1 has no edge, and others those that are drawn along the path
  pub thin_adds : (old : List SignedEdge) → style.radius ≤ℤ pos 1 → Adds old old (stroke_edges unit style closed points)
  thin_adds old h = by (int_le style.radius (pos 1)) refl
    where
      by : (b : Bool) → int_le style.radius (pos 1) ≡ b → Adds old old (cond b [] (drawn_edges unit style closed edges))
      by true e = ([], sym (append-nil old), IsPermutation-refl [], All-nil IsSubject)
      by false e = absurd (omega (arith, ints, h, e))

  pub thick_is : pos 1 <ℤ style.radius → stroke_edges unit style closed points ≡ drawn_edges unit style closed (path_edges closed points)
  thick_is h = by (int_le style.radius (pos 1)) refl
    where
      by : (b : Bool) → int_le style.radius (pos 1) ≡ b → cond b [] (drawn_edges unit style closed edges) ≡ drawn_edges unit style closed edges
      by true e = absurd (omega (arith, ints, h, e))
      by false e = refl

  pub thick_adds : (old new : List SignedEdge) → pos 1 <ℤ style.radius → Adds old new (drawn_edges unit style closed (path_edges closed points)) → Adds old new (stroke_edges unit style closed points)
  thick_adds old new h added = subst (Adds old new) (sym (thick_is h)) added

-- none of its edges ends where it starts
drawn_proper : (unit : ℕ) (style : StrokeStyle) (closed : Bool) (es : List Edge) → IsProper (drawn_edges unit style closed es)
unfolding drawn_edges
drawn_proper unit style closed [] = proper_kept []
drawn_proper unit style closed (e ∷ es) =
    proper_kept
    (flat_map (side_edges unit style.radius style.side) (e ∷ es)
    ++ (flat_map (corner_edges unit style.radius style.side style.join) (neighbours closed (e ∷ es))
    ++ path_ends unit style.radius style.side style.start style.end closed e (last_of e es)))

pub stroke_proper : (unit : ℕ) (style : StrokeStyle) (closed : Bool) (points : List Point) → IsProper (stroke_edges unit style closed points)
stroke_proper unit style closed points = by (int_le style.radius (pos 1))
  where
    by : (b : Bool) → IsProper (cond b [] (drawn_edges unit style closed (path_edges closed points)))
    by true = proper_kept []
    by false = drawn_proper unit style closed (path_edges closed points)

-- a number for which a test is false is at most 1
pub not_above : (b : Bool) (x : ℤ) → (IsTrue b ↔ pos 1 <ℤ x) → b ≡ false → x ≤ℤ pos 1
not_above b x h e = by_lt_z (pos 1) x (λ l. let k : true ≡ false = sym (h.1 l) ∙ e in cc) (λ l. l)
