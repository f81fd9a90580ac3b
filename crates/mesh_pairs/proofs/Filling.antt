-- Lemmas over the boxes of edges, one by one.
use Rattle.std.proofs.Common.{◌≡◌, ℕ, ◌+◌, ◌-◌, ◌<◌, ◌^◌, ◌⊎◌, inl, inr, List, [], ◌∷◌, ◌++◌, length, sym, ◌∙◌, ap, subst, arith}
use Rattle.std.specs.Prelude.{ℤ, pos, negsuc, ◌≤ℤ◌, ◌↔◌}
use Rattle.std.proofs.Math.ListN.{length-append, get_or-append}
use Rattle.std.proofs.Math.Seq.{get_or-append_seam}
use Rattle.std.proofs.lemmas.Int.{ints}
use Rattle.mesh_plane.specs.Bounds.{IsSafe, IsSmall}
use Rattle.mesh_plane.specs.Plane.{Point}
use Rattle.mesh_plane.proofs.Whole.{either_order}
use Rattle.mesh_lattice.specs.Split.{IsBetween, IsInBox}
use Rattle.mesh_lattice.proofs.Boxes.{end_box, start_box}
use Rattle.mesh_points.specs.declared.edges.NumberedEdge.{NumberedEdge}
use Rattle.mesh_points.specs.Edges.{edge_at}
use Rattle.mesh_pairs.specs.declared.boxes.Bounds.{Bounds}
use Rattle.mesh_pairs.specs.declared.boxes.TheConstants.{NONE}
use Rattle.mesh_pairs.specs.Boxes.{Covers, Holds}
use Rattle.mesh_pairs.specs.Pairs.{AreSmall, ends_at}
use Rattle.mesh_pairs.specs.Private.Trees.{box_at, small_bounds}

pub record IsFilled (es : List NumberedEdge) (n : ℕ) (boxes : List Bounds) : Type 0 where
  pub many : length boxes ≡ n
  pub starts : (i : ℕ) → i < n → Holds (box_at boxes i) (edge_at es i).start
  pub ends : (i : ℕ) → i < n → Holds (box_at boxes i) (edge_at es i).end
  pub small : (i : ℕ) → i < n → Covers small_bounds (box_at boxes i)

below_or_at : (k n : ℕ) → k < n + 1 → (k < n) ⊎ (k ≡ n)
below_or_at k n h = grind arith

-- both borders of a box are coordinates of its ends
border_low : (low a b : ℤ) → IsSmall (2 ^ 30) a → IsSmall (2 ^ 30) b → IsBetween a low b → (negsuc (2 ^ 30 - 1)) ≤ℤ low
border_low low a b f g h = by (either_order a b)
  where
    by : (a ≤ℤ b) ⊎ (b ≤ℤ a) → (negsuc (2 ^ 30 - 1)) ≤ℤ low
    by (inl o) = omega (arith, ints, f.low, (h.up o).0)
    by (inr o) = omega (arith, ints, g.low, (h.down o).0)

border_high : (high a b : ℤ) → IsSmall (2 ^ 30) a → IsSmall (2 ^ 30) b → IsBetween a high b → high ≤ℤ pos (2 ^ 30)
border_high high a b f g h = by (either_order a b)
  where
    by : (a ≤ℤ b) ⊎ (b ≤ℤ a) → high ≤ℤ pos (2 ^ 30)
    by (inl o) = omega (arith, ints, g.high, (h.up o).1)
    by (inr o) = omega (arith, ints, f.high, (h.down o).1)

-- a rectangle that holds something holds its own corners
corners : (b : Bounds) (p : Point) → Holds b p → Holds b (b.west, b.south) × Holds b (b.east, b.north)
corners b p h = (
  record { west = omega (arith, ints); east = omega (arith, ints, h.west, h.east); south = omega (arith, ints); north = omega (arith, ints, h.south, h.north) },
  record { west = omega (arith, ints, h.west, h.east); east = omega (arith, ints); south = omega (arith, ints, h.south, h.north); north = omega (arith, ints) },
)

pub box_small : (p q : Point) (b : Bounds) → ((z : Point) → Holds b z ↔ IsInBox (p, q) z) → IsSafe (2 ^ 30) p → IsSafe (2 ^ 30) q → Covers small_bounds b
box_small p q b is f g =
    let two = corners b p ((is p).1 (start_box (p, q))) in
    let low = (is (b.west, b.south)).0 two.0 in
    let high = (is (b.east, b.north)).0 two.1 in
    record {
      west = border_low b.west p.0 q.0 f.x g.x low.by_x;
      east = border_high b.east p.0 q.0 f.x g.x high.by_x;
      south = border_low b.south p.1 q.1 f.y g.y low.by_y;
      north = border_high b.north p.1 q.1 f.y g.y high.by_y;
    }

pub filled_more : (es : List NumberedEdge) (n : ℕ) (boxes boxes' : List Bounds) (b : Bounds) → n < length es → AreSmall es → IsFilled es n boxes → boxes' ≡ boxes ++ b ∷ []
    → ((z : Point) → Holds b z ↔ IsInBox (ends_at es n) z) → IsFilled es (n + 1) boxes'
filled_more es n boxes boxes' b within small filled is exact = record {
  many = ap length is ∙ (length-append boxes (b ∷ []) ∙ ap (λ (k : ℕ). k + 1) filled.many);
  starts = λ i l. at (λ (x : Bounds) (k : ℕ). Holds x (edge_at es k).start) filled.starts ((exact (edge_at es n).start).1 (start_box (ends_at es n))) i l;
  ends = λ i l. at (λ (x : Bounds) (k : ℕ). Holds x (edge_at es k).end) filled.ends ((exact (edge_at es n).end).1 (end_box (ends_at es n))) i l;
  small = λ i l. at (λ (x : Bounds) (k : ℕ). Covers small_bounds x) filled.small (box_small (edge_at es n).start (edge_at es n).end b exact (small n within).0 (small n within).1) i l;
}
  where
    old : (i : ℕ) → i < n → box_at boxes' i ≡ box_at boxes i
    old i l = ap (λ (bs : List Bounds). box_at bs i) is ∙ get_or-append boxes (b ∷ []) NONE i (omega (arith, filled.many))

    new : box_at boxes' n ≡ b
    new = ap (λ (bs : List Bounds). box_at bs n) is ∙ (ap (box_at (boxes ++ b ∷ [])) (sym filled.many) ∙ get_or-append_seam boxes b [] NONE)

    at : (P : Bounds → ℕ → Type 0) → ((i : ℕ) → i < n → P (box_at boxes i) i) → P b n → (i : ℕ) → i < n + 1 → P (box_at boxes' i) i
    at P all one i l = by (below_or_at i n l)
      where
        by : (i < n) ⊎ (i ≡ n) → P (box_at boxes' i) i
        by (inl h) = subst (λ (x : Bounds). P x i) (sym (old i h)) (all i h)
        by (inr h) = subst (λ (k : ℕ). P (box_at boxes' k) k) (sym h) (subst (λ (x : Bounds). P x n) (sym new) one)
