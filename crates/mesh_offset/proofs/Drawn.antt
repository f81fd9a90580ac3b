-- Lemmas over points and lists: edges that are added have what is promised of the edges that they stand for.
use Rattle.std.proofs.Common.{◌≡◌, ℕ, ◌∙◌, List, length, arith}
use Rattle.std.specs.Prelude.{ℤ}
use Rattle.std.specs.List.{All}
use Rattle.std.specs.List.Sorted.{IsPermutation}
use Rattle.std.proofs.lemmas.List.{length-map}
use Rattle.std.proofs.lemmas.List.Sorted.{length_permutation, IsPermutation-sym, All-permutation}
use Rattle.mesh_plane.specs.Bounds.{IsSafe}
use Rattle.mesh_plane.specs.Plane.{Edge, Point}
use Rattle.mesh_plane.specs.Winding.{crossing_on}
use Rattle.mesh_plane.proofs.Sums.{total_permutation}
use Rattle.mesh_plane.proofs.Balance.{balanced_permutation}
use Rattle.mesh_num.specs.Rectangle.{IsSafeWidened}
use Rattle.mesh_num.specs.Segments.{SignedEdge, edge_of}
use Rattle.mesh_offset.specs.Adding.{added, added_edges}
use Rattle.mesh_offset.specs.Built.{Adds}
use Rattle.mesh_offset.specs.Drawing.{AreDrawn}
use Rattle.mesh_offset.specs.Padding.{IsNear}
use Rattle.mesh_offset.proofs.Adding.{adds_edges}
use Rattle.mesh_offset.proofs.Padding.{ends_safe}

pub adds_drawn : (padding offset : ℤ) (points : List Point) (between : List (List Point)) (es : List Edge) (old new : List SignedEdge) →
    AreDrawn padding offset points between es → Adds old new es → AreDrawn padding offset points between (added_edges old new)
adds_drawn padding offset points between es old new drawn h = record {
  balanced = balanced_permutation es (added_edges old new) permuted drawn.balanced;
  near = All-permutation (λ (e : Edge). IsNear padding points e.0 × IsNear padding points e.1) es (added_edges old new) permuted drawn.near;
  sum = λ m q. total_permutation (crossing_on m q) es (added_edges old new) permuted ∙ drawn.sum m q;
  pieces = drawn.pieces;
  count = λ m q. total_permutation (crossing_on m q) es (added_edges old new) permuted ∙ drawn.count m q;
}
  where
    permuted : IsPermutation es (added_edges old new)
    permuted = IsPermutation-sym (added_edges old new) es (adds_edges old new es h)

-- drawn edges are safe where the contour's points stay safe within the padding
pub drawn_safe : (unit : ℕ) (padding offset : ℤ) (points : List Point) (between : List (List Point)) (es : List Edge) →
    AreDrawn padding offset points between es → All (λ (v : Point). IsSafeWidened unit padding v) points → All (λ (e : Edge). IsSafe unit e.0 × IsSafe unit e.1) es
drawn_safe unit padding offset points between es drawn safe = ends_safe unit padding points es safe drawn.near

-- as many segments were added as there are edges
pub added_length : (old new : List SignedEdge) (es : List Edge) → Adds old new es → length (added old new) ≡ length es
added_length old new es h = omega (arith, length_permutation (added_edges old new) es (adds_edges old new es h), length-map (added old new) edge_of)
