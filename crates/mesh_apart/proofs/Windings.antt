-- Lemmas over points and lists: balanced edges in a box do not wind round a point past it, nor does what splits leave.
use Rattle.std.proofs.Common.{◌≡◌, ℕ, List, [], ◌∷◌, refl, ap, ◌∙◌, arith}
use Rattle.std.specs.Prelude.{pos, ◌<ℤ◌}
use Rattle.std.specs.List.{All}
use Rattle.std.proofs.lemmas.List.Elements.{All-nil, All-cons}
use Rattle.mesh_plane.specs.Plane.{Point, Edge}
use Rattle.mesh_plane.specs.Winding.{refined, winding, crossing_on, IsBalanced, total, boundary}
use Rattle.mesh_plane.proofs.Balance.{growth, growth_of_balanced}
use Rattle.mesh_plane.proofs.Crossings.{crossing_on_odd}
use Rattle.mesh_plane.proofs.HalfPlanes.{along_by, closed_before}
use Rattle.mesh_plane.proofs.Sums.{total_append}
use Rattle.mesh_plane.proofs.Whole.{linear}
use Rattle.mesh_lattice.specs.Split.{EdgeSplit, after}
use Rattle.mesh_lattice.proofs.Each.{Each}
use Rattle.mesh_lattice.proofs.KeptBySplits.{Boxed, after_append, after_balanced, after_none}
use Rattle.mesh_apart.specs.Apart.{Box, finer_box, IsWithin, LiesInBox, Piece, IsBoxed, edges_in}
use Rattle.mesh_apart.proofs.Boxes.{within_refined, IsPast}
use Rattle.mesh_apart.proofs.Pieces.{each_from_all}
use Rattle.mesh_apart.proofs.Splits.{in_box_kept, after_each}

-- a triangle in the box does not wind round the point, so an edge crosses as much as the ways to its ends differ
edge_grows : (m : ℕ) (b : Box) (z : Point) → IsPast (finer_box m b) z → (c : Point) → IsWithin b c → (e : Edge) → LiesInBox b e
    → crossing_on m z e.0 e.1 ≡ growth (crossing_on m z c) e.0 e.1
edge_grows m b z h c inside e lies =
    let P : Point → Type 0 = λ (p : Point). along_by h.u h.v (refined m p) <ℤ along_by h.u h.v z in
    let before : (p : Point) → IsWithin b p → P p = λ (p : Point) (w : IsWithin b p). h.past (refined m p) (within_refined m b p w) in
    let all : All P (c ∷ e.0 ∷ e.1 ∷ []) =
    All-cons P c (e.0 ∷ e.1 ∷ []) (before c inside) (All-cons P e.0 (e.1 ∷ []) (before e.0 lies.0) (All-cons P e.1 [] (before e.1 lies.1) (All-nil P))) in
    let round : winding m z (boundary (c ∷ e.0 ∷ e.1 ∷ [])) ≡ pos 0 = closed_before h.u h.v m z (c ∷ e.0 ∷ e.1 ∷ []) all in
    omega (arith, linear, round, crossing_on_odd m z e.1 c)

edges_grow : (m : ℕ) (b : Box) (z : Point) → IsPast (finer_box m b) z → (c : Point) → IsWithin b c → (es : List Edge) → Each (LiesInBox b) es
    → winding m z es ≡ total (growth (crossing_on m z c)) es
edges_grow m b z h c inside [] lies = refl
edges_grow m b z h c inside (e ∷ es) lies =
    omega (arith, linear, edge_grows m b z h c inside e lies.0, edges_grow m b z h c inside es lies.1)

pub outside_none : (m : ℕ) (b : Box) (z : Point) → IsPast (finer_box m b) z → (es : List Edge) → IsBalanced es → Each (LiesInBox b) es → winding m z es ≡ pos 0
outside_none m b z h [] balanced lies = refl
outside_none m b z h (e ∷ es) balanced lies =
    edges_grow m b z h e.0 lies.0.0 (e ∷ es) lies ∙ growth_of_balanced (e ∷ es) balanced (crossing_on m z e.0)

-- what splits leave of pieces does not wind round a point past all their boxes
pub after_none_round : (m : ℕ) (z : Point) (ks : List EdgeSplit) → Boxed ks → (ps : List Piece) → Each IsBoxed ps
    → Each (λ (p : Piece). IsPast (finer_box m p.box) z) ps → winding m z (after ks (edges_in ps)) ≡ pos 0
after_none_round m z ks sound [] boxed past = ap (winding m z) (after_none ks)
after_none_round m z ks sound (p ∷ ps) boxed past =
    let own : winding m z (after ks p.edges) ≡ pos 0 =
    outside_none m p.box z past.0 (after ks p.edges) (after_balanced ks p.edges boxed.0.balanced)
    (after_each (LiesInBox p.box) (in_box_kept p.box) ks sound p.edges (each_from_all (LiesInBox p.box) p.edges boxed.0.within)) in
    let rest = after_none_round m z ks sound ps boxed.1 past.1 in
    ap (winding m z) (after_append ks p.edges (edges_in ps))
    ∙ omega (arith, linear, own, rest, total_append (crossing_on m z) (after ks p.edges) (after ks (edges_in ps)))
