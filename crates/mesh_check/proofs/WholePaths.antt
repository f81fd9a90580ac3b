-- Lemmas over paths: one that was not cut is its edge.
use Rattle.std.proofs.Common.{◌≡◌, ℕ, zero, suc, ◌<◌, ◌≤◌, Bool, true, false, cond, List, [], ◌∷◌, ◌++◌, refl, sym, ◌∙◌, ap, subst, arith}
use Rattle.std.specs.Prelude.{ℤ, pos, unsigned_abs}
use Rattle.std.proofs.lemmas.Int.{ints}
use Rattle.mesh_plane.specs.Plane.{Point, Edge, turn}
use Rattle.mesh_lattice.specs.Split.{AreClear, same_ends, split_by, path, EdgeSplit}
use Rattle.mesh_lattice.specs.Splitting.{Leads}
use Rattle.mesh_lattice.proofs.Boxes.{turn_end, turn_start}
use Rattle.mesh_paths.specs.declared.paths.Paths.{Paths}
use Rattle.mesh_paths.specs.Paths.{ArePaths}
use Rattle.mesh_paths.specs.Stops.{count_of, edges_along, pieces_of, point_of}
use Rattle.mesh_check.specs.Bent.{line_of, AreClearPaths, IsBentBy}
use Rattle.mesh_check.specs.Heights.{IsNearLine}
use Rattle.mesh_check.proofs.AlongPaths.{clear_by_places, piece_of}
use Rattle.mesh_check.proofs.Sizes.{near_of_size}

cut_leads : (s : EdgeSplit) (p : Point) (es : List Edge) (r : Point) → Leads p es r → Leads p (split_by s es) r
cut_leads s p [] r h = h
cut_leads s p (f ∷ es) r h = by (same_ends f s.ends) (cut_leads s f.1 es r h.1)
  where
    by : (b : Bool) → Leads f.1 (split_by s es) r → Leads p (cond b ((f.0, s.at) ∷ (s.at, f.1) ∷ []) (f ∷ []) ++ split_by s es) r
    by true rest = (h.0, (refl, rest))
    by false rest = (h.0, rest)

leads : (splits : List EdgeSplit) (e : Edge) → Leads e.0 (path splits e) e.1
leads [] e = (refl, refl)
leads (s ∷ splits) e = cut_leads s e.0 (path splits e) e.1 (leads splits e)

pub whole_path : (p : Paths) (k : ℕ) → ArePaths p → k < count_of p.stops → pieces_of p.stops k ≡ 1 → piece_of p k 0 ≡ line_of p k
whole_path p k paths within one =
    let e : Edge = line_of p k in
    let all : Leads e.0 (edges_along (point_of p.stops k) (pieces_of p.stops k)) e.1 = subst (λ (es : List Edge). Leads e.0 es e.1) (sym (paths.held k within)) (leads p.splits e) in
    let own : Leads e.0 (edges_along (point_of p.stops k) 1) e.1 = subst (λ (n : ℕ). Leads e.0 (edges_along (point_of p.stops k) n) e.1) one all in
    λ i. (sym own.0 i, own.1 i)

no_height : (z : ℤ) (n : ℕ) → z ≡ pos 0 → unsigned_abs z ≤ n
no_height z n h = omega (arith, ints, h)

-- it is not bent
pub whole_bent : (p : Paths) (k : ℕ) → ArePaths p → k < count_of p.stops → pieces_of p.stops k ≡ 1 → IsBentBy p k 0
whole_bent p k paths within one i low = by i (subst (λ (n : ℕ). i ≤ n) one low)
  where
    e : Edge
    e = line_of p k

    is : piece_of p k 0 ≡ e
    is = whole_path p k paths within one

    by : (j : ℕ) → j ≤ 1 → IsNearLine 0 e (point_of p.stops k j)
    by zero h = near_of_size 0 e (point_of p.stops k 0) (no_height _ _ (ap (λ (g : Edge). turn e.0 e.1 g.0) is ∙ turn_start e.0 e.1))
    by (suc zero) h = near_of_size 0 e (point_of p.stops k 1) (no_height _ _ (ap (λ (g : Edge). turn e.0 e.1 g.1) is ∙ turn_end e.0 e.1))
    by (suc (suc j)) h = absurd (omega (arith, h))

-- and two are as clear of each other as their edges
pub whole_clear : (p : Paths) (j k : ℕ) → ArePaths p → j < count_of p.stops → k < count_of p.stops → pieces_of p.stops j ≡ 1 → pieces_of p.stops k ≡ 1
    → AreClear (line_of p j) (line_of p k) → AreClearPaths p j k
whole_clear p j k paths j_within k_within j_one k_one clear =
    clear_by_places p j k (λ i l i_low l_low. by i l (subst (λ (n : ℕ). i < n) j_one i_low) (subst (λ (n : ℕ). l < n) k_one l_low))
  where
    by : (i l : ℕ) → i < 1 → l < 1 → AreClear (piece_of p j i) (piece_of p k l)
    by zero zero h m =
        subst (λ (e : Edge). AreClear e (piece_of p k 0)) (sym (whole_path p j paths j_within j_one))
        (subst (λ (f : Edge). AreClear (line_of p j) f) (sym (whole_path p k paths k_within k_one)) clear)
    by zero (suc l) h m = absurd (omega (arith, m))
    by (suc i) l h m = absurd (omega (arith, h))
