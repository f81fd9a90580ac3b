-- Lemmas over edges and splits: all stops of a path lie in the box of its edge.
use Rattle.std.proofs.Common.{◌≡◌, ℕ, zero, suc, ◌<◌, ◌≤◌, Bool, true, false, cond, List, [], ◌∷◌, refl, sym, subst, arith}
use Rattle.mesh_plane.specs.Plane.{Point, Edge}
use Rattle.mesh_lattice.specs.Split.{same_ends, split_by, split_edge, path, EdgeSplit, IsInBox}
use Rattle.mesh_lattice.proofs.Boxes.{between_end, between_start}
use Rattle.mesh_lattice.proofs.Each.{Each, each_append}
use Rattle.mesh_lattice.proofs.KeptBySplits.{box_trans, cut_box}
use Rattle.mesh_lattice.proofs.SoundSplits.{legal_sound, IsSound}
use Rattle.mesh_paths.specs.declared.paths.Paths.{Paths}
use Rattle.mesh_paths.specs.Paths.{given_to, ArePaths}
use Rattle.mesh_paths.specs.Stops.{count_of, edges_along, pieces_of, point_of}
use Rattle.mesh_paths.proofs.Onward.{pieces_some}
use Rattle.mesh_check.specs.Bent.{line_of}

-- both ends of an edge lie in a box
abbrev IsBoxed : Edge → Edge → Type 0
IsBoxed e f = IsInBox e f.0 × IsInBox e f.1

split_boxed : (e : Edge) (s : EdgeSplit) → IsInBox s.ends s.at → (fs : List Edge) → Each (IsBoxed e) fs → Each (IsBoxed e) (split_by s fs)
split_boxed e s box [] h = tt
split_boxed e s box (f ∷ fs) h =
    each_append (IsBoxed e) (split_edge s f) (split_by s fs) (by (same_ends f s.ends) refl) (split_boxed e s box fs h.1)
  where
    by : (b : Bool) → same_ends f s.ends ≡ b → Each (IsBoxed e) (cond b ((f.0, s.at) ∷ (s.at, f.1) ∷ []) (f ∷ []))
    by true t =
        let at : IsInBox e s.at = box_trans e f s.at h.0.0 h.0.1 (cut_box s f box t) in
        ((h.0.0, at), ((at, h.0.1), tt))
    by false t = (h.0, tt)

path_boxed : (e : Edge) (splits : List EdgeSplit) → Each IsSound splits → Each (IsBoxed e) (path splits e)
path_boxed e [] sound =
    ((record { by_x = between_start e.0.0 e.1.0; by_y = between_start e.0.1 e.1.1 }, record { by_x = between_end e.0.0 e.1.0; by_y = between_end e.0.1 e.1.1 }), tt)
path_boxed e (s ∷ splits) sound = split_boxed e s sound.0.boxed (path splits e) (path_boxed e splits sound.1)

piece_at : (P : Edge → Type 0) (a : ℕ → Point) (n i : ℕ) → Each P (edges_along a n) → i < n → P (a i, a (suc i))
piece_at P a zero i h low = absurd (omega arith)
piece_at P a (suc n) zero h low = h.0
piece_at P a (suc n) (suc i) h low = piece_at P (λ m. a (suc m)) n i h.1 (omega arith)

stop_at : (e : Edge) (a : ℕ → Point) (n i : ℕ) → Each (IsBoxed e) (edges_along a n) → 0 < n → i ≤ n → IsInBox e (a i)
stop_at e a n zero h some low = (piece_at (IsBoxed e) a n zero h some).0
stop_at e a n (suc i) h some low = (piece_at (IsBoxed e) a n i h (omega arith)).1

pub stop_boxed : (p : Paths) (k i : ℕ) → ArePaths p → k < count_of p.stops → i ≤ pieces_of p.stops k → IsInBox (line_of p k) (point_of p.stops k i)
stop_boxed p k i paths within low =
    stop_at (line_of p k) (point_of p.stops k) (pieces_of p.stops k) i
    (subst (Each (IsBoxed (line_of p k))) (sym (paths.held k within)) (path_boxed (line_of p k) p.splits (legal_sound (given_to p) p.splits paths.legal)))
    (pieces_some p.splits (line_of p k) (point_of p.stops k) (pieces_of p.stops k) (paths.held k within))
    low
