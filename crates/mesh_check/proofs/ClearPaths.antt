-- Lemmas over paths: one is clear of itself, and two are where their edges stay clear, or one lies beside the other's line.
use Rattle.std.proofs.Common.{◌≡◌, ℕ, suc, ◌+◌, ◌*◌, ◌<◌, ◌≤◌, subst, arith}
use Rattle.std.specs.Prelude.{ℤ, pos, ◌≤ℤ◌, neg_ℤ, unsigned_abs}
use Rattle.std.proofs.lemmas.Int.{ints}
use Rattle.mesh_plane.specs.Plane.{Point, Edge, turn}
use Rattle.mesh_pairs.specs.Laws.{spread, IsStop}
use Rattle.mesh_pairs.proofs.Strips.{clear_pieces}
use Rattle.mesh_paths.specs.declared.paths.Paths.{Paths}
use Rattle.mesh_paths.specs.Paths.{edge_of, ArePaths}
use Rattle.mesh_paths.specs.Stops.{count_of, pieces_of, point_of}
use Rattle.mesh_check.specs.Bent.{line_of, AreClearPaths, IsBentBy}
use Rattle.mesh_check.specs.Clear.{LiesBeside, PathsAreClearOfThemselves, PathsBesideAreClear, PathsStayClear}
use Rattle.mesh_check.specs.Heights.{units, IsNearLine}
use Rattle.mesh_check.proofs.AlongPaths.{clear_by_places, paths_along, piece_of, some_line}
use Rattle.mesh_check.proofs.BesideLines.{parted_clear_of}
use Rattle.mesh_check.proofs.BoxedStops.{stop_boxed}
use Rattle.mesh_check.proofs.CommonPoints.{disjoint_clear}
use Rattle.mesh_check.proofs.LeadingApart.{clear_swapped}
use Rattle.mesh_check.proofs.OwnClear.{pieces_clear}

pub paths_swapped : (p : Paths) (j k : ℕ) → AreClearPaths p j k → AreClearPaths p k j
paths_swapped p j k clear a b a_is b_is a_path b_path = clear_swapped (edge_of p b) (edge_of p a) (clear b a b_is a_is b_path a_path)

pub own_clear : PathsAreClearOfThemselves
own_clear p k units paths within bent =
    clear_by_places p k k
    (λ i l i_low l_low.
    pieces_clear units (line_of p k) (point_of p.stops k) (pieces_of p.stops k) (paths_along p k units paths within bent) i l i_low l_low)

-- ---- edges that stay clear

size_of_near : (m : ℕ) (z : ℤ) → neg_ℤ (pos m) ≤ℤ z → z ≤ℤ pos m → unsigned_abs z ≤ m
size_of_near m z low high = omega (arith, ints)

height_of_near : (k : ℕ) (e : Edge) (p : Point) → IsNearLine k e p → unsigned_abs (turn e.0 e.1 p) ≤ k * spread e
unfolding units
height_of_near k e p near = size_of_near (k * spread e) (turn e.0 e.1 p) near.low near.high

stops_within : (p : Paths) (k i units : ℕ) → ArePaths p → k < count_of p.stops → IsBentBy p k units → i ≤ pieces_of p.stops k → IsStop units (line_of p k) (point_of p.stops k i)
stops_within p k i units paths within bent low = record {
  in_box = stop_boxed p k i paths within low;
  height = height_of_near units (line_of p k) (point_of p.stops k i) (bent i low);
}

pub stay_clear : PathsStayClear
stay_clear p j k units paths j_within k_within j_bent k_bent clear =
    clear_by_places p j k
    (λ i l i_low l_low.
    disjoint_clear (piece_of p j i) (piece_of p k l)
    (clear_pieces units (line_of p j) (line_of p k) (piece_of p j i) (piece_of p k l) clear
    (stops_within p j i units paths j_within j_bent (omega arith))
    (stops_within p j (suc i) units paths j_within j_bent (omega arith))
    (stops_within p k l units paths k_within k_bent (omega arith))
    (stops_within p k (suc l) units paths k_within k_bent (omega arith))))

-- ---- edges beside lines

pub beside_clear : PathsBesideAreClear
beside_clear p j k j_units k_units paths j_within k_within j_bent k_bent beside =
    clear_by_places p j k
    (λ i l i_low l_low.
    clear_swapped (piece_of p k l) (piece_of p j i)
    (parted_clear_of j_units k_units (line_of p j) (line_of p k) (piece_of p j i) (piece_of p k l) (some_line p k paths k_within) beside
    (j_bent i (omega arith))
    (j_bent (suc i) (omega arith))
    (stop_boxed p k l paths k_within (omega arith))
    (stop_boxed p k (suc l) paths k_within (omega arith))
    (k_bent l (omega arith))
    (k_bent (suc l) (omega arith))))

-- as the code tests it, by either line
pub clear_by_first : (p : Paths) (j k j_units k_units : ℕ) (e f : Edge) → ArePaths p → j < count_of p.stops → k < count_of p.stops → IsBentBy p j j_units → IsBentBy p k k_units
    → e ≡ line_of p j → f ≡ line_of p k → LiesBeside (j_units + k_units) e f → AreClearPaths p j k
clear_by_first p j k j_units k_units e f paths j_within k_within j_bent k_bent first second beside =
    beside_clear p j k j_units k_units paths j_within k_within j_bent k_bent
    (subst (λ (g : Edge). LiesBeside (j_units + k_units) g (line_of p k)) first (subst (λ (g : Edge). LiesBeside (j_units + k_units) e g) second beside))

pub clear_by_second : (p : Paths) (j k j_units k_units : ℕ) (e f : Edge) → ArePaths p → j < count_of p.stops → k < count_of p.stops → IsBentBy p j j_units → IsBentBy p k k_units
    → e ≡ line_of p j → f ≡ line_of p k → LiesBeside (j_units + k_units) f e → AreClearPaths p j k
clear_by_second p j k j_units k_units e f paths j_within k_within j_bent k_bent first second beside =
    let same : j_units + k_units ≡ k_units + j_units = omega arith in
    paths_swapped p k j
    (clear_by_first p k j k_units j_units f e paths k_within j_within k_bent j_bent second first (subst (λ (n : ℕ). LiesBeside n f e) same beside))
