-- Lemmas over paths: each piece compared with each.
use Rattle.std.proofs.Common.{◌≡◌, ℕ, add-one, subst, arith}
use Rattle.mesh_plane.specs.Plane.{Edge}
use Rattle.mesh_lattice.specs.Split.{AreClear}
use Rattle.mesh_paths.specs.declared.paths.Paths.{Paths}
use Rattle.mesh_paths.specs.Paths.{edge_of}
use Rattle.mesh_paths.specs.Stops.{pieces_of, point_of}
use Rattle.mesh_check.specs.Bent.{AreClearPaths}
use Rattle.mesh_check.specs.Clear.{AreClearStretches}
use Rattle.mesh_check.proofs.AlongPaths.{clear_by_places, piece_of}

piece_is : (p : Paths) (k m i : ℕ) → k ≡ m → edge_of p (record { path = k; place = i }) ≡ piece_of p m i
piece_is p k m i is = λ t. (point_of p.stops (is t) i, point_of p.stops (is t) (add-one i t))

pub clear_as_pieces : (p : Paths) (j k other_j other_k i l : ℕ) → j ≡ other_j → k ≡ other_k
    → AreClear (edge_of p (record { path = j; place = i })) (edge_of p (record { path = k; place = l })) → AreClear (piece_of p other_j i) (piece_of p other_k l)
clear_as_pieces p j k other_j other_k i l first second h =
    subst (λ (e : Edge). AreClear e (piece_of p other_k l)) (piece_is p j other_j i first)
    (subst (λ (e : Edge). AreClear (edge_of p (record { path = j; place = i })) e) (piece_is p k other_k l second) h)

pub clear_by_all : (p : Paths) (j k : ℕ)
    → AreClearStretches p (record { path = j; start = 0; end = pieces_of p.stops j }) (record { path = k; start = 0; end = pieces_of p.stops k }) → AreClearPaths p j k
clear_by_all p j k clear =
    clear_by_places p j k
    (λ i l i_low l_low. clear_as_pieces p j k j k i l (λ t. j) (λ t. k) (clear i (omega arith) i_low l (omega arith) l_low))
