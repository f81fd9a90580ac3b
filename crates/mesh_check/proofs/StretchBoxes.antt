-- Lemmas over paths: stretches whose boxes are apart are clear of each other, and so are those of one piece that is.
use Rattle.std.proofs.Common.{◌≡◌, ◌⊎◌, ⊎_elim, ℕ, ◌+◌, ◌<◌, ◌≤◌, subst, arith}
use Rattle.std.specs.Prelude.{ℤ, ◌≤ℤ◌}
use Rattle.std.proofs.lemmas.Int.{ints}
use Rattle.mesh_plane.specs.Plane.{Point, Edge}
use Rattle.mesh_lattice.specs.Split.{AreClear, IsBetween, IsInBox}
use Rattle.mesh_lattice.proofs.Boxes.{meets_box}
use Rattle.mesh_lattice.proofs.KeptBySplits.{box_trans}
use Rattle.mesh_paths.specs.declared.paths.Paths.{Paths}
use Rattle.mesh_paths.specs.Paths.{edge_of, ArePaths}
use Rattle.mesh_paths.specs.Stops.{point_of}
use Rattle.mesh_check.specs.declared.comparing.Stretch.{Stretch}
use Rattle.mesh_check.specs.Bent.{line_of}
use Rattle.mesh_check.specs.Clear.{ends_of_stretch, AreClearStretches, IsStretchOf}
use Rattle.mesh_check.specs.Heights.{GoesAlong}
use Rattle.mesh_check.proofs.AlongPaths.{goes_along}

-- ---- all stops of a stretch lie in the box of its ends

on_between : (a z b : ℤ) → a ≤ℤ z → z ≤ℤ b → IsBetween a z b
on_between a z b h l = record { up = λ _. (h, l); down = λ d. (omega (arith, ints, h, l, d), omega (arith, ints, h, l, d)) }

back_between : (a z b : ℤ) → z ≤ℤ a → b ≤ℤ z → IsBetween a z b
back_between a z b h l = record { up = λ u. (omega (arith, ints, h, l, u), omega (arith, ints, h, l, u)); down = λ _. (l, h) }

either_way : (a b : ℤ) → (a ≤ℤ b) ⊎ (b ≤ℤ a)
either_way a b = grind (arith, ints)

goes_through : (e : Edge) (p q r : Point) → GoesAlong e p q → GoesAlong e q r → IsInBox (p, r) q
goes_through e p q r h l = record {
  by_x = ⊎_elim (λ (t : e.0.0 ≤ℤ e.1.0). on_between p.0 q.0 r.0 (h.east t) (l.east t)) (λ (t : e.1.0 ≤ℤ e.0.0). back_between p.0 q.0 r.0 (h.west t) (l.west t)) (either_way e.0.0 e.1.0);
  by_y = ⊎_elim (λ (t : e.0.1 ≤ℤ e.1.1). on_between p.1 q.1 r.1 (h.up t) (l.up t)) (λ (t : e.1.1 ≤ℤ e.0.1). back_between p.1 q.1 r.1 (h.down t) (l.down t)) (either_way e.0.1 e.1.1);
}

stop_in_box : (p : Paths) (s : Stretch) (i : ℕ) → ArePaths p → IsStretchOf p s → s.start ≤ i → i ≤ s.end → IsInBox (ends_of_stretch p s) (point_of p.stops s.path i)
stop_in_box p s i paths within from to =
    goes_through (line_of p s.path) (point_of p.stops s.path s.start) (point_of p.stops s.path i) (point_of p.stops s.path s.end)
    (goes_along p s.path s.start i paths within.path from (omega (arith, to, within.end)))
    (goes_along p s.path i s.end paths within.path to within.end)

-- ---- boxes apart

pub apart_clear : (p : Paths) (s t : Stretch) → ArePaths p → IsStretchOf p s → IsStretchOf p t
    → ((c : Point) → IsInBox (ends_of_stretch p s) c → IsInBox (ends_of_stretch p t) c → ⊥) → AreClearStretches p s t
apart_clear p s t paths s_in t_in apart i s_from s_to j t_from t_to c meets =
    let boxes = meets_box meets in
    apart c
    (box_trans (ends_of_stretch p s) (edge_of p (record { path = s.path; place = i })) c (stop_in_box p s i paths s_in s_from (omega (arith, s_to))) (stop_in_box p s (i + 1) paths s_in (omega (arith, s_from)) (omega (arith, s_to))) boxes.0)
    (box_trans (ends_of_stretch p t) (edge_of p (record { path = t.path; place = j })) c (stop_in_box p t j paths t_in t_from (omega (arith, t_to))) (stop_in_box p t (j + 1) paths t_in (omega (arith, t_from)) (omega (arith, t_to))) boxes.1)

-- ---- single pieces

same_place : (start end i : ℕ) → end ≤ start + 1 → start ≤ i → i < end → start ≡ i
same_place start end i one from to = omega (arith, one, from, to)

pub single_clear : (p : Paths) (s t : Stretch) → s.end ≤ s.start + 1 → t.end ≤ t.start + 1
    → AreClear (edge_of p (record { path = s.path; place = s.start })) (edge_of p (record { path = t.path; place = t.start })) → AreClearStretches p s t
single_clear p s t s_one t_one clear i i_from i_to j j_from j_to =
    subst (λ (n : ℕ). AreClear (edge_of p (record { path = s.path; place = n })) (edge_of p (record { path = t.path; place = j }))) (same_place s.start s.end i s_one i_from i_to)
    (subst (λ (n : ℕ). AreClear (edge_of p (record { path = s.path; place = s.start })) (edge_of p (record { path = t.path; place = n }))) (same_place t.start t.end j t_one j_from j_to) clear)
