-- Lemmas over points and lists: bounds moved outwards are safe where each point is.
use Rattle.std.proofs.Common.{◌≡◌, ℕ, ◌+◌, ◌*◌, ◌<◌, ◌≤◌, Bool, true, false, List, [], ◌∷◌, map, length, get_or, take, Result, Ok, Err, refl, sym, subst, arith, ◌&&◌, take_all}
use Rattle.std.specs.Prelude.{ℤ, pos, ◌+ℤ◌, ◌-ℤ◌, ◌≤ℤ◌, ◌<ℤ◌, ◌↔◌, IsTrue, IsOk, OnOk}
use Rattle.std.specs.List.{All, Contains}
use Rattle.std.proofs.lemmas.Bool.{true≢false}
use Rattle.std.proofs.lemmas.Int.{ints}
use Rattle.std.proofs.lemmas.List.Elements.{All-nil, All-cons, All-map, All-weaker, All-contains, All-more}
use Rattle.std.proofs.Math.Nat.{mul-le-mul_right}
use Rattle.mesh_plane.proofs.ClosedLists.{all_flat_map}
use Rattle.mesh_plane.specs.Bounds.{IsSafe, IsSmall, IsWithin}
use Rattle.mesh_plane.specs.Plane.{Point, Edge, plus, minus}
use Rattle.mesh_num.specs.Rectangle.{IsInRectangle, IsBounds, IsSafeRectangle, IsSafeWidened}
use Rattle.mesh_plane.proofs.ClosedLists.{all_left, all_right}
use Rattle.mesh_offset.specs.Padding.{ArePathsSafe, all_points, widened}

-- the west side is no farther east than the east side
pub bounds_ordered : (bounds : Edge) (points : List Point) → IsBounds bounds points → bounds.0.0 ≤ℤ bounds.1.0
bounds_ordered bounds points h =
    All-contains (λ (x : ℤ). x ≤ℤ bounds.1.0) (map (λ (p : Point). p.0) points) bounds.0.0
    (All-map (λ (x : ℤ). x ≤ℤ bounds.1.0) (λ (p : Point). p.0) points (All-weaker (λ (p : Point). IsInRectangle bounds p) (λ (p : Point). p.0 ≤ℤ bounds.1.0) (λ p i. i.east) points h.inside))
    h.west

-- what holds of a coordinate of each point holds of a side that is one of them
of_side : (f : Point → ℤ) (P : ℤ → Type 0) (points : List Point) (side : ℤ) → All (λ (p : Point). P (f p)) points → Contains (map f points) side → P side
of_side f P points side all found = All-contains P (map f points) side (All-map P f points all) found

inside_safe : (unit : ℕ) (padding : ℤ) (bounds : Edge) (p : Point) → pos 0 ≤ℤ padding → IsSafeRectangle unit (widened padding bounds) → IsInRectangle bounds p → IsSafeWidened unit padding p
inside_safe unit padding bounds p least s i = (
  record {
    x = record { low = omega (arith, ints, s.0.x.low, i.west); high = omega (arith, ints, s.1.x.high, i.east) };
    y = record { low = omega (arith, ints, s.0.y.low, i.south); high = omega (arith, ints, s.1.y.high, i.north) };
  },
  record {
    x = record { low = omega (arith, ints, s.0.x.low, i.west); high = omega (arith, ints, s.1.x.high, i.east) };
    y = record { low = omega (arith, ints, s.0.y.low, i.south); high = omega (arith, ints, s.1.y.high, i.north) };
  },
)

-- bounds moved outwards are safe exactly where each point stays safe
pub widened_bounds_safe : (unit : ℕ) (padding : ℤ) (bounds : Edge) (points : List Point) → pos 0 ≤ℤ padding → IsBounds bounds points →
    IsSafeRectangle unit (widened padding bounds) ↔ All (λ (p : Point). IsSafeWidened unit padding p) points
widened_bounds_safe unit padding bounds points least h = (λ s. there s, λ all. back all)
  where
    there : IsSafeRectangle unit (widened padding bounds) → All (λ (p : Point). IsSafeWidened unit padding p) points
    there s = All-weaker (λ (p : Point). IsInRectangle bounds p) (λ (p : Point). IsSafeWidened unit padding p) (λ p i. inside_safe unit padding bounds p least s i) points h.inside

    back : All (λ (p : Point). IsSafeWidened unit padding p) points → IsSafeRectangle unit (widened padding bounds)
    back all =
        let low : All (λ (p : Point). IsSafe unit (minus p (padding, padding))) points = All-weaker (λ (p : Point). IsSafeWidened unit padding p) (λ (p : Point). IsSafe unit (minus p (padding, padding))) (λ p w. w.0) points all in
        let high : All (λ (p : Point). IsSafe unit (plus p (padding, padding))) points = All-weaker (λ (p : Point). IsSafeWidened unit padding p) (λ (p : Point). IsSafe unit (plus p (padding, padding))) (λ p w. w.1) points all in (
          record {
            x = of_side (λ (p : Point). p.0) (λ (x : ℤ). IsSmall unit (x -ℤ padding)) points bounds.0.0 (All-weaker (λ (p : Point). IsSafe unit (minus p (padding, padding))) (λ (p : Point). IsSmall unit (p.0 -ℤ padding)) (λ p s. s.x) points low) h.west;
            y = of_side (λ (p : Point). p.1) (λ (y : ℤ). IsSmall unit (y -ℤ padding)) points bounds.0.1 (All-weaker (λ (p : Point). IsSafe unit (minus p (padding, padding))) (λ (p : Point). IsSmall unit (p.1 -ℤ padding)) (λ p s. s.y) points low) h.south;
          },
          record {
            x = of_side (λ (p : Point). p.0) (λ (x : ℤ). IsSmall unit (x +ℤ padding)) points bounds.1.0 (All-weaker (λ (p : Point). IsSafe unit (plus p (padding, padding))) (λ (p : Point). IsSmall unit (p.0 +ℤ padding)) (λ p s. s.x) points high) h.east;
            y = of_side (λ (p : Point). p.1) (λ (y : ℤ). IsSmall unit (y +ℤ padding)) points bounds.1.1 (All-weaker (λ (p : Point). IsSafe unit (plus p (padding, padding))) (λ (p : Point). IsSmall unit (p.1 +ℤ padding)) (λ p s. s.y) points high) h.north;
          },
        )

-- a test of the bounds of a path is one of its points
pub path_tested : (unit : ℕ) (padding : ℤ) (bounds : Edge) (points path : List Point) (b : Bool) → pos 0 ≤ℤ padding → IsBounds bounds points → points ≡ path →
    IsTrue b ↔ IsSafeRectangle unit (widened padding bounds) → IsTrue b ↔ All (λ (p : Point). IsSafeWidened unit padding p) path
path_tested unit padding bounds points path b least h e t =
    let w : IsSafeRectangle unit (widened padding bounds) ↔ All (λ (p : Point). IsSafeWidened unit padding p) path =
    rw (← e) (widened_bounds_safe unit padding bounds points least h) in
    (λ i. w.0 (t.0 i), λ a. t.1 (w.1 a))

-- all points of safe paths are safe
pub paths_safe : (unit : ℕ) (padding : ℤ) (paths : List (List Point)) → ArePathsSafe unit padding paths ↔ All (λ (p : Point). IsSafeWidened unit padding p) (all_points paths)
paths_safe unit padding paths = (λ h. all_flat_map P (λ (path : List Point). path) paths h, back paths)
  where
    P : Point → Type 0
    P p = IsSafeWidened unit padding p

    back : (ps : List (List Point)) → All P (all_points ps) → ArePathsSafe unit padding ps
    back [] h = All-nil (λ (path : List Point). All P path)
    back (path ∷ ps) h = All-cons (λ (l : List Point). All P l) path ps (all_left P path (all_points ps) h) (back ps (all_right P path (all_points ps) h))

-- one more safe path
pub paths_safe_more : (unit : ℕ) (padding : ℤ) (paths : List (List Point)) (i : ℕ) → i < length paths → ArePathsSafe unit padding (take i paths) →
    All (λ (p : Point). IsSafeWidened unit padding p) (get_or paths i []) → ArePathsSafe unit padding (take (i + 1) paths)
paths_safe_more unit padding paths i h before here = All-more (λ (path : List Point). All (λ (p : Point). IsSafeWidened unit padding p) path) paths i [] h before here

-- a side moved by a padding below the unit fits the wide type
pub side_fits : (half unit : ℕ) (side padding : ℤ) → half ≡ 8 * unit * unit → 1 ≤ unit → IsWithin (2 * unit) side → pos 0 ≤ℤ padding → padding <ℤ pos unit →
    IsWithin half (side -ℤ padding) × IsWithin half (side +ℤ padding)
side_fits half unit side padding e some s least most =
    let room : 8 * 1 * unit ≤ 8 * unit * unit = omega (arith, mul-le-mul_right unit some) in
    (record { low = omega (arith, ints, s.low); high = omega (arith, ints, s.high) }, record { low = omega (arith, ints, s.low); high = omega (arith, ints, s.high) })

-- bounds are tested by the coordinates of their sides
pub bounds_tested : (unit : ℕ) (padding : ℤ) (bounds : Edge) (x y z w : ℤ) (low high both : Bool) → both ≡ (low && high) →
    x ≡ bounds.0.0 -ℤ padding → y ≡ bounds.0.1 -ℤ padding → z ≡ bounds.1.0 +ℤ padding → w ≡ bounds.1.1 +ℤ padding →
    IsTrue low ↔ IsSafe unit (x, y) → IsTrue high ↔ IsSafe unit (z, w) → IsTrue both ↔ IsSafeRectangle unit (widened padding bounds)
bounds_tested unit padding bounds x y z w low high both b ex ey ez ew l h =
    let p : IsTrue low ↔ IsSafe unit (minus bounds.0 (padding, padding)) = subst (λ (q : Point). IsTrue low ↔ IsSafe unit q) (λ i. (ex i, ey i)) l in
    let q : IsTrue high ↔ IsSafe unit (plus bounds.1 (padding, padding)) = subst (λ (q : Point). IsTrue high ↔ IsSafe unit q) (λ i. (ez i, ew i)) h in
    rw b (by low high p q)
  where
    by : (l h : Bool) → IsTrue l ↔ IsSafe unit (minus bounds.0 (padding, padding)) → IsTrue h ↔ IsSafe unit (plus bounds.1 (padding, padding)) →
        IsTrue (l && h) ↔ IsSafeRectangle unit (widened padding bounds)
    by true h p q = (λ t. (p.0 refl, q.0 t), λ s. q.1 s.1)
    by false h p q = (λ t. absurd (true≢false (sym t)), λ s. p.1 s.0)

-- after the last path all are safe
pub all_paths_safe : (unit : ℕ) (padding : ℤ) (paths : List (List Point)) (i : ℕ) → length paths ≤ i → ArePathsSafe unit padding (take i paths) → ArePathsSafe unit padding paths
all_paths_safe unit padding paths i h safe = subst (λ (ps : List (List Point)). ArePathsSafe unit padding ps) (take_all i paths h) safe

-- what tells that all paths are safe tells that the bounds of all points are, moved outwards
pub accepted_by_bounds : (unit : ℕ) (padding : ℤ) (paths : List (List Point)) (P : Type 0) → pos 0 ≤ℤ padding → P ↔ ArePathsSafe unit padding paths →
    (bounds : Edge) → IsBounds bounds (all_points paths) → P ↔ IsSafeRectangle unit (widened padding bounds)
accepted_by_bounds unit padding paths P least t bounds h =
    let p : ArePathsSafe unit padding paths ↔ All (λ (p : Point). IsSafeWidened unit padding p) (all_points paths) = paths_safe unit padding paths in
    let w : IsSafeRectangle unit (widened padding bounds) ↔ All (λ (p : Point). IsSafeWidened unit padding p) (all_points paths) = widened_bounds_safe unit padding bounds (all_points paths) least h in
    (λ a. w.1 (p.0 (t.0 a)), λ s. t.1 (p.1 (w.0 s)))

-- where there is no point all paths are safe
pub accepted_without_points : (unit : ℕ) (padding : ℤ) (paths : List (List Point)) (P : Type 0) → P ↔ ArePathsSafe unit padding paths → all_points paths ≡ [] → P
accepted_without_points unit padding paths P t none =
    let p : ArePathsSafe unit padding paths ↔ All (λ (p : Point). IsSafeWidened unit padding p) (all_points paths) = paths_safe unit padding paths in
    t.1 (p.1 (rw none (All-nil (λ (p : Point). IsSafeWidened unit padding p))))

-- what follows of success holds on success
pub on_ok_where : {A E : Type 0} (r : Result A E) {P : Type 0} → (IsOk r → P) → OnOk r P
on_ok_where (Ok x) h = h refl
on_ok_where (Err e) h = tt
