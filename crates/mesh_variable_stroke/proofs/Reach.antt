-- Lemmas over vertices and lists: the greatest radius of vertices and of paths, and what stays safe within it.
use Rattle.std.proofs.Common.{◌≡◌, ℕ, ◌+◌, ◌<◌, List, [], ◌∷◌, ◌++◌, map, length, get_or, take, refl, sym, ◌∙◌, ap, arith}
use Rattle.std.specs.Prelude.{ℤ, pos, ◌≤ℤ◌, ◌↔◌, IsTrue, ltb, unsigned_abs}
use Rattle.std.specs.Int.{int_max}
use Rattle.std.specs.List.{All}
use Rattle.std.proofs.lemmas.Bool.{ltb-true, lt-ltb}
use Rattle.std.proofs.lemmas.Int.{ints, clamps}
use Rattle.std.proofs.lemmas.List.{take_more}
use Rattle.std.proofs.lemmas.List.Elements.{All-nil, All-cons, All-map, All-weaker}
use Rattle.mesh_plane.specs.Plane.{Point, Edge}
use Rattle.mesh_plane.proofs.ClosedLists.{all_mapped}
use Rattle.mesh_num.specs.Rectangle.{IsBounds, IsSafeRectangle, IsSafeWidened}
use Rattle.mesh_join.specs.VariableStyles.{Vertex}
use Rattle.mesh_offset.specs.Padding.{ArePathsSafe, widened}
use Rattle.mesh_offset.specs.Radii.{radius_of}
use Rattle.mesh_offset.proofs.Padding.{safe_within_less}
use Rattle.mesh_offset.proofs.PaddingBounds.{accepted_by_bounds, accepted_without_points}
use Rattle.mesh_variable_stroke.specs.Drawn.{vertex_points, greatest_radius, AreStrokable}
use Rattle.mesh_variable_stroke.proofs.Safe.{radius_least}
use Rattle.mesh_variable_stroke.specs.Private.RoomLeft.{IsRoomLeft}
use Rattle.mesh_variable_stroke.specs.Strokable.{padding_of, ArePathsStrokable, all_vertex_points}

-- ---- the greatest of numbers

greatest_of_three : (x y z : ℤ) → int_max x (int_max y z) ≡ int_max (int_max x y) z
greatest_of_three x y z = omega (arith, ints, clamps)

greatest_from_none : (x : ℤ) → pos 0 ≤ℤ x → int_max x (pos 0) ≡ int_max (pos 0) x
greatest_from_none x h = omega (arith, ints, clamps)

-- ---- radii

pub greatest_least : (vertices : List Vertex) → pos 0 ≤ℤ greatest_radius vertices
unfolding greatest_radius
greatest_least [] = omega (arith, ints)
greatest_least (v ∷ vs) = omega (arith, ints, clamps, radius_least v.width)

pub padding_least : (paths : List (List Vertex)) → pos 0 ≤ℤ padding_of paths
unfolding padding_of
padding_least [] = omega (arith, ints)
padding_least (path ∷ paths) = omega (arith, ints, clamps, greatest_least path)

greatest_push : (vertices : List Vertex) (v : Vertex)
    → greatest_radius (vertices ++ v ∷ []) ≡ int_max (greatest_radius vertices) (radius_of v.width)
unfolding greatest_radius
greatest_push [] v = greatest_from_none (radius_of v.width) (radius_least v.width)
greatest_push (u ∷ us) v =
    ap (int_max (radius_of u.width)) (greatest_push us v)
    ∙ greatest_of_three (radius_of u.width) (greatest_radius us) (radius_of v.width)

padding_push : (paths : List (List Vertex)) (path : List Vertex)
    → padding_of (paths ++ path ∷ []) ≡ int_max (padding_of paths) (greatest_radius path)
unfolding padding_of
padding_push [] path = greatest_from_none (greatest_radius path) (greatest_least path)
padding_push (p ∷ ps) path =
    ap (int_max (greatest_radius p)) (padding_push ps path)
    ∙ greatest_of_three (greatest_radius p) (padding_of ps) (greatest_radius path)

-- before the first vertex, and the first path
pub greatest_none : greatest_radius [] ≡ pos 0
unfolding greatest_radius
greatest_none = refl

pub padding_none : padding_of [] ≡ pos 0
unfolding padding_of
padding_none = refl

-- with one more vertex, and one more path
pub greatest_more : (vertices : List Vertex) (i : ℕ) (v : Vertex) (before own next : ℤ) → i < length vertices → v ≡ get_or vertices i v →
    before ≡ greatest_radius (take i vertices) → own ≡ radius_of v.width → next ≡ int_max before own →
    next ≡ greatest_radius (take (i + 1) vertices)
greatest_more vertices i v before own next l listed b o n =
    n ∙ ap (λ (r : ℤ). int_max r own) b ∙ ap (int_max (greatest_radius (take i vertices))) (o ∙ ap (λ (u : Vertex). radius_of u.width) listed)
    ∙ sym (greatest_push (take i vertices) (get_or vertices i v)) ∙ sym (ap greatest_radius (take_more vertices i v l))

pub padding_more : (paths : List (List Vertex)) (i : ℕ) (before own next : ℤ) → i < length paths →
    before ≡ padding_of (take i paths) → own ≡ greatest_radius (get_or paths i []) → next ≡ int_max before own →
    next ≡ padding_of (take (i + 1) paths)
padding_more paths i before own next l b o n =
    n ∙ ap (λ (r : ℤ). int_max r own) b ∙ ap (int_max (padding_of (take i paths))) o
    ∙ sym (padding_push (take i paths) (get_or paths i [])) ∙ sym (ap padding_of (take_more paths i [] l))

-- ---- what stays safe

-- a coordinate has room exactly where its size and the padding together stay below the unit
pub room_left : (unit size reach end : ℕ) (padding coordinate : ℤ) → size ≡ unsigned_abs coordinate → reach ≡ unsigned_abs padding → end ≡ unit →
    pos 0 ≤ℤ padding → IsTrue (ltb (size + reach) end) ↔ IsRoomLeft unit padding coordinate
room_left unit size reach end padding coordinate s r e least = (there, back)
  where
    there : IsTrue (ltb (size + reach) end) → IsRoomLeft unit padding coordinate
    there t =
        let below : size + reach < unit = omega (arith, e, ltb-true (size + reach) end t) in (
          record { low = omega (arith, ints, s, r, least, below); high = omega (arith, ints, s, r, least, below) },
          record { low = omega (arith, ints, s, r, least, below); high = omega (arith, ints, s, r, least, below) },
        )

    back : IsRoomLeft unit padding coordinate → IsTrue (ltb (size + reach) end)
    back room = lt-ltb (size + reach) end (omega (arith, ints, s, r, e, least, room.0.low, room.1.high))

-- no radius of a path is above that of all paths
covered : (paths : List (List Vertex)) → All (λ (path : List Vertex). greatest_radius path ≤ℤ padding_of paths) paths
unfolding padding_of
covered [] = All-nil (λ (path : List Vertex). greatest_radius path ≤ℤ padding_of [])
covered (p ∷ ps) =
    All-cons (λ (path : List Vertex). greatest_radius path ≤ℤ padding_of (p ∷ ps)) p ps (omega (arith, ints, clamps))
    (All-weaker (λ (path : List Vertex). greatest_radius path ≤ℤ padding_of ps) (λ (path : List Vertex). greatest_radius path ≤ℤ padding_of (p ∷ ps))
    (λ path h. omega (arith, ints, clamps, h)) ps (covered ps))

-- each path may be stroked by itself
pub each_strokable : (unit : ℕ) (paths : List (List Vertex)) → ArePathsStrokable unit paths
    → All (λ (path : List Vertex). AreStrokable unit (greatest_radius path) path) paths
each_strokable unit paths safe k d h =
    All-weaker (λ (v : Vertex). IsSafeWidened unit (padding_of paths) v.point) (λ (v : Vertex). IsSafeWidened unit (greatest_radius (get_or paths k d)) v.point)
    (λ v s. safe_within_less unit (padding_of paths) (greatest_radius (get_or paths k d)) v.point (greatest_least (get_or paths k d)) (covered paths k d h) s)
    (get_or paths k d) (safe k d h)

-- a vertex stays safe where its point does
abbrev IsSafeVertex : ℕ → ℤ → Vertex → Type 0
IsSafeVertex unit padding v = IsSafeWidened unit padding v.point

-- vertices are safe where their points are
strokable_by_points : (unit : ℕ) (padding : ℤ) (paths : List (List Vertex))
    → All (λ (path : List Vertex). AreStrokable unit padding path) paths ↔ ArePathsSafe unit padding (map vertex_points paths)
strokable_by_points unit padding paths = (
  λ safe.
      All-map (λ (points : List Point). All (IsSafeWidened unit padding) points) vertex_points paths
      (All-weaker (λ (path : List Vertex). All (IsSafeVertex unit padding) path) (λ (path : List Vertex). All (IsSafeWidened unit padding) (vertex_points path))
      (λ path all. All-map (IsSafeWidened unit padding) (λ (v : Vertex). v.point) path all) paths safe),
  λ safe.
      All-weaker (λ (path : List Vertex). All (IsSafeWidened unit padding) (vertex_points path)) (λ (path : List Vertex). All (IsSafeVertex unit padding) path)
      (λ path all. all_mapped (IsSafeWidened unit padding) (λ (v : Vertex). v.point) path all) paths
      (all_mapped (λ (points : List Point). All (IsSafeWidened unit padding) points) vertex_points paths safe),
)

module _ (unit : ℕ) (paths : List (List Vertex)) (P : Type 0) (told : P ↔ ArePathsStrokable unit paths) where
  by_points : P ↔ ArePathsSafe unit (padding_of paths) (map vertex_points paths)
  by_points =
      let s = strokable_by_points unit (padding_of paths) paths in
      (λ p. s.0 (told.0 p), λ safe. told.1 (s.1 safe))

  -- what tells that the paths may be stroked tells that the bounds of all points are safe, moved outwards
  pub told_by_bounds : (bounds : Edge) → IsBounds bounds (all_vertex_points paths) → P ↔ IsSafeRectangle unit (widened (padding_of paths) bounds)
  told_by_bounds = accepted_by_bounds unit (padding_of paths) (map vertex_points paths) P (padding_least paths) by_points

  -- where there is no point the paths may be stroked
  pub told_without_points : all_vertex_points paths ≡ [] → P
  told_without_points = accepted_without_points unit (padding_of paths) (map vertex_points paths) P by_points
