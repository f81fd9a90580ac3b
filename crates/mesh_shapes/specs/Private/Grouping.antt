-- Where each ring belongs: its place, its area, and the ring with which it stands.
use Rattle.std.specs.Prelude.{ℕ, ◌≡◌, ◌≢◌, ◌<◌, Bool, ◌&&◌, List, [], map, length, slice_index_or, nat_eq}
use Rattle.std.specs.Prelude.{ℤ, pos}
use Rattle.std.specs.List.{All, AllPairs}
use Rattle.mesh_plane.specs.Plane.{Point}
use Rattle.mesh_shapes.specs.Contours.{double_area}
use Rattle.mesh_shapes.specs.Homes.{ring_at, placed, IsHome}
use Rattle.mesh_shapes.specs.Resolution.{Ring, is_head}
use Rattle.std.specs.Prelude.{cond, not, int_lt, ◌∷◌, ◌++◌, Vec}
use Rattle.std.specs.declared.alloc.Global.{Global}
use Rattle.mesh_shapes.specs.Resolution.{shape_of, rings_by_shape, answered}
use Rattle.mesh_shapes.specs.Vectors.{RingVec, rings_of_vecs}

-- the double areas of rings
abbrev pub areas_of : List Ring → List ℤ
areas_of rs = map (λ (r : Ring). double_area r.0) rs

-- the ring at each place stands with that at the place which the list has for it
abbrev pub AreHomes : List RingVec → List ℕ → Type 0
AreHomes rings homes = (i : ℕ) → i < length rings → IsHome (rings_of_vecs rings) i (slice_index_or homes i 0)

-- each of these places is the place of a ring
abbrev pub AreWithin : List RingVec → List ℕ → Type 0
AreWithin rings homes = (i : ℕ) → i < length rings → slice_index_or homes i 0 < length rings

-- the area at the place `k` is less than that at `b`
abbrev pub is_less_at : List ℤ → ℕ → ℕ → Bool
is_less_at areas k b = int_lt (slice_index_or areas k (pos 0)) (slice_index_or areas b (pos 0))

-- the contour that is answered for the ring at a place
abbrev pub contour_at : Bool → List RingVec → ℕ → List Point
contour_at clockwise rings i = answered clockwise (ring_at (rings_of_vecs rings) i).1

-- the contours of the shape that the ring at `h` heads
abbrev pub shape_at : Bool → List Ring → ℕ → List (List Point)
shape_at clockwise rs h = map (answered clockwise) (shape_of (placed rs) (ring_at rs h))

-- that shape, where the ring at `h` heads one
abbrev pub headed : Bool → List Ring → ℕ → List (List (List Point))
headed clockwise rs h = cond (is_head (placed rs) (ring_at rs h)) (shape_at clockwise rs h ∷ []) []

-- the contours of all shapes of rings that stand in order
abbrev pub all_shapes : Bool → List Ring → List (List (List Point))
all_shapes clockwise rs = map (map (answered clockwise)) (rings_by_shape (placed rs))

-- the contours of the shape that the ring at `h` heads, where these are the places of its other rings
abbrev pub contours_at : List Ring → Bool → ℕ → List ℕ → List (List Point)
contours_at rs clockwise h places =
    answered clockwise (ring_at rs h).1 ∷ map (λ (i : ℕ). answered clockwise (ring_at rs i).1) places

-- the places of the rings that head no shape and stand with the ring at `h`
pub record AreMembers (rs : List Ring) (h : ℕ) (places : List ℕ) : Type 0 where
  pub within : All (λ (i : ℕ). i < length rs) places
  pub contours : (clockwise : Bool) → contours_at rs clockwise h places ≡ shape_at clockwise rs h

-- for each ring there are the places of those that head no shape and stand with it
abbrev pub HaveMembers : List RingVec → List (Vec ℕ Global) → Type 0
HaveMembers rings members =
    (h : ℕ) (d : Vec ℕ Global) → h < length rings
    → AreMembers (rings_of_vecs rings) h (slice_index_or members h d).items

-- the place `i` was added to the list of its home, unless that is itself
pub record IsPutHome (old new : List (Vec ℕ Global)) (i home : ℕ) : Type 0 where
  pub len : length new ≡ length old
  pub put : (h : ℕ) (d : Vec ℕ Global) → h < length old
      → (slice_index_or new h d).items ≡ (slice_index_or old h d).items
      ++ cond (nat_eq home h && not (nat_eq i h)) (i ∷ []) []

-- ---- the points of rings move to shapes

-- the ring at the place `k` is as it was
abbrev pub Stays : List RingVec → List RingVec → ℕ → Type 0
Stays old new k = ring_at (rings_of_vecs new) k ≡ ring_at (rings_of_vecs old) k

-- the rings at all other places are as they were
abbrev pub OtherRingsStay : List RingVec → List RingVec → List ℕ → Type 0
OtherRingsStay old new places = (k : ℕ) → All (λ (i : ℕ). k ≢ i) places → Stays old new k

-- the place `h` and those of a list all differ, and `h` is the home of each in the list
pub record AreApart (homes : List ℕ) (h : ℕ) (places : List ℕ) : Type 0 where
  pub differ : AllPairs (λ (i j : ℕ). i ≢ j) (h ∷ places)
  pub homes_are : All (λ (i : ℕ). slice_index_or homes i 0 ≡ h) places

-- for each ring there are places apart from one another, whose home it is
abbrev pub HaveApart : List ℕ → List (Vec ℕ Global) → Type 0
HaveApart homes members =
    (h : ℕ) (d : Vec ℕ Global) → h < length members → AreApart homes h (slice_index_or members h d).items

-- the contours of the ring at `h` and of those at other places, where that ring is its own home
abbrev pub homed : Bool → List Ring → List ℕ → ℕ → List ℕ → List (List (List Point))
homed clockwise rs homes h places =
    cond (nat_eq (slice_index_or homes h 0) h) (contours_at rs clockwise h places ∷ []) []
