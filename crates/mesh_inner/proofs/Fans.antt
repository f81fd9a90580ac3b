-- Lemmas over points and lists: seen from a corner, a fan of triangles with room holds the near points between its ends.
use Rattle.std.proofs.Common.{◌≡◌, ℕ, ◌*◌, ◌<◌, ◌≤◌, zero, suc, List, [], ◌∷◌, refl, ap, arith}
use Rattle.std.specs.Prelude.{◌≢◌, ℤ, pos, neg_ℤ, ◌+ℤ◌, ◌-ℤ◌, ◌*ℤ◌, ◌≤ℤ◌, ◌<ℤ◌, unsigned_abs}
use Rattle.std.specs.List.{All, Contains}
use Rattle.std.proofs.lemmas.Int.{ints, by_lt_z}
use Rattle.std.proofs.lemmas.List.Elements.{All-nil, All-cons, All-head, All-tail, All-contains_itself, Contains-append_right}
use Rattle.mesh_plane.specs.Plane.{Point, Edge, plus, minus, cross, dot, turn, length_sq, right_quarter}
use Rattle.mesh_plane.specs.Winding.{refined, winding, route, boundary, fan}
use Rattle.mesh_plane.proofs.Whole.{linear, mul_add, mul_nonneg, mul_nonneg_nonpos, mul_nonpos_nonneg, mul_pos, mul_pos_neg, square_nonneg, pos_of_mul, mul_le_mul_left, mul_lt_mul_left, times_zero}
use Rattle.mesh_plane.proofs.Ring.{ring, var, neg, ◌⊕◌, ◌⊖◌, ◌⊗◌, dot_of}
use Rattle.mesh_plane.proofs.PointExprs.{PointExpr, point_var, coordinates, apart, crossed, turned, scaled_point_expr}
use Rattle.mesh_plane.proofs.Identities.{cross_flip}
use Rattle.mesh_plane.proofs.Sizes.{dot_self}
use Rattle.mesh_inner.specs.Room.{HasRoom, FansHaveRoom}
use Rattle.mesh_inner.proofs.Inside.{triangle_holds, twice_below, twice_least}

-- ---- numbers

-- the square of the vector that takes `a` times one with the square `x` and `b` times one with the square `y`, of which
-- the product is `c`
abbrev mixed : ℤ → ℤ → ℤ → ℤ → ℤ → ℤ
mixed a b x c y = ((a *ℤ a) *ℤ x) +ℤ (((a *ℤ b) *ℤ (c +ℤ c)) +ℤ ((b *ℤ b) *ℤ y))

-- with room there, it is as long as `a` and `b` together say
grows_from_first : (t x c y a b : ℤ) → pos 0 ≤ℤ a → pos 0 ≤ℤ b → t ≤ℤ (x +ℤ x) → t ≤ℤ (x +ℤ c) → x ≤ℤ y →
    (t *ℤ ((a +ℤ b) *ℤ (a +ℤ b))) ≤ℤ (mixed a b x c y +ℤ mixed a b x c y)
grows_from_first t x c y a b ha hb first by_first less =
    omega (
      arith,
      linear,
      parts,
      mul_nonneg ((x +ℤ x) -ℤ t) ((a -ℤ b) *ℤ (a -ℤ b)) (omega (arith, linear, first)) (square_nonneg (a -ℤ b)),
      mul_nonneg (a *ℤ b) ((x +ℤ c) -ℤ t) (mul_nonneg a b ha hb) (omega (arith, linear, by_first)),
      mul_nonneg (b *ℤ b) (y -ℤ x) (square_nonneg b) (omega (arith, linear, less)),
    )
  where
    parts : mixed a b x c y +ℤ mixed a b x c y ≡ (t *ℤ ((a +ℤ b) *ℤ (a +ℤ b))) +ℤ
        ((((x +ℤ x) -ℤ t) *ℤ ((a -ℤ b) *ℤ (a -ℤ b))) +ℤ
        (((((a *ℤ b) *ℤ ((x +ℤ c) -ℤ t)) +ℤ ((a *ℤ b) *ℤ ((x +ℤ c) -ℤ t))) +ℤ
        (((a *ℤ b) *ℤ ((x +ℤ c) -ℤ t)) +ℤ ((a *ℤ b) *ℤ ((x +ℤ c) -ℤ t)))) +ℤ
        (((b *ℤ b) *ℤ (y -ℤ x)) +ℤ ((b *ℤ b) *ℤ (y -ℤ x)))))
    parts =
        let ab = var 4 ⊗ var 5 in
        let square = ((var 4 ⊗ var 4) ⊗ var 1) ⊕ ((ab ⊗ (var 2 ⊕ var 2)) ⊕ ((var 5 ⊗ var 5) ⊗ var 3)) in
        let open_room = ab ⊗ ((var 1 ⊕ var 2) ⊖ var 0) in
        let open_more = (var 5 ⊗ var 5) ⊗ (var 3 ⊖ var 1) in
        ring (t ∷ x ∷ c ∷ y ∷ a ∷ b ∷ []) (square ⊕ square)
        ((var 0 ⊗ ((var 4 ⊕ var 5) ⊗ (var 4 ⊕ var 5))) ⊕
        ((((var 1 ⊕ var 1) ⊖ var 0) ⊗ ((var 4 ⊖ var 5) ⊗ (var 4 ⊖ var 5))) ⊕
        (((open_room ⊕ open_room) ⊕ (open_room ⊕ open_room)) ⊕ (open_more ⊕ open_more))))
        refl

grows : (t x c y a b : ℤ) → pos 0 ≤ℤ a → pos 0 ≤ℤ b → t ≤ℤ (x +ℤ x) → t ≤ℤ (y +ℤ y) → t ≤ℤ (x +ℤ c) → t ≤ℤ (y +ℤ c) →
    (t *ℤ ((a +ℤ b) *ℤ (a +ℤ b))) ≤ℤ (mixed a b x c y +ℤ mixed a b x c y)
grows t x c y a b ha hb first last by_first by_last =
    by_lt_z y x
    (λ (less : y <ℤ x).
    omega (arith, linear, grows_from_first t y c x b a hb ha last by_last (omega (arith, linear, less)), swapped, sums))
    (λ (less : x ≤ℤ y). grows_from_first t x c y a b ha hb first by_first less)
  where
    swapped : mixed b a y c x ≡ mixed a b x c y
    swapped =
        ring (x ∷ c ∷ y ∷ a ∷ b ∷ [])
        (((var 4 ⊗ var 4) ⊗ var 2) ⊕ (((var 4 ⊗ var 3) ⊗ (var 1 ⊕ var 1)) ⊕ ((var 3 ⊗ var 3) ⊗ var 0)))
        (((var 3 ⊗ var 3) ⊗ var 0) ⊕ (((var 3 ⊗ var 4) ⊗ (var 1 ⊕ var 1)) ⊕ ((var 4 ⊗ var 4) ⊗ var 2)))
        refl

    sums : t *ℤ ((b +ℤ a) *ℤ (b +ℤ a)) ≡ t *ℤ ((a +ℤ b) *ℤ (a +ℤ b))
    sums =
        ring (t ∷ a ∷ b ∷ []) (var 0 ⊗ ((var 2 ⊕ var 1) ⊗ (var 2 ⊕ var 1)))
        (var 0 ⊗ ((var 1 ⊕ var 2) ⊗ (var 1 ⊕ var 2)))
        refl

-- what is so near takes less than a whole
within_whole : (w n t u m : ℤ) → pos 0 ≤ℤ w → pos 0 <ℤ n → pos 0 ≤ℤ t → pos 0 ≤ℤ u → pos 0 ≤ℤ m →
    (u +ℤ u) <ℤ (t *ℤ (m *ℤ m)) → (t *ℤ (n *ℤ n)) ≤ℤ ((w *ℤ w) *ℤ (u +ℤ u)) → n <ℤ (w *ℤ m)
within_whole w n t u m hw hn ht hu hm near long =
    by_lt_z n (w *ℤ m) (λ (h : n <ℤ (w *ℤ m)). h) (λ (h : (w *ℤ m) ≤ℤ n). absurd (none h))
  where
    some : pos 0 <ℤ t
    some =
        let order : (m *ℤ m) *ℤ t ≡ t *ℤ (m *ℤ m) =
        ring (m ∷ t ∷ []) ((var 0 ⊗ var 0) ⊗ var 1) (var 1 ⊗ (var 0 ⊗ var 0)) refl in
        pos_of_mul (m *ℤ m) t (square_nonneg m) (omega (arith, linear, order, near, hu))

    none : (w *ℤ m) ≤ℤ n → ⊥
    none h =
        let first = mul_le_mul_left (w *ℤ m) (w *ℤ m) n (mul_nonneg w m hw hm) h in
        let second : (n *ℤ (w *ℤ m)) ≤ℤ (n *ℤ n) = mul_le_mul_left n (w *ℤ m) n (omega (arith, linear, hn)) h in
        let same : (w *ℤ m) *ℤ n ≡ n *ℤ (w *ℤ m) =
        ring (w ∷ m ∷ n ∷ []) ((var 0 ⊗ var 1) ⊗ var 2) (var 2 ⊗ (var 0 ⊗ var 1)) refl in
        let less : ((w *ℤ m) *ℤ (w *ℤ m)) ≤ℤ (n *ℤ n) = omega (arith, linear, first, second, same) in
        let order : t *ℤ ((w *ℤ m) *ℤ (w *ℤ m)) ≡ (w *ℤ w) *ℤ (t *ℤ (m *ℤ m)) =
        ring (t ∷ w ∷ m ∷ []) (var 0 ⊗ ((var 1 ⊗ var 2) ⊗ (var 1 ⊗ var 2)))
        ((var 1 ⊗ var 1) ⊗ (var 0 ⊗ (var 2 ⊗ var 2)))
        refl in
        by_lt_z (pos 0) w
        (λ (l : pos 0 <ℤ w).
        omega (
          arith,
          linear,
          long,
          mul_le_mul_left t ((w *ℤ m) *ℤ (w *ℤ m)) (n *ℤ n) ht less,
          order,
          mul_lt_mul_left (w *ℤ w) (u +ℤ u) (t *ℤ (m *ℤ m)) (mul_pos w w l l) near,
        ))
        (λ (l : w ≤ℤ pos 0).
        omega (
          arith,
          linear,
          long,
          mul_nonpos_nonneg (w *ℤ w) (u +ℤ u) (mul_nonneg_nonpos w w hw l) (omega (arith, linear, hu)),
          mul_pos t (n *ℤ n) some (mul_pos n n hn hn),
        ))

-- ---- one triangle

-- (x×y)²|u|² = |(u×y)x + (x×u)y|²
through : (x y u : Point) →
    (cross x y *ℤ cross x y) *ℤ dot u u ≡ mixed (cross u y) (cross x u) (dot x x) (dot x y) (dot y y)
through x y u =
    let c = λ (i : ℕ). λ (j : ℕ). crossed (point_var i) (point_var j) in
    let xx = dot_of (var 0) (var 1) (var 0) (var 1) in
    let xy = dot_of (var 0) (var 1) (var 2) (var 3) in
    let yy = dot_of (var 2) (var 3) (var 2) (var 3) in
    let a = c 2 1 in
    let b = c 0 2 in
    ring (coordinates (x ∷ y ∷ u ∷ []) []) ((c 0 1 ⊗ c 0 1) ⊗ dot_of (var 4) (var 5) (var 4) (var 5))
    (((a ⊗ a) ⊗ xx) ⊕ (((a ⊗ b) ⊗ (xy ⊕ xy)) ⊕ ((b ⊗ b) ⊗ yy)))
    refl

across : (m : ℤ) (x y u : Point) →
    turn (m *ℤ x.0, m *ℤ x.1) (m *ℤ y.0, m *ℤ y.1) u ≡ m *ℤ ((cross x y *ℤ m) -ℤ (cross u y +ℤ cross x u))
across m x y u =
    let c = λ (i : ℕ). λ (j : ℕ). crossed (point_var i) (point_var j) in
    ring (coordinates (x ∷ y ∷ u ∷ []) (m ∷ []))
    (turned (scaled_point_expr (var 6) (point_var 0)) (scaled_point_expr (var 6) (point_var 1)) (point_var 2))
    (var 6 ⊗ ((c 0 1 ⊗ var 6) ⊖ (c 2 1 ⊕ c 0 2)))
    refl

-- what lies between the ends of an edge and near the corner lies before the edge
pub between : (t m : ℕ) (x y u : Point) → HasRoom t x y → pos 0 <ℤ cross x u → cross y u <ℤ pos 0 →
    2 * length_sq u < t * (m * m) → pos 0 <ℤ turn (refined m x) (refined m y) u
between t m x y u room left right near =
    omega (
      arith,
      linear,
      across (pos m) x y u,
      mul_pos (pos m) ((cross x y *ℤ pos m) -ℤ (cross u y +ℤ cross x u)) some (omega (arith, linear, less)),
    )
  where
    back : pos 0 <ℤ cross u y
    back = omega (arith, linear, cross_flip y u, right)

    any : pos 0 ≤ℤ pos m
    any = omega (arith, ints)

    long : (pos t *ℤ ((cross u y +ℤ cross x u) *ℤ (cross u y +ℤ cross x u))) ≤ℤ
        ((cross x y *ℤ cross x y) *ℤ (dot u u +ℤ dot u u))
    long =
        let twice : (cross x y *ℤ cross x y) *ℤ (dot u u +ℤ dot u u) ≡
        ((cross x y *ℤ cross x y) *ℤ dot u u) +ℤ ((cross x y *ℤ cross x y) *ℤ dot u u) =
        mul_add (cross x y *ℤ cross x y) (dot u u) (dot u u) in
        omega (
          arith,
          linear,
          twice,
          through x y u,
          grows (pos t) (dot x x) (dot x y) (dot y y) (cross u y) (cross x u) (omega (arith, linear, back))
              (omega (arith, linear, left)) (twice_least t (length_sq x) (pos t) (dot x x) room.first refl (dot_self x))
              (twice_least t (length_sq y) (pos t) (dot y y) room.last refl (dot_self y))
              (omega (arith, linear, room.by_first, dot_self x)) (omega (arith, linear, room.by_last, dot_self y)),
        )

    less : (cross u y +ℤ cross x u) <ℤ (cross x y *ℤ pos m)
    less =
        within_whole (cross x y) (cross u y +ℤ cross x u) (pos t) (dot u u) (pos m) room.ahead
        (omega (arith, linear, back, left)) (omega (arith, ints)) (let e = dot_self u in omega (arith, ints, e)) any
        (twice_below (t * (m * m)) (length_sq u) (dot u u) near (dot_self u)) long

    some : pos 0 <ℤ pos m
    some = pos_of_mul (cross x y) (pos m) room.ahead (omega (arith, linear, less, back, left))

-- ---- a fan

-- above 0 where the point `q` of the grid `m` lies to the left of the way from `v` to `p`
abbrev pub side_of : ℕ → Point → Point → Point → ℤ
side_of m v q p = cross (minus p v) (minus q (refined m v))

-- one of some pieces that winds once round a point
pub record HoldsOnce (m : ℕ) (q : Point) (pieces : List (List Point)) : Type 0 where
  pub piece : List Point
  pub listed : Contains pieces piece
  pub once : winding m q (boundary piece) ≡ pos 1

-- the turn of a point from the way to `p`, and from the way back
pub turn_by_side : (m : ℕ) (v q p : Point) → turn (refined m v) (refined m p) q ≡ pos m *ℤ side_of m v q p
turn_by_side m v q p =
    let v' = scaled_point_expr (var 6) (point_var 0) in
    ring (coordinates (v ∷ q ∷ p ∷ []) (pos m ∷ [])) (turned v' (scaled_point_expr (var 6) (point_var 2)) (point_var 1))
    (var 6 ⊗ crossed (apart (point_var 2) (point_var 0)) (apart (point_var 1) v'))
    refl

turn_back : (m : ℕ) (v q p : Point) → turn (refined m p) (refined m v) q ≡ neg_ℤ (pos m *ℤ side_of m v q p)
turn_back m v q p =
    let v' = scaled_point_expr (var 6) (point_var 0) in
    ring (coordinates (v ∷ q ∷ p ∷ []) (pos m ∷ [])) (turned (scaled_point_expr (var 6) (point_var 2)) v' (point_var 1))
    (neg (var 6 ⊗ crossed (apart (point_var 2) (point_var 0)) (apart (point_var 1) v')))
    refl

from_corner : (m : ℕ) (v q x y : Point) →
    turn (refined m x) (refined m y) q ≡
    turn (refined m (minus x v)) (refined m (minus y v)) (minus q (refined m v))
from_corner m v q x y =
    let scaled = λ (p : PointExpr). scaled_point_expr (var 8) p in
    ring (coordinates (v ∷ q ∷ x ∷ y ∷ []) (pos m ∷ [])) (turned (scaled (point_var 2)) (scaled (point_var 3)) (point_var 1))
    (turned (scaled (apart (point_var 2) (point_var 0))) (scaled (apart (point_var 3) (point_var 0)))
    (apart (point_var 1) (scaled (point_var 0))))
    refl

positive_of : (t m n : ℕ) → n < t * (m * m) → 0 < m
positive_of t zero n h = absurd (omega arith)
positive_of t (suc m) n h = omega arith

-- a triangle with room holds the near points between its ends
pub over_edge : (t m : ℕ) (v q x y : Point) → HasRoom t (minus x v) (minus y v) →
    2 * length_sq (minus q (refined m v)) < t * (m * m) → pos 0 <ℤ side_of m v q x → side_of m v q y <ℤ pos 0 →
    winding m q (boundary (v ∷ x ∷ y ∷ [])) ≡ pos 1
over_edge t m v q x y room near left right =
    triangle_holds m q v x y
    (omega (arith, linear, turn_by_side m v q x, mul_pos (pos m) (side_of m v q x) some left))
    (omega (
      arith,
      linear,
      from_corner m v q x y,
      between t m (minus x v) (minus y v) (minus q (refined m v)) room left right near,
    ))
    (omega (arith, linear, turn_back m v q y, mul_pos_neg (pos m) (side_of m v q y) some right))
  where
    some : pos 0 <ℤ pos m
    some = let h = positive_of t m (2 * length_sq (minus q (refined m v))) near in omega (arith, ints, h)

more_pieces : (m : ℕ) (q : Point) (piece : List Point) (pieces : List (List Point)) → HoldsOnce m q pieces →
    HoldsOnce m q (piece ∷ pieces)
more_pieces m q piece pieces h = record {
  piece = h.piece;
  listed = Contains-append_right (piece ∷ []) pieces h.piece h.listed;
  once = h.once;
}

first_piece : (m : ℕ) (q : Point) (piece : List Point) (pieces : List (List Point)) →
    winding m q (boundary piece) ≡ pos 1 → HoldsOnce m q (piece ∷ pieces)
first_piece m q piece pieces e = record {
  piece = piece;
  listed = All-head (Contains (piece ∷ pieces)) piece pieces (All-contains_itself (piece ∷ pieces));
  once = e;
}

-- of a fan of such triangles one does, where no way to an inner point passes through the point
pub some_between : (t m : ℕ) (v q x : Point) (middle : List Point) (z : Point) → FansHaveRoom t v (route x middle z) →
    2 * length_sq (minus q (refined m v)) < t * (m * m) → All (λ (p : Point). side_of m v q p ≢ pos 0) middle →
    pos 0 <ℤ side_of m v q x → side_of m v q z <ℤ pos 0 → HoldsOnce m q (fan v (route x middle z))
some_between t m v q x [] z room near beside left right =
    first_piece m q (v ∷ x ∷ z ∷ []) []
    (over_edge t m v q x z (All-head (λ (e : Edge). HasRoom t (minus e.0 v) (minus e.1 v)) (x, z) [] room) near left right)
some_between t m v q x (y ∷ middle) z room near beside left right =
    by_lt_z (side_of m v q y) (pos 0)
    (λ (h : side_of m v q y <ℤ pos 0).
    first_piece m q (v ∷ x ∷ y ∷ []) (fan v (route y middle z))
    (over_edge t m v q x y (All-head Room (x, y) (route y middle z) room) near left h))
    (λ (h : pos 0 ≤ℤ side_of m v q y).
    more_pieces m q (v ∷ x ∷ y ∷ []) (fan v (route y middle z))
    (some_between t m v q y middle z (All-tail Room (x, y) (route y middle z) room) near
    (All-tail Beside y middle beside) (strictly h) right))
  where
    Room : Edge → Type 0
    Room e = HasRoom t (minus e.0 v) (minus e.1 v)

    Beside : Point → Type 0
    Beside p = side_of m v q p ≢ pos 0

    strictly : pos 0 ≤ℤ side_of m v q y → pos 0 <ℤ side_of m v q y
    strictly h =
        by_lt_z (pos 0) (side_of m v q y) (λ (l : pos 0 <ℤ side_of m v q y). l)
        (λ (l : side_of m v q y ≤ℤ pos 0).
        absurd (All-head Beside y middle beside (omega (arith, linear, h, l))))

-- ---- what its premises are for the points of joins and caps

-- to the right and to the left of the corner by a vector, the side is that of the vector's direction
pub side_right : (m : ℕ) (v q s : Point) → side_of m v q (plus v (right_quarter s)) ≡ dot s (minus q (refined m v))
side_right m v q s =
    let u = apart (point_var 1) (scaled_point_expr (var 6) (point_var 0)) in
    ring (coordinates (v ∷ q ∷ s ∷ []) (pos m ∷ [])) (crossed (apart (var 0 ⊕ var 5, var 1 ⊕ neg (var 4)) (point_var 0)) u)
    (dot_of (var 4) (var 5) u.0 u.1)
    refl

pub side_left : (m : ℕ) (v q s : Point) →
    side_of m v q (minus v (right_quarter s)) ≡ neg_ℤ (dot s (minus q (refined m v)))
side_left m v q s =
    let u = apart (point_var 1) (scaled_point_expr (var 6) (point_var 0)) in
    ring (coordinates (v ∷ q ∷ s ∷ []) (pos m ∷ [])) (crossed (apart (var 0 ⊖ var 5, var 1 ⊖ neg (var 4)) (point_var 0)) u)
    (neg (dot_of (var 4) (var 5) u.0 u.1))
    refl

-- the end of an edge with room is not the corner
apart_from : (t : ℕ) (v p : Point) → 0 < t → t ≤ 2 * length_sq (minus p v) → v ≢ p
apart_from t v p some far same = omega (arith, some, far, ap (λ (x : Point). length_sq (minus x v)) same, none)
  where
    none : length_sq (minus v v) ≡ 0
    none =
        let x : unsigned_abs (v.0 -ℤ v.0) ≡ 0 = omega (arith, ints) in
        let y : unsigned_abs (v.1 -ℤ v.1) ≡ 0 = omega (arith, ints) in
        rw (x, y) refl

some_distance : (t m n : ℕ) → n < t * (m * m) → 0 < t
some_distance zero m n h = absurd (omega arith)
some_distance (suc t) m n h = omega arith

-- of a route, the starts of all edges but the first are the inner points
inner_beside : (t m : ℕ) (v q x : Point) (middle : List Point) (z : Point) → FansHaveRoom t v (route x middle z) → 0 < t →
    All (λ (e : Edge). v ≢ e.0 → turn (refined m v) (refined m e.0) q ≢ pos 0) (route x middle z) →
    All (λ (p : Point). side_of m v q p ≢ pos 0) middle
inner_beside t m v q x [] z room some turns = All-nil (λ (p : Point). side_of m v q p ≢ pos 0)
inner_beside t m v q x (y ∷ middle) z room some turns =
    All-cons (λ (p : Point). side_of m v q p ≢ pos 0) y middle
    (λ (e : side_of m v q y ≡ pos 0).
    starts middle rest_room rest
    (omega (arith, linear, turn_by_side m v q y, times_zero (pos m) (side_of m v q y) e)))
    (inner_beside t m v q y middle z rest_room some rest)
  where
    Room : Edge → Type 0
    Room e = HasRoom t (minus e.0 v) (minus e.1 v)

    Beside : Edge → Type 0
    Beside e = v ≢ e.0 → turn (refined m v) (refined m e.0) q ≢ pos 0

    rest_room : All Room (route y middle z)
    rest_room = All-tail Room (x, y) (route y middle z) room

    rest : All Beside (route y middle z)
    rest = All-tail Beside (x, y) (route y middle z) turns

    starts : (others : List Point) → All Room (route y others z) → All Beside (route y others z)
        → turn (refined m v) (refined m y) q ≢ pos 0
    starts [] one_room one =
        All-head Beside (y, z) [] one (apart_from t v y some (All-head Room (y, z) [] one_room).first)
    starts (w ∷ others) one_room one =
        All-head Beside (y, w) (route w others z) one
        (apart_from t v y some (All-head Room (y, w) (route w others z) one_room).first)

-- the same by the turns of the point from the edges out of the corner
pub some_beside : (t m : ℕ) (v q x : Point) (middle : List Point) (z : Point) → FansHaveRoom t v (route x middle z) →
    2 * length_sq (minus q (refined m v)) < t * (m * m) →
    All (λ (e : Edge). v ≢ e.0 → turn (refined m v) (refined m e.0) q ≢ pos 0) (route x middle z) →
    pos 0 <ℤ side_of m v q x → side_of m v q z <ℤ pos 0 → HoldsOnce m q (fan v (route x middle z))
some_beside t m v q x middle z room near turns left right =
    some_between t m v q x middle z room near
    (inner_beside t m v q x middle z room (some_distance t m (2 * length_sq (minus q (refined m v))) near) turns) left
    right
