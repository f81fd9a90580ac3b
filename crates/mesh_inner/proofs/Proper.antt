-- Lemmas over points and lists: the edges of a join or cap leave room where those with different ends do.
use Rattle.std.proofs.Common.{◌≡◌, ◌≢◌, ℕ, ◌*◌, ◌<◌, ◌≤◌, List, [], ◌∷◌, Bool, true, false, cond, not, refl, ap, subst, arith}
use Rattle.std.specs.Prelude.{ℤ, pos, neg_ℤ, ◌+ℤ◌, ◌-ℤ◌, ◌*ℤ◌, ◌≤ℤ◌, unsigned_abs}
use Rattle.std.specs.List.{All, Contains}
use Rattle.std.proofs.Math.Nat.{le_of_mul-le-mul_right}
use Rattle.std.proofs.lemmas.Int.{ints}
use Rattle.std.proofs.lemmas.List.Elements.{All-cons, All-head, All-tail, All-weaker}
use Rattle.mesh_plane.specs.Plane.{Point, Edge, plus, minus, cross, dot, length_sq, right_quarter}
use Rattle.mesh_plane.specs.Winding.{route, same_point}
use Rattle.mesh_plane.specs.Turning.{last_of}
use Rattle.mesh_plane.proofs.ClosedLists.{all_both}
use Rattle.mesh_plane.proofs.Comparing.{decides_point}
use Rattle.mesh_plane.proofs.Identities.{lagrange, cross_self}
use Rattle.mesh_plane.proofs.Sizes.{dot_self, size_square, size_neg, length_opposite}
use Rattle.mesh_plane.proofs.Whole.{linear, square_nonneg}
use Rattle.mesh_num.specs.Segments.{proper_edges}
use Rattle.mesh_lattice.specs.Split.{back}
use Rattle.mesh_offset.proofs.Apart.{apart_long}
use Rattle.mesh_join.specs.Joins.{between, join_points}
use Rattle.mesh_join.specs.Styles.{JoinStyle}
use Rattle.mesh_stroke.specs.Caps.{CapKind, cap_points}
use Rattle.mesh_stroke.specs.Ends.{half_turn}
use Rattle.mesh_stroke.specs.Paths.{neighbours}
use Rattle.mesh_stroke.specs.Strokes.{EdgePair, heading, facing, outer_edges, joint_right, cap_at, right_of, left_of}
use Rattle.mesh_stroke.proofs.Chains.{IsChain, neighbours_all}
use Rattle.mesh_stroke.proofs.Corners.{IsMet, corners_met, facing_is, other_way}
use Rattle.mesh_inner.specs.Inner.{step, IsSectionWide}
use Rattle.mesh_inner.specs.Room.{HasRoom, FansHaveRoom, IsWideEnough}
use Rattle.mesh_inner.proofs.Corners.{step_back}
use Rattle.mesh_inner.proofs.Places.{in_first, in_rest}

-- an edge whose ends are one point leaves room where that is far enough away
one_point : (t : ℕ) (x : Point) → t ≤ 2 * length_sq x → HasRoom t x x
one_point t x far = record {
  ahead = omega (arith, ints, cross_self x);
  first = far;
  last = far;
  by_first = omega (arith, ints, dot_self x, far);
  by_last = omega (arith, ints, dot_self x, far);
}

-- so do all edges of a route, if its start is far enough away
pub room_of_proper : (t : ℕ) (v x : Point) (middle : List Point) (z : Point) → t ≤ 2 * length_sq (minus x v) →
    FansHaveRoom t v (proper_edges (route x middle z)) → FansHaveRoom t v (route x middle z)
room_of_proper t v x [] z far room = by (same_point x z) refl room
  where
    Room : Edge → Type 0
    Room e = HasRoom t (minus e.0 v) (minus e.1 v)

    by : (b : Bool) → same_point x z ≡ b → All Room (cond (not b) ((x, z) ∷ []) []) → All Room ((x, z) ∷ [])
    by true e h =
        All-cons Room (x, z) []
        (subst (λ (p : Point). HasRoom t (minus x v) (minus p v)) ((decides_point x z).0 e) (one_point t (minus x v) far)) h
    by false e h = h
room_of_proper t v x (y ∷ middle) z far room =
    by (λ far' room'. room_of_proper t v y middle z far' room') (same_point x y) refl room
  where
    Room : Edge → Type 0
    Room e = HasRoom t (minus e.0 v) (minus e.1 v)

    rest : List Edge
    rest = proper_edges (route y middle z)

    by : (t ≤ 2 * length_sq (minus y v) → All Room rest → All Room (route y middle z)) → (b : Bool) → same_point x y ≡ b
        → All Room (cond (not b) ((x, y) ∷ rest) rest) → All Room ((x, y) ∷ route y middle z)
    by others true e h =
        let same : x ≡ y = (decides_point x y).0 e in
        All-cons Room (x, y) (route y middle z)
        (subst (λ (p : Point). HasRoom t (minus x v) (minus p v)) same (one_point t (minus x v) far))
        (others (subst (λ (p : Point). t ≤ 2 * length_sq (minus p v)) same far) h)
    by others false e h =
        All-cons Room (x, y) (route y middle z) (All-head Room (x, y) rest h)
        (others (All-head Room (x, y) rest h).last (All-tail Room (x, y) rest h))

-- an edge is the last of a list that it ends
pub last_in : {A : Type 0} (x : A) (xs : List A) → Contains (x ∷ xs) (last_of x xs)
last_in x [] = in_first x []
last_in x (y ∷ ys) = in_rest x (y ∷ ys) (last_of y ys) (last_in y ys)

-- ---- how far away the sides of a wide section are

dot_within : (s v : Point) → unsigned_abs (dot s v) * unsigned_abs (dot s v) ≤ length_sq s * length_sq v
dot_within s v =
    let product : dot s s *ℤ dot v v ≡ pos (length_sq s * length_sq v) = λ i. dot_self s i *ℤ dot_self v i in
    let size = size_square (dot s v) in
    let least : (dot s v *ℤ dot s v) ≤ℤ (dot s s *ℤ dot v v) = omega (arith, linear, lagrange s v, square_nonneg (cross s v)) in
    omega (arith, ints, product, size, least)

pub as_far : (t : ℕ) (s v : Point) → 0 < length_sq v → IsWideEnough t s v → t ≤ 2 * length_sq s
as_far t s v some wide =
    le_of_mul-le-mul_right (let h = dot_within s v in omega (arith, h, wide)) some

right_far : (v s : Point) → length_sq (minus (plus v (right_quarter s)) v) ≡ length_sq s
right_far v s =
    let x : ((v.0 +ℤ s.1) -ℤ v.0) ≡ s.1 = omega (arith, linear) in
    let y : ((v.1 +ℤ neg_ℤ s.0) -ℤ v.1) ≡ neg_ℤ s.0 = omega (arith, linear) in
    let z = size_neg s.0 in
    rw (x, y, z) (omega arith)

module _ (unit : ℕ) (some : 0 < unit) (radius : ℤ) (t : ℕ) where
  -- the point to the right of an end of a section, and of the section read backwards
  right_is_far : (e : Edge) (v : Point) → e.0 ≢ e.1 → IsSectionWide unit radius t e → t ≤ 2 * length_sq (minus (right_of unit radius e v) v)
  right_is_far e v apart wide =
      let h = right_far v (step unit radius e) in
      let k = as_far t (step unit radius e) (minus e.1 e.0) (apart_long e apart) wide in
      omega (arith, h, k)

  right_back_is_far : (e : Edge) (v : Point) → e.0 ≢ e.1 → IsSectionWide unit radius t e → t ≤ 2 * length_sq (minus (right_of unit radius (back e) v) v)
  right_back_is_far e v apart wide =
      let h = right_far v (step unit radius (back e)) in
      let o = ap length_sq (step_back unit radius e some apart) in
      let l = length_opposite (step unit radius e) in
      let k = as_far t (step unit radius e) (minus e.1 e.0) (apart_long e apart) wide in
      omega (arith, h, o, l, k)

  abbrev AllOf : JoinStyle → EdgePair → Type 0
  AllOf join k = FansHaveRoom t k.0.1 (proper_edges (outer_edges unit radius join k)) → FansHaveRoom t k.0.1 (outer_edges unit radius join k)

  faced_room : (join : JoinStyle) (k : EdgePair) → t ≤ 2 * length_sq (minus (right_of unit radius k.0 k.0.1) k.0.1) → AllOf join k
  faced_room join k far room =
      room_of_proper t k.0.1 (right_of unit radius k.0 k.0.1)
      (between (right_of unit radius k.0 k.0.1) (join_points unit join (joint_right unit radius k)) (right_of unit radius k.1 k.1.0))
      (right_of unit radius k.1 k.1.0) far room

  -- the joins of a path
  corner_room : (join : JoinStyle) (c : EdgePair) → IsMet c → IsSectionWide unit radius t c.0 → IsSectionWide unit radius t c.1 → AllOf join (facing c)
  corner_room join c met first second =
      facing_is (AllOf join) c (λ _. faced_room join c (right_is_far c.0 c.0.1 met.first first))
      (λ _. faced_room join (other_way c) (right_back_is_far c.1 c.1.0 met.second second))

  pub joins_room : (join : JoinStyle) (closed : Bool) (es : List Edge) → IsChain closed es → All (IsSectionWide unit radius t) es
      → All (λ (c : EdgePair). FansHaveRoom t (facing c).0.1 (proper_edges (outer_edges unit radius join (facing c)))) (neighbours closed es)
      → All (λ (c : EdgePair). FansHaveRoom t (facing c).0.1 (outer_edges unit radius join (facing c))) (neighbours closed es)
  joins_room join closed es chain wide room =
      All-weaker (λ (c : EdgePair). (IsMet c × (IsSectionWide unit radius t c.0 × IsSectionWide unit radius t c.1)) × Proper c) All'
      (λ c h. corner_room join c h.0.0 h.0.1.0 h.0.1.1 h.1) (neighbours closed es)
      (all_both (λ (c : EdgePair). IsMet c × (IsSectionWide unit radius t c.0 × IsSectionWide unit radius t c.1)) Proper (neighbours closed es)
      (all_both IsMet (λ (c : EdgePair). IsSectionWide unit radius t c.0 × IsSectionWide unit radius t c.1) (neighbours closed es)
      (corners_met closed es chain) (neighbours_all (IsSectionWide unit radius t) closed es wide)) room)
    where
      Proper : EdgePair → Type 0
      Proper c = FansHaveRoom t (facing c).0.1 (proper_edges (outer_edges unit radius join (facing c)))

      All' : EdgePair → Type 0
      All' c = FansHaveRoom t (facing c).0.1 (outer_edges unit radius join (facing c))

  -- and its caps
  cap_room : (kind : CapKind) (e : Edge) → t ≤ 2 * length_sq (minus (right_of unit radius e e.1) e.1)
      → FansHaveRoom t e.1 (proper_edges (cap_at unit radius kind e)) → FansHaveRoom t e.1 (cap_at unit radius kind e)
  cap_room kind e far room =
      room_of_proper t e.1 (right_of unit radius e e.1) (cap_points kind unit (half_turn unit radius e.1 (heading unit e))) (left_of unit radius e e.1) far room

  pub end_cap_room : (kind : CapKind) (e : Edge) → e.0 ≢ e.1 → IsSectionWide unit radius t e
      → FansHaveRoom t e.1 (proper_edges (cap_at unit radius kind e)) → FansHaveRoom t e.1 (cap_at unit radius kind e)
  end_cap_room kind e apart wide room = cap_room kind e (right_is_far e e.1 apart wide) room

  pub start_cap_room : (kind : CapKind) (e : Edge) → e.0 ≢ e.1 → IsSectionWide unit radius t e
      → FansHaveRoom t e.0 (proper_edges (cap_at unit radius kind (back e))) → FansHaveRoom t e.0 (cap_at unit radius kind (back e))
  start_cap_room kind e apart wide room = cap_room kind (back e) (right_back_is_far e e.0 apart wide) room
