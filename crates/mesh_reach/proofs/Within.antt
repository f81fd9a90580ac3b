-- Lemmas over points and lists: points near what was drawn lie within that of points near the sections.
use Rattle.std.proofs.Common.{◌≡◌, ℕ, ◌*◌, ◌<◌, ◌≤◌, ◌⊎◌, inl, inr, ⊎_elim, List, [], ◌∷◌, true, false, subst, arith}
use Rattle.std.specs.Prelude.{ℤ, pos, ◌-ℤ◌, ◌*ℤ◌, ◌<ℤ◌, unsigned_abs}
use Rattle.std.specs.List.{All, flat_map}
use Rattle.std.proofs.lemmas.Bool.{false≢true, or_cases}
use Rattle.std.proofs.lemmas.Int.{ints}
use Rattle.std.proofs.lemmas.List.Elements.{All-nil, All-cons, All-head, All-tail}
use Rattle.mesh_plane.specs.Plane.{Point, Edge}
use Rattle.mesh_plane.proofs.ClosedLists.{all_left, all_right}
use Rattle.mesh_plane.proofs.HalfPlanes.{along_by}
use Rattle.mesh_lattice.specs.Clean.{refined_edge}
use Rattle.mesh_lattice.specs.Nearness.{IsNearTo, IsFarFrom}
use Rattle.mesh_lattice.specs.Split.{back, occurs, same_ends}
use Rattle.mesh_lattice.proofs.Beyond.{LiesBeyond, before, near_or_beyond}
use Rattle.mesh_lattice.proofs.Boxes.{on_back}
use Rattle.mesh_lattice.proofs.Ends.{decides_ends}
use Rattle.mesh_reach.specs.Reach.{IsReachedByOne, IsReachedWithin}
use Rattle.mesh_reach.proofs.Pieces.{IsDrawnAlong, drawn_near}

-- ---- near to one of some edges or far from all

-- a near edge of which more is known
pub record IsNearSuch (P : Edge → Type 0) (k m : ℕ) (q : Point) : Type 0 where
  pub edge : Edge
  pub such : P edge
  pub near : IsNearTo k m edge q

near_back : (k m : ℕ) (g : Edge) (q : Point) → IsNearTo k m (back g) q → IsNearTo k m g q
near_back k m g q h = record {
  grid = h.grid;
  positive = h.positive;
  nearest = h.nearest;
  on_edge = on_back (refined_edge (h.grid * m) (back g)) h.nearest h.on_edge;
  by_x = h.by_x;
  by_y = h.by_y;
}

not_near : (k m : ℕ) (g : Edge) (q : Point) → LiesBeyond k m g q → IsNearTo k m g q → ⊥
not_near k m g q beyond near =
    let less : along_by beyond.u beyond.v q <ℤ along_by beyond.u beyond.v q = before k m g q q beyond near in
    omega (arith, ints, less)

pub near_or_far : (P : Edge → Type 0) (k m : ℕ) → 0 < m →
    (gs : List Edge) (q : Point) → All P gs → IsNearSuch P k m q ⊎ IsFarFrom k m gs q
near_or_far P k m some [] q h =
    inr (λ (e : Edge) (listed : false ≡ true) (near : IsNearTo k m e q). absurd (false≢true listed))
near_or_far P k m some (g ∷ gs) q h =
    ⊎_elim
    (λ (near : IsNearTo k m g q). inl (record { edge = g; such = All-head P g gs h; near = near }))
    (λ (beyond : LiesBeyond k m g q).
    ⊎_elim (λ (found : IsNearSuch P k m q). inl found)
    (λ (far : IsFarFrom k m gs q). inr (both beyond far))
    (near_or_far P k m some gs q (All-tail P g gs h)))
    (near_or_beyond k m some g q)
  where
    both : LiesBeyond k m g q → IsFarFrom k m gs q → IsFarFrom k m (g ∷ gs) q
    both beyond far e listed near =
        ⊎_elim
        (λ (same : same_ends e g ≡ true).
        ⊎_elim (λ (x : e ≡ g). not_near k m g q beyond (subst (λ (f : Edge). IsNearTo k m f q) x near))
        (λ (x : e ≡ back g). not_near k m g q beyond
        (near_back k m g q (subst (λ (f : Edge). IsNearTo k m f q) x near)))
        ((decides_ends e g).0 same))
        (λ (others : occurs e gs ≡ true). far e others near)
        (or_cases (same_ends e g) (occurs e gs) listed)

-- ---- points within the nearness of reached ones

-- a point lies in both coordinates so near to itself
pub at_itself : (k b m : ℕ) (es : List Edge) (q : Point) → IsReachedByOne b m es q → IsReachedWithin k b m es q
at_itself k b m es q h = record {
  grid = 1;
  positive = omega arith;
  point = q;
  reached = subst (λ (n : ℕ). IsReachedByOne b n es q) same h;
  by_x = none q.0;
  by_y = none q.1;
}
  where
    same : m ≡ 1 * m
    same = omega arith

    none : (x : ℤ) → 64 * unsigned_abs ((pos 1 *ℤ x) -ℤ x) ≤ k * (1 * m)
    none x = let e : unsigned_abs ((pos 1 *ℤ x) -ℤ x) ≡ 0 = omega (arith, ints) in omega (arith, e)

-- a point near an edge that was drawn along a section is such
pub beside_drawn : (k b m : ℕ) (es : List Edge) (q : Point) → IsNearSuch (IsDrawnAlong b es) k m q →
    IsReachedWithin k b m es q
beside_drawn k b m es q h = record {
  grid = h.near.grid;
  positive = h.near.positive;
  point = h.near.nearest;
  reached = drawn_near b (h.near.grid * m) es h.edge h.near.nearest h.such h.near.on_edge;
  by_x = h.near.by_x;
  by_y = h.near.by_y;
}

-- ---- lists of lists

-- what holds of all of the lists together holds of each
pub nested : {A B : Type 0} (P : B → Type 0) (f : A → List B) (xs : List A) → All P (flat_map f xs) →
    All (λ (x : A). All P (f x)) xs
nested {A} P f [] h = All-nil (λ (x : A). All P (f x))
nested {A} P f (x ∷ xs) h =
    All-cons (λ (x : A). All P (f x)) x xs (all_left P (f x) (flat_map f xs) h)
    (nested P f xs (all_right P (f x) (flat_map f xs) h))
