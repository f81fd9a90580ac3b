-- Lemmas over lists: members of what is made of a list, the end of an edge at which a measure is least, and what stands
-- next to a member.
use Rattle.std.proofs.Common.{◌≡◌, ℕ, ◌≤◌, ◌<◌, ◌⊎◌, inl, inr, ⊎_elim, List, [], ◌∷◌, ◌++◌, refl, arith}
use Rattle.std.specs.Prelude.{map}
use Rattle.std.specs.List.{All, Contains, flat_map}
use Rattle.std.proofs.lemmas.Bool.{cases_lt}
use Rattle.std.proofs.lemmas.List.Elements.{All-nil, All-cons, All-head, All-tail, All-append, All-weaker, All-contains, All-contains_itself, Contains-append_left, Contains-append_right}
use Rattle.mesh_plane.specs.Plane.{Point, Edge}
use Rattle.mesh_plane.specs.Turning.{last_of}
use Rattle.mesh_plane.specs.Winding.{pairs_from, route, boundary}
use Rattle.mesh_plane.proofs.ClosedLists.{all_mapped}
use Rattle.mesh_reach.proofs.Within.{nested}

-- ---- members

pub in_first : {A : Type 0} (x : A) (xs : List A) → Contains (x ∷ xs) x
in_first x xs = (0, omega arith, refl)

pub in_rest : {A : Type 0} (x : A) (xs : List A) (y : A) → Contains xs y → Contains (x ∷ xs) y
in_rest x xs y h = Contains-append_right (x ∷ []) xs y h

pub in_map : {A B : Type 0} (f : A → B) (xs : List A) (x : A) → Contains xs x → Contains (map f xs) (f x)
in_map f xs x h =
    let all = all_mapped (Contains (map f xs)) f xs (All-contains_itself (map f xs)) in
    All-contains (λ z. Contains (map f xs) (f z)) xs x all h

pub in_flat_map : {A B : Type 0} (f : A → List B) (xs : List A) (x : A) (y : B) → Contains xs x → Contains (f x) y →
    Contains (flat_map f xs) y
in_flat_map f xs x y h within =
    let Listed = Contains (flat_map f xs) in
    let all = nested Listed f xs (All-contains_itself (flat_map f xs)) in
    All-contains Listed (f x) y (All-contains (λ z. All Listed (f z)) xs x all h) within

-- ---- the nearest end

-- `f` is at one point no more than at either end of an edge
abbrev IsLeastAt : (Point → ℕ) → Point → Edge → Type 0
IsLeastAt f p d = (f p ≤ f d.0) × (f p ≤ f d.1)

-- the end of one of some edges at which a measure is least
pub record IsNearestEnd (f : Point → ℕ) (es : List Edge) : Type 0 where
  pub edge : Edge
  pub listed : Contains es edge
  pub at : Point
  pub is_end : (at ≡ edge.0) ⊎ (at ≡ edge.1)
  pub least : All (λ (d : Edge). (f at ≤ f d.0) × (f at ≤ f d.1)) es

nearest_of_one : (f : Point → ℕ) (e : Edge) → IsNearestEnd f (e ∷ [])
nearest_of_one f e =
    ⊎_elim (λ (less : f e.0 < f e.1). chosen e.0 (inl refl) (omega arith, omega (arith, less)))
    (λ (more : f e.1 ≤ f e.0). chosen e.1 (inr refl) (more, omega arith)) (cases_lt (f e.0) (f e.1))
  where
    chosen : (p : Point) → (p ≡ e.0) ⊎ (p ≡ e.1) → IsLeastAt f p e → IsNearestEnd f (e ∷ [])
    chosen p is least = record {
      edge = e;
      listed = in_first e [];
      at = p;
      is_end = is;
      least = All-cons (IsLeastAt f p) e [] least (All-nil (IsLeastAt f p));
    }

-- the nearer of two such ends is nearest of all
module _ (f : Point → ℕ) (es fs : List Edge) (own : IsNearestEnd f es) (other : IsNearestEnd f fs) where
  lower : (p q : Point) → f p ≤ f q → (ds : List Edge) → All (IsLeastAt f q) ds → All (IsLeastAt f p) ds
  lower p q less =
      All-weaker (IsLeastAt f q) (IsLeastAt f p)
      (λ (d : Edge) (h : IsLeastAt f q d). (omega (arith, less, h.0), omega (arith, less, h.1)))

  first_nearer : f own.at ≤ f other.at → IsNearestEnd f (es ++ fs)
  first_nearer less = record {
    edge = own.edge;
    listed = Contains-append_left es fs own.edge own.listed;
    at = own.at;
    is_end = own.is_end;
    least = All-append (IsLeastAt f own.at) es fs own.least (lower own.at other.at less fs other.least);
  }

  second_nearer : f other.at ≤ f own.at → IsNearestEnd f (es ++ fs)
  second_nearer less = record {
    edge = other.edge;
    listed = Contains-append_right es fs other.edge other.listed;
    at = other.at;
    is_end = other.is_end;
    least = All-append (IsLeastAt f other.at) es fs (lower other.at own.at less es own.least) other.least;
  }

  nearest_of_both : IsNearestEnd f (es ++ fs)
  nearest_of_both =
      ⊎_elim (λ (less : f own.at < f other.at). first_nearer (omega (arith, less))) second_nearer
      (cases_lt (f own.at) (f other.at))

pub nearest_end : (f : Point → ℕ) (e : Edge) (es : List Edge) → IsNearestEnd f (e ∷ es)
nearest_end f e [] = nearest_of_one f e
nearest_end f e (d ∷ ds) = nearest_of_both f (e ∷ []) (d ∷ ds) (nearest_of_one f e) (nearest_end f d ds)

-- ---- neighbours

-- something comes after `e` in some pairs
abbrev HasNext : {A : Type 0} → List (A × A) → A → Type 0
HasNext {A} pairs e = (f : A) × Contains pairs (e, f)

-- something comes before `e` in some pairs
abbrev HasPrevious : {A : Type 0} → List (A × A) → A → Type 0
HasPrevious {A} pairs e = (d : A) × Contains pairs (d, e)

next_more : {A : Type 0} (pair : A × A) (pairs : List (A × A)) (e : A) → HasNext pairs e → HasNext (pair ∷ pairs) e
next_more pair pairs e h = (h.0, in_rest pair pairs (e, h.0) h.1)

previous_more : {A : Type 0} (pair : A × A) (pairs : List (A × A)) (xs : List A) → All (HasPrevious pairs) xs →
    All (HasPrevious (pair ∷ pairs)) xs
previous_more {A} pair pairs =
    All-weaker (HasPrevious pairs) (HasPrevious (pair ∷ pairs))
    (λ (e : A) (h : HasPrevious pairs e). (h.0, in_rest pair pairs (h.0, e) h.1))

-- each one before the end of a route starts a pair
route_next : {A : Type 0} (x : A) (xs : List A) (z : A) → All (HasNext (route x xs z)) (x ∷ xs)
route_next x [] z =
    All-cons (HasNext ((x, z) ∷ [])) x [] (z, in_first (x, z) []) (All-nil (HasNext ((x, z) ∷ [])))
route_next x (y ∷ ys) z =
    All-cons (HasNext (route x (y ∷ ys) z)) x (y ∷ ys) (y, in_first (x, y) (route y ys z))
    (All-weaker (HasNext (route y ys z)) (HasNext (route x (y ∷ ys) z)) (next_more (x, y) (route y ys z)) (y ∷ ys)
    (route_next y ys z))

-- and each one after its start ends one
route_previous : {A : Type 0} (x : A) (xs : List A) (z : A) → All (HasPrevious (route x xs z)) (z ∷ xs)
route_previous x [] z =
    All-cons (HasPrevious ((x, z) ∷ [])) z [] (x, in_first (x, z) []) (All-nil (HasPrevious ((x, z) ∷ [])))
route_previous {A} x (y ∷ ys) z =
    let Has : A → Type 0 = HasPrevious (route x (y ∷ ys) z) in
    let later : All Has (z ∷ ys) = previous_more (x, y) (route y ys z) (z ∷ ys) (route_previous y ys z) in
    All-cons Has z (y ∷ ys) (All-head Has z ys later)
    (All-cons Has y ys (x, in_first (x, y) (route y ys z)) (All-tail Has z ys later))

pairs_previous : {A : Type 0} (x : A) (xs : List A) → All (HasPrevious (pairs_from x xs)) xs
pairs_previous x [] = All-nil (HasPrevious (pairs_from x []))
pairs_previous x (y ∷ ys) =
    All-cons (HasPrevious (pairs_from x (y ∷ ys))) y ys (x, in_first (x, y) (pairs_from y ys))
    (previous_more (x, y) (pairs_from y ys) ys (pairs_previous y ys))

-- round a closed list something comes after each member
pub next_round : {A : Type 0} (x : A) (xs : List A) (e : A) → Contains (x ∷ xs) e →
    (f : A) × Contains (boundary (x ∷ xs)) (e, f)
next_round x xs e h = All-contains (HasNext (route x xs x)) (x ∷ xs) e (route_next x xs x) h

-- and something before it
pub previous_round : {A : Type 0} (x : A) (xs : List A) (e : A) → Contains (x ∷ xs) e →
    (d : A) × Contains (boundary (x ∷ xs)) (d, e)
previous_round x xs e h = All-contains (HasPrevious (route x xs x)) (x ∷ xs) e (route_previous x xs x) h

-- along an open list something comes after each member but the last
pub next_along : {A : Type 0} (x : A) (xs : List A) (e : A) → Contains (x ∷ xs) e →
    ((f : A) × Contains (pairs_from x xs) (e, f)) ⊎ (e ≡ last_of x xs)
next_along {A} x xs e h = All-contains (IsPlaced x xs) (x ∷ xs) e (all_placed x xs) h
  where
    IsPlaced : A → List A → A → Type 0
    IsPlaced y ys c = HasNext (pairs_from y ys) c ⊎ (c ≡ last_of y ys)

    more : (y z : A) (zs : List A) (c : A) → IsPlaced z zs c → IsPlaced y (z ∷ zs) c
    more y z zs c (inl next) = inl (next_more (y, z) (pairs_from z zs) c next)
    more y z zs c (inr last) = inr last

    all_placed : (y : A) (ys : List A) → All (IsPlaced y ys) (y ∷ ys)
    all_placed y [] = All-cons (IsPlaced y []) y [] (inr refl) (All-nil (IsPlaced y []))
    all_placed y (z ∷ zs) =
        All-cons (IsPlaced y (z ∷ zs)) y (z ∷ zs) (inl (z, in_first (y, z) (pairs_from z zs)))
        (All-weaker (IsPlaced z zs) (IsPlaced y (z ∷ zs)) (more y z zs) (z ∷ zs) (all_placed z zs))

-- and something before each but the first
pub previous_along : {A : Type 0} (x : A) (xs : List A) (e : A) → Contains (x ∷ xs) e →
    ((d : A) × Contains (pairs_from x xs) (d, e)) ⊎ (e ≡ x)
previous_along {A} x xs e h =
    let pairs = pairs_from x xs in
    let IsPlaced = λ (c : A). HasPrevious pairs c ⊎ (c ≡ x) in
    All-contains IsPlaced (x ∷ xs) e
    (All-cons IsPlaced x xs (inr refl)
    (All-weaker (HasPrevious pairs) IsPlaced (λ c k. inl k) xs (pairs_previous x xs)))
    h
