-- Lemmas over points and lists: bounds of points, one point after another.
use Rattle.std.proofs.Common.{◌≡◌, Bool, true, false, cond, List, [], ◌∷◌, ◌++◌, map, arith, Option, Some, None}
use Rattle.std.specs.Prelude.{ℤ, int_lt, MatchOption}
use Rattle.std.specs.Int.{int_min, int_max}
use Rattle.std.specs.List.{Contains}
use Rattle.std.proofs.lemmas.Int.{ints, clamps}
use Rattle.std.proofs.lemmas.List.Elements.{All-push, All-weaker, All-nil, Contains-append_left, Contains-push}
use Rattle.std.proofs.lemmas.List.{map-append}
use Rattle.mesh_plane.specs.Plane.{Point, Edge}
use Rattle.mesh_num.specs.Private.BoundsSoFar.{extended, grown}
use Rattle.mesh_num.specs.Rectangle.{IsInRectangle, IsBounds}

either_is : (P : ℤ → Type 0) (b : Bool) (x y : ℤ) → P x → P y → P (cond b x y)
either_is P true x y p q = p
either_is P false x y p q = q

min_found : (xs : List ℤ) (s x : ℤ) → Contains xs s → Contains (xs ++ x ∷ []) (int_min s x)
min_found xs s x h = either_is (Contains (xs ++ x ∷ [])) (int_lt x s) x s (Contains-push xs x) (Contains-append_left xs (x ∷ []) s h)

max_found : (xs : List ℤ) (s x : ℤ) → Contains xs s → Contains (xs ++ x ∷ []) (int_max s x)
max_found xs s x h = either_is (Contains (xs ++ x ∷ [])) (int_lt x s) s x (Contains-append_left xs (x ∷ []) s h) (Contains-push xs x)

still_inside : (bounds : Edge) (p q : Point) → IsInRectangle bounds q → IsInRectangle (extended bounds p) q
still_inside bounds p q h = record { west = omega (arith, ints, clamps, h.west); south = omega (arith, ints, clamps, h.south); east = omega (arith, ints, clamps, h.east); north = omega (arith, ints, clamps, h.north) }

reaches : (bounds : Edge) (p : Point) → IsInRectangle (extended bounds p) p
reaches bounds p = record { west = omega (arith, ints, clamps); south = omega (arith, ints, clamps); east = omega (arith, ints, clamps); north = omega (arith, ints, clamps) }

-- one more point
pub bounds-push : (bounds : Edge) (points : List Point) (p : Point) → IsBounds bounds points → IsBounds (extended bounds p) (points ++ p ∷ [])
bounds-push bounds points p h = record {
  inside = All-push (IsInRectangle (extended bounds p)) points p (All-weaker (IsInRectangle bounds) (IsInRectangle (extended bounds p)) (still_inside bounds p) points h.inside) (reaches bounds p);
  west = rw map-append (min_found (map (λ (q : Point). q.0) points) bounds.0.0 p.0 h.west);
  south = rw map-append (min_found (map (λ (q : Point). q.1) points) bounds.0.1 p.1 h.south);
  east = rw map-append (max_found (map (λ (q : Point). q.0) points) bounds.1.0 p.0 h.east);
  north = rw map-append (max_found (map (λ (q : Point). q.1) points) bounds.1.1 p.1 h.north);
}

pub bounds_of_one : (p : Point) → IsBounds (p, p) (p ∷ [])
bounds_of_one p = record {
  inside = All-push (IsInRectangle (p, p)) [] p (All-nil (IsInRectangle (p, p))) (record { west = omega (arith, ints); south = omega (arith, ints); east = omega (arith, ints); north = omega (arith, ints) });
  west = Contains-push [] p.0;
  south = Contains-push [] p.1;
  east = Contains-push [] p.0;
  north = Contains-push [] p.1;
}

-- the step of a loop over references to points
pub bounds_grow : {B : Type 0} (f : B → Point) (bounds : Option Edge) (seen : List B) (next : B) →
    MatchOption bounds (seen ≡ []) (λ r. IsBounds r (map f seen)) → IsBounds (grown bounds (f next)) (map f (seen ++ next ∷ []))
bounds_grow f None seen next h = rw (h, map-append) (bounds_of_one (f next))
bounds_grow f (Some r) seen next h = rw map-append (bounds-push r (map f seen) (f next) h)
