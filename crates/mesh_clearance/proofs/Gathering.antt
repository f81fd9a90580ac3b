-- Lemmas over lists: the sections of paths and the edges of contours, one after another.
use Rattle.std.proofs.Common.{◌≡◌, ℕ, ◌+◌, ◌<◌, ◌≤◌, List, [], ◌∷◌, ◌++◌, length, take, take_all, get_or, refl, sym, ◌∙◌, ap, append_assoc}
use Rattle.std.specs.Prelude.{Vec}
use Rattle.std.specs.List.{flat_map}
use Rattle.std.specs.declared.alloc.Global.{Global}
use Rattle.std.proofs.lemmas.Grind.{flat_map-append}
use Rattle.std.proofs.lemmas.List.{append-nil, take_more}
use Rattle.mesh_num.specs.Paths.{contours_of, shapes_of}
use Rattle.mesh_plane.specs.Plane.{Point, Edge}
use Rattle.mesh_plane.specs.Turning.{last_of}
use Rattle.mesh_plane.specs.Winding.{boundary, pairs_from, route}
use Rattle.mesh_clearance.specs.Clearance.{sections, neighbours}

-- ---- the sections of one path

last_push : (a : Point) (xs : List Point) (x : Point) → last_of a (xs ++ x ∷ []) ≡ x
last_push a [] x = refl
last_push a (y ∷ ys) x = last_push y ys x

pairs_push : (a : Point) (xs : List Point) (x : Point) → pairs_from a (xs ++ x ∷ []) ≡ pairs_from a xs ++ (last_of a xs, x) ∷ []
pairs_push a [] x = refl
pairs_push a (y ∷ ys) x = ap (λ (es : List Edge). (a, y) ∷ es) (pairs_push y ys x)

route_pairs : (a : Point) (xs : List Point) (z : Point) → route a xs z ≡ pairs_from a xs ++ (last_of a xs, z) ∷ []
route_pairs a [] z = refl
route_pairs a (y ∷ ys) z = ap (λ (es : List Edge). (a, y) ∷ es) (route_pairs y ys z)

-- the sections up to a point of a path, and that point
pub record HasPushed (old new : List Edge) (start from : Point) (points : List Point) : Type 0 where
  pub sections : new ≡ old ++ pairs_from start points
  pub last : from ≡ last_of start points

pub pushed_more : (old mid new : List Edge) (start from to p : Point) (points : List Point) (i : ℕ) → i < length points → p ≡ get_or points i p → to ≡ p →
    new ≡ mid ++ (from, to) ∷ [] → HasPushed old mid start from (take i points) → HasPushed old new start to (take (i + 1) points)
pushed_more old mid new start from to p points i low is same added h = record {
  sections =
      added
      ∙ ((λ j. h.sections j ++ (h.last j, to) ∷ [])
      ∙ (append_assoc old (pairs_from start (take i points)) ((last_of start (take i points), to) ∷ [])
      ∙ ap (λ (es : List Edge). old ++ es) (sym (ap (pairs_from start) more ∙ pairs_push start (take i points) to))));
  last = sym (ap (last_of start) more ∙ last_push start (take i points) to);
}
  where
    more : take (i + 1) points ≡ take i points ++ to ∷ []
    more = take_more points i p low ∙ ap (λ (x : Point). take i points ++ x ∷ []) (sym (same ∙ is))

pub pushed_open : (old new : List Edge) (start from : Point) (points path : List Point) (i : ℕ) → length points ≤ i → path ≡ start ∷ points →
    HasPushed old new start from (take i points) → new ≡ old ++ neighbours path
pushed_open old new start from points path i past parts h =
    h.sections ∙ (λ j. old ++ pairs_from start (take_all i points past j)) ∙ ap (λ (ps : List Point). old ++ neighbours ps) (sym parts)

pub pushed_closed : (old mid new : List Edge) (start from : Point) (points path : List Point) (i : ℕ) → length points ≤ i → path ≡ start ∷ points →
    new ≡ mid ++ (from, start) ∷ [] → HasPushed old mid start from (take i points) → new ≡ old ++ boundary path
pushed_closed old mid new start from points path i past parts added h =
    added
    ∙ ((λ j. h.sections j ++ (h.last j, start) ∷ [])
    ∙ (append_assoc old (pairs_from start (take i points)) ((last_of start (take i points), start) ∷ [])
    ∙ (ap (λ (es : List Edge). old ++ es) (sym (route_pairs start (take i points) start))
    ∙ ((λ j. old ++ route start (take_all i points past j) start)
    ∙ ap (λ (ps : List Point). old ++ boundary ps) (sym parts)))))

-- ---- those of several

pub joined : {X : Type 0} (f : X → List Edge) (xs : List X) (x : X) (i : ℕ) (old mid new : List Edge) → i < length xs → x ≡ get_or xs i x →
    mid ≡ old ++ flat_map f (take i xs) → new ≡ mid ++ f x → new ≡ old ++ flat_map f (take (i + 1) xs)
joined {X} f xs x i old mid new low is h added =
    added
    ∙ (ap (λ (es : List Edge). es ++ f x) h
    ∙ (append_assoc old (flat_map f (take i xs)) (f x)
    ∙ ap (λ (es : List Edge). old ++ es) (sym grown)))
  where
    grown : flat_map f (take (i + 1) xs) ≡ flat_map f (take i xs) ++ f x
    grown =
        ap (flat_map f) (take_more xs i x low)
        ∙ (ap (λ (y : X). flat_map f (take i xs ++ y ∷ [])) (sym is)
        ∙ (flat_map-append f (take i xs) (x ∷ [])
        ∙ ap (λ (es : List Edge). flat_map f (take i xs) ++ es) (append-nil (f x))))

pub shapes_joined : (shapes : List (Vec (Vec Point Global) Global)) (i : ℕ) (new : List Edge) → length shapes ≤ i → new ≡ flat_map boundary (contours_of (shapes_of (take i shapes))) →
    new ≡ flat_map boundary (contours_of (shapes_of shapes))
shapes_joined shapes i new past h = h ∙ (λ j. flat_map boundary (contours_of (shapes_of (take_all i shapes past j))))
