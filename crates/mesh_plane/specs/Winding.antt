-- Crossings, windings, closed lists and balance, over pairs of whole numbers.
use Rattle.std.specs.Prelude.{ℕ, ◌≡◌, ◌⊎◌, Bool, cond, ◌&&◌, not, List, [], ◌∷◌, ℤ, pos, negsuc, ◌+ℤ◌, ◌*ℤ◌, count_by}
use Rattle.std.specs.Prelude.{int_le, int_lt}
use Rattle.std.specs.Ordering.{int_eq}
use Rattle.mesh_plane.specs.Plane.{Point, Edge, turn}

-- the sum of `f` over a list
abbrev pub sum_of : {A : Type 0} → (A → ℤ) → List A → ℤ
sum_of f [] = pos 0
sum_of f (x ∷ xs) = f x +ℤ sum_of f xs

-- the sum over edges of a function of their two ends
abbrev pub total : (Point → Point → ℤ) → List Edge → ℤ
total f es = sum_of (λ (e : Edge). f e.0 e.1) es

-- how an edge with ends at the heights `a` and `b` crosses the ray that runs from a point of height `h` to the east,
-- where `t` is the turn of the point from the edge: 1 upwards and -1 downwards, with the point on the edge's left or
-- right
abbrev pub crossing_of : ℤ → ℤ → ℤ → ℤ → ℤ
crossing_of a b h t =
    cond (int_le a h && int_lt h b)
    (cond (int_lt (pos 0) t) (pos 1) (pos 0))
    (cond (int_le b h && int_lt h a) (cond (int_lt t (pos 0)) (negsuc 0) (pos 0)) (pos 0))

-- the crossing of the edge from `p` to `r` at the point `q`
abbrev pub crossing : Point → Point → Point → ℤ
crossing q p r = crossing_of p.1 r.1 q.1 (turn p r q)

-- a point on the grid that is `m` times finer
abbrev pub refined : ℕ → Point → Point
refined m p = (pos m *ℤ p.0, pos m *ℤ p.1)

-- the crossing at a point `q` of the grid `m`
abbrev pub crossing_on : ℕ → Point → Point → Point → ℤ
crossing_on m q p r = crossing q (refined m p) (refined m r)

-- how often edges wind round the point `q` of the grid `m`
abbrev pub winding : ℕ → Point → List Edge → ℤ
winding m q es = total (crossing_on m q) es

-- the neighbouring pairs of the list that starts at `a` and goes on with the others
abbrev pub pairs_from : {A : Type 0} → A → List A → List (A × A)
pairs_from a [] = []
pairs_from a (x ∷ xs) = (a, x) ∷ pairs_from x xs

-- the neighbouring pairs of the list that starts at `a`, goes through the middle ones and ends at `z`
abbrev pub route : {A : Type 0} → A → List A → A → List (A × A)
route a [] z = (a, z) ∷ []
route a (x ∷ xs) z = (a, x) ∷ route x xs z

-- the neighbouring pairs of a closed list, last to first included
abbrev pub boundary : {A : Type 0} → List A → List (A × A)
boundary [] = []
boundary (x ∷ xs) = route x xs x

-- the triangles from `v` over the edges of a list
abbrev pub fan : Point → List Edge → List (List Point)
fan v [] = []
fan v (e ∷ es) = (v ∷ e.0 ∷ e.1 ∷ []) ∷ fan v es

-- whether the piece that a closed list of points bounds holds the point `q` of the grid `m`
abbrev pub holds : ℕ → Point → List Point → Bool
holds m q piece = not (int_eq (winding m q (boundary piece)) (pos 0))

-- the sum of `f` over the boundaries of pieces
abbrev pub pieces_total : (Point → Point → ℤ) → List (List Point) → ℤ
pieces_total f pieces = sum_of (λ (piece : List Point). total f (boundary piece)) pieces

-- whether two points are one
abbrev pub same_point : Point → Point → Bool
same_point p q = int_eq p.0 q.0 && int_eq p.1 q.1

-- each point is the start of as many edges as it is the end
abbrev pub IsBalanced : List Edge → Type 0
IsBalanced es =
    (p : Point) → count_by (λ (e : Edge). same_point p e.0) es ≡ count_by (λ (e : Edge). same_point p e.1) es

-- 0 or 1
abbrev pub IsBit : ℤ → Type 0
IsBit z = (z ≡ pos 0) ⊎ (z ≡ pos 1)

-- a function of edges that changes its sign with their direction
abbrev pub IsOdd : (Point → Point → ℤ) → Type 0
IsOdd f = (p r : Point) → f p r +ℤ f r p ≡ pos 0

-- a function of edges that adds up along a line
abbrev pub IsStraight : (Point → Point → ℤ) → Type 0
IsStraight f = (p r s : Point) → turn p r s ≡ pos 0 → f p r +ℤ f r s ≡ f p s
