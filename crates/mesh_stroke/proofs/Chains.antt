-- Lemmas over lists: the edges of a path follow each other.
use Rattle.std.proofs.Common.{◌≡◌, ◌≢◌, List, [], ◌∷◌, refl, sym, ◌∙◌, subst, arith}
use Rattle.std.specs.Prelude.{Bool, true, false, cond, not, ℤ, neg_ℤ, ◌+ℤ◌, ◌-ℤ◌}
use Rattle.std.specs.List.{All}
use Rattle.std.proofs.lemmas.List.Elements.{All-nil, All-cons}
use Rattle.mesh_plane.specs.Plane.{Point, Edge}
use Rattle.mesh_plane.specs.Winding.{route, boundary, same_point, sum_of}
use Rattle.mesh_plane.proofs.Whole.{linear}
use Rattle.mesh_plane.proofs.Sums.{sum_of_same}
use Rattle.mesh_plane.proofs.ClosedLists.{boundary_ends, boundary_all}
use Rattle.mesh_plane.proofs.Comparing.{decides_point}
use Rattle.mesh_plane.specs.Turning.{last_of}
use Rattle.mesh_num.specs.Segments.{proper_edges}
use Rattle.mesh_lattice.specs.Splitting.{Leads}
use Rattle.mesh_offset.specs.Walks.{pairs}
use Rattle.mesh_offset.proofs.Walks.{pairs_all}
use Rattle.mesh_stroke.specs.Paths.{neighbours, path_edges}
use Rattle.mesh_stroke.specs.Strokes.{EdgePair}

-- edges with different ends, each starting where the one before ends; the first where the last does, where they are closed
pub record IsChain (closed : Bool) (es : List Edge) : Type 0 where
  pub proper : All (λ (e : Edge). e.0 ≢ e.1) es
  pub joined : All (λ (c : EdgePair). c.0.1 ≡ c.1.0) (neighbours closed es)

-- the second of two edges starts where the first ends
abbrev pub Joined : EdgePair → Type 0
Joined c = c.0.1 ≡ c.1.0

pairs_joined : (a : Point) (es : List Edge) (z : Point) → Leads a es z → All Joined (pairs es)
pairs_joined a [] z h = All-nil Joined
pairs_joined a (e ∷ []) z h = All-nil Joined
pairs_joined a (e ∷ f ∷ es) z h = All-cons Joined (e, f) (pairs (f ∷ es)) h.1.0 (pairs_joined e.1 (f ∷ es) z h.1)

route_joined : (e : Edge) (es : List Edge) (first : Edge) → Leads e.1 es first.0 → All Joined (route e es first)
route_joined e [] first h = All-cons Joined (e, first) [] h (All-nil Joined)
route_joined e (f ∷ es) first h = All-cons Joined (e, f) (route f es first) h.0 (route_joined f es first h.1)

boundary_joined : (a : Point) (es : List Edge) → Leads a es a → All Joined (boundary es)
boundary_joined a [] h = All-nil Joined
boundary_joined a (e ∷ es) h = route_joined e es e (subst (λ (z : Point). Leads e.1 es z) h.0 h.1)

-- without the edges whose ends are one point they still do
step_leads : (x y z : Point) (es : List Edge) → Leads y es z → (b : Bool) → same_point x y ≡ b → Leads x (cond (not b) ((x, y) ∷ es) es) z
step_leads x y z es h true e = subst (λ (p : Point). Leads p es z) (sym ((decides_point x y).0 e)) h
step_leads x y z es h false e = (refl, h)

route_leads : (x : Point) (xs : List Point) (z : Point) → Leads x (proper_edges (route x xs z)) z
route_leads x [] z = step_leads x z z [] refl (same_point x z) refl
route_leads x (y ∷ ys) z = step_leads x y z (proper_edges (route y ys z)) (route_leads y ys z) (same_point x y) refl

pairs_leads : (x : Point) (xs : List Point) → Leads x (proper_edges (pairs (x ∷ xs))) (last_of x xs)
pairs_leads x [] = refl
pairs_leads x (y ∷ ys) = step_leads x y (last_of y ys) (proper_edges (pairs (y ∷ ys))) (pairs_leads y ys) (same_point x y) refl

proper_apart : (es : List Edge) → All (λ (e : Edge). e.0 ≢ e.1) (proper_edges es)
proper_apart [] = All-nil (λ (e : Edge). e.0 ≢ e.1)
proper_apart (e ∷ es) = by (proper_apart es) (same_point e.0 e.1) refl
  where
    by : All (λ (g : Edge). g.0 ≢ g.1) (proper_edges es) → (b : Bool) → same_point e.0 e.1 ≡ b → All (λ (g : Edge). g.0 ≢ g.1) (cond (not b) (e ∷ proper_edges es) (proper_edges es))
    by rest true h = rest
    by rest false h =
        All-cons (λ (g : Edge). g.0 ≢ g.1) e (proper_edges es)
        (λ same. let k : true ≡ false = sym ((decides_point e.0 e.1).1 same) ∙ h in cc) rest

-- the edges of a path
pub path_chain : (closed : Bool) (points : List Point) → IsChain closed (path_edges closed points)
path_chain true [] = record { proper = All-nil (λ (e : Edge). e.0 ≢ e.1); joined = All-nil Joined }
path_chain false [] = record { proper = All-nil (λ (e : Edge). e.0 ≢ e.1); joined = All-nil Joined }
path_chain true (x ∷ xs) = record {
  proper = proper_apart (route x xs x);
  joined = boundary_joined x (proper_edges (route x xs x)) (route_leads x xs x);
}
path_chain false (x ∷ xs) = record {
  proper = proper_apart (pairs (x ∷ xs));
  joined = pairs_joined x (proper_edges (pairs (x ∷ xs))) (last_of x xs) (pairs_leads x xs);
}

-- round a closed one too
pub boundary_parts : {A : Type 0} (g h : A → ℤ) (xs : List A) → sum_of (λ (c : A × A). g c.0 -ℤ h c.1) (boundary xs) ≡ sum_of (λ e. g e -ℤ h e) xs
boundary_parts {A} g h xs =
    sum_of_same (λ (c : A × A). g c.0 -ℤ h c.1) (λ (c : A × A). g c.0 +ℤ neg_ℤ (h c.1)) (λ c. omega (arith, linear)) (boundary xs)
    ∙ (boundary_ends g (λ e. neg_ℤ (h e)) xs ∙ sum_of_same (λ e. neg_ℤ (h e) +ℤ g e) (λ e. g e -ℤ h e) (λ e. omega (arith, linear)) xs)

-- what holds of each of a list holds of both of each pair of neighbours
pub neighbours_all : {A : Type 0} (P : A → Type 0) (closed : Bool) (xs : List A) → All P xs → All (λ (c : A × A). P c.0 × P c.1) (neighbours closed xs)
neighbours_all P true xs h = boundary_all P xs h
neighbours_all P false xs h = pairs_all P xs h
