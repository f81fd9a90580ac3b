-- Lemmas over lists: what holds of each element, and of each edge that occurs.
use Rattle.std.proofs.Common.{List, [], ◌∷◌, ◌++◌, ◌≡◌, true, ◌||◌, ℕ, ◌<◌, Bool, false, ap, arith, length, get_or, zero, suc}
use Rattle.std.proofs.lemmas.Bool.{both_ways, or_right}
use Rattle.mesh_plane.specs.Plane.{Edge}
use Rattle.mesh_plane.specs.Winding.{same_point}
use Rattle.mesh_lattice.specs.Clean.{IsProper}
use Rattle.mesh_lattice.specs.Split.{occurs, same_ends}
use Rattle.mesh_lattice.proofs.Ends.{ends_self}
use Rattle.mesh_plane.proofs.Comparing.{decides_point}

-- `P` holds of each element
abbrev pub Each : {A : Type 0} → (A → Type 0) → List A → Type 0
Each P [] = Unit {0}
Each P (x ∷ xs) = P x × Each P xs

pub each_more : {A : Type 0} (P Q : A → Type 0) → ((x : A) → P x → Q x) → (xs : List A) → Each P xs → Each Q xs
each_more P Q f [] h = tt
each_more P Q f (x ∷ xs) h = (f x h.0, each_more P Q f xs h.1)

-- of the elements of two lists, one after the other
pub each_append : {A : Type 0} (P : A → Type 0) (xs ys : List A) → Each P xs → Each P ys → Each P (xs ++ ys)
each_append P [] ys h k = k
each_append P (x ∷ xs) ys h k = (h.0, each_append P xs ys h.1 k)

pub each_left : {A : Type 0} (P : A → Type 0) (xs ys : List A) → Each P (xs ++ ys) → Each P xs
each_left P [] ys h = tt
each_left P (x ∷ xs) ys h = (h.0, each_left P xs ys h.1)

pub each_right : {A : Type 0} (P : A → Type 0) (xs ys : List A) → Each P (xs ++ ys) → Each P ys
each_right P [] ys h = h
each_right P (x ∷ xs) ys h = each_right P xs ys h.1

pub proper_of : (es : List Edge) → IsProper es → (e : Edge) → occurs e es ≡ true → e.0 ≡ e.1 → ⊥
proper_of es proper e h same = both_ways (same_point e.0 e.1) (proper e h) ((decides_point e.0 e.1).1 same)

-- what holds of each edge that occurs holds of each element
pub each_of : (P : Edge → Type 0) (es : List Edge) → ((e : Edge) → occurs e es ≡ true → P e) → Each P es
each_of P [] h = tt
each_of P (e ∷ es) h =
    (h e (λ i. ends_self e i || occurs e es), each_of P es (λ (f : Edge) (o : occurs f es ≡ true). h f (or_right (same_ends f e) (occurs f es) o)))

-- an edge of the list is proper
pub proper_at : (es : List Edge) (i : ℕ) (d : Edge) → i < length es → IsProper es → same_point (get_or es i d).0 (get_or es i d).1 ≡ false
proper_at es i d h proper = proper (get_or es i d) (stands es i h)
  where
    stands : (es : List Edge) (i : ℕ) → i < length es → occurs (get_or es i d) es ≡ true
    stands [] i h = absurd (omega arith)
    stands (e ∷ es) zero h = ap (λ (b : Bool). b || occurs e es) (ends_self e)
    stands (e ∷ es) (suc i) h = or_right (same_ends (get_or es i d) e) (occurs (get_or es i d) es) (stands es i (omega arith))
