-- Lemmas over points and lists: which edges stand in lists of edges, and how edges wind the other way about.
use Rattle.std.proofs.Common.{◌≡◌, ⊎_elim, Bool, true, false, cond, List, [], ◌∷◌, map, refl, sym, ◌∙◌, ap, arith}
use Rattle.std.specs.Prelude.{ℕ, ℤ, neg_ℤ}
use Rattle.std.specs.List.{filter}
use Rattle.std.specs.List.Sorted.{IsPermutation}
use Rattle.std.proofs.lemmas.Bool.{or_cases, or_left, or_right}
use Rattle.mesh_plane.specs.Plane.{Point, Edge}
use Rattle.mesh_plane.specs.Winding.{winding}
use Rattle.mesh_plane.proofs.Crossings.{crossing_on_odd}
use Rattle.mesh_plane.proofs.Sums.{sum_of_permutation}
use Rattle.mesh_plane.proofs.Whole.{linear}
use Rattle.mesh_lattice.specs.Split.{back, occurs, same_ends}
use Rattle.mesh_lattice.specs.declared.fill.FillRule.{FillRule}
use Rattle.mesh_lattice.specs.declared.fill.FillRule.TheVariants.{Positive, Negative}
use Rattle.mesh_lattice.proofs.Ends.{ends_turned}
use Rattle.mesh_below.proofs.Merging.{same_occurs}
use Rattle.mesh_offset.specs.Adding.{in_sense}

pub permuted : (es gs : List Edge) → IsPermutation es gs → (e : Edge) → occurs e es ≡ true → occurs e gs ≡ true
permuted es gs same e o = sym (same_occurs es gs (λ (f : Edge → ℤ). sym (sum_of_permutation f es gs same)) e) ∙ o

pub sensed : (fill : FillRule) (es : List Edge) (e : Edge) → occurs e (in_sense fill es) ≡ true → occurs e es ≡ true
sensed Positive es e o = o
sensed Negative [] e o = o
sensed Negative (f ∷ es) e o =
    ⊎_elim
    (λ (t : same_ends e (back f) ≡ true). or_left (same_ends e f) (occurs e es) (sym (ends_turned e f) ∙ t))
    (λ (t : occurs e (map back es) ≡ true). or_right (same_ends e f) (occurs e es) (sensed Negative es e t))
    (or_cases (same_ends e (back f)) (occurs e (map back es)) o)

pub kept : (p : Edge → Bool) (es : List Edge) (e : Edge) → occurs e (filter p es) ≡ true → occurs e es ≡ true
kept p [] e o = o
kept p (f ∷ es) e o = by (p f) o (kept p es e)
  where
    by : (b : Bool) → occurs e (cond b (f ∷ filter p es) (filter p es)) ≡ true → (occurs e (filter p es) ≡ true → occurs e es ≡ true) → occurs e (f ∷ es) ≡ true
    by true h rest =
        ⊎_elim (or_left (same_ends e f) (occurs e es)) (λ (t : occurs e (filter p es) ≡ true). or_right (same_ends e f) (occurs e es) (rest t))
        (or_cases (same_ends e f) (occurs e (filter p es)) h)
    by false h rest = or_right (same_ends e f) (occurs e es) (rest h)

-- edges the other way about wind the other way
pub back_total : (m : ℕ) (q : Point) (es : List Edge) → winding m q (map back es) ≡ neg_ℤ (winding m q es)
back_total m q [] = refl
back_total m q (e ∷ es) = omega (arith, linear, back_total m q es, crossing_on_odd m q e.0 e.1)
