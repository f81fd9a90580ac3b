-- Lemmas over lists: the edge that a segment comes from.
use Rattle.std.proofs.Common.{◌≡◌, ⊎_elim, ℕ, zero, suc, ◌<◌, true, ◌||◌, List, [], ◌∷◌, length, get_or, sym, ◌∙◌, ap, subst, arith}
use Rattle.std.proofs.lemmas.Bool.{false≢true, or_cases, or_right}
use Rattle.mesh_plane.specs.Plane.{Edge}
use Rattle.mesh_lattice.specs.Split.{occurs, same_ends, after, path, EdgeSplit}
use Rattle.mesh_lattice.proofs.Keys.{occurs_head}
use Rattle.mesh_lattice.proofs.KeptBySplits.{after_append, after_none}
use Rattle.mesh_lattice.proofs.Splits.{occurs_append}

-- a segment is part of the path that the edge at a place has become
pub record IsPartOf (splits : List EdgeSplit) (es : List Edge) (d f : Edge) : Type 0 where
  pub place : ℕ
  pub within : place < length es
  pub on_path : occurs f (path splits (get_or es place d)) ≡ true

pub origin : (splits : List EdgeSplit) (es : List Edge) (d f : Edge) → occurs f (after splits es) ≡ true → IsPartOf splits es d f
origin splits [] d f o = absurd (false≢true (subst (λ (l : List Edge). occurs f l ≡ true) (after_none splits) o))
origin splits (e ∷ es) d f o =
    ⊎_elim
    (λ (t : occurs f (path splits e) ≡ true). record { place = 0; within = omega arith; on_path = t })
    (λ (t : occurs f (after splits es) ≡ true).
    let r = origin splits es d f t in
    record { place = suc r.place; within = omega (arith, r.within); on_path = r.on_path })
    (or_cases (occurs f (path splits e)) (occurs f (after splits es)) parts)
  where
    parts : (occurs f (path splits e) || occurs f (after splits es)) ≡ true
    parts = sym (occurs_append f (path splits e) (after splits es)) ∙ (ap (occurs f) (sym (after_append splits (e ∷ []) es)) ∙ o)

-- the edge at a place stands in the list
pub stands_at : (es : List Edge) (k : ℕ) (d : Edge) → k < length es → occurs (get_or es k d) es ≡ true
stands_at [] k d h = absurd (omega arith)
stands_at (e ∷ es) zero d h = occurs_head e es
stands_at (e ∷ es) (suc k) d h = or_right (same_ends (get_or es k d) e) (occurs (get_or es k d) es) (stands_at es k d (omega arith))
