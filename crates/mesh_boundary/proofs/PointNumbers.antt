-- Lemmas over lists: the numbers of points, as places.
use Rattle.std.proofs.Common.{◌≡◌, ⊎_elim, ℕ, zero, suc, Bool, true, false, cond, List, [], ◌∷◌, sym, subst, arith}
use Rattle.std.proofs.lemmas.Bool.{both_ways, cases_Bool}
use Rattle.mesh_plane.specs.Plane.{Point}
use Rattle.mesh_plane.specs.Winding.{same_point}
use Rattle.mesh_plane.proofs.Comparing.{decides_point}
use Rattle.mesh_points.specs.Points.{AreDistinct, IsNewPoint, IsNumberOf}
use Rattle.mesh_points.proofs.Merging.{one_number}
use Rattle.mesh_points.proofs.Numbers.{number_kept}
use Rattle.mesh_boundary.specs.Private.Stars.{ArePlaces}

-- where a point first stands in a list, if it does
abbrev pub number_in : List Point → Point → ℕ
number_in [] p = 0
number_in (q ∷ ps) p = cond (same_point q p) 0 (suc (number_in ps p))

stands : (ps : List Point) (p : Point) (k : ℕ) → IsNumberOf ps p k → IsNumberOf ps p (number_in ps p)
stands [] p k h = absurd (omega (arith, h.within))
stands (q ∷ ps) p k h =
    ⊎_elim
    (λ (t : same_point q p ≡ true). subst (IsNumberOf (q ∷ ps) p) (λ i. cond (sym t i) 0 (suc (number_in ps p))) (record { within = omega arith; at = (decides_point q p).0 t }))
    (λ (n : same_point q p ≡ false). subst (IsNumberOf (q ∷ ps) p) (λ i. cond (sym n i) 0 (suc (number_in ps p))) (later (λ j. stands ps p j) k h n))
    (cases_Bool (same_point q p))
  where
    later : ((j : ℕ) → IsNumberOf ps p j → IsNumberOf ps p (number_in ps p)) → (k : ℕ) → IsNumberOf (q ∷ ps) p k → same_point q p ≡ false → IsNumberOf (q ∷ ps) p (suc (number_in ps p))
    later rest zero h n = absurd (both_ways (same_point q p) n ((decides_point q p).1 h.at))
    later rest (suc j) h n =
        let at = rest j (record { within = omega (arith, h.within); at = h.at }) in
        record { within = omega (arith, at.within); at = at.at }

-- places that are the numbers of points
pub places_of : (ps : List Point) → AreDistinct ps → ArePlaces (number_in ps) ps
places_of ps apart p k h = one_number ps p (number_in ps p) k apart (stands ps p k h) h

-- what had a number keeps it, where a point was numbered
pub kept_or_same : (old new : List Point) (p : Point) (b : Bool) → (b ≡ false → new ≡ old) → (b ≡ true → IsNewPoint old new p) → (q : Point) (k : ℕ) → IsNumberOf old q k → IsNumberOf new q k
kept_or_same old new p b same added q k h =
    ⊎_elim (λ (t : b ≡ true). subst (λ (ps : List Point). IsNumberOf ps q k) (sym (added t).added) (number_kept old p q k h))
    (λ (n : b ≡ false). subst (λ (ps : List Point). IsNumberOf ps q k) (sym (same n)) h)
    (cases_Bool b)
