-- Lemmas over points and lists: the cleaned contour keeps each sum over edges that is unchanged by points on the way.
use Rattle.std.proofs.Common.{◌≡◌, inl, inr, refl, sym, ◌∙◌, ap, arith, true, List, [], ◌∷◌, ◌++◌}
use Rattle.std.specs.Prelude.{ℤ, pos, ◌+ℤ◌}
use Rattle.std.proofs.lemmas.Bool.{cases_Bool, cond-true, cond-false}
use Rattle.mesh_plane.specs.Plane.{Point, Edge, turn}
use Rattle.mesh_plane.specs.Winding.{pairs_from, route, boundary, same_point, total}
use Rattle.mesh_plane.proofs.Whole.{linear}
use Rattle.mesh_plane.specs.Turning.{turns_at}
use Rattle.mesh_join.specs.Cleaned.{cleaned_sections}
use Rattle.mesh_plane.proofs.Comparing.{decides_point}
use Rattle.mesh_plane.proofs.Crossings.{straight_none}
use Rattle.mesh_plane.proofs.Turning.{straight_turn}
use Rattle.mesh_join.proofs.CleaningPass.{passed, passed-kept, passed-on}
use Rattle.mesh_join.proofs.CleaningStart.{started, started-kept, started-on, started-cleaned, cleaned_sections-same}

pub pairs_from-route : (p : Point) (zs : List Point) (z : Point) → pairs_from p (zs ++ z ∷ []) ≡ route p zs z
pairs_from-route p [] z = refl
pairs_from-route p (x ∷ xs) z = ap (λ (es : List Edge). (p, x) ∷ es) (pairs_from-route x xs z)

module _ (f : Point → Point → ℤ) (straight : (p r s : Point) → turn p r s ≡ pos 0 → f p r +ℤ f r s ≡ f p s) where
  pairs_from-append : (p : Point) (zs : List Point) (q r : Point) → total f (pairs_from p (zs ++ q ∷ r ∷ [])) ≡ total f (pairs_from p (zs ++ q ∷ [])) +ℤ f q r
  pairs_from-append p [] q r = omega (arith, linear)
  pairs_from-append p (z ∷ zs) q r = omega (arith, linear, pairs_from-append z zs q r)

  pub passed-total : (a p : Point) (zs : List Point) → total f (passed a p zs) ≡ f a p +ℤ total f (pairs_from p zs)
  passed-total a p [] = elim (cases_Bool (same_point a p)) [
    | inl e ↦
        let none : f a p ≡ pos 0 = ap (f a) (sym ((decides_point a p).0 e)) ∙ straight_none f straight a in
        let empty : total f (passed a p []) ≡ pos 0 = ap (total f) (cond-true (same_point a p) [] ((a, p) ∷ []) e) in
        omega (arith, linear, none, empty)
    | inr e ↦
        let one : total f (passed a p []) ≡ f a p +ℤ pos 0 = ap (total f) (cond-false (same_point a p) [] ((a, p) ∷ []) e) in
        one
  ]
  passed-total a p (z ∷ zs) = elim (cases_Bool (turns_at a p z)) [
    | inl e ↦
        let kept : total f (passed a p (z ∷ zs)) ≡ f a p +ℤ total f (passed p z zs) = ap (total f) (passed-kept a p z zs e) in
        omega (arith, linear, kept, passed-total p z zs)
    | inr e ↦
        let on : total f (passed a p (z ∷ zs)) ≡ total f (passed a z zs) = ap (total f) (passed-on a p z zs e) in
        omega (arith, linear, on, passed-total a z zs, straight a p z (straight_turn a p z e))
  ]

  pub started-total : (q p : Point) (zs : List Point) → total f (started q p zs) ≡ f q p +ℤ total f (pairs_from p (zs ++ q ∷ []))
  started-total q p [] = omega (arith, linear, passed-total q p (q ∷ q ∷ []), straight_none f straight q)
  started-total q p (z ∷ zs) = elim (cases_Bool (turns_at q p z)) [
    | inl e ↦
        let kept : total f (started q p (z ∷ zs)) ≡ total f (passed p z (zs ++ q ∷ p ∷ [])) = ap (total f) (started-kept q p z zs e) in
        omega (arith, linear, kept, passed-total p z (zs ++ q ∷ p ∷ []), pairs_from-append z zs q p)
    | inr e ↦
        let on : total f (started q p (z ∷ zs)) ≡ total f (started q z zs) = ap (total f) (started-on q p z zs e) in
        omega (arith, linear, on, started-total q z zs, straight q p z (straight_turn q p z e))
  ]

  cleaned-pairs_from : (q : Point) (zs : List Point) → total f (cleaned_sections (q ∷ zs)) ≡ total f (pairs_from q (zs ++ q ∷ []))
  unfolding cleaned_sections
  cleaned-pairs_from q [] = omega (arith, linear, straight_none f straight q)
  cleaned-pairs_from q (z ∷ zs) = elim (cases_Bool (same_point q z)) [
    | inl e ↦ repeated e (cleaned-pairs_from q zs)
    | inr e ↦ ap (total f) (sym (started-cleaned q z zs e)) ∙ started-total q z zs
  ]
    where
      repeated : same_point q z ≡ true → total f (cleaned_sections (q ∷ zs)) ≡ total f (pairs_from q (zs ++ q ∷ [])) → total f (cleaned_sections (q ∷ z ∷ zs)) ≡ f q z +ℤ total f (pairs_from z (zs ++ q ∷ []))
      repeated e ih =
          let same : q ≡ z = (decides_point q z).0 e in
          let less : total f (cleaned_sections (q ∷ z ∷ zs)) ≡ total f (cleaned_sections (q ∷ zs)) = ap (total f) (cleaned_sections-same q z zs e) in
          let way : total f (pairs_from q (zs ++ q ∷ [])) ≡ total f (pairs_from z (zs ++ q ∷ [])) = ap (λ x. total f (pairs_from x (zs ++ q ∷ []))) same in
          let none : f q z ≡ pos 0 = ap (f q) (sym same) ∙ straight_none f straight q in
          omega (arith, linear, less, ih, way, none)

  -- the sum over the cleaned contour is that over the contour as it was
  pub cleaned-total : (points : List Point) → total f (cleaned_sections points) ≡ total f (boundary points)
  unfolding cleaned_sections
  cleaned-total [] = refl
  cleaned-total (q ∷ zs) = cleaned-pairs_from q zs ∙ ap (total f) (pairs_from-route q zs q)
