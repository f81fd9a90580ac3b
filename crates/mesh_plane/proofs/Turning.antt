-- Lemmas over points: what it tells that a way does not turn.
use Rattle.std.proofs.Common.{◌≡◌, false, not, [], ◌∷◌, refl, ◌∙◌, ap}
use Rattle.std.specs.Prelude.{pos, neg_ℤ, ◌≤ℤ◌, int_lt}
use Rattle.std.specs.Ordering.{int_eq}
use Rattle.std.proofs.lemmas.Bool.{or_parts, not-false}
use Rattle.std.proofs.lemmas.Bool.Decides.{Decides-int_eq}
use Rattle.mesh_plane.specs.Plane.{Point, minus, cross, dot, turn}
use Rattle.mesh_plane.specs.Turning.{turns_at}
use Rattle.mesh_plane.proofs.Comparing.{test_not_less}
use Rattle.mesh_plane.proofs.Ring.{ring, var, neg, ◌⊖◌, cross_of}

-- where the way does not turn, the neighbours lie on one line with the point, and not on one side of it
pub straight_parts : (a p z : Point) → turns_at a p z ≡ false → (cross (minus p a) (minus p z) ≡ pos 0) × (dot (minus p a) (minus p z) ≤ℤ pos 0)
straight_parts a p z e =
    let both = or_parts (not (int_eq (cross (minus p a) (minus p z)) (pos 0))) (int_lt (pos 0) (dot (minus p a) (minus p z))) e in (
      (Decides-int_eq (cross (minus p a) (minus p z)) (pos 0)).0 (not-false (int_eq (cross (minus p a) (minus p z)) (pos 0)) both.0),
      test_not_less (pos 0) (dot (minus p a) (minus p z)) both.1,
    )

pub straight_turn : (a p z : Point) → turns_at a p z ≡ false → turn a p z ≡ pos 0
straight_turn a p z e =
    ring (a.0 ∷ a.1 ∷ p.0 ∷ p.1 ∷ z.0 ∷ z.1 ∷ [])
    (cross_of (var 2 ⊖ var 0) (var 3 ⊖ var 1) (var 4 ⊖ var 0) (var 5 ⊖ var 1))
    (neg (cross_of (var 2 ⊖ var 0) (var 3 ⊖ var 1) (var 2 ⊖ var 4) (var 3 ⊖ var 5)))
    refl
    ∙ ap neg_ℤ (straight_parts a p z e).0
