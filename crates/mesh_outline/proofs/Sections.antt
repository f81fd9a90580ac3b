-- Lemmas over points: sections of safe points are safe, and are what their definition says.
use Rattle.std.proofs.Common.{◌≡◌, ℕ, ◌∙◌, ap}
use Rattle.std.specs.Prelude.{ℤ}
use Rattle.mesh_plane.specs.Plane.{Point, plus, minus, right_quarter}
use Rattle.mesh_num.specs.Direction.{IsDirection, scaled_direction}
use Rattle.mesh_num.specs.Directed.{direction_of}
use Rattle.mesh_num.proofs.Directed.{is_direction_of}
use Rattle.mesh_outline.specs.Outline.{Section, section_of}

-- what the code puts together is the section of its definition
pub section_made : (unit : ℕ) (offset : ℤ) (a b v n s ta tb : Point) → v ≡ minus b a → IsDirection unit v n → s ≡ scaled_direction unit offset n →
    ta ≡ plus a (right_quarter s) → tb ≡ plus b (right_quarter s) →
    ◌≡◌ {A = Section} (record { a = a; b = b; direction = n; a_top = ta; b_top = tb }) (section_of unit offset (a, b))
section_made unit offset a b v n s ta tb e d f g h =
    let k : n ≡ direction_of unit (minus b a) = is_direction_of unit v n d ∙ ap (direction_of unit) e in
    let l : s ≡ scaled_direction unit offset (direction_of unit (minus b a)) = f ∙ ap (scaled_direction unit offset) k in
    λ i. record {
      a = a;
      b = b;
      direction = k i;
      a_top = (g ∙ ap (λ (t : Point). plus a (right_quarter t)) l) i;
      b_top = (h ∙ ap (λ (t : Point). plus b (right_quarter t)) l) i;
    }
