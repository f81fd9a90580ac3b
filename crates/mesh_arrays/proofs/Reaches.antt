-- Lemmas over how near to their paths strokes hold points.
use Rattle.std.proofs.Common.{◌≡◌, ℕ, ◌<◌, Bool, List, sym, subst, arith}
use Rattle.std.specs.Prelude.{Option, None, Some, IfSome}
use Rattle.std.specs.List.{All}
use Rattle.mesh_plane.specs.Plane.{Point}
use Rattle.mesh_stroke.specs.Styles.{StrokeStyle}
use Rattle.mesh_inner.specs.Inner.{HoldsWithin}
use Rattle.mesh_inner.specs.Told.{IsInnerReach}
use Rattle.mesh_arrays.specs.Reaches.{IsStrokeReach, or_zero}

-- what is told, where 0 stands for none
pub answers : (unit : ℕ) (style : StrokeStyle) (closed : Bool) (paths : List (List Point)) (found : Option ℕ) (reach : ℕ) → IsInnerReach unit style closed paths found →
    IfSome found (λ s. All (HoldsWithin unit style closed s) paths) → reach ≡ or_zero found → IsStrokeReach unit style closed paths reach
answers unit style closed paths None reach greatest holding is = record {
  found = None;
  greatest = greatest;
  told = is;
  holds = λ more. absurd (omega (arith, is, more));
}
answers unit style closed paths (Some s) reach greatest holding is = record {
  found = Some s;
  greatest = greatest;
  told = is;
  holds = λ more. subst (λ (n : ℕ). All (HoldsWithin unit style closed n) paths) (sym is) holding;
}
