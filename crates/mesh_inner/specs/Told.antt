-- What the call tells of the strokes of some paths: the greatest squared distance within which they hold every point.
use Rattle.std.specs.Prelude.{ℕ, ◌≡◌, ◌+◌, ◌*◌, ◌≤◌, Bool, List, Option, Some, None, pos, ◌<ℤ◌, unsigned_abs}
use Rattle.std.specs.List.{All}
use Rattle.mesh_plane.specs.Plane.{Point}
use Rattle.mesh_join.specs.declared.style.StrokeSide.TheVariants.{Both}
use Rattle.mesh_stroke.specs.Paths.{path_edges}
use Rattle.mesh_stroke.specs.Styles.{StrokeStyle}
use Rattle.mesh_inner.specs.Inner.{HasInnerReach}

-- what the laws ask of a stroke
pub record CanBeTold (unit : ℕ) (style : StrokeStyle) : Type 0 where
  pub both : style.side ≡ Both
  pub wide : pos 1 <ℤ style.radius
  pub small : 4 * unsigned_abs style.radius ≤ unit

-- every section, join and cap of every path leaves room for points at this squared distance
abbrev pub HaveRoom : ℕ → StrokeStyle → Bool → List (List Point) → ℕ → Type 0
HaveRoom unit style closed paths s =
    All (λ (points : List Point). HasInnerReach unit style closed (2 * s + 3) (path_edges closed points)) paths

-- the greatest number for which they do
pub record IsGreatestReach (unit : ℕ) (style : StrokeStyle) (closed : Bool) (paths : List (List Point)) (s : ℕ)
    : Type 0 where
  pub can : CanBeTold unit style
  pub room : HaveRoom unit style closed paths s
  pub greatest : (u : ℕ) → HaveRoom unit style closed paths u → u ≤ s

-- what is told: the greatest number, or that there is none
abbrev pub IsInnerReach : ℕ → StrokeStyle → Bool → List (List Point) → Option ℕ → Type 0
IsInnerReach unit style closed paths (Some s) = IsGreatestReach unit style closed paths s
IsInnerReach unit style closed paths None = (s : ℕ) → IsGreatestReach unit style closed paths s → ⊥
