-- Limits of several paths. Private contracts alone read these.
use Rattle.std.specs.Prelude.{ℕ, ◌≡◌, ◌+◌, ◌*◌, ◌^◌, Bool, List, [], Option, Some, None, MatchOption, ℤ, pos, ◌≤ℤ◌, ◌<ℤ◌}
use Rattle.std.specs.Int.{int_min}
use Rattle.std.specs.List.{All}
use Rattle.mesh_plane.specs.Plane.{Point}
use Rattle.mesh_stroke.specs.Paths.{path_edges}
use Rattle.mesh_stroke.specs.Styles.{StrokeStyle}
use Rattle.mesh_inner.specs.Inner.{HasInnerReach}
use Rattle.mesh_inner.specs.Private.Walks.{IsLimit}

-- the path's stroke leaves this room at most; none is told of a path without a section
abbrev pub IsPathLimit : ℕ → StrokeStyle → Bool → List Point → Option ℤ → Type 0
IsPathLimit unit style closed points None = path_edges closed points ≡ []
IsPathLimit unit style closed points (Some l) =
    IsLimit l (λ t. HasInnerReach unit style closed t (path_edges closed points)) × (l <ℤ pos (2 ^ 64))

-- so do the strokes of several paths
abbrev pub IsLimitOfAll : ℕ → StrokeStyle → Bool → List (List Point) → Option ℤ → Type 0
IsLimitOfAll unit style closed paths None = All (λ (points : List Point). path_edges closed points ≡ []) paths
IsLimitOfAll unit style closed paths (Some l) =
    IsLimit l (λ t. All (λ (points : List Point). HasInnerReach unit style closed t (path_edges closed points)) paths)
    × (l <ℤ pos (2 ^ 64))

-- the lesser of two limits, of which there may be none
abbrev pub lesser : Option ℤ → Option ℤ → Option ℤ
lesser None b = b
lesser (Some a) None = Some a
lesser (Some a) (Some b) = Some (int_min a b)

-- the greatest number for which twice the number, and 3 more, is at most the room
abbrev pub IsHalfOf : ℤ → Option ℕ → Type 0
IsHalfOf room half =
    MatchOption half (room <ℤ pos 3) (λ (s : ℕ). (pos (2 * s + 3) ≤ℤ room) × (room <ℤ pos (2 * s + 5)))

-- the same of a limit; none where there is none
abbrev pub IsReachOf : Option ℤ → Option ℕ → Type 0
IsReachOf None reach = reach ≡ None
IsReachOf (Some room) reach = IsHalfOf room reach
