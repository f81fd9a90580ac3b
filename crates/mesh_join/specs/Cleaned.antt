-- The cleaned contour: a closed list of points without repeats and without points that it runs straight through.
use Rattle.std.specs.Prelude.{◌≡◌, ◌≢◌, ◌-◌, ◌≤◌, cond, List, [], ◌∷◌, ◌++◌, length, take, drop, pos, ◌<ℤ◌, ⊤}
use Rattle.std.specs.List.{All}
use Rattle.mesh_plane.specs.Plane.{Point, Edge, minus, cross, dot}
use Rattle.mesh_plane.specs.Turning.{turns_at, last_of}
use Rattle.mesh_plane.specs.Winding.{route, boundary, same_point}

-- the points that differ from the one before, which is `p` for the first
abbrev pub changes_from : Point → List Point → List Point
changes_from p [] = []
changes_from p (q ∷ qs) = cond (same_point p q) (changes_from p qs) (q ∷ changes_from q qs)

-- the list without repeats that follow each other, where the last point does not count as one before the first
abbrev pub without_repeats : List Point → List Point
without_repeats [] = []
without_repeats (p ∷ ps) = p ∷ changes_from p ps

-- the list without its last point, where that is `p`
abbrev pub without_end : Point → List Point → List Point
without_end p [] = []
without_end p (x ∷ []) = cond (same_point p x) [] (x ∷ [])
without_end p (x ∷ y ∷ ys) = x ∷ without_end p (y ∷ ys)

-- a closed list, without its last point where that is the first
abbrev pub without_repeated_end : List Point → List Point
without_repeated_end [] = []
without_repeated_end (p ∷ ps) = p ∷ without_end p ps

-- of the list `p0`, `p1`, `ps`, the points between the first and the last that are kept between their neighbours
abbrev pub kept_between : Point → Point → List Point → List Point
kept_between p0 p1 [] = []
kept_between p0 p1 (p2 ∷ ps) = cond (turns_at p0 p1 p2) (p1 ∷ kept_between p1 p2 ps) (kept_between p1 p2 ps)

-- the kept points of an open list, without its ends
abbrev pub kept_inside : List Point → List Point
kept_inside [] = []
kept_inside (p ∷ []) = []
kept_inside (p ∷ q ∷ ps) = kept_between p q ps

-- the kept points of a closed list, from its second point round to its first
abbrev pub kept_round : List Point → List Point
kept_round [] = []
kept_round (p ∷ []) = []
kept_round (p ∷ q ∷ ps) = kept_between p q (ps ++ p ∷ q ∷ [])

-- the last one, then the others
abbrev pub last_first : List Point → List Point
last_first xs = drop (length xs - 1) xs ++ take (length xs - 1) xs

-- the kept points `round`, which begin at the first of `inside`; where nothing is inside, begun at their last one
-- instead
abbrev pub begun : List Point → List Point → List Point
begun [] round = last_first round
begun (p ∷ ps) round = round

-- the kept points of a closed list, begun at the first one that stands inside the list without repeats, or else at the
-- list's first point
abbrev pub cleaned_points : List Point → List Point
cleaned_points points =
    begun (kept_inside (without_repeats points)) (kept_round (without_repeated_end (without_repeats points)))

-- the edges of the cleaned contour
unfoldable pub cleaned_sections : List Point → List Edge
cleaned_sections points = boundary (cleaned_points points)

-- the edges between neighbouring kept points of an open list without repeats, its ends among them
abbrev pub sections_between : List Point → List Edge
sections_between [] = []
sections_between (p ∷ []) = []
sections_between (p ∷ q ∷ ps) = route p (kept_between p q ps) (last_of q ps)

-- the edges of an open list, cleaned as a closed one is
unfoldable pub open_sections : List Point → List Edge
open_sections points = sections_between (without_repeats points)

-- no point, or only equal ones
abbrev pub AllEqual : List Point → Type 0
AllEqual [] = ⊤
AllEqual (p ∷ ps) = All (λ (q : Point). q ≡ p) ps

-- the edge `f` runs on in the direction of the edge `e`
abbrev pub RunsOn : Edge → Edge → Type 0
RunsOn e f = (cross (minus e.1 e.0) (minus f.1 f.0) ≡ pos 0) × (pos 0 <ℤ dot (minus e.1 e.0) (minus f.1 f.0))

-- at least two edges with different ends, each starting where the one before ends and not running on from it, the first
-- after the last too
pub record IsCleanContour (sections : List Edge) : Type 0 where
  pub many : 2 ≤ length sections
  pub proper : All (λ (e : Edge). e.0 ≢ e.1) sections
  pub closed : All (λ (c : Edge × Edge). c.0.1 ≡ c.1.0) (boundary sections)
  pub turns : All (λ (c : Edge × Edge). RunsOn c.0 c.1 → ⊥) (boundary sections)
