-- Laws of drawings that lie apart. The function of the same name in the module `laws` carries each.
use Rattle.std.specs.Prelude.{ℕ, ◌<◌, ◌≡◌, Bool, List, ◌++◌, map, ℤ, pos}
use Rattle.std.specs.List.{AllPairs, AllZip, Contains, flat_map}
use Rattle.std.specs.List.Sorted.{IsPermutation}
use Rattle.mesh_plane.specs.Plane.{Point, Edge}
use Rattle.mesh_plane.specs.Winding.{winding}
use Rattle.mesh_lattice.specs.Clean.{IsProper}
use Rattle.mesh_lattice.specs.Split.{EdgeSplit, after, IsLegal}
use Rattle.mesh_shapes.specs.Resolution.{Choices, AreArranged, IsResolution}
use Rattle.mesh_apart.specs.Apart.{finer_box, IsWithin, Piece, edges_in, LieApart, AreComponents, AreOpen}
use Rattle.mesh_apart.specs.Joined.{rings_of, HoldTheirOwn, Drawing, AreDrawnApart, IsJoint, AreJoined, AreAllJoined}

-- what splits leave of the one list does not wind round the points of the other's boxes, on every grid; nor do the
-- edges, which are what no splits leave
abbrev pub OthersDoNotWind : Type 0
OthersDoNotWind =
    (first second : List Piece) → LieApart first second
    → (splits : List EdgeSplit) → IsLegal (edges_in second) splits
    → (piece : Piece) → Contains first piece
    → (m : ℕ) → 0 < m → (q : Point) → IsWithin (finer_box m piece.box) q
    → winding m q (after splits (edges_in second)) ≡ pos 0

-- a resolution of edges is one of the same edges in any order
abbrev pub EdgesMayChangePlaces : Type 0
EdgesMayChangePlaces =
    (edges others : List Edge) → IsPermutation edges others
    → (fill : ℤ → Bool) (options : Choices) (answer : List (List (List Point)))
    → IsResolution edges fill options answer → IsResolution others fill options answer

-- resolutions of two lists that lie apart are together a resolution of all edges, with any shapes that arise from the
-- rings of both
abbrev pub ResolutionsJoin : Type 0
ResolutionsJoin =
    (first second : List Piece) → LieApart first second
    → (fill : ℤ → Bool) (options : Choices) (x y z : List (List (List Point)))
    → (r : IsResolution (edges_in first) fill options x) → (s : IsResolution (edges_in second) fill options y)
    → AreArranged options.clockwise (rings_of options (r.contours ++ s.contours)) z
    → IsJoint first second r s z

-- the answers of two lists that lie apart, where no hole of the one would stand with a ring of the other
abbrev pub ShapesJoin : Type 0
ShapesJoin =
    (first second : List Piece) → LieApart first second
    → (fill : ℤ → Bool) (options : Choices) (x y : List (List (List Point)))
    → (r : IsResolution (edges_in first) fill options x) → (s : IsResolution (edges_in second) fill options y)
    → HoldTheirOwn (rings_of options r.contours) (rings_of options s.contours)
    → AreJoined (edges_in first ++ edges_in second) fill options x y

-- where boxes have ways out, contours hold their own; no edge may end where it starts
abbrev pub OpenPartsHoldTheirOwn : Type 0
OpenPartsHoldTheirOwn =
    (first second : List Piece) → LieApart first second → AreOpen first second
    → IsProper (edges_in first) → IsProper (edges_in second)
    → (fill : ℤ → Bool) (options : Choices) (x y : List (List (List Point)))
    → (r : IsResolution (edges_in first) fill options x) → (s : IsResolution (edges_in second) fill options y)
    → HoldTheirOwn (rings_of options r.contours) (rings_of options s.contours)

-- the answers of drawings of which any two are apart so, for all their edges in any order
abbrev pub DrawingsJoin : Type 0
DrawingsJoin =
    (fill : ℤ → Bool) (options : Choices) (drawings : List (Drawing fill options)) → AllPairs AreDrawnApart drawings
    → (edges : List Edge)
    → IsPermutation (edges_in (flat_map (λ (a : Drawing fill options). a.pieces) drawings)) edges
    → AreAllJoined edges fill options (map (λ (a : Drawing fill options). a.answer) drawings)

-- the answers of two lists of components, all of them apart
abbrev pub AnswersJoin : Type 0
AnswersJoin =
    (first second : List Piece) → AreComponents (first ++ second)
    → (fill : ℤ → Bool) (options : Choices) (x y : List (List (List Point)))
    → IsResolution (edges_in first) fill options x → IsResolution (edges_in second) fill options y
    → AreJoined (edges_in (first ++ second)) fill options x y

-- the answers of components, one by one, for all their edges in any order
abbrev pub ComponentsJoin : Type 0
ComponentsJoin =
    (components : List Piece) → AreComponents components
    → (edges : List Edge) → IsPermutation (edges_in components) edges
    → (fill : ℤ → Bool) (options : Choices) (answers : List (List (List (List Point))))
    → AllZip (λ (c : Piece) (x : List (List (List Point))). IsResolution c.edges fill options x) components answers
    → AreAllJoined edges fill options answers
