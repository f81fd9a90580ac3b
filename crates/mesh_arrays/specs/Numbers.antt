-- Points, edges and vertices as numbers.
use Rattle.std.specs.Prelude.{ℕ, ◌^◌, ℤ, pos, List, [], ◌∷◌}
use Rattle.mesh_plane.specs.Plane.{Point, Edge}
use Rattle.mesh_join.specs.VariableStyles.{Vertex}

-- the point that two numbers are, where `value` is the whole number that each stands for
abbrev pub point_from : {C : Type 0} → (C → ℤ) → List C → Point
point_from value [] = (pos 0, pos 0)
point_from value (x ∷ []) = (pos 0, pos 0)
point_from value (x ∷ y ∷ more) = (value x, value y)

-- the vertex that three numbers are
abbrev pub vertex_from : {C : Type 0} → (C → ℤ) → List C → Vertex
vertex_from value [] = record { point = (pos 0, pos 0); width = pos 0 }
vertex_from value (x ∷ []) = record { point = (pos 0, pos 0); width = pos 0 }
vertex_from value (x ∷ y ∷ []) = record { point = (pos 0, pos 0); width = pos 0 }
vertex_from value (x ∷ y ∷ width ∷ more) = record { point = (value x, value y); width = value width }

-- the edge that four numbers are
abbrev pub edge_from : {C : Type 0} → (C → ℤ) → List C → Edge
edge_from value [] = ((pos 0, pos 0), (pos 0, pos 0))
edge_from value (a ∷ []) = ((pos 0, pos 0), (pos 0, pos 0))
edge_from value (a ∷ b ∷ []) = ((pos 0, pos 0), (pos 0, pos 0))
edge_from value (a ∷ b ∷ c ∷ []) = ((pos 0, pos 0), (pos 0, pos 0))
edge_from value (a ∷ b ∷ c ∷ d ∷ more) = ((value a, value b), (value c, value d))

-- the same of whole numbers, which coordinates of both types are to contracts
abbrev pub whole_point : List ℤ → Point
whole_point = point_from (λ z. z)

abbrev pub whole_vertex : List ℤ → Vertex
whole_vertex = vertex_from (λ z. z)

abbrev pub whole_edge : List ℤ → Edge
whole_edge = edge_from (λ z. z)

-- the units of both types
abbrev pub unit_16 : ℕ
unit_16 = 2 ^ 14

abbrev pub unit_32 : ℕ
unit_32 = 2 ^ 30
