-- The order in which the edges of a path are listed.
use Rattle.std.specs.Prelude.{ℤ}
use Rattle.std.specs.Ordering.{ordering_then}
use Rattle.std.specs.declared.cmp.Ordering.{Ordering}
use Rattle.mesh_plane.specs.Plane.{Point, Edge}

-- the order of whole numbers by the values that stand for them
abbrev pub by_values : {C : Type 0} → (C → C → Ordering) → (ℤ → C) → ℤ → ℤ → Ordering
by_values order of_value = λ a b. order (of_value a) (of_value b)

-- the order of points by an order of their coordinates: by x, then by y
abbrev pub point_order : (ℤ → ℤ → Ordering) → Point → Point → Ordering
point_order order p q = ordering_then (order p.0 q.0) (order p.1 q.1)

-- the order of edges: by where they start, then by where they end
abbrev pub edge_order : (ℤ → ℤ → Ordering) → Edge → Edge → Ordering
edge_order order e f = ordering_then (point_order order e.0 f.0) (point_order order e.1 f.1)
