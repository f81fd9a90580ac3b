-- Tracing along edges: which of them are still unused, and what one step may take.
use Rattle.std.specs.Prelude.{ℕ, ◌≡◌, ◌⊎◌, ◌<◌, Bool, true, false, cond, List, [], ◌∷◌, length, slice_index_or, ℤ, ◌+ℤ◌}
use Rattle.std.specs.Prelude.{Vec}
use Rattle.std.specs.declared.alloc.Global.{Global}
use Rattle.mesh_plane.specs.Plane.{Point, Edge}
use Rattle.mesh_plane.specs.Winding.{sum_of, IsBalanced}
use Rattle.mesh_shapes.specs.Vectors.{HavePoints, contour_edges}

-- the edges that are not marked as used
abbrev pub unused : List Edge → List Bool → List Edge
unused [] bs = []
unused (e ∷ es) [] = e ∷ unused es []
unused (e ∷ es) (b ∷ bs) = cond b (unused es bs) (e ∷ unused es bs)

-- the edge at a place is unused, or it is the trace's first
abbrev pub IsOpen : List Bool → ℕ → ℕ → Type 0
IsOpen used first k = (slice_index_or used k true ≡ false) ⊎ (k ≡ first)

-- an edge that starts at `at` and on which a trace may go on
pub record IsNext (es : List Edge) (used : List Bool) (first : ℕ) (at : Point) (k : ℕ) : Type 0 where
  pub within : k < length es
  pub starts : (d : Edge) → (slice_index_or es k d).0 ≡ at
  pub open' : IsOpen used first k

-- contours were made of unused edges, the edge `first` among them
pub record TakesContours (es : List Edge) (was now : List Bool)
    (old new : List (Vec Point Global)) (first : ℕ) : Type 0 where
  pub same : (g : Edge → ℤ)
      → sum_of g (contour_edges old) +ℤ sum_of g (unused es was)
      ≡ sum_of g (contour_edges new) +ℤ sum_of g (unused es now)
  pub balanced : IsBalanced (unused es now)
  pub kept : (k : ℕ) → slice_index_or was k true ≡ true → slice_index_or now k true ≡ true
  pub marked : slice_index_or now first true ≡ true
  pub have_points : HavePoints old → HavePoints new
