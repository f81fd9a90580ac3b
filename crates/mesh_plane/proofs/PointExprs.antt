-- Lemmas over whole numbers: words for polynomials in the coordinates of points, for the solver of identities.
use Rattle.std.proofs.Common.{ℕ, ◌*◌, ◌+◌, List, [], ◌∷◌}
use Rattle.std.specs.Prelude.{ℤ}
use Rattle.mesh_plane.specs.Plane.{Point}
use Rattle.mesh_plane.proofs.Ring.{Expr, var, ◌⊖◌, ◌⊗◌}

abbrev pub PointExpr : Type 0
PointExpr = Expr × Expr

-- the point number `i` of the list whose coordinates are the variables
abbrev pub point_var : ℕ → PointExpr
point_var i = (var (2 * i), var (2 * i + 1))

-- the coordinates of points, then further variables
abbrev pub coordinates : List Point → List ℤ → List ℤ
coordinates [] more = more
coordinates (p ∷ ps) more = p.0 ∷ p.1 ∷ coordinates ps more

abbrev pub apart : PointExpr → PointExpr → PointExpr
apart p q = (p.0 ⊖ q.0, p.1 ⊖ q.1)

abbrev pub crossed : PointExpr → PointExpr → Expr
crossed v w = (v.0 ⊗ w.1) ⊖ (v.1 ⊗ w.0)

abbrev pub turned : PointExpr → PointExpr → PointExpr → Expr
turned p r q = crossed (apart r p) (apart q p)

-- a point whose coordinates are multiplied
abbrev pub scaled_point_expr : Expr → PointExpr → PointExpr
scaled_point_expr m p = (m ⊗ p.0, m ⊗ p.1)
