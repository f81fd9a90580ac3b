-- What is known of normals on the way to a section: only private contracts read this.
use Rattle.std.specs.Prelude.{ℕ, ◌*◌, ◌<◌, ◌≤◌, ◌^◌}
use Rattle.mesh_plane.specs.Plane.{Point, length_sq}

-- the vector is at most so long, and the length is above 0 and fits 64 bits with a sign
pub record IsBounded (length : ℕ) (v : Point) : Type 0 where
  pub some : 0 < length
  pub most : length < 2 ^ 63
  pub short : length_sq v ≤ length * length
