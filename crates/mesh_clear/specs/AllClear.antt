-- That pieces of paths meet no more.
use Rattle.mesh_lattice.specs.Split.{AreClear}
use Rattle.mesh_paths.specs.declared.paths.Paths.{Paths}
use Rattle.mesh_paths.specs.declared.paths.Piece.{Piece}
use Rattle.mesh_paths.specs.Paths.{edge_of, IsPieceOf}

-- any two pieces of paths are clear of each other, of two paths or of one
abbrev pub AreAllClear : Paths → Type 0
AreAllClear p = (a b : Piece) → IsPieceOf p a → IsPieceOf p b → AreClear (edge_of p a) (edge_of p b)
