-- An arc's buffer, as contracts see it.
use Rattle.std.specs.Prelude.{ℕ, ◌≡◌, ◌≤◌, List, [], Result, OnOk, OnErr, length, Vec, vec_capacity}
use Rattle.std.specs.declared.alloc.Global.{Global}
use Rattle.mesh_plane.specs.Plane.{Point}
use Rattle.mesh_arc.specs.Arcs.{arc}
use Rattle.mesh_arc.specs.declared.arc.ArcDirection.{ArcDirection}
use Rattle.mesh_arc.specs.declared.arc.ArcOptions.{ArcOptions}

-- the options, the directions of the arc that was built last, and how many there is memory for
pub record Building : Type 0 where
  pub options : ArcOptions
  pub directions : List Point
  pub room : ℕ

-- a builder with these options, and this list as its buffer
abbrev pub building_with : ArcOptions → Vec Point Global → Building
building_with options buffer = record { options = options; directions = buffer.items; room = vec_capacity buffer }

-- what stands after an arc was asked for: the options are the same and no memory was given back; the directions are
-- those of the arc, and none after a refusal; there is memory for them, so an arc of no more directions can be asked
-- for again
pub record IsBuilt (unit : ℕ) (old new : Building) (sense : ArcDirection) (from end : Point) {A E : Type 0}
    (answer : Result A E) : Type 0 where
  pub options : new.options ≡ old.options
  pub room : old.room ≤ new.room
  pub directions : OnOk answer (new.directions ≡ arc unit old.options sense from end)
  pub none : OnErr answer (new.directions ≡ [])
  pub fits : length new.directions ≤ new.room
