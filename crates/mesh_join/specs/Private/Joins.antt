-- What a join knows of the vector that its edges are added to: only private contracts read this.
use Rattle.std.specs.Prelude.{ℕ}
use Rattle.std.specs.declared.alloc.Global.{Global}
use Rattle.std.specs.declared.vec.Vec.{Vec}
use Rattle.mesh_join.specs.Appending.{HasRoomForEdges}
use Rattle.mesh_join.specs.Joins.{join_edges}
use Rattle.mesh_join.specs.Joints.{Joint}
use Rattle.mesh_join.specs.Styles.{JoinStyle}

-- the vector has room for the edges of a join
abbrev pub HasRoomForJoin : {X : Type 0} → Vec X Global → ℕ → JoinStyle → Joint → Type 0
HasRoomForJoin v unit style j = HasRoomForEdges v (join_edges unit style j)
