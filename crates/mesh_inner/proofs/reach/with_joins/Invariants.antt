-- The joins so far, and where the walk stands.
use Rattle.std.proofs.Common.{◌≡◌, take}
use Rattle.std.specs.Prelude.{pos, ◌≤ℤ◌}
use Rattle.std.specs.List.{All}
use Rattle.mesh_plane.specs.Turning.{last_of}
use Rattle.mesh_plane.specs.Winding.{pairs_from}
use Rattle.mesh_stroke.specs.Styles.{stroke_style_of}
use Rattle.mesh_inner.specs.Inner.{HasJoinRoom}
use Rattle.mesh_inner.specs.Private.Walks.{IsLimit}
use Rattle.mesh_inner.proofs.reach.with_joins.Given as goal

abbrev pub invariant-loop-after : goal.invariant-loop-after
invariant-loop-after g l = record {
  limit : IsLimit l.least (λ t. (pos t ≤ℤ l.fn.limit)
      × All (HasJoinRoom g.I.IntNumber.unit (stroke_style_of g.I.IntNumber.value l.style) t) (pairs_from l.first (take l.after-index l.others)));
  before : l.before ≡ last_of l.first (take l.after-index l.others);
  same : l.join ≡ (stroke_style_of g.I.IntNumber.value l.style).join;
}
