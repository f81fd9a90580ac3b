use Rattle.std.proofs.Common.{inl, inr}
use Rattle.mesh_plane.specs.Plane.{Edge}
use Rattle.mesh_store.specs.Cells.{StandsIn}
use Rattle.mesh_split.specs.Growth.{Waits}
use Rattle.mesh_store.proofs.Listing.{stands_listed}
use Rattle.mesh_rounds.proofs.rounds.Rounds.new.Goals as goal

pub returns : goal.returns
returns c =
    let todo = c.forget_order.new.self in
    let stands : (x : Edge) → Waits x todo → StandsIn x c.in_ok-fresh.fresh.items = λ x w. rw c.in_ok-fresh.ensures (stands_listed x todo w) in
    record {
      pile = rw c.forget_order.ensures c.in_ok-splitter.ensures.pile;
      none_lives = c.in_ok-splitter.ensures.none_lives;
      bounded = rw c.new.ensures.items tt;
      listed = λ x w. inl (stands x w);
      clear = λ x y w v. inr (inl (stands x w));
    }
