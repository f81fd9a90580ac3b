use Rattle.std.proofs.Common.{inl, inr}
use Rattle.mesh_plane.specs.Plane.{Edge}
use Rattle.mesh_store.specs.Cells.{StandsIn}
use Rattle.mesh_split.specs.Growth.{Waits}
use Rattle.mesh_store.proofs.Listing.{stands_listed}
use Rattle.mesh_rounds.specs.Private.Groups.{edges_in, noted_in}
use Rattle.mesh_rounds.proofs.Rounding.{bounded_more, next_clear, next_listed}
use Rattle.mesh_rounds.proofs.rounds.Rounds.close.Goals as goal

pub returns-clause-round : goal.returns-clause-round
returns-clause-round c = λ old given r h p none same g.
    let todo = c.args.self.now.splitter.todo in
    let noted = rw c.deref.ensures.value at c.in_ok-self-2.ensures.noted in
    record {
      pile = p;
      none_lives = none;
      bounded = rw (c.in_ok-add_group.ensures, same) (bounded_more old.groups.items c.args.held.group r.bounded h.bounded);
      listed =
          rw (c.in_ok-add_group.ensures, same)
          (next_listed old.splitter.todo todo old.fresh.items (edges_in c.args.held.group) c.args.born.now c.in_ok-self-2.field-0.items old.groups.items c.args.held.group r.listed h.keeps
          (λ x l w. l) (g c.if-not-keeps_some.false) c.in_ok-self-2.ensures.born);
      clear = next_clear old.splitter.todo todo (noted_in c.args.held.pairs.items) c.args.born.now c.in_ok-self-2.field-0.items h.clear (g c.if-not-keeps_some.false) c.in_ok-self-2.ensures.born noted;
    }

pub returns-then-not-keeps_some-clause-round : goal.returns-then-not-keeps_some-clause-round
returns-then-not-keeps_some-clause-round c = λ old given r h p none same g.
    let todo = c.args.self.now.splitter.todo in
    let stands : (x : Edge) → Waits x todo → StandsIn x c.in_ok-self.field-0.items = λ x w. rw c.in_ok-self.ensures (stands_listed x todo w) in
    record {
      pile = p;
      none_lives = none;
      bounded = rw c.new.ensures.items tt;
      listed = λ x w. inl (stands x w);
      clear = λ x y w v. inr (inl (stands x w));
    }
