-- What holds of the edges that the walk added.
use Rattle.std.proofs.Common.{◌+◌, ◌≤◌, ◌∙◌, List, length, sym, subst}
use Rattle.std.specs.Prelude.{vec_capacity}
use Rattle.std.specs.List.{All}
use Rattle.mesh_num.specs.Segments.{SignedEdge, IsSubject}
use Rattle.mesh_offset.proofs.Adding.{added_is, adds_edges}
use Rattle.mesh_outline.proofs.BuilderRoom.{room_of_four}
use Rattle.mesh_join.specs.Joins.{HasFew}
use Rattle.mesh_join.specs.Styles.{OffsetJoin}
use Rattle.mesh_offset.specs.Built.{Adds}
use Rattle.mesh_outline.specs.Building.{IsMovable}
use Rattle.mesh_outline.specs.Outline.{outline_edges}
use Rattle.mesh_outline.proofs.BuilderTheorems.{adds_few, adds_promised, adds_safe, adds_winding}
use Rattle.mesh_outline.proofs.Promised.{has_promised_edges}
use Rattle.mesh_outline.proofs.ReachOfPieces.{pieces_differ_within}
use Rattle.mesh_outline.proofs.builder.OutlineBuilder.build.Given as given
use Rattle.mesh_outline.proofs.builder.OutlineBuilder.build.Goals as goal

-- the walk adds the outline of the builder's style
abbrev adds : (g : given.Over) (c : goal.In_default g) → Adds c.args.segments.now.items c.draw.new.segments.items (outline_edges g.I.IntNumber.unit c.args.self.now c.args.path.now)
adds g c =
    subst (λ (style : OffsetJoin). Adds c.args.segments.now.items c.draw.new.segments.items (outline_edges g.I.IntNumber.unit style c.args.path.now)) c.self.view_is c.in_default.ensures.ok

pub draw-requires : goal.draw-requires
draw-requires g c = subst (λ (style : OffsetJoin). All (IsMovable g.I.IntNumber.unit style) c.args.path.now) (sym c.self.view_is) c.requires

pub returns-in-Err-clause-refused : goal.returns-in-Err-clause-refused
returns-in-Err-clause-refused g c = c.truncate.ensures.items ∙ (rw (c.len-length.ensures ∙ c.args.segments.now.ok.0) c.draw.ensures.kept)

pub returns-in-Err-clause-nothing : goal.returns-in-Err-clause-nothing
returns-in-Err-clause-nothing g c equal = rw c.in-Err.is at (c.draw.ensures.nothing equal)

pub returns-in-Err-clause-room : goal.returns-in-Err-clause-room
returns-in-Err-clause-room g c few room =
    let n = length c.args.segments.now.items in
    let cap = vec_capacity c.args.segments.now in
    rw c.in-Err.is at
    (c.draw.ensures.room (subst (λ (style : OffsetJoin). HasFew style.join) (sym c.self.view_is) few) (subst (λ (style : OffsetJoin). n + length (outline_edges g.I.IntNumber.unit style c.args.path.now) ≤ cap) (sym c.self.view_is) room))

pub returns-in-Err-clause-capacity : goal.returns-in-Err-clause-capacity
returns-in-Err-clause-capacity g c = rw c.truncate.ensures.capacity c.draw.ensures.capacity

pub returns-clause-kept : goal.returns-clause-kept
returns-clause-kept g c = c.draw.ensures.kept

pub returns-clause-edges : goal.returns-clause-edges
returns-clause-edges g c = adds_edges c.args.segments.now.items c.draw.new.segments.items _ (adds g c)

pub returns-clause-capacity : goal.returns-clause-capacity
returns-clause-capacity g c = c.draw.ensures.capacity

pub returns-in-Err-clause-no_memory : goal.returns-in-Err-clause-no_memory
returns-in-Err-clause-no_memory g c equal = c.truncate.ensures.capacity ∙ c.draw.ensures.no_memory equal

pub returns-clause-no_memory : goal.returns-clause-no_memory
returns-clause-no_memory g c equal = c.draw.ensures.no_memory equal

pub returns-clause-form : goal.returns-clause-form
returns-clause-form g c =
    let h = adds g c in
    subst (λ (l : List SignedEdge). All IsSubject l) (sym (added_is c.args.segments.now.items c.draw.new.segments.items h.0 h.1)) h.3

pub returns-in-Err-clause-room_for_four : goal.returns-in-Err-clause-room_for_four
returns-in-Err-clause-room_for_four g c few room =
    let n = length c.args.segments.now.items in
    let cap = vec_capacity c.args.segments.now in
    let fits = room_of_four g.I.IntNumber.unit c.args.self.now c.args.path.now n cap g.met.I.IntNumber.least_law few room in
    rw c.in-Err.is at
    (c.draw.ensures.room (subst (λ (style : OffsetJoin). HasFew style.join) (sym c.self.view_is) few) (subst (λ (style : OffsetJoin). n + length (outline_edges g.I.IntNumber.unit style c.args.path.now) ≤ cap) (sym c.self.view_is) fits))

pub returns-clause-few : goal.returns-clause-few
returns-clause-few g c few = adds_few g.I.IntNumber.unit c.args.self.now c.args.path.now g.met.I.IntNumber.least_law few _ _ (adds g c)

pub returns-clause-balanced : goal.returns-clause-balanced
returns-clause-balanced g c = (adds_promised g.I.IntNumber.unit c.args.self.now c.args.path.now g.met.I.IntNumber.least_law _ _ (adds g c)).balanced

pub returns-clause-near : goal.returns-clause-near
returns-clause-near g c = (adds_promised g.I.IntNumber.unit c.args.self.now c.args.path.now g.met.I.IntNumber.least_law _ _ (adds g c)).near

pub returns-clause-safe : goal.returns-clause-safe
returns-clause-safe g c = adds_safe g.I.IntNumber.unit c.args.self.now c.args.path.now g.met.I.IntNumber.least_law _ _ c.requires (adds g c)

pub returns-clause-reach : goal.returns-clause-reach
returns-clause-reach g c =
    pieces_differ_within g.I.IntNumber.unit g.met.I.IntNumber.least_law c.args.self.now c.args.path.now _
    (adds_promised g.I.IntNumber.unit c.args.self.now c.args.path.now g.met.I.IntNumber.least_law _ _ (adds g c)).sum

pub returns-clause-sum : goal.returns-clause-sum
returns-clause-sum g c = (adds_promised g.I.IntNumber.unit c.args.self.now c.args.path.now g.met.I.IntNumber.least_law _ _ (adds g c)).sum

pub returns-clause-pieces : goal.returns-clause-pieces
returns-clause-pieces g c = (has_promised_edges g.I.IntNumber.unit c.args.self.now c.args.path.now g.met.I.IntNumber.least_law).pieces

pub returns-clause-count : goal.returns-clause-count
returns-clause-count g c = (adds_promised g.I.IntNumber.unit c.args.self.now c.args.path.now g.met.I.IntNumber.least_law _ _ (adds g c)).count

pub returns-clause-zero : goal.returns-clause-zero
returns-clause-zero g c none = adds_winding g.I.IntNumber.unit c.args.self.now c.args.path.now g.met.I.IntNumber.least_law none _ _ (adds g c)
