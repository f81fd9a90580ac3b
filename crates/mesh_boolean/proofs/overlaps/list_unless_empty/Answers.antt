-- The answer is nothing, or it is listed.
use Rattle.std.proofs.Common.{◌≡◌, ◌==◌, true, false, length, inl, inr, refl, sym, ◌∙◌}
use Rattle.mesh_boolean.proofs.Overlapping.{no_shape, record_more, some_shape}
use Rattle.mesh_boolean.proofs.overlaps.list_unless_empty.Goals as goal

pub returns-then-is_empty : goal.returns-then-is_empty
returns-then-is_empty g c =
    let empty : (length c.args.shapes.items == 0) ≡ true = rw (← c.args.shapes.ok.0) (sym c.is_empty.ensures ∙ c.if-is_empty.true) in
    inl (no_shape c.args.shapes.items empty, refl)

pub returns : goal.returns
returns g c =
    let some : (length c.args.shapes.items == 0) ≡ false = rw (← c.args.shapes.ok.0) (sym c.is_empty.ensures ∙ c.if-is_empty.false) in
    inr (some_shape c.args.shapes.items some, record_more c.args.found.now.items c.push.new.self.items _ c.in_ok-push.ensures.items)
