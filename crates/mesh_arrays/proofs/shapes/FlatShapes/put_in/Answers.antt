-- The shapes fit, or they do not.
use Rattle.std.proofs.Common.{refl, ◌∙◌, ap}
use Rattle.std.proofs.lemmas.Bool.{false≢true}
use Rattle.mesh_arrays.specs.Rooms.{overwritten}
use Rattle.mesh_arrays.specs.Telling.{IsPut}
use Rattle.mesh_arrays.specs.ShapeRooms.{lists_of, shape_lists}
use Rattle.mesh_arrays.proofs.RoomLists.{put_shapes}
use Rattle.mesh_arrays.proofs.shapes.FlatShapes.put_in.Goals as goal

pub returns-then-not-fits : goal.returns-then-not-fits
returns-then-not-fits g c = IsPut.too_small (λ fit. false≢true (c.if-not-fits.ensures.1 fit)) refl

pub returns : goal.returns
returns g c =
    let room = shape_lists c.args.points.now c.args.contour_ends.now c.args.shape_ends.now in
    let put =
    put_shapes (lists_of c.args.self.now) room c.put.new.room c.put-2.new.room c.put-3.new.room
    (c.put.ensures ∙ ap (λ l. overwritten l c.args.points.now) c.deref.ensures.value)
    (c.put-2.ensures ∙ ap (λ l. overwritten l c.args.contour_ends.now) c.deref-2.ensures.value)
    (c.put-3.ensures ∙ ap (λ l. overwritten l c.args.shape_ends.now) c.deref-3.ensures.value) in
    IsPut.whole (c.if-not-fits.ensures.0 refl) put
