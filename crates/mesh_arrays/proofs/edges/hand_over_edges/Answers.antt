-- The edges fit, or they do not, or there are none.
use Rattle.std.proofs.Common.{refl, ◌∙◌, ap}
use Rattle.std.proofs.lemmas.Bool.{false≢true}
use Rattle.mesh_arrays.specs.EdgeRooms.{edge_lists, lists_of}
use Rattle.mesh_arrays.specs.Rooms.{overwritten}
use Rattle.mesh_arrays.specs.Telling.{IsPut, IsTold}
use Rattle.mesh_arrays.proofs.RoomLists.{put_edges}
use Rattle.mesh_arrays.proofs.edges.hand_over_edges.Goals as goal

pub returns-in-Err : goal.returns-in-Err
returns-in-Err g c = rw c.of.ensures (IsTold.refused c.in-Err.is refl)

pub returns-then-not-fits : goal.returns-then-not-fits
returns-then-not-fits g c =
    IsTold.told c.in-Ok.is (record { put = IsPut.too_small (λ fit. false≢true (c.if-not-fits.ensures.1 fit)) refl; told = c.counts_of.ensures })

pub returns : goal.returns
returns g c =
    let put =
    put_edges (lists_of c.in-Ok.flat) (edge_lists c.args.edges.now c.args.path_ends.now) c.put.new.room c.put-2.new.room
    (c.put.ensures ∙ ap (λ l. overwritten l c.args.edges.now) c.deref.ensures.value)
    (c.put-2.ensures ∙ ap (λ l. overwritten l c.args.path_ends.now) c.deref-2.ensures.value) in
    IsTold.told c.in-Ok.is (record { put = IsPut.whole (c.if-not-fits.ensures.0 refl) put; told = c.counts_of.ensures })
