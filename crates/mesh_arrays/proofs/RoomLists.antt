-- Lemmas over lists: what a room for shapes or edges holds.
use Rattle.std.proofs.Common.{◌≡◌, ◌∙◌, ℕ, List, ap}
use Rattle.mesh_arrays.specs.EdgeRooms.{EdgeLists, edge_lists, with_edges}
use Rattle.mesh_arrays.specs.Rooms.{overwritten}
use Rattle.mesh_arrays.specs.ShapeRooms.{ShapeLists, shape_lists, with_shapes}

pub put_shapes : {F : Type 0} (lists room : ShapeLists F) (points : List F) (contours shapes : List ℕ) → points ≡ overwritten lists.points room.points →
    contours ≡ overwritten lists.contour_ends room.contour_ends → shapes ≡ overwritten lists.shape_ends room.shape_ends → shape_lists points contours shapes ≡ with_shapes lists room
put_shapes lists room points contours shapes e f h =
    ap (λ p. shape_lists p contours shapes) e
    ∙ ap (λ c. shape_lists (overwritten lists.points room.points) c shapes) f
    ∙ ap (λ s. shape_lists (overwritten lists.points room.points) (overwritten lists.contour_ends room.contour_ends) s) h

pub put_edges : {F : Type 0} (lists room : EdgeLists F) (edges : List F) (paths : List ℕ) → edges ≡ overwritten lists.edges room.edges →
    paths ≡ overwritten lists.path_ends room.path_ends → edge_lists edges paths ≡ with_edges lists room
put_edges lists room edges paths e f = ap (λ a. edge_lists a paths) e ∙ ap (λ b. edge_lists (overwritten lists.edges room.edges) b) f
