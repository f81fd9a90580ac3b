use Rattle.std.proofs.Common.{rules, ◌≡◌, ℕ, false, length, ap, subst, arith, get_or}
use Rattle.std.specs.Prelude.{pos, int_lt}
use Rattle.std.proofs.lemmas.List.{length-map}
use Rattle.mesh_shapes.specs.Contours.{double_area}
use Rattle.mesh_shapes.specs.Private.Holders.{Rise, placed_edges}
use Rattle.mesh_shapes.specs.Resolution.{Ring}
use Rattle.mesh_shapes.specs.Vectors.{ring_of_vec, rings_of_vecs}
use Rattle.mesh_shapes.proofs.HolderRows.{row_rises, row_tells}
use Rattle.mesh_lattice.proofs.RowLists.{row_is}
use Rattle.mesh_shapes.proofs.Shapes.{home_none, home_some}
use Rattle.mesh_shapes.proofs.arrange.home.Goals as goal

pub row-requires : goal.row-requires
row-requires c =
    let flat : int_lt (pos 0) (get_or c.args.areas.now c.args.i (pos 0)) ≡ false = search rules in
    let rows = c.requires.rows_known flat in
    record { rising = rows.rising; len = rows.len }

pub holder-requires : goal.holder-requires
holder-requires c =
    let flat : int_lt (pos 0) (get_or c.args.areas.now c.args.i (pos 0)) ≡ false = search rules in
    let rs = rings_of_vecs c.args.rings.now in
    let same = ap length c.requires.areas_known in
    let len : length rs ≡ length c.args.areas.now = omega (arith, same, length-map rs (λ (r : Ring). double_area r.0)) in
    let q = (get_or c.args.rings.now c.args.i c.index-rings-i.result).1 in
    subst (λ (n : ℕ). Rise 0 n c.row.result.now) len
    (row_rises rs c.args.rows.now.marks.items c.row.result.now q
    (row_is c.args.rows.now.marks.items c.args.rows.now.lists.items (placed_edges rs) c.row.result.now q (c.requires.rows_known flat) c.row.ensures))

pub returns-in_default-clause-home : goal.returns-in_default-clause-home
returns-in_default-clause-home c =
    let flat : int_lt (pos 0) (get_or c.args.areas.now c.args.i (pos 0)) ≡ false = search rules in
    let rs = rings_of_vecs c.args.rings.now in
    let q = (get_or c.args.rings.now c.args.i c.index-rings-i.result).1 in
    let row = row_is c.args.rows.now.marks.items c.args.rows.now.lists.items (placed_edges rs) c.row.result.now q (c.requires.rows_known flat) c.row.ensures in
    home_none c.args.rings.now c.args.i c.index-rings-i.result c.requires.in_range
    (c.in_default.ensures rs c.requires.areas_known (row_tells rs c.args.rows.now.marks.items c.row.result.now q row))

pub returns-clause-home : goal.returns-clause-home
returns-clause-home c =
    let flat : int_lt (pos 0) (get_or c.args.areas.now c.args.i (pos 0)) ≡ false = search rules in
    let rs = rings_of_vecs c.args.rings.now in
    let q = (get_or c.args.rings.now c.args.i c.index-rings-i.result).1 in
    let row = row_is c.args.rows.now.marks.items c.args.rows.now.lists.items (placed_edges rs) c.row.result.now q (c.requires.rows_known flat) c.row.ensures in
    home_some c.args.rings.now c.args.areas.now c.args.i c.in-Some.h c.index-rings-i.result c.requires.areas_known c.requires.in_range flat
    (c.in-Some.ensures rs c.requires.areas_known (row_tells rs c.args.rows.now.marks.items c.row.result.now q row))

pub returns-clause-within : goal.returns-clause-within
returns-clause-within c =
    let flat : int_lt (pos 0) (get_or c.args.areas.now c.args.i (pos 0)) ≡ false = search rules in
    let rs = rings_of_vecs c.args.rings.now in
    let q = (get_or c.args.rings.now c.args.i c.index-rings-i.result).1 in
    let row = row_is c.args.rows.now.marks.items c.args.rows.now.lists.items (placed_edges rs) c.row.result.now q (c.requires.rows_known flat) c.row.ensures in
    let found = c.in-Some.ensures rs c.requires.areas_known (row_tells rs c.args.rows.now.marks.items c.row.result.now q row) in
    omega (arith, found.within, length-map c.args.rings.now ring_of_vec)
