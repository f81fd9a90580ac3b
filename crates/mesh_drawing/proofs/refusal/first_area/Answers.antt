-- Each area so far fits, and at the end each area.
use Rattle.std.proofs.Common.{◌≡◌, ℕ, ◌*◌, List, [], sym, ap, ◌∙◌, subst, rules}
use Rattle.std.specs.Prelude.{ℤ}
use Rattle.std.proofs.lemmas.Bool.{false≢true}
use Rattle.std.proofs.lemmas.Int.{to_z-of_z}
use mir.Syntax.{w128}
use mir.Val.{to_z, of_z}
use Rattle.mesh_plane.specs.Bounds.{IsWithin}
use Rattle.mesh_plane.specs.Plane.{Point}
use Rattle.mesh_num.specs.Paths.{paths_of}
use Rattle.mesh_shapes.specs.Contours.{double_area}
use Rattle.mesh_below.proofs.Asking.{all_taken}
use Rattle.mesh_drawing.proofs.Firsts.{first_found, one_more}
use Rattle.mesh_drawing.proofs.PathsServed.{path_count, path_here}
use Rattle.mesh_drawing.proofs.refusal.first_area.Goals as goal

pub loop-index-preserved : goal.loop-index-preserved
loop-index-preserved g c =
    let paths = c.args.paths.now in
    let item = c.index-paths-index.result in
    let unit = g.I.IntNumber.unit in
    let passed : to_z w128 (of_z w128 c.double_area.result) ≡ c.double_area.result = to_z-of_z w128 c.double_area.result (search rules) in
    let same = passed ∙ c.double_area.ensures ∙ ap double_area c.deref.ensures.value in
    let fits = subst (λ (half : ℕ). IsWithin half (to_z w128 (of_z w128 c.double_area.result))) g.met.I.IntNumber.half_law (c.fits_wide.ensures.0 c.if-not-fits_wide.false) in
    one_more (λ (path : List Point). IsWithin (8 * unit * unit) (double_area path)) (paths_of paths) c.loop-index.index [] item.items
    (rw (path_count paths) c.loop-index-test.true) (path_here paths c.loop-index.index item c.loop-index-test.true c.index-paths-index.is) c.loop-index.invariant
    (subst (λ (z : ℤ). IsWithin (8 * unit * unit) z) same fits)

pub returns-then-not-fits_wide : goal.returns-then-not-fits_wide
returns-then-not-fits_wide g c =
    let paths = c.args.paths.now in
    let item = c.index-paths-index.result in
    let unit = g.I.IntNumber.unit in
    let passed : to_z w128 (of_z w128 c.double_area.result) ≡ c.double_area.result = to_z-of_z w128 c.double_area.result (search rules) in
    let same = passed ∙ c.double_area.ensures ∙ ap double_area c.deref.ensures.value in
    first_found (λ (path : List Point). IsWithin (8 * unit * unit) (double_area path)) (paths_of paths) c.loop-index.index [] item.items
    (rw (path_count paths) c.loop-index-test.true) (path_here paths c.loop-index.index item c.loop-index-test.true c.index-paths-index.is) c.loop-index.invariant
    (λ fit. false≢true (c.if-not-fits_wide.ensures.1
    (subst (λ (half : ℕ). IsWithin half (to_z w128 (of_z w128 c.double_area.result))) (sym g.met.I.IntNumber.half_law) (subst (λ (z : ℤ). IsWithin (8 * unit * unit) z) (sym same) fit))))

pub returns : goal.returns
returns g c =
    all_taken (λ (path : List Point). IsWithin (8 * g.I.IntNumber.unit * g.I.IntNumber.unit) (double_area path)) (paths_of c.args.paths.now) c.loop-index.index
    (rw (path_count c.args.paths.now) c.loop-index-test.false) c.loop-index.invariant
