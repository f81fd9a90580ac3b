use Rattle.std.proofs.Common.{List, refl, sym, subst, ◌∙◌, ap}
use Rattle.std.specs.Prelude.{Vec}
use Rattle.std.specs.List.{flat_map}
use Rattle.std.specs.declared.alloc.Global.{Global}
use Rattle.mesh_num.specs.Paths.{contours_of, shapes_of}
use Rattle.mesh_plane.specs.Plane.{Point}
use Rattle.mesh_plane.specs.Winding.{boundary}
use Rattle.mesh_lattice.specs.FillRules.{filled}
use Rattle.mesh_lattice.specs.Reach.{ArePointsSafe}
use Rattle.mesh_lattice.specs.declared.fill.FillRule.TheVariants.{Positive}
use Rattle.mesh_shapes.specs.Resolution.{Choices}
use Rattle.mesh_shapes.specs.Vectors.{contour_edges}
use Rattle.mesh_below.specs.Answers.{AreOwnBoundary}
use Rattle.mesh_below.specs.Options.{choices_of}
use Rattle.mesh_below.proofs.AnswerPoints.{answer_safe, answer_edges_safe, same_resolution}
use Rattle.mesh_below.proofs.AnswerRegions.{regions_of}
use Rattle.mesh_below.proofs.below.arranged.Goals as goal

pub arranged_contours-requires-clause-own_boundary : goal.arranged_contours-requires-clause-own_boundary
arranged_contours-requires-clause-own_boundary g c =
    let same = c.in_ok-contours.ensures.edges ∙ ap (λ (ss : List (Vec (Vec Point Global) Global)). flat_map boundary (contours_of (shapes_of ss))) c.deref.ensures.value in
    subst AreOwnBoundary (sym same) c.requires.own_boundary

pub int_shapes-requires : goal.int_shapes-requires
int_shapes-requires g c =
    let same = c.in_ok-contours.ensures.edges ∙ ap (λ (ss : List (Vec (Vec Point Global) Global)). flat_map boundary (contours_of (shapes_of ss))) c.deref.ensures.value in
    subst (λ (shapes : List (Vec (Vec Point Global) Global)). ArePointsSafe g.I.IntNumber.unit (shapes_of shapes)) (sym c.deref-2.ensures.value)
    (answer_safe g.I.IntNumber.unit (contour_edges c.in_ok-contours.contours.items) (flat_map boundary (contours_of (shapes_of c.args.shapes.now.items))) (filled Positive) _ (shapes_of c.in_ok-answer.answer.items) same
    (answer_edges_safe g.I.IntNumber.unit (shapes_of c.args.shapes.now.items) c.requires.safe) c.in_ok-answer.ensures)

pub returns-clause-resolution : goal.returns-clause-resolution
returns-clause-resolution g c =
    let same = c.in_ok-contours.ensures.edges ∙ ap (λ (ss : List (Vec (Vec Point Global) Global)). flat_map boundary (contours_of (shapes_of ss))) c.deref.ensures.value in
    let choices : Choices = record { least_area = c.choices_for.result.least_area; all_vertices = c.choices_for.result.all_vertices; clockwise = c.choices_for.result.clockwise } in
    let is = c.in_ok-int_shapes.ensures ∙ ap (λ (shapes : List (Vec (Vec Point Global) Global)). shapes_of shapes) c.deref-2.ensures.value in
    same_resolution (contour_edges c.in_ok-contours.contours.items) (flat_map boundary (contours_of (shapes_of c.args.shapes.now.items))) (filled Positive) choices
    (choices_of g.I.WideUInt.WideUnsigned.value c.args.options) (shapes_of c.in_ok-answer.answer.items) (shapes_of c.in_ok-int_shapes.field-0.items) same c.choices_for.ensures (sym is) c.in_ok-answer.ensures

pub returns-clause-safe : goal.returns-clause-safe
returns-clause-safe g c =
    let same = c.in_ok-contours.ensures.edges ∙ ap (λ (ss : List (Vec (Vec Point Global) Global)). flat_map boundary (contours_of (shapes_of ss))) c.deref.ensures.value in
    let is = c.in_ok-int_shapes.ensures ∙ ap (λ (shapes : List (Vec (Vec Point Global) Global)). shapes_of shapes) c.deref-2.ensures.value in
    subst (λ (answer : List (List (List Point))). ArePointsSafe g.I.IntNumber.unit answer) (sym is)
    (answer_safe g.I.IntNumber.unit (contour_edges c.in_ok-contours.contours.items) (flat_map boundary (contours_of (shapes_of c.args.shapes.now.items))) (filled Positive) _ (shapes_of c.in_ok-answer.answer.items) same
    (answer_edges_safe g.I.IntNumber.unit (shapes_of c.args.shapes.now.items) c.requires.safe) c.in_ok-answer.ensures)

pub returns-clause-regions : goal.returns-clause-regions
returns-clause-regions g c =
    let own = c.requires.own_boundary in
    regions_of _ (filled Positive) _ _ own.split.proper own.split.balanced refl (returns-clause-resolution g c)
