use Rattle.std.proofs.Common.{◌≡◌, List, sym, ◌∙◌, ap, subst}
use Rattle.std.specs.Prelude.{Vec}
use Rattle.std.specs.declared.alloc.Global.{Global}
use Rattle.mesh_num.specs.Paths.{contours_of, shapes_of}
use Rattle.std.specs.List.{flat_map}
use Rattle.mesh_plane.specs.Plane.{Point, Edge}
use Rattle.mesh_num.specs.Segments.{SignedEdge, edges_of}
use Rattle.mesh_plane.specs.Winding.{IsBalanced, boundary}
use Rattle.mesh_lattice.specs.Clean.{IsProper}
use Rattle.mesh_lattice.specs.FillRules.{filled_by}
use Rattle.mesh_below.specs.Answers.{AreOwnBoundary, IsSettled}
use Rattle.mesh_below.specs.Options.{choices_of}
use Rattle.mesh_lattice.specs.Reach.{ArePointsSafe}
use Rattle.mesh_shapes.specs.Resolution.{Choices}
use Rattle.mesh_below.proofs.AnswerRegions.{regions_of, filled_by_none}
use Rattle.mesh_below.proofs.AnswerPoints.{answer_safe, same_resolution}
use Rattle.mesh_below.proofs.below.Overlay.resolved.Goals as goal

pub resolve-requires-clause-balanced : goal.resolve-requires-clause-balanced
resolve-requires-clause-balanced g c =
    let same : c.deref-2.result.now ≡ edges_of c.args.self.now.segments.items =
    c.deref-2.ensures.value ∙ (c.in_ok-edges.ensures.value ∙ ap (λ (ss : List SignedEdge). edges_of ss) c.deref.ensures.value) in
    subst (λ (es : List Edge). IsBalanced es) (sym same) c.requires.balanced

pub int_shapes-requires : goal.int_shapes-requires
int_shapes-requires g c =
    let same : c.deref-2.result.now ≡ edges_of c.args.self.now.segments.items =
    c.deref-2.ensures.value ∙ (c.in_ok-edges.ensures.value ∙ ap (λ (ss : List SignedEdge). edges_of ss) c.deref.ensures.value) in
    subst (λ (shapes : List (Vec (Vec Point Global) Global)). ArePointsSafe g.I.IntNumber.unit (shapes_of shapes)) (sym c.deref-3.ensures.value)
    (answer_safe g.I.IntNumber.unit c.deref-2.result.now (edges_of c.args.self.now.segments.items) (filled_by c.args.fill) _ (shapes_of c.in_ok-answer.answer.shapes.items) same c.requires.safe c.in_ok-answer.ensures.resolution)

pub returns : goal.returns
returns g c =
    let es = edges_of c.args.self.now.segments.items in
    let fill = filled_by c.args.fill in
    let options = choices_of g.I.WideUInt.WideUnsigned.value c.args.self.now.options in
    let same : c.deref-2.result.now ≡ es =
    c.deref-2.ensures.value ∙ (c.in_ok-edges.ensures.value ∙ ap (λ (ss : List SignedEdge). edges_of ss) c.deref.ensures.value) in
    let proper : IsProper es = subst (λ (es : List Edge). IsProper es) (sym c.deref-2.ensures.value ∙ same) c.in_ok-edges.ensures.proper in
    let choices : Choices = record { least_area = c.choices.result.least_area; all_vertices = c.choices.result.all_vertices; clockwise = c.choices.result.clockwise } in
    let told = c.in_ok-answer.answer.shapes in
    let v = c.in_ok-int_shapes.field-0 in
    let is : shapes_of v.items ≡ shapes_of told.items = c.in_ok-int_shapes.ensures ∙ ap (λ (shapes : List (Vec (Vec Point Global) Global)). shapes_of shapes) c.deref-3.ensures.value in
    let r = same_resolution c.deref-2.result.now es fill choices options (shapes_of told.items) (shapes_of v.items) same c.choices.ensures (sym is) c.in_ok-answer.ensures.resolution in
    record {
      resolution = r;
      regions = regions_of es fill options (shapes_of v.items) proper c.requires.balanced (filled_by_none c.args.fill) r;
      safe = subst (λ (answer : List (List (List Point))). ArePointsSafe g.I.IntNumber.unit answer) (sym is)
          (answer_safe g.I.IntNumber.unit c.deref-2.result.now es fill _ (shapes_of told.items) same c.requires.safe c.in_ok-answer.ensures.resolution);
      is_settled = λ t.
          subst (λ (answer : List (List (List Point))). IsSettled options answer) (sym is)
          (subst (λ (own : Choices). IsSettled own (shapes_of told.items)) c.choices.ensures (c.in_ok-answer.ensures.settled t));
      own_boundary = λ t. subst (λ (answer : List (List (List Point))). AreOwnBoundary (flat_map boundary (contours_of answer))) (sym is) (c.in_ok-answer.ensures.own_boundary t);
    }
