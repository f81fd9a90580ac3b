use Rattle.std.proofs.Common.{◌≡◌, List, sym, ◌∙◌, ap, subst}
use Rattle.std.specs.Prelude.{Vec}
use Rattle.std.specs.declared.alloc.Global.{Global}
use Rattle.mesh_num.specs.Paths.{shapes_of}
use Rattle.mesh_plane.specs.Plane.{Point, Edge}
use Rattle.mesh_num.specs.Segments.{SignedEdge, edges_of}
use Rattle.mesh_plane.specs.Winding.{IsBalanced}
use Rattle.mesh_lattice.specs.Clean.{IsProper}
use Rattle.mesh_lattice.specs.FillRules.{filled_by}
use Rattle.mesh_below.specs.Options.{choices_of}
use Rattle.mesh_lattice.specs.Reach.{ArePointsSafe}
use Rattle.mesh_below.proofs.AnswerRegions.{filled_by_none}
use Rattle.mesh_below.proofs.AnswerPoints.{answer_safe}
use Rattle.mesh_below.proofs.Beyond.{counted_beyond, same_counted}
use Rattle.mesh_below.proofs.below.Overlay.resolved_with_nearness.Goals as goal

pub resolve_with_nearness-requires-clause-balanced : goal.resolve_with_nearness-requires-clause-balanced
resolve_with_nearness-requires-clause-balanced g c =
    let same : c.deref-2.result.now ≡ edges_of c.args.self.now.segments.items =
    c.deref-2.ensures.value ∙ (c.in_ok-edges.ensures.value ∙ ap (λ (ss : List SignedEdge). edges_of ss) c.deref.ensures.value) in
    subst (λ (es : List Edge). IsBalanced es) (sym same) c.requires.balanced

pub int_shapes-requires : goal.int_shapes-requires
int_shapes-requires g c =
    let same : c.deref-2.result.now ≡ edges_of c.args.self.now.segments.items =
    c.deref-2.ensures.value ∙ (c.in_ok-edges.ensures.value ∙ ap (λ (ss : List SignedEdge). edges_of ss) c.deref.ensures.value) in
    subst (λ (shapes : List (Vec (Vec Point Global) Global)). ArePointsSafe g.I.IntNumber.unit (shapes_of shapes)) (sym c.deref-3.ensures.value)
    (answer_safe g.I.IntNumber.unit c.deref-2.result.now (edges_of c.args.self.now.segments.items) (filled_by c.args.fill) _ (shapes_of c.in_ok-answer.answer.shapes.items) same c.requires.safe c.in_ok-answer.ensures.resolution.near.resolution)

pub returns-clause-standing : goal.returns-clause-standing
returns-clause-standing g c =
    let es = edges_of c.args.self.now.segments.items in
    let fill = filled_by c.args.fill in
    let options = choices_of g.I.WideUInt.WideUnsigned.value c.args.self.now.options in
    let k = c.in_ok-answer.answer.nearness in
    let same : c.deref-2.result.now ≡ es =
    c.deref-2.ensures.value ∙ (c.in_ok-edges.ensures.value ∙ ap (λ (ss : List SignedEdge). edges_of ss) c.deref.ensures.value) in
    let proper : IsProper es = subst (λ (es : List Edge). IsProper es) (sym c.deref-2.ensures.value ∙ same) c.in_ok-edges.ensures.proper in
    let told = c.in_ok-answer.answer.shapes in
    let v = c.in_ok-int_shapes.field-0 in
    let is : shapes_of v.items ≡ shapes_of told.items = c.in_ok-int_shapes.ensures ∙ ap (λ (shapes : List (Vec (Vec Point Global) Global)). shapes_of shapes) c.deref-3.ensures.value in
    let old = c.args.count.now in
    let new = c.resolve_with_nearness.new.count in
    let counted = same_counted k c.deref-2.result.now es fill _ options (shapes_of told.items) (shapes_of v.items) old new same c.choices.ensures (sym is) c.in_ok-answer.ensures.resolution in
    counted_beyond k es fill options (shapes_of v.items) old new proper c.requires.balanced (filled_by_none c.args.fill) counted

pub returns-clause-safe : goal.returns-clause-safe
returns-clause-safe g c =
    let es = edges_of c.args.self.now.segments.items in
    let same : c.deref-2.result.now ≡ es =
    c.deref-2.ensures.value ∙ (c.in_ok-edges.ensures.value ∙ ap (λ (ss : List SignedEdge). edges_of ss) c.deref.ensures.value) in
    let told = c.in_ok-answer.answer.shapes in
    let v = c.in_ok-int_shapes.field-0 in
    let is : shapes_of v.items ≡ shapes_of told.items = c.in_ok-int_shapes.ensures ∙ ap (λ (shapes : List (Vec (Vec Point Global) Global)). shapes_of shapes) c.deref-3.ensures.value in
    subst (λ (answer : List (List (List Point))). ArePointsSafe g.I.IntNumber.unit answer) (sym is)
    (answer_safe g.I.IntNumber.unit c.deref-2.result.now es (filled_by c.args.fill) _ (shapes_of told.items) same c.requires.safe c.in_ok-answer.ensures.resolution.near.resolution)
