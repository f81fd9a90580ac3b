-- A butt cap leaves the limit as it is, another is drawn.
use Rattle.std.proofs.Common.{◌≡◌, ◌∙◌, true, false, sym, subst}
use Rattle.std.specs.Prelude.{ℤ, pos, ◌≤ℤ◌, IfOk}
use Rattle.std.proofs.lemmas.Int.{to_z-of_z}
use Rattle.std.proofs.lemmas.Result.{IfOk-weaker}
use mir.Syntax.{w128}
use Rattle.mesh_num.specs.Segments.{proper_edges}
use Rattle.mesh_stroke.specs.Kinds.{kind_of}
use Rattle.mesh_stroke.specs.Strokes.{cap_at}
use Rattle.mesh_inner.specs.Private.Ends.{is_butt}
use Rattle.mesh_inner.specs.Private.Walks.{IsLimit}
use Rattle.mesh_inner.specs.Room.{FansHaveRoom}
use Rattle.mesh_inner.proofs.Ends.{butt_limit, drawn_limit}
use Rattle.mesh_inner.proofs.end.with_end.Goals as goal

pub returns-then-is_butt : goal.returns-then-is_butt
returns-then-is_butt g c =
    let butt : is_butt (kind_of c.args.kind.now) ≡ true = sym c.is_butt.ensures ∙ c.if-is_butt.true in
    rw (to_z-of_z w128 c.args.limit c.ranges.limit)
    (butt_limit g.I.IntNumber.unit (g.I.IntNumber.value c.args.radius) (kind_of c.args.kind.now) c.args.edge c.args.limit butt)

pub returns : goal.returns
returns g c =
    let unit = g.I.IntNumber.unit in
    let radius = g.I.IntNumber.value c.args.radius in
    let kind = kind_of c.args.kind.now in
    let drawn : is_butt (kind_of c.args.kind.now) ≡ false = sym c.is_butt.ensures ∙ c.if-is_butt.false in
    IfOk-weaker c.with_cap.result _ _ (λ least h. drawn_limit unit radius kind c.args.edge c.args.limit least drawn h)
    (subst (λ (z : ℤ). IfOk c.with_cap.result (λ least. IsLimit least (λ t. (pos t ≤ℤ z)
    × FansHaveRoom t c.args.edge.1 (proper_edges (cap_at g.I.IntNumber.unit (g.I.IntNumber.value c.args.radius) (kind_of c.args.kind.now) c.args.edge)))))
    (to_z-of_z w128 c.args.limit c.ranges.limit) c.with_cap.ensures)
