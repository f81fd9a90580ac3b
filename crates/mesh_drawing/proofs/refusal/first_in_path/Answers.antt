-- Each point so far is safe, and at the end each point.
use Rattle.std.proofs.Common.{◌≡◌, sym, subst, rules, w64}
use Rattle.std.specs.List.{All}
use Rattle.std.specs.Prelude.{ℤ}
use Rattle.std.proofs.lemmas.Bool.{false≢true}
use Rattle.std.proofs.lemmas.Int.{to_z-of_z}
use mir.Val.{to_z, of_z}
use Rattle.mesh_plane.specs.Plane.{Point}
use Rattle.mesh_num.specs.Rectangle.{IsSafeWidened}
use Rattle.mesh_below.proofs.Asking.{all_taken}
use Rattle.mesh_drawing.specs.Refusals.{IsFirstNot}
use Rattle.mesh_drawing.proofs.Firsts.{first_found, one_more}
use Rattle.mesh_drawing.proofs.refusal.first_in_path.Goals as goal

pub loop-index-preserved : goal.loop-index-preserved
loop-index-preserved g c =
    let padding = to_z w64 (of_z w64 c.args.padding) in
    one_more (λ (item : g.row.P.Denot). IsSafeWidened g.I.IntNumber.unit padding (g.P.Placed.at item)) c.args.path.now c.loop-index.index _ _ c.loop-index-test.true
    (sym c.index-path-index.is) c.loop-index.invariant
    (subst (λ (p : Point). IsSafeWidened g.I.IntNumber.unit padding p) c.place.ensures (c.stays_safe.ensures.0 c.if-not-stays_safe.false))

pub returns-then-not-stays_safe : goal.returns-then-not-stays_safe
returns-then-not-stays_safe g c =
    let padding = to_z w64 (of_z w64 c.args.padding) in
    let passed : padding ≡ c.args.padding = to_z-of_z w64 c.args.padding (search rules) in
    subst (λ (z : ℤ). IsFirstNot (λ (item : g.row.P.Denot). IsSafeWidened g.I.IntNumber.unit z (g.P.Placed.at item)) c.args.path.now c.loop-index.index) passed
    (first_found (λ (item : g.row.P.Denot). IsSafeWidened g.I.IntNumber.unit padding (g.P.Placed.at item)) c.args.path.now c.loop-index.index _ _ c.loop-index-test.true
    (sym c.index-path-index.is) c.loop-index.invariant
    (λ safe. false≢true (c.if-not-stays_safe.ensures.1 (subst (λ (p : Point). IsSafeWidened g.I.IntNumber.unit padding p) (sym c.place.ensures) safe))))

pub returns : goal.returns
returns g c =
    let padding = to_z w64 (of_z w64 c.args.padding) in
    let passed : padding ≡ c.args.padding = to_z-of_z w64 c.args.padding (search rules) in
    subst (λ (z : ℤ). All (λ (item : g.row.P.Denot). IsSafeWidened g.I.IntNumber.unit z (g.P.Placed.at item)) c.args.path.now) passed
    (all_taken (λ (item : g.row.P.Denot). IsSafeWidened g.I.IntNumber.unit padding (g.P.Placed.at item)) c.args.path.now c.loop-index.index c.loop-index-test.false c.loop-index.invariant)
