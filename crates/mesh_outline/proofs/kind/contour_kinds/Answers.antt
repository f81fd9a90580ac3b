-- The area of each path so far fits, and at the end that of each path.
use Rattle.std.proofs.Common.{[], ◌∷◌, ◌++◌, ◌∙◌, ap, not, sym, arith, rules, refl}
use Rattle.std.proofs.lemmas.Bool.{false≢true}
use Rattle.std.proofs.lemmas.Int.{to_z-of_z}
use Rattle.std.proofs.lemmas.List.{map_more}
use mir.Syntax.{w128}
use Rattle.mesh_outline.specs.Kinds.{kind_for}
use Rattle.mesh_outline.proofs.Areas.{areas_fit_more, all_areas_fit}
use Rattle.mesh_outline.specs.Kinds.{contour_kind}
use Rattle.mesh_outline.proofs.kind.contour_kinds.Goals as goal
use Rattle.mesh_outline.proofs.kind.contour_kinds.Goals.{then-refused, else-refused}

pub loop-index-preserved : goal.loop-index-preserved
loop-index-preserved g c =
    let paths = g.S.IntShapeResource.paths c.args.source.now in
    let area = to_z-of_z w128 c.double_area-area.result (search rules) ∙ (rw c.path_at.ensures at c.double_area-area.ensures) in
    record {
      fit = areas_fit_more g.I.Wide.WideNumber.half paths c.loop-index.index (omega arith) c.loop-index.invariant.fit (rw area at (c.fits_wide.ensures.0 c.if-not-fits_wide.false));
      kinds = λ some. elim c.if-refused.branch [
        | then-refused w ↦ absurd (false≢true (sym some ∙ w.refused-is ∙ w.if-refused.true))
        | else-refused w ↦
            let ok = w.is_err-refused-else-refused.ensures.negation ∙ ap not (sym w.refused-is ∙ some) in
            let items = rw ok at w.push.ensures.items in
            rw w.kinds-is (items ∙ (λ j. c.loop-index.invariant.kinds w.if-refused.false j ++ (w.of_area.ensures ∙ ap kind_for area) j ∷ [])
            ∙ sym (map_more contour_kind paths c.loop-index.index [] (omega arith)))
      ];
    }

pub returns-then-not-fits_wide-clause-refused : goal.returns-then-not-fits_wide-clause-refused
returns-then-not-fits_wide-clause-refused g c =
    let area = to_z-of_z w128 c.double_area-area.result (search rules) ∙ (rw c.path_at.ensures at c.double_area-area.ensures) in (
      λ _ fit.
          let told = c.fits_wide.ensures.1 (rw area (fit c.loop-index.index [] (omega arith))) in
          false≢true (sym c.if-not-fits_wide.true ∙ told),
      λ _. refl,
    )

pub returns-then-refused-2-clause-refused : goal.returns-then-refused-2-clause-refused
returns-then-refused-2-clause-refused g c = (
  λ e _. cc,
  λ no. absurd (no (all_areas_fit g.I.Wide.WideNumber.half (g.S.IntShapeResource.paths c.args.source.now) c.loop-index.index (omega arith) c.loop-index.invariant.fit)),
)
