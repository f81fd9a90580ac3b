use Rattle.std.proofs.Common.{◌∙◌}
use Rattle.std.specs.Int.{int_min, int_max}
use Rattle.std.proofs.Common.{rules}
use Rattle.std.proofs.lemmas.Int.{to_z-of_z}
use mir.Syntax.{w32}
use mir.Val.{SFits}
use Rattle.mesh_pairs.proofs.Rectangles.{box_of}
use Rattle.mesh_pairs.proofs.boxes.Bounds.of.Goals as goal

pub returns : goal.returns
returns c =
    let a = c.args.a in
    let b = c.args.b in
    let f0 : SFits w32 a.0 = search rules in
    let f1 : SFits w32 a.1 = search rules in
    let g0 : SFits w32 b.0 = search rules in
    let g1 : SFits w32 b.1 = search rules in
    let x = to_z-of_z w32 a.0 f0 in
    let y = to_z-of_z w32 a.1 f1 in
    let u = to_z-of_z w32 b.0 g0 in
    let v = to_z-of_z w32 b.1 g1 in
    box_of a b _
    (record {
      low_is = to_z-of_z w32 c.min.result (record { sfits = c.min.type_inv }) ∙ c.min.ensures.value ∙ (λ i. int_min (x i) (u i));
      high_is = to_z-of_z w32 c.max.result (record { sfits = c.max.type_inv }) ∙ c.max.ensures.value ∙ (λ i. int_max (x i) (u i));
    })
    (record {
      low_is = to_z-of_z w32 c.min-2.result (record { sfits = c.min-2.type_inv }) ∙ c.min-2.ensures.value ∙ (λ i. int_min (y i) (v i));
      high_is = to_z-of_z w32 c.max-2.result (record { sfits = c.max-2.type_inv }) ∙ c.max-2.ensures.value ∙ (λ i. int_max (y i) (v i));
    })
