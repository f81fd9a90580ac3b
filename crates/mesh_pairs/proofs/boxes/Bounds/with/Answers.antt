use Rattle.std.proofs.Common.{◌∙◌}
use Rattle.std.specs.Int.{int_min, int_max}
use Rattle.std.proofs.Common.{rules}
use Rattle.std.proofs.lemmas.Int.{to_z-of_z}
use mir.Syntax.{w32}
use mir.Val.{SFits, to_z, of_z}
use Rattle.mesh_pairs.proofs.Rectangles.{union_first, union_least, union_second, IsUnion}
use Rattle.mesh_pairs.proofs.boxes.Bounds.with.Goals as goal
use Rattle.mesh_pairs.proofs.boxes.Bounds.with.Goals.{After-max-2}

union : (c : After-max-2) → IsUnion (record { west = to_z w32 (of_z w32 c.min.result); east = to_z w32 (of_z w32 c.max.result); south = to_z w32 (of_z w32 c.min-2.result); north = to_z w32 (of_z w32 c.max-2.result) }) c.args.self c.args.other
union c =
    let s = c.args.self in
    let o = c.args.other in
    let a : SFits w32 s.west = search rules in
    let b : SFits w32 s.east = search rules in
    let d : SFits w32 s.south = search rules in
    let e : SFits w32 s.north = search rules in
    let f : SFits w32 o.west = search rules in
    let g : SFits w32 o.east = search rules in
    let h : SFits w32 o.south = search rules in
    let k : SFits w32 o.north = search rules in
    record {
      west = to_z-of_z w32 c.min.result (record { sfits = c.min.type_inv }) ∙ c.min.ensures.value ∙ (λ i. int_min (to_z-of_z w32 s.west a i) (to_z-of_z w32 o.west f i));
      east = to_z-of_z w32 c.max.result (record { sfits = c.max.type_inv }) ∙ c.max.ensures.value ∙ (λ i. int_max (to_z-of_z w32 s.east b i) (to_z-of_z w32 o.east g i));
      south = to_z-of_z w32 c.min-2.result (record { sfits = c.min-2.type_inv }) ∙ c.min-2.ensures.value ∙ (λ i. int_min (to_z-of_z w32 s.south d i) (to_z-of_z w32 o.south h i));
      north = to_z-of_z w32 c.max-2.result (record { sfits = c.max-2.type_inv }) ∙ c.max-2.ensures.value ∙ (λ i. int_max (to_z-of_z w32 s.north e i) (to_z-of_z w32 o.north k i));
    }

pub returns-clause-first : goal.returns-clause-first
returns-clause-first c = union_first _ c.args.self c.args.other (union c)

pub returns-clause-second : goal.returns-clause-second
returns-clause-second c = union_second _ c.args.self c.args.other (union c)

pub returns-clause-least : goal.returns-clause-least
returns-clause-least c = λ d p q. union_least _ c.args.self c.args.other d (union c) p q
