use Rattle.std.proofs.Common.{rules, ◌≡◌, Bool, true, false, cond, List, [], ◌∷◌, ◌++◌, sym, ◌∙◌, ap}
use Rattle.std.proofs.lemmas.List.{append-nil}
use Rattle.std.specs.Prelude.{ℤ}
use mir.Syntax.{w128}
use mir.Val.{to_z, of_z}
use Rattle.mesh_plane.specs.Plane.{Edge}
use Rattle.mesh_lattice.specs.FillRules.{filled_by}
use Rattle.mesh_lattice.specs.Split.{back}
use Rattle.mesh_boundary.specs.Private.CountedSides.{is_parted, boundary_edge}
use Rattle.mesh_boundary.proofs.sides.push_edge.Goals as goal

-- the edge of a segment, by its two tests
chosen : (fill : ℤ → Bool) (s : ℤ × ℤ) (e : Edge) (first second : Bool) → first ≡ is_parted fill s → second ≡ is_parted fill (s.1, s.0)
    → cond first (e ∷ []) (cond second (back e ∷ []) []) ≡ boundary_edge fill s e
chosen fill s e first second p q = λ i. cond (p i) (e ∷ []) (cond (q i) (back e ∷ []) [])

pub returns-in_ok-push-2 : goal.returns-in_ok-push-2
returns-in_ok-push-2 c =
    let s = c.args.sides in
    let left : to_z w128 (of_z w128 s.0) ≡ s.0 = search rules in
    let right : to_z w128 (of_z w128 s.1) ≡ s.1 = search rules in
    let second = c.if-is_parted-2.ensures ∙ λ i. is_parted (filled_by c.args.fill) (right i, left i) in
    c.in_ok-push-2.ensures.items
    ∙ ap (λ (es : List Edge). c.args.edges.now.items ++ es) (chosen (filled_by c.args.fill) s c.args.e false true c.if-is_parted.ensures second)

pub returns-else-is_parted-2 : goal.returns-else-is_parted-2
returns-else-is_parted-2 c =
    let s = c.args.sides in
    let left : to_z w128 (of_z w128 s.0) ≡ s.0 = search rules in
    let right : to_z w128 (of_z w128 s.1) ≡ s.1 = search rules in
    let second = c.if-is_parted-2.ensures ∙ λ i. is_parted (filled_by c.args.fill) (right i, left i) in
    sym (append-nil c.args.edges.now.items)
    ∙ ap (λ (es : List Edge). c.args.edges.now.items ++ es) (chosen (filled_by c.args.fill) s c.args.e false false c.if-is_parted.ensures second)
