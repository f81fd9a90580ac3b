use Rattle.std.proofs.Common.{◌≡◌, ℕ, ◌+◌, ◌<◌, false, List, length, refl, sym, ◌∙◌, ap, subst, arith}
use Rattle.std.specs.Prelude.{ℤ}
use Rattle.std.proofs.lemmas.Int.{ints, to_z-of_z}
use Rattle.std.proofs.lemmas.List.{get_or_read_under}
use mir.Syntax.{w32}
use mir.Val.{SFits, of_z, to_z}
use Rattle.mesh_plane.specs.Plane.{Edge}
use Rattle.mesh_plane.specs.Winding.{same_point}
use Rattle.mesh_lattice.specs.Counted.{Counted}
use Rattle.mesh_points.specs.declared.edges.NumberedEdge.{NumberedEdge}
use Rattle.mesh_points.specs.Edges.{counted, edge_at, no_edge, IsNumbered}
use Rattle.mesh_points.specs.Points.{IsNumberOf}
use Rattle.mesh_paths.specs.declared.paths.Paths.{Paths}
use Rattle.mesh_paths.specs.declared.paths.Piece.{Piece}
use Rattle.mesh_paths.specs.declared.stops.Stop.{Stop}
use Rattle.mesh_paths.specs.Paths.{IsPieceOf}
use Rattle.mesh_paths.specs.Private.Merging.{segments_to, CountAlike, IsMergedTo}
use Rattle.mesh_paths.specs.Stops.{count_of, pieces_of, point_of, stop_of}
use Rattle.mesh_paths.proofs.Collecting.{piece_proper, segments_next, segments_path}
use Rattle.mesh_paths.proofs.pieces.Pieces.add_path.Goals as goal

pub forward-requires : goal.forward-requires
forward-requires c =
    let p : Paths = c.args.paths.now in
    let piece : Piece = record { path = c.args.path; place = c.loop-place.place } in
    let is : IsPieceOf p piece = record { path = c.requires.within; place = omega (arith, c.loop-place-test.true, c.pieces-place-end.ensures) } in
    subst (λ (r : Stop × Stop). same_point r.0.at r.1.at ≡ false) (sym c.ends.ensures) (piece_proper p piece c.requires.paths is)

pub add-requires-clause-linked : goal.add-requires-clause-linked
add-requires-clause-linked c = record { links = c.loop-place.invariant.0.links; chained = c.loop-place.invariant.0.chained }

pub add-requires-clause-within : goal.add-requires-clause-within
add-requires-clause-within c =
    let p : Paths = c.args.paths.now in
    let low : c.loop-place.place < pieces_of p.stops c.args.path = omega (arith, c.loop-place-test.true, c.pieces-place-end.ensures) in
    let first : IsNumberOf p.points c.ends.result.0.at c.ends.result.0.id =
    subst (λ (r : Stop × Stop). IsNumberOf p.points r.0.at r.0.id) (sym c.ends.ensures) (c.requires.paths.filed.numbered c.args.path c.loop-place.place c.requires.within (omega arith)) in
    let second : IsNumberOf p.points c.ends.result.1.at c.ends.result.1.id =
    subst (λ (r : Stop × Stop). IsNumberOf p.points r.1.at r.1.id) (sym c.ends.ensures) (c.requires.paths.filed.numbered c.args.path (c.loop-place.place + 1) c.requires.within (omega arith)) in
    let numbered : IsNumbered p.points c.in-Some.e = c.in-Some.ensures.numbered p.points first second in
    omega (arith, numbered.from.within, c.loop-place.invariant.0.points)

pub loop-place-preserved : goal.loop-place-preserved
loop-place-preserved c =
    let p : Paths = c.args.paths.now in
    let es : List NumberedEdge = p.edges.items in
    let k : ℕ = c.args.path in
    let low : c.loop-place.place < pieces_of p.stops k = omega (arith, c.loop-place-test.true, c.pieces-place-end.ensures) in
    let first : IsNumberOf p.points c.ends.result.0.at c.ends.result.0.id =
    subst (λ (r : Stop × Stop). IsNumberOf p.points r.0.at r.0.id) (sym c.ends.ensures) (c.requires.paths.filed.numbered k c.loop-place.place c.requires.within (omega arith)) in
    let second : IsNumberOf p.points c.ends.result.1.at c.ends.result.1.id =
    subst (λ (r : Stop × Stop). IsNumberOf p.points r.1.at r.1.id) (sym c.ends.ensures) (c.requires.paths.filed.numbered k (c.loop-place.place + 1) c.requires.within (omega arith)) in
    let numbered : IsNumbered p.points c.in-Some.e = c.in-Some.ensures.numbered p.points first second in
    let here : k < length es = omega (arith, c.requires.within, c.requires.paths.filed.count) in
    let is : c.index.result.now ≡ edge_at es k = get_or_read_under es k (length es) c.index.result.now no_edge c.index.ensures here refl in
    let fits : SFits w32 c.index.result.now.count = omega (arith, ints) in
    let count : to_z w32 (of_z w32 c.index.result.now.count) ≡ (edge_at es k).count = to_z-of_z w32 c.index.result.now.count fits ∙ ap (λ (e : NumberedEdge). e.count) is in
    let own : Counted = ((point_of p.stops k c.loop-place.place, point_of p.stops k (c.loop-place.place + 1)), (edge_at es k).count) in
    let same : ◌≡◌ {A = Counted} ((c.ends.result.0.at, c.ends.result.1.at), to_z w32 (of_z w32 c.index.result.now.count)) own = λ i. (((c.ends.ensures i).0.at, (c.ends.ensures i).1.at), count i) in
    let alike : CountAlike own (counted c.in-Some.e) = subst (λ (g : Counted). CountAlike g (counted c.in-Some.e)) same c.in-Some.ensures.counted in
    subst (λ (l : List Counted). IsMergedTo p.points l c.add.new.self) (sym (segments_next p k c.loop-place.place))
    (c.in_ok-add.ensures p.points (segments_to p k c.loop-place.place) own numbered alike c.loop-place.invariant)

pub returns : goal.returns
returns c =
    let p : Paths = c.args.paths.now in
    let end : c.loop-place.place ≡ pieces_of p.stops c.args.path = omega (arith, c.loop-place-test.false, c.loop-place.auto.place-end, c.pieces-place-end.ensures) in
    subst (λ (l : List Counted). IsMergedTo p.points l c.loop-place.self) (sym (segments_path p c.args.path c.requires.paths c.requires.within))
    (subst (λ (n : ℕ). IsMergedTo p.points (segments_to p c.args.path n) c.loop-place.self) end c.loop-place.invariant)
