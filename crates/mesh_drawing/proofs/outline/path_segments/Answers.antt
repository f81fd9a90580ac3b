-- What stays safe may be built, and the kind chooses the way.
use Rattle.std.proofs.Common.{List, [], sym, IsPermutation, subst}
use Rattle.std.proofs.lemmas.List.Sorted.{IsPermutation-refl}
use Rattle.mesh_plane.specs.Plane.{Edge}
use Rattle.mesh_num.specs.Segments.{edges_of}
use Rattle.mesh_join.specs.Styles.{style_of}
use Rattle.mesh_outline.proofs.Padding.{path_movable}
use Rattle.mesh_drawing.proofs.PathsServed.{served_moved, served_none}
use Rattle.mesh_drawing.proofs.outline.path_segments.Goals as goal

pub build-requires : goal.build-requires
build-requires g c =
    path_movable g.I.IntNumber.unit (style_of g.I.IntNumber.value c.args.style.now) c.args.kind c.in-Some.builder c.args.path.now (sym c.in-Some.ensures) c.requires.safe

pub returns-in_default : goal.returns-in_default
returns-in_default g c =
    rw c.new-segments.ensures.items
    (subst (λ (es : List Edge). IsPermutation [] es)
    (served_none g.I.IntNumber.unit (style_of g.I.IntNumber.value c.args.style.now) c.args.kind c.args.path.now c.requires.kind (sym c.in_default.ensures))
    (IsPermutation-refl {X = Edge} []))

pub returns : goal.returns
returns g c =
    let built = rw c.new-segments.ensures.items at c.in_ok-build.ensures.edges in
    subst (λ (es : List Edge). IsPermutation (edges_of c.build.new.segments.items) es)
    (served_moved g.I.IntNumber.unit (style_of g.I.IntNumber.value c.args.style.now) c.args.kind c.in-Some.builder c.args.path.now c.requires.kind (sym c.in-Some.ensures)) built
