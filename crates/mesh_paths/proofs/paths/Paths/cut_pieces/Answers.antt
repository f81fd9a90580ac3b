use Rattle.std.proofs.Common.{◌≡◌, ◌+◌, List, sym, ◌∙◌, ap, subst, arith}
use Rattle.mesh_plane.specs.Plane.{Point, Edge}
use Rattle.mesh_lattice.specs.Split.{add_split, IsInBox, Meets}
use Rattle.mesh_lattice.proofs.Boxes.{meets_box}
use Rattle.mesh_points.specs.Points.{IsNumberOf}
use Rattle.mesh_paths.specs.declared.paths.Paths.{Paths}
use Rattle.mesh_paths.specs.declared.stops.Stop.{Stop}
use Rattle.mesh_paths.specs.Paths.{edge_of}
use Rattle.mesh_paths.specs.Stops.{count_of, stop_of}
use Rattle.mesh_paths.proofs.Cuts.{both_noted, cut_numbered, cut_of_paths, paths_split}
use Rattle.mesh_paths.proofs.paths.Paths.cut_pieces.Goals as goal

abbrev edge_between : Stop × Stop → Edge
edge_between r = (r.0.at, r.1.at)

pub cut-requires-clause-cut : goal.cut-requires-clause-cut
cut-requires-clause-cut c =
    cut_numbered c.args.self.now c.stop_at.new.self (cut_of_paths c.args.self.now c.requires.paths) c.in_ok-stop.ensures.filed c.stop_at.ensures.stops c.stop_at.ensures.edges c.stop_at.ensures.splits

pub cut-requires-clause-within : goal.cut-requires-clause-within
cut-requires-clause-within c = omega (arith, ap count_of c.stop_at.ensures.stops, c.requires.first.path)

pub cut-requires-2-clause-within : goal.cut-requires-2-clause-within
cut-requires-2-clause-within c = omega (arith, c.in_ok-cut.ensures.count, ap count_of c.stop_at.ensures.stops, c.requires.second.path)

pub cut-requires-clause-start : goal.cut-requires-clause-start
cut-requires-clause-start c =
    let s : Stop = stop_of c.args.self.now.stops c.args.p.path c.args.p.place in
    subst (λ (r : Stop × Stop). IsNumberOf c.stop_at.new.self.points r.0.at r.0.id) (sym c.ends.ensures)
    (c.in_ok-stop.ensures.kept s.at s.id (c.requires.paths.filed.numbered c.args.p.path c.args.p.place c.requires.first.path (omega (arith, c.requires.first.place))))

pub cut-requires-clause-end : goal.cut-requires-clause-end
cut-requires-clause-end c =
    let s : Stop = stop_of c.args.self.now.stops c.args.p.path (c.args.p.place + 1) in
    subst (λ (r : Stop × Stop). IsNumberOf c.stop_at.new.self.points r.1.at r.1.id) (sym c.ends.ensures)
    (c.in_ok-stop.ensures.kept s.at s.id (c.requires.paths.filed.numbered c.args.p.path (c.args.p.place + 1) c.requires.first.path (omega (arith, c.requires.first.place))))

pub cut-requires-clause-in_box : goal.cut-requires-clause-in_box
cut-requires-clause-in_box c =
    subst (IsInBox (c.ends.result.0.at, c.ends.result.1.at)) (sym c.in_ok-stop.ensures.at) (meets_box c.in-Some.ensures).0

pub cut-requires-2-clause-cut : goal.cut-requires-2-clause-cut
cut-requires-2-clause-cut c = c.in_ok-cut.ensures.cut

pub cut-requires-2-clause-start : goal.cut-requires-2-clause-start
cut-requires-2-clause-start c =
    let s : Stop = stop_of c.args.self.now.stops c.args.q.path c.args.q.place in
    subst (λ (ps : List Point). IsNumberOf ps c.ends-2.result.0.at c.ends-2.result.0.id) (sym c.in_ok-cut.ensures.points)
    (subst (λ (r : Stop × Stop). IsNumberOf c.stop_at.new.self.points r.0.at r.0.id) (sym c.ends-2.ensures)
    (c.in_ok-stop.ensures.kept s.at s.id (c.requires.paths.filed.numbered c.args.q.path c.args.q.place c.requires.second.path (omega (arith, c.requires.second.place)))))

pub cut-requires-2-clause-end : goal.cut-requires-2-clause-end
cut-requires-2-clause-end c =
    let s : Stop = stop_of c.args.self.now.stops c.args.q.path (c.args.q.place + 1) in
    subst (λ (ps : List Point). IsNumberOf ps c.ends-2.result.1.at c.ends-2.result.1.id) (sym c.in_ok-cut.ensures.points)
    (subst (λ (r : Stop × Stop). IsNumberOf c.stop_at.new.self.points r.1.at r.1.id) (sym c.ends-2.ensures)
    (c.in_ok-stop.ensures.kept s.at s.id (c.requires.paths.filed.numbered c.args.q.path (c.args.q.place + 1) c.requires.second.path (omega (arith, c.requires.second.place)))))

pub cut-requires-2-clause-in_box : goal.cut-requires-2-clause-in_box
cut-requires-2-clause-in_box c =
    subst (IsInBox (c.ends-2.result.0.at, c.ends-2.result.1.at)) (sym c.in_ok-stop.ensures.at) (meets_box c.in-Some.ensures).1

pub returns-clause-paths : goal.returns-clause-paths
returns-clause-paths c =
    let old : Paths = c.args.self.now in
    let first : ◌≡◌ {A = Edge} (c.ends.result.0.at, c.ends.result.1.at) (edge_of old c.args.p) = ap edge_between c.ends.ensures in
    let second : ◌≡◌ {A = Edge} (c.ends-2.result.0.at, c.ends-2.result.1.at) (edge_of old c.args.q) = ap edge_between c.ends-2.ensures in
    let meets : Meets (edge_of old c.args.p) (edge_of old c.args.q) c.in-Some.at =
    subst (λ (e : Edge). Meets e (edge_of old c.args.q) c.in-Some.at) first (subst (λ (f : Edge). Meets (c.ends.result.0.at, c.ends.result.1.at) f c.in-Some.at) second c.in-Some.ensures) in
    let noted : c.cut-2.new.self.splits ≡ add_split (edge_of old c.args.q) c.in-Some.at (add_split (edge_of old c.args.p) c.in-Some.at old.splits) =
    both_noted (edge_of old c.args.p) (edge_of old c.args.q) (c.ends.result.0.at, c.ends.result.1.at) (c.ends-2.result.0.at, c.ends-2.result.1.at) c.in-Some.at c.in_ok-stop.stop.at old.splits c.stop_at.new.self.splits
    c.cut.new.self.splits c.cut-2.new.self.splits first second c.in_ok-stop.ensures.at c.stop_at.ensures.splits c.in_ok-cut.ensures.noted c.in_ok-cut-2.ensures.noted in
    paths_split old c.cut-2.new.self c.args.p c.args.q c.in-Some.at c.requires.paths c.requires.first c.requires.second meets c.in_ok-cut-2.ensures.cut
    (c.in_ok-cut-2.ensures.edges ∙ (c.in_ok-cut.ensures.edges ∙ c.stop_at.ensures.edges)) noted

pub returns-clause-met : goal.returns-clause-met
returns-clause-met c =
    let old : Paths = c.args.self.now in
    let first : ◌≡◌ {A = Edge} (c.ends.result.0.at, c.ends.result.1.at) (edge_of old c.args.p) = ap edge_between c.ends.ensures in
    let second : ◌≡◌ {A = Edge} (c.ends-2.result.0.at, c.ends-2.result.1.at) (edge_of old c.args.q) = ap edge_between c.ends-2.ensures in
    let meets : Meets (edge_of old c.args.p) (edge_of old c.args.q) c.in-Some.at =
    subst (λ (e : Edge). Meets e (edge_of old c.args.q) c.in-Some.at) first (subst (λ (f : Edge). Meets (c.ends.result.0.at, c.ends.result.1.at) f c.in-Some.at) second c.in-Some.ensures) in
    λ _. record {
      at = c.in-Some.at;
      meets = meets;
      noted =
          both_noted (edge_of old c.args.p) (edge_of old c.args.q) (c.ends.result.0.at, c.ends.result.1.at) (c.ends-2.result.0.at, c.ends-2.result.1.at) c.in-Some.at c.in_ok-stop.stop.at old.splits
          c.stop_at.new.self.splits c.cut.new.self.splits c.cut-2.new.self.splits first second c.in_ok-stop.ensures.at c.stop_at.ensures.splits c.in_ok-cut.ensures.noted c.in_ok-cut-2.ensures.noted;
    }
