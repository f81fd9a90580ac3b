use Rattle.std.proofs.Common.{◌≡◌, false, List, ◌-◌, ◌<◌, ◌∷◌, length, refl, sym, ◌∙◌, ap, subst, arith}
use Rattle.mesh_lattice.specs.Split.{is_end, occurs, EdgeSplit}
use Rattle.mesh_paths.specs.declared.paths.Paths.{Paths}
use Rattle.mesh_paths.specs.declared.through.Pass.{Pass}
use Rattle.mesh_paths.specs.Private.Cutting.{cut_of, IsCutPath, IsCutting}
use Rattle.mesh_paths.specs.Filed.{pass_of}
use Rattle.mesh_paths.specs.Stops.{count_of, path_of}
use Rattle.mesh_paths.proofs.Cuts.{cut_done, cutting_goes_on, cutting_once, held_once, is_inner, near_begins, no_split, one_split, stays_gone}
use Rattle.mesh_paths.proofs.Along.{split_gone}
use Rattle.mesh_paths.proofs.paths.Paths.cut.Goals as goal

pub returns-then-stop-a-clause-noted : goal.returns-then-stop-a-clause-noted
returns-then-stop-a-clause-noted c =
    no_split c.args.a c.args.b c.args.stop c.args.self.now c.args.self.now.splits c.requires.start c.requires.end c.requires.stop c.then-stop-a.either

pub cut_near-requires-clause-injective : goal.cut_near-requires-clause-injective
cut_near-requires-clause-injective c = held_once c.args.self.now c.args.near.path c.requires.cut c.requires.within

pub loop-left-init : goal.loop-left-init
loop-left-init c =
    let old : Paths = c.args.self.now in
    let now : Paths = c.cut_near.new.self in
    let s = cut_of c.args.a c.args.b c.args.stop in
    let inner : is_end c.args.stop.at (c.args.a.at, c.args.b.at) ≡ false =
    is_inner c.args.a c.args.b c.args.stop old c.requires.cut.filed c.requires.start c.requires.end c.requires.stop c.if-stop-a.false c.if-stop-b.false in
    record {
      cutting =
          subst (IsCutting old now s c.args.a.id) (sym c.last-left.ensures)
          (near_begins old now s c.args.a c.args.near.path c.in_ok-is_cut.is_cut c.in_ok-is_cut.ensures.filed c.requires.start c.in_ok-is_cut.ensures.cut c.in_ok-is_cut.ensures.left);
      near = λ t. ap (occurs (c.args.a.at, c.args.b.at)) (c.in_ok-is_cut.ensures.cut t).cut ∙ split_gone s (path_of old.stops c.args.near.path) inner;
    }

pub loop-left-preserved : goal.loop-left-preserved
loop-left-preserved c =
    let old : Paths = c.args.self.now in
    let now : Paths = c.loop-left.self in
    let next : Paths = c.cut_passing.new.self in
    let s = cut_of c.args.a c.args.b c.args.stop in
    let inner : is_end c.args.stop.at (c.args.a.at, c.args.b.at) ≡ false =
    is_inner c.args.a c.args.b c.args.stop old c.requires.cut.filed c.requires.start c.requires.end c.requires.stop c.if-stop-a.false c.if-stop-b.false in
    let pass : c.pass-pass.result ≡ pass_of now.through (c.loop-left.left - 1) = c.pass-pass.ensures in
    let cut : IsCutPath now next (pass_of now.through (c.loop-left.left - 1)).path s =
    subst (λ (p : Pass). IsCutPath now next p.path s) pass c.in_ok-cut_passing.ensures.cut in
    record {
      cutting =
          subst (λ (p : Pass). IsCutting old next s c.args.a.id p.before) (sym pass)
          (cutting_goes_on old now next s c.args.a.id c.loop-left.left inner c.loop-left-test.true c.loop-left.invariant.cutting c.in_ok-cut_passing.ensures.filed cut);
      near = λ t.
          stays_gone now next (pass_of now.through (c.loop-left.left - 1)).path c.args.near.path s inner cut (omega (arith, c.requires.within, c.loop-left.invariant.cutting.same.count)) (c.loop-left.invariant.near t);
    }

pub loop-left-smaller : goal.loop-left-smaller
loop-left-smaller c =
    let now : Paths = c.loop-left.self in
    let low : c.loop-left.left - 1 < length now.through.passes.items = omega (arith, c.loop-left.invariant.cutting.search.within, c.loop-left-test.true) in
    omega (arith, c.loop-left-test.true, ap (λ (p : Pass). p.before) c.pass-pass.ensures, c.loop-left.invariant.cutting.filed.listed.before_within (c.loop-left.left - 1) low)

pub cut_passing-requires-clause-injective : goal.cut_passing-requires-clause-injective
cut_passing-requires-clause-injective c =
    let old : Paths = c.args.self.now in
    let now : Paths = c.loop-left.self in
    let s = cut_of c.args.a c.args.b c.args.stop in
    let inner : is_end c.args.stop.at (c.args.a.at, c.args.b.at) ≡ false =
    is_inner c.args.a c.args.b c.args.stop old c.requires.cut.filed c.requires.start c.requires.end c.requires.stop c.if-stop-a.false c.if-stop-b.false in
    let low : c.loop-left.left - 1 < length now.through.passes.items = omega (arith, c.loop-left.invariant.cutting.search.within, c.loop-left-test.true) in
    let real : c.pass-pass.result.path < count_of now.stops =
    omega (arith, ap (λ (p : Pass). p.path) c.pass-pass.ensures, c.loop-left.invariant.cutting.filed.real (c.loop-left.left - 1) low) in
    cutting_once old now s c.args.a.id c.loop-left.left c.pass-pass.result.path c.requires.cut (c.requires.in_box, inner, c.requires.cut.sound) c.loop-left.invariant.cutting real

pub returns-clause-cut : goal.returns-clause-cut
returns-clause-cut c =
    let old : Paths = c.args.self.now in
    let now : Paths = c.loop-left.self in
    let new : Paths = record { edges = now.edges; points = now.points; splits = c.push.new.self; stops = now.stops; through = now.through } in
    let inner : is_end c.args.stop.at (c.args.a.at, c.args.b.at) ≡ false =
    is_inner c.args.a c.args.b c.args.stop old c.requires.cut.filed c.requires.start c.requires.end c.requires.stop c.if-stop-a.false c.if-stop-b.false in
    cut_done old now new c.args.a c.args.b c.args.stop c.loop-left.left c.requires.cut (c.requires.in_box, inner, c.requires.cut.sound) c.requires.start (omega (arith, c.loop-left-test.false)) c.loop-left.invariant.cutting
    refl refl refl refl c.in_ok-push.ensures

pub returns-clause-noted : goal.returns-clause-noted
returns-clause-noted c =
    let inner : is_end c.args.stop.at (c.args.a.at, c.args.b.at) ≡ false =
    is_inner c.args.a c.args.b c.args.stop c.args.self.now c.requires.cut.filed c.requires.start c.requires.end c.requires.stop c.if-stop-a.false c.if-stop-b.false in
    c.in_ok-push.ensures
    ∙ (ap (λ (l : List EdgeSplit). cut_of c.args.a c.args.b c.args.stop ∷ l) c.loop-left.invariant.cutting.same.splits ∙ one_split c.args.a c.args.b c.args.stop c.args.self.now.splits inner)
