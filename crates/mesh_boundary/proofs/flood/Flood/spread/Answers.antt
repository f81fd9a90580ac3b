use Rattle.std.proofs.Common.{rules, ◌≡◌, List, sym, ◌∙◌, subst}
use Rattle.std.specs.Prelude.{ℤ}
use mir.Syntax.{w128}
use mir.Val.{to_z, of_z}
use Rattle.mesh_plane.specs.Plane.{Edge}
use Rattle.mesh_lattice.specs.Counted.{Counted}
use Rattle.mesh_boundary.specs.Private.Flood.{IsLevel, AreKnown}
use Rattle.mesh_boundary.specs.Private.Stars.{leaving, fan_of, AreAllAt, IsStar}
use Rattle.mesh_boundary.proofs.flood.Flood.spread.Goals as goal

pub returns-in-Some : goal.returns-in-Some
returns-in-Some c = λ es have known.
    let ks = c.args.segments.now in
    let all = c.star_of-star.ensures.all es ks have c.requires.parted in
    let round = c.in-Some.ensures.round es have.counts (subst (λ (f : Edge). AreAllAt es ks f.0 c.star_of-star.result.now) (sym c.edge_leaving-e.ensures) all) in
    c.in_ok-pass-2.ensures es have.counts round.back (c.in_ok-pass.ensures es have.counts round.on known)

pub returns-in-Some-four_round : goal.returns-in-Some-four_round
returns-in-Some-four_round c = λ es have known.
    let ks = c.args.segments.now in
    let all = c.star_of-star.ensures.all es ks have c.requires.parted in
    let round = c.in-Some-four_round.ensures.round es have.counts (subst (λ (f : Edge). AreAllAt es ks f.0 c.star_of-star.result.now) (sym c.edge_leaving-e.ensures) all) in
    c.in_ok-go_round_four.ensures es have.counts round known

pub returns : goal.returns
returns c = λ es have known.
    let ks = c.args.segments.now in
    let e : Edge = c.edge_leaving-e.result in
    let is : e ≡ (leaving ks c.args.x).0 = c.edge_leaving-e.ensures in
    let all : c.spread_out.new.fan.items ≡ fan_of ks c.star_of-star.result.now = c.in_ok-spread_out.ensures c.if-not-branch.false in
    let own : IsStar es e.0 (fan_of ks c.star_of-star.result.now) =
    subst (λ (f : Edge). IsStar es f.0 (fan_of ks c.star_of-star.result.now)) (sym is) (c.star_of-star.ensures.star es ks have c.requires.parted) in
    let star : (f : List Counted) → f ≡ c.spread_out.new.fan.items → IsStar es e.0 f = λ f same. subst (IsStar es e.0) (sym (same ∙ all)) own in
    let level : IsLevel es (e.0, c.in-Some-level_at.winding) =
    c.in-Some-level_at.ensures es have.counts (subst (AreKnown es ks) (sym c.deref.ensures.value) known) is (star c.deref-2.result.now c.deref-2.ensures.value) in
    let kept : to_z w128 (of_z w128 c.in-Some-level_at.winding) ≡ c.in-Some-level_at.winding = search rules in
    c.in_ok-go_round.ensures es have.counts (star c.deref-3.result.now c.deref-3.ensures.value) (subst (λ (w : ℤ). IsLevel es (e.0, w)) (sym kept) level) known
