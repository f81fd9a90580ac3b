use Rattle.std.proofs.Common.{◌≡◌, sym, ◌∙◌, subst}
use Rattle.mesh_plane.specs.Plane.{Point}
use Rattle.mesh_boundary.specs.Private.Stars.{fan_of, IsStar}
use Rattle.mesh_boundary.proofs.flood.Flood.start.Goals as goal

pub returns : goal.returns
returns c = λ es have at level known.
    let ks = c.args.segments.now in
    let all : c.spread_out.new.fan.items ≡ fan_of ks c.star_of-star.result.now = c.in_ok-spread_out.ensures c.if-not-branch.false in
    let own : IsStar es c.args.l.0 (fan_of ks c.star_of-star.result.now) =
    subst (λ (v : Point). IsStar es v (fan_of ks c.star_of-star.result.now)) (sym at) (c.star_of-star.ensures.star es ks have c.requires.parted) in
    c.in_ok-go_round.ensures es have.counts (subst (IsStar es c.args.l.0) (sym (c.deref.ensures.value ∙ all)) own) level known
