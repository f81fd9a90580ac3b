use Rattle.std.proofs.Common.{◌≡◌, ℕ, map, ◌∙◌}
use Rattle.mesh_plane.specs.Plane.{Point}
use Rattle.mesh_lattice.specs.Counted.{Counted}
use Rattle.mesh_boundary.specs.Private.Stars.{ends_at}
use Rattle.mesh_boundary.proofs.PointNumbers.{number_in, places_of}
use Rattle.mesh_boundary.proofs.stars.Stars.new.Goals as goal

pub returns : goal.returns
returns c =
    let ks = c.args.segments.now in
    let at : Point → ℕ = number_in c.all_ends.new.points in
    let places : c.in_ok-ends.ends.items ≡ map (λ (k : Counted). ends_at at k.0) ks =
    c.in_ok-ends.ensures.places at (places_of c.all_ends.new.points c.in_ok-ends.ensures.distinct) in (
      at,
      record {
        parted = c.fill.ensures.parted;
        places = places;
        listed = c.fill.ensures.listed c.if-not-fill.false at ks (c.deref-3.ensures.value ∙ places);
      },
    )
