use Rattle.mesh_points.specs.Edges.{edge_at}
use Rattle.mesh_paths.specs.declared.paths.Paths.{Paths}
use Rattle.mesh_paths.specs.Paths.{ends_of}
use Rattle.mesh_paths.specs.Stops.{pieces_of, point_of}
use Rattle.mesh_paths.proofs.Onward.{pieces_some}
use Rattle.mesh_paths.proofs.paths.Paths.near.Goals as goal

pub returns-then-pieces-le1-clause-piece : goal.returns-then-pieces-le1-clause-piece
returns-then-pieces-le1-clause-piece c =
    let p : Paths = c.args.self.now in
    record {
      path = c.requires.within;
      place = pieces_some p.splits (ends_of (edge_at p.edges.items c.args.path)) (point_of p.stops c.args.path) (pieces_of p.stops c.args.path) (c.requires.paths.held c.args.path c.requires.within);
    }
