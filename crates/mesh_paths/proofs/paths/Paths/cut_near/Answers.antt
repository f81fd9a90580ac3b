use Rattle.std.proofs.Common.{◌≡◌, refl}
use Rattle.mesh_paths.specs.declared.paths.Paths.{Paths}
use Rattle.mesh_paths.specs.Stops.{IsBetweenIds}
use Rattle.mesh_paths.proofs.Cuts.{cut_found}
use Rattle.mesh_paths.proofs.Filing.{filed_cut}
use Rattle.mesh_paths.proofs.paths.Paths.cut_near.Goals as goal

pub returns-clause-filed : goal.returns-clause-filed
returns-clause-filed c =
    let old : Paths = c.args.self.now in
    let new : Paths = record { edges = old.edges; points = old.points; splits = old.splits; stops = c.insert.new.self; through = c.add.new.self } in
    let is : IsBetweenIds old.stops c.args.near.path c.args.a.id c.args.b.id c.args.near.place = c.if-not-is_between.ensures refl in
    filed_cut old new c.args.near.path c.args.near.place c.args.stop c.requires.filed c.requires.within is.within c.requires.stop
    (record {
      apart = c.in_ok-insert.ensures.apart;
      inserted = c.in_ok-insert.ensures.inserted;
      edges = refl;
      points = refl;
      listed = c.in_ok-add.ensures.listed;
      lists = c.in_ok-add.ensures.points;
      added = c.in_ok-add.ensures.added;
    })

pub returns-clause-cut : goal.returns-clause-cut
returns-clause-cut c =
    let old : Paths = c.args.self.now in
    let new : Paths = record { edges = old.edges; points = old.points; splits = old.splits; stops = c.insert.new.self; through = c.add.new.self } in
    let is : IsBetweenIds old.stops c.args.near.path c.args.a.id c.args.b.id c.args.near.place = c.if-not-is_between.ensures refl in
    λ _. cut_found old new c.args.near.path c.args.near.place c.args.a c.args.b c.args.stop c.requires.filed c.requires.within c.requires.start c.requires.end is c.requires.injective refl
    (record {
      apart = c.in_ok-insert.ensures.apart;
      inserted = c.in_ok-insert.ensures.inserted;
      edges = refl;
      points = refl;
      listed = c.in_ok-add.ensures.listed;
      lists = c.in_ok-add.ensures.points;
      added = c.in_ok-add.ensures.added;
    })
