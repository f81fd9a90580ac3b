use Rattle.std.proofs.Common.{refl}
use Rattle.mesh_paths.specs.declared.paths.Paths.{Paths}
use Rattle.mesh_paths.proofs.Cuts.{cut_found, cut_none}
use Rattle.mesh_paths.proofs.Filing.{filed_cut}
use Rattle.mesh_paths.proofs.paths.Paths.cut_path.Goals as goal

pub returns-in_default-clause-cut : goal.returns-in_default-clause-cut
returns-in_default-clause-cut c =
    cut_none c.args.self.now c.args.path c.args.a c.args.b c.args.stop c.requires.filed c.requires.within c.requires.start c.requires.end c.in_default.ensures

pub returns-clause-filed : goal.returns-clause-filed
returns-clause-filed c =
    let old : Paths = c.args.self.now in
    let new : Paths = record { edges = old.edges; points = old.points; splits = old.splits; stops = c.insert.new.self; through = c.add.new.self } in
    filed_cut old new c.args.path c.in-Some.place c.args.stop c.requires.filed c.requires.within c.in-Some.ensures.within c.requires.stop
    (record {
      apart = c.in_ok-insert.ensures.apart;
      inserted = c.in_ok-insert.ensures.inserted;
      edges = refl;
      points = refl;
      listed = c.in_ok-add.ensures.listed;
      lists = c.in_ok-add.ensures.points;
      added = c.in_ok-add.ensures.added;
    })

pub returns-clause-cut : goal.returns-clause-cut
returns-clause-cut c =
    let old : Paths = c.args.self.now in
    let new : Paths = record { edges = old.edges; points = old.points; splits = old.splits; stops = c.insert.new.self; through = c.add.new.self } in
    cut_found old new c.args.path c.in-Some.place c.args.a c.args.b c.args.stop c.requires.filed c.requires.within c.requires.start c.requires.end c.in-Some.ensures c.requires.injective refl
    (record {
      apart = c.in_ok-insert.ensures.apart;
      inserted = c.in_ok-insert.ensures.inserted;
      edges = refl;
      points = refl;
      listed = c.in_ok-add.ensures.listed;
      lists = c.in_ok-add.ensures.points;
      added = c.in_ok-add.ensures.added;
    })
