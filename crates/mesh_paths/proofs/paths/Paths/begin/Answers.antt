use Rattle.std.proofs.Common.{◌≡◌, refl, ◌∙◌, subst, arith}
use Rattle.mesh_paths.specs.declared.paths.Paths.{Paths}
use Rattle.mesh_paths.specs.declared.through.Through.{Through}
use Rattle.mesh_paths.specs.Filed.{IsPassAdded}
use Rattle.mesh_paths.specs.Stops.{count_of}
use Rattle.mesh_paths.proofs.Starting.{filed_begun, held_begun, IsBegun}
use Rattle.mesh_paths.proofs.paths.Paths.begin.Goals as goal

pub returns-clause-filed : goal.returns-clause-filed
returns-clause-filed c =
    let old : Paths = c.args.self.now in
    let between : Through = c.add-2.new.self in
    let new : Paths = record { edges = c.push.new.self; points = old.points; splits = old.splits; stops = c.add.new.self; through = c.add-3.new.self } in
    let path : c.len-path.result ≡ count_of old.stops = omega (arith, c.len-path.ensures, c.requires.filed.count) in
    let begun : IsBegun old new between c.args.e = record {
      apart = c.in_ok-next.ensures.apart;
      added = c.in_ok-next.ensures.added;
      edges = c.in_ok-push.ensures.items;
      points = refl;
      listed = c.in_ok-add-2.ensures.listed;
      lists = c.in_ok-add-2.ensures.points ∙ c.in_ok-add.ensures.points;
      first = subst (IsPassAdded old.through between c.args.e.from) path c.in_ok-add.ensures.added;
      second = subst (IsPassAdded between new.through c.args.e.to) path c.in_ok-add-2.ensures.added;
    } in
    filed_begun old new between c.args.e c.requires.filed c.requires.numbered begun

pub returns-clause-held : goal.returns-clause-held
returns-clause-held c =
    let old : Paths = c.args.self.now in
    let between : Through = c.add-2.new.self in
    let new : Paths = record { edges = c.push.new.self; points = old.points; splits = old.splits; stops = c.add.new.self; through = c.add-3.new.self } in
    let path : c.len-path.result ≡ count_of old.stops = omega (arith, c.len-path.ensures, c.requires.filed.count) in
    let begun : IsBegun old new between c.args.e = record {
      apart = c.in_ok-next.ensures.apart;
      added = c.in_ok-next.ensures.added;
      edges = c.in_ok-push.ensures.items;
      points = refl;
      listed = c.in_ok-add-2.ensures.listed;
      lists = c.in_ok-add-2.ensures.points ∙ c.in_ok-add.ensures.points;
      first = subst (IsPassAdded old.through between c.args.e.from) path c.in_ok-add.ensures.added;
      second = subst (IsPassAdded between new.through c.args.e.to) path c.in_ok-add-2.ensures.added;
    } in
    λ none held. held_begun old new between c.args.e c.requires.filed c.requires.numbered begun old.splits none refl refl held
