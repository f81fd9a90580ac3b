-- The paths that an iterator still gives.
use Rattle.std.specs.Prelude.{List, [], ◌∷◌}
use Rattle.std.specs.declared.option.Option.{Option}
use Rattle.std.specs.declared.option.Option.TheVariants.{Some, None}
use denote.Ref.{Bor}

-- the one path, while it is to come
abbrev pub path_left : {X : Type 0} → Option (Bor (List X)) → List (List X)
path_left (Some path) = path.now ∷ []
path_left None = []
