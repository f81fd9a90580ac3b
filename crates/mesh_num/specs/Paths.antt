-- Lists of points as the program's vectors hold them: paths, and shapes of contours.
use Rattle.std.specs.Prelude.{◌-◌, ◌^◌, List, map, take}
use Rattle.std.specs.List.{flat_map}
use Rattle.std.specs.declared.vec.Vec.{Vec}
use Rattle.std.specs.declared.alloc.Global.{Global}

-- the paths that vectors of points hold
abbrev pub paths_of : {X : Type 0} → List (Vec X Global) → List (List X)
paths_of paths = map (λ p. p.items) paths

-- the shapes that vectors of contours hold
abbrev pub shapes_of : {X : Type 0} → List (Vec (Vec X Global) Global) → List (List (List X))
shapes_of shapes = map (λ s. paths_of s.items) shapes

-- the contours of all shapes, in order
abbrev pub contours_of : {X : Type 0} → List (List (List X)) → List (List X)
contours_of shapes = flat_map (λ s. s) shapes

-- the paths that a `usize` can count: all but what stands past 2^64 - 1 of them, which no memory holds
abbrev pub counted : {X : Type 0} → List (List X) → List (List X)
counted paths = take (2 ^ 64 - 1) paths
