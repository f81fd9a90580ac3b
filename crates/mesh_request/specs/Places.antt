-- What stands at a place of a request.
use Rattle.std.specs.Prelude.{ℕ, List, codes, Option, Some, IsSome, option_and_then}
use Rattle.serde_json.specs.Data.{Data}
use Rattle.serde_json.specs.Find.{get, at}
use Rattle.mesh_request.specs.declared.fault.key.Key.{Key}
use Rattle.mesh_request.specs.declared.fault.key.Key.TheVariants.{Operation, Int, Out, Paths, Style, Closed, Options}
use Rattle.mesh_request.specs.declared.fault.key.Key.TheVariants.{Outer, Width, Join, MinTurn, Side, Start, End, Arc, MinArea}
use Rattle.mesh_request.specs.declared.fault.key.Key.TheVariants.{Clockwise, Collinear, Distances, Inner as InnerKey}
use Rattle.mesh_request.specs.declared.fault.key.Key.TheVariants.{Rule, Fill, Subject, Clip, Zones, Least}
use Rattle.mesh_request.specs.declared.fault.place.Place.{Place}
use Rattle.mesh_request.specs.declared.fault.place.Place.TheVariants.{Request, Member, Inner, Path, Point, CapPoint, Zone}

-- a key as it stands in a request
abbrev pub key_text : Key → List ℕ
key_text Operation = codes "op"
key_text Int = codes "int"
key_text Out = codes "out"
key_text Paths = codes "paths"
key_text Style = codes "style"
key_text Closed = codes "closed"
key_text Options = codes "options"
key_text Outer = codes "outer"
key_text InnerKey = codes "inner"
key_text Width = codes "width"
key_text Join = codes "join"
key_text MinTurn = codes "min_turn"
key_text Side = codes "side"
key_text Start = codes "start"
key_text End = codes "end"
key_text Arc = codes "arc"
key_text MinArea = codes "min_area"
key_text Clockwise = codes "clockwise"
key_text Collinear = codes "collinear"
key_text Distances = codes "distances"
key_text Rule = codes "rule"
key_text Fill = codes "fill"
key_text Subject = codes "subject"
key_text Clip = codes "clip"
key_text Zones = codes "zones"
key_text Least = codes "least"

-- what an object has under a key
abbrev pub under : Key → Data → Option Data
under key d = get (key_text key) d

-- what stands at a place of a request, where it has such a place
abbrev pub found_at : Place → Data → Option Data
found_at Request d = Some d
found_at (Member key) d = under key d
found_at (Inner outer key) d = option_and_then (under key) (under outer d)
found_at (Path path) d = option_and_then (at path) (get (codes "paths") d)
found_at (Point path point) d = option_and_then (at point) (option_and_then (at path) (get (codes "paths") d))
found_at (CapPoint end point) d =
    option_and_then (at point)
    (option_and_then (get (codes "custom")) (option_and_then (under end) (get (codes "style") d)))
found_at (Zone zone) d = option_and_then (at zone) (get (codes "zones") d)

-- a request has this place
abbrev pub IsPlaceIn : Data → Place → Type 0
IsPlaceIn d place = IsSome (found_at place d)
