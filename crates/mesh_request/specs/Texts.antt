-- The texts of faults, as people read them.
use Rattle.std.specs.Prelude.{ℕ, List, ◌++◌, codes, decimal}
use Rattle.std.specs.Fmt.{signed_decimal}
use Rattle.mesh_request.specs.Reading.{no_cap_text, no_join_text}
use Rattle.mesh_request.specs.Places.{key_text}
use Rattle.mesh_request.specs.declared.fault.Fault.{Fault}
use Rattle.mesh_request.specs.declared.fault.place.Place.{Place}
use Rattle.mesh_request.specs.declared.fault.place.Place.TheVariants.{Request, Member, Inner, Path, Point, CapPoint, Zone}
use Rattle.mesh_request.specs.declared.fault.problem.CoordinateType.{CoordinateType}
use Rattle.mesh_request.specs.declared.fault.problem.CoordinateType.TheVariants.{I16, I32}
use Rattle.mesh_request.specs.declared.fault.problem.Problem.{Problem}
use Rattle.mesh_request.specs.declared.fault.problem.Problem.TheVariants.{Missing, NoObject, NoOperation, NoCoordinateType}
use Rattle.mesh_request.specs.declared.fault.problem.Problem.TheVariants.{NoOutput, NoPaths, NoPath, NoPoint, NoVertex}
use Rattle.mesh_request.specs.declared.fault.problem.Problem.TheVariants.{NoWholeNumber, OutOfType, NoBool, NoArea, NoJoin}
use Rattle.mesh_request.specs.declared.fault.problem.Problem.TheVariants.{NoCap, NoSide, NoRoundOptions, NoMiterBits}
use Rattle.mesh_request.specs.declared.fault.problem.Problem.TheVariants.{MoreKeys, NoBits, NoArc, NoCombination}
use Rattle.mesh_request.specs.declared.fault.problem.Problem.TheVariants.{NoShapes, NoRule, NoFill, NoFills, NoZones}
use Rattle.mesh_request.specs.declared.fault.problem.Problem.TheVariants.{NoOperand, NoLeast}
use Rattle.mesh_request.specs.declared.fault.problem.WholeNumber.{WholeNumber}
use Rattle.mesh_request.specs.declared.fault.problem.WholeNumber.TheVariants.{Signed, Unsigned}

-- a place of a request
abbrev pub place_text : Place → List ℕ
place_text Request = codes "request"
place_text (Member key) = key_text key
place_text (Inner outer key) = key_text outer ++ (codes "." ++ key_text key)
place_text (Path path) = codes "paths[" ++ (decimal path ++ codes "]")
place_text (Point path point) =
    codes "paths[" ++ (decimal path ++ (codes "][" ++ (decimal point ++ codes "]")))
place_text (CapPoint end point) =
    codes "style." ++ (key_text end ++ (codes ".custom[" ++ (decimal point ++ codes "]")))
place_text (Zone zone) = codes "zones[" ++ (decimal zone ++ codes "]")

-- the name of a type of coordinates
abbrev pub type_text : CoordinateType → List ℕ
type_text I16 = codes "i16"
type_text I32 = codes "i32"

-- a whole number
abbrev pub number_text : WholeNumber → List ℕ
number_text (Signed number) = signed_decimal number
number_text (Unsigned number) = decimal number

-- that a number does not fit a type
abbrev pub misfit_text : WholeNumber → CoordinateType → List ℕ
misfit_text number kind = number_text number ++ (codes " is no " ++ type_text kind)

-- what is needed of a value that names no rule of booleans
abbrev pub no_rule_text : List ℕ
no_rule_text =
    codes
    "\"subject\", \"clip\", \"intersect\", \"union\", \"difference\", \"inverse_difference\" or \"xor\" is needed"

-- what is needed of a value that names no fill rules of a subject and a clip
abbrev pub no_fills_text : List ℕ
no_fills_text =
    codes "\"even_odd\", \"non_zero\", \"positive\", \"negative\" or {\"subject\": FILL, \"clip\": FILL} is needed"

-- what is wrong at a place
abbrev pub problem_text : Problem → List ℕ
problem_text (Missing key) = codes "\"" ++ (key_text key ++ codes "\" is missing")
problem_text (OutOfType number kind) = misfit_text number kind
problem_text NoObject = codes "an object is needed"
problem_text NoOperation = codes "\"outline\", \"stroke\" or \"variable_stroke\" is needed"
problem_text NoCoordinateType = codes "\"i16\" or \"i32\" is needed"
problem_text NoOutput = codes "\"edges\" or \"shapes\" is needed"
problem_text NoPaths = codes "a list of paths is needed"
problem_text NoPath = codes "a path is a list of points"
problem_text NoPoint = codes "a point has two numbers"
problem_text NoVertex = codes "a vertex has three numbers"
problem_text NoWholeNumber = codes "a whole number is needed"
problem_text NoBool = codes "true or false is needed"
problem_text NoArea = codes "an area is a whole number from 0 on that fits its type"
problem_text NoJoin = no_join_text
problem_text NoCap = no_cap_text
problem_text NoSide = codes "\"both\", \"left\" or \"right\" is needed"
problem_text NoRoundOptions = codes "\"round\" needs [BITS, PRECISION]"
problem_text NoMiterBits = codes "\"miter\" needs BITS"
problem_text MoreKeys = codes "only one key is allowed"
problem_text NoBits = codes "BITS is needed, a whole number from 0 to 4294967295"
problem_text NoArc = codes "[BITS, PRECISION] is needed"
problem_text NoCombination = codes "\"boolean\", \"coverage\" or \"overlaps\" is needed"
problem_text NoShapes = codes "\"shapes\" is needed"
problem_text NoRule = no_rule_text
problem_text NoFill = codes "\"even_odd\", \"non_zero\", \"positive\" or \"negative\" is needed"
problem_text NoFills = no_fills_text
problem_text NoZones = codes "a list of zones is needed"
problem_text NoOperand = codes "a list of paths or an object with \"op\", \"paths\" and \"style\" is needed"
problem_text NoLeast = codes "a whole number from 1 to 4294967295 is needed"

-- a place, where it is not the request itself, before what is told of it
abbrev pub at_place : Place → List ℕ → List ℕ
at_place Request told = told
at_place (Member key) told = place_text (Member key) ++ (codes ": " ++ told)
at_place (Inner outer key) told = place_text (Inner outer key) ++ (codes ": " ++ told)
at_place (Path path) told = place_text (Path path) ++ (codes ": " ++ told)
at_place (Point path point) told = place_text (Point path point) ++ (codes ": " ++ told)
at_place (CapPoint end point) told = place_text (CapPoint end point) ++ (codes ": " ++ told)
at_place (Zone zone) told = place_text (Zone zone) ++ (codes ": " ++ told)

-- a fault: what is wrong, behind its place
abbrev pub fault_text : Fault → List ℕ
fault_text fault = at_place fault.place (problem_text fault.problem)
