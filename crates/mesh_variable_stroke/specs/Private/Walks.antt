-- What private contracts of the builder read: where its walk along a path stands, and what it adds.
use Rattle.std.specs.Prelude.{ℕ, ◌≡◌, Bool, true, false, ◌||◌, if◌then◌else◌, List, [], ◌++◌, Option, Some, None}
use Rattle.std.specs.Prelude.{IfSome, pos, ◌≤ℤ◌}
use Rattle.mesh_plane.specs.Plane.{Edge}
use Rattle.mesh_arc.specs.declared.arc.ArcOptions.{ArcOptions}
use Rattle.mesh_circle.specs.Sweeps.{circle_edges}
use Rattle.mesh_circle.specs.Sections.{Circle, Section, section_of, IsSafeCircle, HasContacts, IsSafeSection}
use Rattle.mesh_variable_stroke.specs.Chains.{Step, is_break, is_cover, end_before, end_after}
use Rattle.mesh_variable_stroke.specs.VariableStrokes.{SectionPair, are_butt, side_edges, start_edges, end_edges}
use Rattle.mesh_variable_stroke.specs.VariableStrokes.{joint_edges}
use Rattle.mesh_variable_stroke.specs.declared.chain_end.ChainEnd.{ChainEnd}
use Rattle.mesh_variable_stroke.specs.declared.chain_end.ChainEnd.TheVariants.{Butt, Round}

-- ---- sections

-- a section whose circles and points are safe, and whose points lie by their circles
pub record IsGoodSection (unit : ℕ) (s : Section) : Type 0 where
  pub a : IsSafeCircle unit s.a
  pub b : IsSafeCircle unit s.b
  pub contacts : HasContacts s
  pub safe : IsSafeSection unit s

-- two such sections
pub record IsGoodJoint (unit : ℕ) (j : SectionPair) : Type 0 where
  pub previous : IsGoodSection unit j.0
  pub next : IsGoodSection unit j.1

-- ---- chains

-- a chain so far: its last section, and whether it has a step
pub record Open : Type 0 where
  pub start : Circle
  pub start_end : ChainEnd
  pub last : Option Section
  pub has_step : Bool

abbrev pub opened : Circle → ChainEnd → Open
opened start start_end = record { start = start; start_end = start_end; last = None; has_step = false }

-- its start is safe, and its last section is good
pub record IsGoodOpen (unit : ℕ) (c : Open) : Type 0 where
  pub start : IsSafeCircle unit c.start
  pub last : IfSome c.last (IsGoodSection unit)

-- with one more step
abbrev pub last_with : Option Section → Option Section → Option Section
last_with last None = last
last_with last (Some s) = Some s

abbrev pub gone_on : Open → Option Section → Open
gone_on c section = record {
  start = c.start;
  start_end = c.start_end;
  last = last_with c.last section;
  has_step = true;
}

-- what joins a section to the chain so far
abbrev pub attaching_edges : ℕ → ArcOptions → ChainEnd → Option Section → Section → List Edge
attaching_edges unit options start_end None s = start_edges unit options start_end s
attaching_edges unit options start_end (Some p) s = joint_edges unit options (p, s)

-- what a step adds
abbrev pub step_edges : ℕ → ArcOptions → Open → Option Section → List Edge
step_edges unit options c None = []
step_edges unit options c (Some s) = side_edges s ++ attaching_edges unit options c.start_end c.last s

-- what the end of a chain adds
abbrev pub closing_edges : ℕ → ArcOptions → Open → ChainEnd → Option Section → List Edge
closing_edges unit options c end (Some s) = end_edges unit options end s
closing_edges unit options c end None =
    if c.has_step || are_butt c.start_end end then [] else circle_edges unit options c.start.center c.start.radius

abbrev pub finish_edges : ℕ → ArcOptions → Open → ChainEnd → List Edge
finish_edges unit options c end = closing_edges unit options c end c.last

-- ---- walks

-- a walk along a path: the open chain, the section of the step before, the circle it has come to, and the end of the
-- chain where the path ends here
pub record Walk : Type 0 where
  pub chain : Open
  pub before : Option Section
  pub at : Circle
  pub end : ChainEnd

abbrev pub walk_from : Circle → Walk
walk_from first = record { chain = opened first Round; before = None; at = first; end = Round }

pub record IsGoodWalk (unit : ℕ) (w : Walk) : Type 0 where
  pub chain : IsGoodOpen unit w.chain
  pub before : IfSome w.before (IsGoodSection unit)
  pub at : IsSafeCircle unit w.at

-- the step of a walk to a circle
abbrev pub step_to : ℕ → Walk → Circle → Step
step_to unit w b = record { before = w.before; section = section_of unit w.at b; a = w.at; b = b }

-- the walk after a step
abbrev pub moved_to : Open → Step → ChainEnd → Walk
moved_to chain s end = record { chain = chain; before = s.section; at = s.b; end = end }

abbrev pub walked : Walk → Step → Walk
walked w s =
    if is_break s then moved_to (opened s.b (end_after s.a s.b)) s Round
    else if is_cover s then moved_to (gone_on (opened s.a Butt) s.section) s Butt
    else moved_to (gone_on w.chain s.section) s Round

-- what a step of a walk adds
abbrev pub walked_edges : ℕ → ArcOptions → Walk → Step → List Edge
walked_edges unit options w s =
    if is_break s then finish_edges unit options w.chain (end_before s.a s.b)
    else if is_cover s
    then finish_edges unit options w.chain Round ++ step_edges unit options (opened s.a Butt) s.section
    else step_edges unit options w.chain s.section

-- ---- what is too thin to be drawn

-- a chain so far that starts at a circle of a radius of at most 1, and has no section
pub record IsThinOpen (c : Open) : Type 0 where
  pub start : c.start.radius ≤ℤ pos 1
  pub last : c.last ≡ None

-- a walk with such a chain, at a circle of a radius of at most 1
pub record IsThinWalk (w : Walk) : Type 0 where
  pub chain : IsThinOpen w.chain
  pub at : w.at.radius ≤ℤ pos 1
