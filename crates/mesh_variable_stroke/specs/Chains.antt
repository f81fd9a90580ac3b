-- The steps of a path from vertex to vertex, and the chains that they make: what is drawn as one.
use Rattle.std.specs.Prelude.{ℕ, Bool, false, ◌&&◌, ◌||◌, if◌then◌else◌, List, [], ◌∷◌, map, Option, Some, None}
use Rattle.std.specs.Prelude.{int_lt}
use Rattle.mesh_join.specs.VariableStyles.{Vertex}
use Rattle.mesh_offset.specs.Radii.{radius_of}
use Rattle.mesh_circle.specs.Sections.{Circle, Section, section_of, is_nested, covers_circle}
use Rattle.mesh_variable_stroke.specs.declared.chain_end.ChainEnd.{ChainEnd}
use Rattle.mesh_variable_stroke.specs.declared.chain_end.ChainEnd.TheVariants.{Butt, Round}

-- the circle round a vertex, as wide as the stroke is there
abbrev pub circle_of : Vertex → Circle
circle_of v = record { center = v.point; radius = radius_of v.width }

abbrev pub circles_of : List Vertex → List Circle
circles_of vertices = map circle_of vertices

-- a step of a path from the circle `a` to the next one, `b`: its section, and that of the step before it
pub record Step : Type 0 where
  pub before : Option Section
  pub section : Option Section
  pub a : Circle
  pub b : Circle

-- the steps from the circle `a` through the following ones
abbrev pub steps_from : ℕ → Option Section → Circle → List Circle → List Step
steps_from unit before a [] = []
steps_from unit before a (b ∷ bs) =
    record { before = before; section = section_of unit a b; a = a; b = b } ∷ steps_from unit (section_of unit a b) b bs

-- a step is a break where one of its circles holds the other
abbrev pub is_break : Step → Bool
is_break s = is_nested s.a s.b

-- a circle is smaller than one of a section
abbrev pub is_smaller : Circle → Section → Bool
is_smaller c s = int_lt c.radius s.a.radius || int_lt c.radius s.b.radius

-- whether the section, if there is one, surely holds the circle, which is smaller than one of its own
abbrev pub is_covered_by : Option Section → Circle → Bool
is_covered_by None c = false
is_covered_by (Some s) c = is_smaller c s && covers_circle s c

-- a step is a cover where the section of the step before it holds the circle that it leads to
abbrev pub is_cover : Step → Bool
is_cover s = is_covered_by s.before s.b

-- the end of a chain before a break from `a` to `b`, and the start of the one after it: the greater circle is drawn
abbrev pub end_before : Circle → Circle → ChainEnd
end_before a b = if int_lt a.radius b.radius then Butt else Round

abbrev pub end_after : Circle → Circle → ChainEnd
end_after a b = if int_lt a.radius b.radius then Round else Butt

-- a run of steps with its ends; it starts at a circle, also where it has no steps
pub record Chain : Type 0 where
  pub start : Circle
  pub start_end : ChainEnd
  pub steps : List Step
  pub end : ChainEnd

-- what is still to come of a path: the other steps of a chain with its end, and the chains after it
pub record Rest : Type 0 where
  pub steps : List Step
  pub end : ChainEnd
  pub later : List Chain

-- a break ends a chain; the next one starts at the circle that it leads to
abbrev pub broken : Step → Rest → Rest
broken s rest = record {
  steps = [];
  end = end_before s.a s.b;
  later =
      record {
        start = s.b;
        start_end = end_after s.a s.b;
        steps = rest.steps;
        end = rest.end;
      }
      ∷ rest.later;
}

-- a cover ends a chain; the next one starts with the cover
abbrev pub covered : Step → Rest → Rest
covered s rest = record {
  steps = [];
  end = Round;
  later = record { start = s.a; start_end = Butt; steps = s ∷ rest.steps; end = rest.end } ∷ rest.later;
}

-- any other step goes on with its chain
abbrev pub continued : Step → Rest → Rest
continued s rest = record { steps = s ∷ rest.steps; end = rest.end; later = rest.later }

-- the rest of a path with these steps to come; `end` is for a chain that no step goes on: it ends butt after a cover
unfoldable pub rest_of : ChainEnd → List Step → Rest
rest_of end [] = record { steps = []; end = end; later = [] }
rest_of end (s ∷ ss) =
    if is_break s then broken s (rest_of Round ss)
    else if is_cover s then covered s (rest_of Butt ss)
    else continued s (rest_of Round ss)

-- the chain that starts with such a rest, and those after it
abbrev pub chains_with : Circle → ChainEnd → Rest → List Chain
chains_with start start_end rest =
    record { start = start; start_end = start_end; steps = rest.steps; end = rest.end } ∷ rest.later

-- the chains of a path: the first starts round
abbrev pub chains_of : ℕ → List Circle → List Chain
chains_of unit [] = []
chains_of unit (c ∷ cs) = chains_with c Round (rest_of Round (steps_from unit None c cs))
