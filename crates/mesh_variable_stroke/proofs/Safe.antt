-- Lemmas over points: sections and circles of a path in the safe range.
use Rattle.std.proofs.Common.{◌≡◌, ℕ, List, [], ◌∷◌, ◌∙◌, arith}
use Rattle.std.specs.Prelude.{ℤ, pos, negsuc, ◌≤ℤ◌, false, not}
use Rattle.std.specs.Int.{int_max}
use Rattle.std.specs.List.{All}
use Rattle.std.proofs.lemmas.Bool.{not-false}
use Rattle.std.proofs.lemmas.Int.{ints, clamps}
use Rattle.std.proofs.lemmas.List.Elements.{All-nil, All-cons, All-head, All-tail}
use Rattle.mesh_plane.specs.Bounds.{IsSafe}
use Rattle.mesh_plane.specs.Plane.{Point}
use Rattle.mesh_plane.specs.Winding.{same_point}
use Rattle.mesh_plane.proofs.Comparing.{decides_point}
use Rattle.mesh_num.specs.Rectangle.{IsSafeWidened}
use Rattle.mesh_join.specs.VariableStyles.{Vertex}
use Rattle.mesh_offset.specs.Radii.{radius_of}
use Rattle.mesh_offset.proofs.Padding.{safe_within_less}
use Rattle.mesh_circle.specs.Sweeps.{distance, IsSwept}
use Rattle.mesh_circle.specs.Sections.{Circle, Section, IsSafeCircle, IsContact}
use Rattle.mesh_variable_stroke.specs.Private.Walks.{IsGoodSection, IsGoodJoint}
use Rattle.mesh_variable_stroke.specs.Chains.{circle_of}
use Rattle.mesh_variable_stroke.specs.Drawn.{greatest_radius, AreStrokable}
use Rattle.mesh_variable_stroke.specs.VariableStrokes.{SectionPair, is_apart}

-- an arc from a contact of a circle round its center
pub contact_swept : (unit : ℕ) (c : Circle) (x y : Point) → IsSafeCircle unit c → IsContact c x → IsSafe unit x → IsSafe unit y →
    IsSwept unit c.center x y
unfolding distance
contact_swept unit c x y h contact sx sy = record {
  center = safe_within_less unit c.radius (pos (distance c.center x)) c.center (omega (arith, ints)) (omega (arith, ints, contact.length, h.nonneg)) h.safe;
  from = sx;
  to = sy;
}

-- the ends of a section, which the code sees field by field
pub start_swept : (unit : ℕ) (s t : Section) (c : Point) → t ≡ s → c ≡ s.a.center → IsGoodSection unit s → IsSwept unit c t.a_left t.a_right
start_swept unit s t c e f h =
    rw (e, f) (contact_swept unit s.a s.a_left s.a_right h.a h.contacts.a_left h.safe.a_left h.safe.a_right)

pub end_swept : (unit : ℕ) (s t : Section) (c : Point) → t ≡ s → c ≡ s.b.center → IsGoodSection unit s → IsSwept unit c t.b_right t.b_left
end_swept unit s t c e f h =
    rw (e, f) (contact_swept unit s.b s.b_right s.b_left h.b h.contacts.b_right h.safe.b_right h.safe.b_left)

-- arcs at a joint
pub right_swept : (unit : ℕ) (j : SectionPair) (p n : Section) (c : Point) → p ≡ j.0 → n ≡ j.1 → c ≡ j.0.b.center → IsGoodJoint unit j →
    IsSwept unit c p.b_right n.a_right
right_swept unit j p n c e f g h =
    rw (e, f, g)
    (contact_swept unit j.0.b j.0.b_right j.1.a_right h.previous.b h.previous.contacts.b_right h.previous.safe.b_right h.next.safe.a_right)

-- sections that are not apart meet
pub met_at : (p q : Point) → not (same_point p q) ≡ false → p ≡ q
met_at p q h = (decides_point p q).0 (not-false (same_point p q) h)

pub left_swept : (unit : ℕ) (j : SectionPair) (p n : Section) (c : Point) → p ≡ j.0 → n ≡ j.1 → c ≡ j.0.b.center → IsGoodJoint unit j →
    is_apart j ≡ false → IsSwept unit c n.a_left p.b_left
left_swept unit j p n c e f g h met =
    rw (e, f, g ∙ met_at j.0.b.center j.1.a.center met)
    (contact_swept unit j.1.a j.1.a_left j.0.b_left h.next.a h.next.contacts.a_left h.next.safe.a_left h.previous.safe.b_left)

-- ---- vertices

pub radius_least : (width : ℤ) → pos 0 ≤ℤ radius_of width
radius_least (pos w) = omega (arith, ints)
radius_least (negsuc w) = omega (arith, ints)

-- a vertex is within the greatest radius
vertex_safe : (unit : ℕ) (greatest : ℤ) (v : Vertex) → radius_of v.width ≤ℤ greatest → IsSafeWidened unit greatest v.point → IsSafeCircle unit (circle_of v)
vertex_safe unit greatest v most h = record {
  nonneg = radius_least v.width;
  safe = safe_within_less unit greatest (radius_of v.width) v.point (radius_least v.width) most h;
}

abbrev pub IsSafeVertex : ℕ → Vertex → Type 0
IsSafeVertex unit v = IsSafeCircle unit (circle_of v)

vertices_safe : (unit : ℕ) (greatest : ℤ) (vs : List Vertex) → greatest_radius vs ≤ℤ greatest → AreStrokable unit greatest vs → All (IsSafeVertex unit) vs
unfolding greatest_radius
vertices_safe unit greatest [] most h = All-nil (IsSafeVertex unit)
vertices_safe unit greatest (v ∷ vs) most h =
    let own : radius_of v.width ≤ℤ int_max (radius_of v.width) (greatest_radius vs) = omega (arith, ints, clamps) in
    let others : greatest_radius vs ≤ℤ int_max (radius_of v.width) (greatest_radius vs) = omega (arith, ints, clamps) in
    All-cons (IsSafeVertex unit) v vs
    (vertex_safe unit greatest v (omega (arith, ints, own, most)) (All-head (λ (w : Vertex). IsSafeWidened unit greatest w.point) v vs h))
    (vertices_safe unit greatest vs (omega (arith, ints, others, most)) (All-tail (λ (w : Vertex). IsSafeWidened unit greatest w.point) v vs h))

pub path_safe : (unit : ℕ) (vs : List Vertex) → AreStrokable unit (greatest_radius vs) vs → All (IsSafeVertex unit) vs
path_safe unit vs h = vertices_safe unit (greatest_radius vs) vs (omega (arith, ints)) h
