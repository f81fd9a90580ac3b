-- Lemmas over points and lists: how far a stroke of changing width reaches from its path.
use Rattle.std.proofs.Common.{◌≡◌, ℕ, ◌*◌, ◌<◌, ◌≤◌, ◌^◌, List, [], ◌∷◌, ◌++◌, Bool, true, false, not, refl}
use Rattle.std.proofs.Common.{sym, subst, arith}
use Rattle.std.specs.Prelude.{ℤ, pos, ◌≤ℤ◌, unsigned_abs, ◌||◌, ◌&&◌, int_le, if◌then◌else◌, Option, Some, None}
use Rattle.std.specs.Int.{int_max}
use Rattle.std.specs.List.{All, Contains, flat_map}
use Rattle.std.specs.Option.{option_to_list}
use Rattle.std.proofs.lemmas.Bool.{cond_both, leb-false, not-false, or_parts}
use Rattle.std.proofs.lemmas.Int.{ints, clamps}
use Rattle.std.proofs.lemmas.List.Elements.{All-nil, All-cons, All-head, All-tail, All-append, All-filter, All-map}
use Rattle.std.proofs.lemmas.List.Elements.{All-weaker, All-contains_itself}
use Rattle.std.proofs.lemmas.Nat.{mul-lt}
use Rattle.mesh_plane.specs.Plane.{Point, Edge, minus, length_sq}
use Rattle.mesh_plane.specs.Winding.{route, same_point}
use Rattle.mesh_plane.proofs.ClosedLists.{all_both, all_flat_map, all_mapped}
use Rattle.mesh_plane.proofs.Comparing.{decides_point}
use Rattle.mesh_plane.specs.Turning.{last_of}
use Rattle.mesh_arc.specs.declared.arc.ArcOptions.{ArcOptions}
use Rattle.mesh_join.specs.Joints.{IsWithinPadding, StaysWithin}
use Rattle.mesh_join.specs.VariableStyles.{Vertex}
use Rattle.mesh_offset.specs.Padding.{IsNear}
use Rattle.mesh_offset.specs.Radii.{radius_of}
use Rattle.mesh_offset.specs.Walks.{pairs}
use Rattle.mesh_offset.proofs.Walks.{pairs_all, last_all}
use Rattle.mesh_circle.specs.Sections.{Circle, Section, IsContact, HasContacts, is_nested, has_no_section}
use Rattle.mesh_circle.specs.Sections.{radius_difference, left_contact, right_contact, with_contacts, section_of}
use Rattle.mesh_circle.specs.Tangents.{lift, left_normal, right_normal, normal_length, left_offset, right_offset}
use Rattle.mesh_circle.proofs.Circles.{contact_made}
use Rattle.mesh_circle.proofs.Contacts.{left_normal_most, right_normal_most, at_radius_within}
use Rattle.mesh_circle.proofs.Lifts.{lift_some}
use Rattle.mesh_circle.specs.declared.sweep.Sweep.{Sweep}
use Rattle.mesh_circle.specs.declared.sweep.Sweep.TheVariants.{Minor, Major}
use Rattle.mesh_circle.specs.Sweeps.{distance, arc_edges, circle_edges}
use Rattle.mesh_circle.proofs.Nearness.{circle_within, arc_within}
use Rattle.mesh_variable_stroke.specs.Chains.{circle_of, circles_of, Step, steps_from, is_break, is_cover}
use Rattle.mesh_variable_stroke.specs.Chains.{end_after, Chain, Rest, broken, covered, continued, rest_of}
use Rattle.mesh_variable_stroke.specs.Chains.{chains_of}
use Rattle.mesh_variable_stroke.specs.Drawn.{vertex_points, greatest_radius}
use Rattle.mesh_variable_stroke.specs.declared.chain_end.ChainEnd.{ChainEnd}
use Rattle.mesh_variable_stroke.specs.declared.chain_end.ChainEnd.TheVariants.{Butt, Round}
use Rattle.mesh_variable_stroke.specs.VariableStrokes.{side_edges, sweep_at, start_edges, end_edges, SectionPair, is_apart}
use Rattle.mesh_variable_stroke.specs.VariableStrokes.{has_left_arc, has_right_arc, left_edges, right_edges}
use Rattle.mesh_variable_stroke.specs.VariableStrokes.{joint_edges, sections_of, are_butt}
use Rattle.mesh_variable_stroke.specs.VariableStrokes.{bare_edges, edges_with, chain_edges}
use Rattle.mesh_variable_stroke.specs.VariableStrokes.{variable_stroke_edges}
use Rattle.mesh_variable_stroke.proofs.Safe.{radius_least}

-- ---- the points of sections

module _ (unit : ℕ) (a b : Circle) (apart : is_nested a b ≡ false) where
  abbrev between : Point
  between = minus b.center a.center

  abbrev delta : ℤ
  delta = radius_difference a b

  far : unsigned_abs delta * unsigned_abs delta < length_sq between
  far = leb-false (length_sq between) (unsigned_abs delta * unsigned_abs delta) apart

  normal_some : 0 < normal_length unit between
  normal_some =
      mul-lt 0 0 (length_sq between) (lift unit (length_sq between)) (omega (arith, far))
      (lift_some unit (length_sq between))

  left_by : (c : Circle) → pos 0 ≤ℤ c.radius → IsContact c (left_contact unit a b c)
  unfolding left_contact
  left_by c sign =
      contact_made c (left_contact unit a b c) (left_offset unit between delta c.radius) refl
      (at_radius_within (normal_length unit between) c.radius (left_normal unit between delta) sign normal_some
      (left_normal_most unit between delta (omega (arith, far))))

  right_by : (c : Circle) → pos 0 ≤ℤ c.radius → IsContact c (right_contact unit a b c)
  unfolding right_contact
  right_by c sign =
      contact_made c (right_contact unit a b c) (right_offset unit between delta c.radius) refl
      (at_radius_within (normal_length unit between) c.radius (right_normal unit between delta) sign normal_some
      (right_normal_most unit between delta (omega (arith, far))))

  contacts_by : pos 0 ≤ℤ a.radius → pos 0 ≤ℤ b.radius → HasContacts (with_contacts unit a b)
  contacts_by sign_a sign_b = record {
    a_left = left_by a sign_a;
    a_right = right_by a sign_a;
    b_left = left_by b sign_b;
    b_right = right_by b sign_b;
  }

-- ---- what lies on a path

-- a circle round one of the points, no greater than the reach
record IsOnPath (reach : ℤ) (points : List Point) (c : Circle) : Type 0 where
  listed : Contains points c.center
  sign : pos 0 ≤ℤ c.radius
  covered : c.radius ≤ℤ reach

-- a section of two such circles
record IsPlaced (reach : ℤ) (points : List Point) (s : Section) : Type 0 where
  a : IsOnPath reach points s.a
  b : IsOnPath reach points s.b
  contacts : HasContacts s

-- a step between two such circles
record IsStepPlaced (reach : ℤ) (points : List Point) (s : Step) : Type 0 where
  sections : All (IsPlaced reach points) (option_to_list s.section)
  a : IsOnPath reach points s.a
  b : IsOnPath reach points s.b

-- a chain of such steps
record IsChainPlaced (reach : ℤ) (points : List Point) (chain : Chain) : Type 0 where
  start : IsOnPath reach points chain.start
  steps : All (IsStepPlaced reach points) chain.steps

record IsRestPlaced (reach : ℤ) (points : List Point) (rest : Rest) : Type 0 where
  steps : All (IsStepPlaced reach points) rest.steps
  later : All (IsChainPlaced reach points) rest.later

-- a point is away from `v` by at most the reach in each coordinate, and so is its cut distance
record IsRound (reach : ℤ) (v p : Point) : Type 0 where
  within : IsWithinPadding reach v p
  distance : pos (distance v p) ≤ℤ reach

module _ (unit : ℕ) (some : 0 < unit) (options : ArcOptions) (reach : ℤ) (points : List Point) where
  abbrev EndsNear : Edge → Type 0
  EndsNear e = IsNear reach points e.0 × IsNear reach points e.1

  abbrev OnPath : Circle → Type 0
  OnPath = IsOnPath reach points

  abbrev Placed : Section → Type 0
  Placed = IsPlaced reach points

  abbrev StepPlaced : Step → Type 0
  StepPlaced = IsStepPlaced reach points

  abbrev ChainPlaced : Chain → Type 0
  ChainPlaced = IsChainPlaced reach points

  -- ---- near one of the points

  near_by : (v p : Point) → Contains points v → IsWithinPadding reach v p → IsNear reach points p
  near_by v p listed within = record { vertex = v; listed = listed; within = within }

  stays_near : (v : Point) (es : List Edge) → Contains points v → StaysWithin reach v es → All EndsNear es
  stays_near v es listed h =
      All-weaker (λ (e : Edge). IsWithinPadding reach v e.0 × IsWithinPadding reach v e.1) EndsNear
      (λ e w. (near_by v e.0 listed w.0, near_by v e.1 listed w.1)) es h

  -- a point of a circle
  round : (c : Circle) (p : Point) → OnPath c → IsContact c p → IsRound reach c.center p
  unfolding distance
  round c p on contact = record {
    within = record {
      west = omega (arith, ints, on.sign, on.covered, contact.x);
      south = omega (arith, ints, on.sign, on.covered, contact.y);
      east = omega (arith, ints, on.sign, on.covered, contact.x);
      north = omega (arith, ints, on.sign, on.covered, contact.y);
    };
    distance = omega (arith, ints, on.sign, on.covered, contact.length);
  }

  arc_near : (v x y : Point) (aligned : Sweep) → Contains points v → IsRound reach v x → IsRound reach v y →
      All EndsNear (arc_edges unit options v x y aligned)
  arc_near v x y aligned listed hx hy =
      stays_near v (arc_edges unit options v x y aligned) listed
      (arc_within unit options v x y aligned reach some
      (record { from = hx.within; to = hy.within; distance = hx.distance }))

  edge_near : (v w x y : Point) → Contains points v → Contains points w → IsRound reach v x → IsRound reach w y →
      All EndsNear (route x [] y)
  edge_near v w x y listed_v listed_w hx hy =
      All-cons EndsNear (x, y) [] (near_by v x listed_v hx.within, near_by w y listed_w hy.within) (All-nil EndsNear)

  -- ---- along sections, at ends and at joints

  sides_near : (s : Section) → Placed s → All EndsNear (side_edges s)
  sides_near s h =
      All-append EndsNear (route s.b_left [] s.a_left) (route s.a_right [] s.b_right)
      (edge_near s.b.center s.a.center s.b_left s.a_left h.b.listed h.a.listed
      (round s.b s.b_left h.b h.contacts.b_left) (round s.a s.a_left h.a h.contacts.a_left))
      (edge_near s.a.center s.b.center s.a_right s.b_right h.a.listed h.b.listed
      (round s.a s.a_right h.a h.contacts.a_right) (round s.b s.b_right h.b h.contacts.b_right))

  start_near : (end : ChainEnd) (s : Section) → Placed s → All EndsNear (start_edges unit options end s)
  start_near Butt s h =
      edge_near s.a.center s.a.center s.a_left s.a_right h.a.listed h.a.listed
      (round s.a s.a_left h.a h.contacts.a_left) (round s.a s.a_right h.a h.contacts.a_right)
  start_near Round s h =
      arc_near s.a.center s.a_left s.a_right (sweep_at s.a s.b) h.a.listed (round s.a s.a_left h.a h.contacts.a_left)
      (round s.a s.a_right h.a h.contacts.a_right)

  end_near : (end : ChainEnd) (s : Section) → Placed s → All EndsNear (end_edges unit options end s)
  end_near Butt s h =
      edge_near s.b.center s.b.center s.b_right s.b_left h.b.listed h.b.listed
      (round s.b s.b_right h.b h.contacts.b_right) (round s.b s.b_left h.b h.contacts.b_left)
  end_near Round s h =
      arc_near s.b.center s.b_right s.b_left (sweep_at s.b s.a) h.b.listed
      (round s.b s.b_right h.b h.contacts.b_right) (round s.b s.b_left h.b h.contacts.b_left)

  -- an arc, or the edge between its ends alone
  side_near : (curved : Bool) (v x y : Point) (aligned : Sweep) → Contains points v → IsRound reach v x →
      IsRound reach v y → All EndsNear (if curved then arc_edges unit options v x y aligned else route x [] y)
  side_near true v x y aligned listed hx hy = arc_near v x y aligned listed hx hy
  side_near false v x y aligned listed hx hy = edge_near v v x y listed listed hx hy

  met_near : (j : SectionPair) → Placed j.0 → Placed j.1 → j.0.b.center ≡ j.1.a.center →
      All EndsNear (left_edges unit options j ++ right_edges unit options j)
  met_near j p n met =
      All-append EndsNear (left_edges unit options j) (right_edges unit options j)
      (side_near (has_left_arc j) v j.1.a_left j.0.b_left Minor p.b.listed (next j.1.a_left n.contacts.a_left)
      (round j.0.b j.0.b_left p.b p.contacts.b_left))
      (side_near (has_right_arc j) v j.0.b_right j.1.a_right Major p.b.listed
      (round j.0.b j.0.b_right p.b p.contacts.b_right) (next j.1.a_right n.contacts.a_right))
    where
      v : Point
      v = j.0.b.center

      next : (q : Point) → IsContact j.1.a q → IsRound reach v q
      next q contact = subst (λ (c : Point). IsRound reach c q) (sym met) (round j.1.a q n.a contact)

  joint_near : (j : SectionPair) → Placed j.0 × Placed j.1 → All EndsNear (joint_edges unit options j)
  joint_near j h =
      cond_both (is_apart j) (end_edges unit options Butt j.0 ++ start_edges unit options Butt j.1)
      (left_edges unit options j ++ right_edges unit options j) (All EndsNear)
      (λ _. All-append EndsNear (end_edges unit options Butt j.0) (start_edges unit options Butt j.1)
      (end_near Butt j.0 h.0) (start_near Butt j.1 h.1))
      (λ e. met_near j h.0 h.1
      ((decides_point j.0.b.center j.1.a.center).0 (not-false (same_point j.0.b.center j.1.a.center) e)))

  -- ---- along chains

  bare_near : (chain : Chain) (steps : List Step) → OnPath chain.start →
      All EndsNear (bare_edges unit options chain steps)
  bare_near chain [] h =
      cond_both (are_butt chain.start_end chain.end) []
      (circle_edges unit options chain.start.center chain.start.radius) (All EndsNear)
      (λ _. All-nil EndsNear)
      (λ _. stays_near chain.start.center (circle_edges unit options chain.start.center chain.start.radius) h.listed
      (circle_within unit options chain.start.center chain.start.radius reach some h.covered))
  bare_near chain (s ∷ ss) h = All-nil EndsNear

  along_near : (chain : Chain) (sections : List Section) → OnPath chain.start → All Placed sections →
      All EndsNear (edges_with unit options chain sections)
  along_near chain [] start h = bare_near chain chain.steps start
  along_near chain (s ∷ ss) start h =
      All-append EndsNear (flat_map side_edges (s ∷ ss)) (joints ++ (first ++ last))
      (all_flat_map EndsNear side_edges (s ∷ ss)
      (All-weaker Placed (λ t. All EndsNear (side_edges t)) sides_near (s ∷ ss) h))
      (All-append EndsNear joints (first ++ last)
      (all_flat_map EndsNear (joint_edges unit options) (pairs (s ∷ ss))
      (All-weaker (λ (j : SectionPair). Placed j.0 × Placed j.1) (λ j. All EndsNear (joint_edges unit options j)) joint_near
      (pairs (s ∷ ss)) (pairs_all Placed (s ∷ ss) h)))
      (All-append EndsNear first last (start_near chain.start_end s (All-head Placed s ss h))
      (end_near chain.end (last_of s ss) (last_all Placed s ss h))))
    where
      joints : List Edge
      joints = flat_map (joint_edges unit options) (pairs (s ∷ ss))

      first : List Edge
      first = start_edges unit options chain.start_end s

      last : List Edge
      last = end_edges unit options chain.end (last_of s ss)

  chain_near : (chain : Chain) → ChainPlaced chain → All EndsNear (chain_edges unit options chain)
  chain_near chain h =
      along_near chain (sections_of chain.steps) h.start
      (all_flat_map Placed (λ (s : Step). option_to_list s.section) chain.steps
      (All-weaker StepPlaced (λ (s : Step). All Placed (option_to_list s.section)) (λ s k. k.sections) chain.steps
      h.steps))

  -- ---- the chains of a path

  section_placed : (a b : Circle) → OnPath a → OnPath b → All Placed (option_to_list (section_of unit a b))
  section_placed a b ha hb =
      cond_both (has_no_section a b) None (Some (with_contacts unit a b))
      (λ (o : Option Section). All Placed (option_to_list o))
      (λ _. All-nil Placed)
      (λ e. All-cons Placed (with_contacts unit a b) []
      (record { a = ha; b = hb; contacts = contacts_by unit a b (apart e) ha.sign hb.sign }) (All-nil Placed))
    where
      dots : Bool
      dots = int_le a.radius (pos 1) && int_le b.radius (pos 1)

      apart : has_no_section a b ≡ false → is_nested a b ≡ false
      apart e =
          (or_parts dots (is_nested a b)
          (or_parts (same_point a.center b.center) (dots || is_nested a b) e).1).1

  steps_placed : (before : Option Section) (a : Circle) (bs : List Circle) → OnPath a → All OnPath bs →
      All StepPlaced (steps_from unit before a bs)
  steps_placed before a [] ha h = All-nil StepPlaced
  steps_placed before a (b ∷ bs) ha h =
      let hb : OnPath b = All-head OnPath b bs h in
      All-cons StepPlaced (record { before = before; section = section_of unit a b; a = a; b = b })
      (steps_from unit (section_of unit a b) b bs)
      (record { sections = section_placed a b ha hb; a = ha; b = hb })
      (steps_placed (section_of unit a b) b bs hb (All-tail OnPath b bs h))

  abbrev RestPlaced : Rest → Type 0
  RestPlaced = IsRestPlaced reach points

  broken_placed : (s : Step) (rest : Rest) → StepPlaced s → RestPlaced rest → RestPlaced (broken s rest)
  broken_placed s rest hs h = record {
    steps = All-nil StepPlaced;
    later =
        All-cons ChainPlaced
        (record { start = s.b; start_end = end_after s.a s.b; steps = rest.steps; end = rest.end }) rest.later
        (record { start = hs.b; steps = h.steps }) h.later;
  }

  covered_placed : (s : Step) (rest : Rest) → StepPlaced s → RestPlaced rest → RestPlaced (covered s rest)
  covered_placed s rest hs h = record {
    steps = All-nil StepPlaced;
    later =
        All-cons ChainPlaced
        (record { start = s.a; start_end = Butt; steps = s ∷ rest.steps; end = rest.end }) rest.later
        (record { start = hs.a; steps = All-cons StepPlaced s rest.steps hs h.steps }) h.later;
  }

  rest_placed : (end : ChainEnd) (ss : List Step) → All StepPlaced ss → RestPlaced (rest_of end ss)
  unfolding rest_of
  rest_placed end [] h = record { steps = All-nil StepPlaced; later = All-nil ChainPlaced }
  rest_placed end (s ∷ ss) h =
      let hs : StepPlaced s = All-head StepPlaced s ss h in
      let tail : All StepPlaced ss = All-tail StepPlaced s ss h in
      let plain : RestPlaced (rest_of Round ss) = rest_placed Round ss tail in
      let butt : RestPlaced (rest_of Butt ss) = rest_placed Butt ss tail in
      cond_both (is_break s) (broken s (rest_of Round ss))
      (if is_cover s then covered s (rest_of Butt ss) else continued s (rest_of Round ss)) RestPlaced
      (λ _. broken_placed s (rest_of Round ss) hs plain)
      (λ _. cond_both (is_cover s) (covered s (rest_of Butt ss)) (continued s (rest_of Round ss)) RestPlaced
      (λ _. covered_placed s (rest_of Butt ss) hs butt)
      (λ _. record { steps = All-cons StepPlaced s (rest_of Round ss).steps hs plain.steps; later = plain.later }))

  chains_placed : (circles : List Circle) → All OnPath circles → All ChainPlaced (chains_of unit circles)
  chains_placed [] h = All-nil ChainPlaced
  chains_placed (c ∷ cs) h =
      let on : OnPath c = All-head OnPath c cs h in
      let rest : Rest = rest_of Round (steps_from unit None c cs) in
      let placed : RestPlaced rest =
      rest_placed Round (steps_from unit None c cs) (steps_placed None c cs on (All-tail OnPath c cs h)) in
      All-cons ChainPlaced (record { start = c; start_end = Round; steps = rest.steps; end = rest.end }) rest.later
      (record { start = on; steps = placed.steps }) placed.later

-- ---- the circles of a path

max_first : (x y : ℤ) → x ≤ℤ int_max x y
max_first x y = omega (arith, ints, clamps)

max_second : (x y : ℤ) → y ≤ℤ int_max x y
max_second x y = omega (arith, ints, clamps)

abbrev AtMost : ℤ → Vertex → Type 0
AtMost reach v = radius_of v.width ≤ℤ reach

greatest_covers : (vertices : List Vertex) → All (AtMost (greatest_radius vertices)) vertices
unfolding greatest_radius
greatest_covers [] = All-nil (AtMost (pos 0))
greatest_covers (v ∷ vs) =
    let rest : ℤ = greatest_radius vs in
    let greatest : ℤ = int_max (radius_of v.width) rest in
    let more : rest ≤ℤ greatest = max_second (radius_of v.width) rest in
    All-cons (AtMost greatest) v vs (max_first (radius_of v.width) rest)
    (All-weaker (AtMost rest) (AtMost greatest) (λ w h. omega (arith, ints, h, more)) vs (greatest_covers vs))

circles_on_path : (vertices : List Vertex) →
    All (IsOnPath (greatest_radius vertices) (vertex_points vertices)) (circles_of vertices)
circles_on_path vertices =
    All-map (IsOnPath (greatest_radius vertices) (vertex_points vertices)) circle_of vertices
    (All-weaker (λ (v : Vertex). Contains (vertex_points vertices) v.point × AtMost (greatest_radius vertices) v)
    (λ v. IsOnPath (greatest_radius vertices) (vertex_points vertices) (circle_of v))
    (λ v h. record { listed = h.0; sign = radius_least v.width; covered = h.1 }) vertices
    (all_both (λ (v : Vertex). Contains (vertex_points vertices) v.point) (AtMost (greatest_radius vertices)) vertices
    (all_mapped (Contains (vertex_points vertices)) (λ (v : Vertex). v.point) vertices
    (All-contains_itself (vertex_points vertices)))
    (greatest_covers vertices)))

-- all that is drawn along a path is away from one of its points by at most the greatest radius in each coordinate
pub variable_near : (unit : ℕ) → 2 ^ 14 ≤ unit → (options : ArcOptions) (vertices : List Vertex)
    → All (λ (e : Edge). IsNear (greatest_radius vertices) (vertex_points vertices) e.0
    × IsNear (greatest_radius vertices) (vertex_points vertices) e.1) (variable_stroke_edges unit options vertices)
unfolding variable_stroke_edges
variable_near unit least options vertices =
    All-filter (λ (e : Edge). not (same_point e.0 e.1)) Near (flat_map (chain_edges unit options) chains)
    (all_flat_map Near (chain_edges unit options) chains
    (All-weaker (IsChainPlaced reach points) (λ (chain : Chain). All Near (chain_edges unit options chain))
    (chain_near unit some options reach points) chains
    (chains_placed unit some options reach points (circles_of vertices) (circles_on_path vertices))))
  where
    reach : ℤ
    reach = greatest_radius vertices

    points : List Point
    points = vertex_points vertices

    Near : Edge → Type 0
    Near e = IsNear reach points e.0 × IsNear reach points e.1

    chains : List Chain
    chains = chains_of unit (circles_of vertices)

    some : 0 < unit
    some = omega (arith, least)
