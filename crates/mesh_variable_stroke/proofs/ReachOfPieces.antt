-- Lemmas over points and lists: the pieces of a stroke of variable width lie along its vertices and sections.
use Rattle.std.proofs.Common.{◌≡◌, ℕ, ◌*◌, ◌<◌, ◌≤◌, ◌^◌, ⊎_elim, inl, inr, List, [], ◌∷◌, ◌++◌, Bool, true, false}
use Rattle.std.proofs.Common.{◌∙◌, get_or, refl, sym, subst, map, arith}
use Rattle.std.specs.Prelude.{IsTrue, ℤ, pos, ◌≤ℤ◌, unsigned_abs, ◌||◌, ◌&&◌, int_le, if◌then◌else◌, Option, Some, None}
use Rattle.std.specs.Prelude.{max}
use Rattle.std.specs.List.{All, Contains, flat_map}
use Rattle.std.specs.Option.{option_to_list}
use Rattle.std.proofs.lemmas.Bool.{cases_lt, cond_both, leb-false, not-false, or_parts}
use Rattle.std.proofs.lemmas.List.Elements.{All-nil, All-cons, All-head, All-tail, All-append, All-map, All-weaker}
use Rattle.std.proofs.lemmas.List.Elements.{All-contains_itself}
use Rattle.std.proofs.lemmas.Nat.{mul-lt}
use Rattle.mesh_plane.specs.Plane.{Point, Edge, minus, length_sq}
use Rattle.mesh_plane.specs.Turning.{last_of}
use Rattle.mesh_plane.specs.Winding.{holds, same_point, crossing_on, pieces_total}
use Rattle.mesh_plane.proofs.ClosedLists.{all_both, all_flat_map, all_left, all_mapped, all_right}
use Rattle.mesh_plane.proofs.Comparing.{decides_point}
use Rattle.mesh_plane.proofs.Crossings.{crossing_on_odd}
use Rattle.mesh_arc.specs.declared.arc.ArcOptions.{ArcOptions}
use Rattle.mesh_join.specs.VariableStyles.{Vertex}
use Rattle.mesh_reach.specs.Joins.{rounded_reach}
use Rattle.mesh_reach.specs.Reach.{IsByEnd}
use Rattle.mesh_reach.proofs.JoinPoints.{IsBy, by_more, moved_by}
use Rattle.mesh_reach.proofs.Lists.{lists_reach}
use Rattle.mesh_reach.proofs.Pieces.{held_one}
use Rattle.mesh_reach.proofs.Rounded.{rounded_reach_more}
use Rattle.mesh_offset.specs.Pieces.{WindAsPieces}
use Rattle.mesh_offset.specs.Walks.{pairs}
use Rattle.mesh_offset.proofs.Walks.{pairs_all, last_all}
use Rattle.mesh_circle.specs.Sections.{Circle, Section, IsContact, is_nested, has_no_section, radius_difference}
use Rattle.mesh_circle.specs.Sections.{left_contact, right_contact, with_contacts, section_of}
use Rattle.mesh_circle.specs.Sweeps.{distance, arc_pieces, circle_pieces}
use Rattle.mesh_circle.specs.Tangents.{lift, left_normal, right_normal, normal_length, left_offset, right_offset}
use Rattle.mesh_circle.specs.declared.sweep.Sweep.TheVariants.{Minor, Major}
use Rattle.mesh_circle.proofs.Circles.{contact_made}
use Rattle.mesh_circle.proofs.Contacts.{left_normal_most, right_normal_most, at_radius_within}
use Rattle.mesh_circle.proofs.Lifts.{lift_some}
use Rattle.mesh_variable_stroke.specs.Chains.{circle_of, circles_of, Step, steps_from, is_break, is_cover, end_after}
use Rattle.mesh_variable_stroke.specs.Chains.{Chain, Rest, broken, covered, continued, rest_of, chains_of}
use Rattle.mesh_variable_stroke.specs.declared.chain_end.ChainEnd.{ChainEnd}
use Rattle.mesh_variable_stroke.specs.declared.chain_end.ChainEnd.TheVariants.{Butt, Round}
use Rattle.mesh_variable_stroke.specs.VariableStrokes.{section_piece, sweep_at, start_pieces, end_pieces, SectionPair}
use Rattle.mesh_variable_stroke.specs.VariableStrokes.{is_apart, has_left_arc, has_right_arc, left_pieces, right_pieces}
use Rattle.mesh_variable_stroke.specs.VariableStrokes.{joint_piece, joint_pieces, sections_of, are_butt, bare_pieces}
use Rattle.mesh_variable_stroke.specs.VariableStrokes.{pieces_with, chain_pieces, variable_stroke_edges}
use Rattle.mesh_variable_stroke.specs.VariableStrokes.{variable_stroke_pieces}
use Rattle.mesh_variable_stroke.specs.Reach.{Span, span_round, span_between, spans_of, path_spans, IsReachedBySpan}
use Rattle.mesh_variable_stroke.specs.Reach.{HoldsBySpans, WindWithinReach}
use Rattle.mesh_variable_stroke.proofs.Safe.{radius_least}
use Rattle.mesh_variable_stroke.proofs.Sums.{variable_total}
use Rattle.mesh_variable_stroke.proofs.ReachOfArcs.{IsAlongSpan, HasRound, normal_reach, round_along, circle_along}
use Rattle.mesh_variable_stroke.proofs.ReachOfArcs.{arc_along}

-- how far a circle reaches
abbrev pub reach : Circle → ℕ
reach c = rounded_reach (unsigned_abs c.radius)

-- ---- the points of sections

-- a point where a tangent touches a circle
pub record IsTouched (c : Circle) (p : Point) : Type 0 where
  pub by : IsBy (reach c) c.center p
  pub distance_most : distance c.center p ≤ unsigned_abs c.radius

pub record IsTouching (s : Section) : Type 0 where
  pub a_left : IsTouched s.a s.a_left
  pub a_right : IsTouched s.a s.a_right
  pub b_left : IsTouched s.b s.b_left
  pub b_right : IsTouched s.b s.b_right

module _ (unit : ℕ) (a b : Circle) (apart : is_nested a b ≡ false) where
  abbrev between : Point
  between = minus b.center a.center

  abbrev delta : ℤ
  delta = radius_difference a b

  far : unsigned_abs delta * unsigned_abs delta < length_sq between
  far = leb-false (length_sq between) (unsigned_abs delta * unsigned_abs delta) apart

  normal_some : 0 < normal_length unit between
  normal_some =
      mul-lt 0 0 (length_sq between) (lift unit (length_sq between)) (omega (arith, far))
      (lift_some unit (length_sq between))

  left_touched : (c : Circle) → pos 0 ≤ℤ c.radius → IsTouched c (left_contact unit a b c)
  unfolding left_contact distance
  left_touched c sign =
      let most = left_normal_most unit between delta (omega (arith, far)) in
      let offset : Point = left_offset unit between delta c.radius in
      let contact : IsContact c (left_contact unit a b c) =
      contact_made c (left_contact unit a b c) offset refl
      (at_radius_within (normal_length unit between) c.radius (left_normal unit between delta) sign normal_some most) in
      record {
        by =
            moved_by (reach c) c.center offset
            (normal_reach (normal_length unit between) c.radius
            (left_normal unit between delta) normal_some most);
        distance_most = contact.length;
      }

  right_touched : (c : Circle) → pos 0 ≤ℤ c.radius → IsTouched c (right_contact unit a b c)
  unfolding right_contact distance
  right_touched c sign =
      let most = right_normal_most unit between delta (omega (arith, far)) in
      let offset : Point = right_offset unit between delta c.radius in
      let contact : IsContact c (right_contact unit a b c) =
      contact_made c (right_contact unit a b c) offset refl
      (at_radius_within (normal_length unit between) c.radius (right_normal unit between delta) sign normal_some most)
      in
      record {
        by =
            moved_by (reach c) c.center offset
            (normal_reach (normal_length unit between) c.radius
            (right_normal unit between delta) normal_some most);
        distance_most = contact.length;
      }

  touching : pos 0 ≤ℤ a.radius → pos 0 ≤ℤ b.radius → IsTouching (with_contacts unit a b)
  touching sign_a sign_b = record {
    a_left = left_touched a sign_a;
    a_right = right_touched a sign_a;
    b_left = left_touched b sign_b;
    b_right = right_touched b sign_b;
  }

-- ---- what lies on a path

pub record IsOnPath (spans : List Span) (c : Circle) : Type 0 where
  pub listed : Contains spans (span_round c)
  pub sign : pos 0 ≤ℤ c.radius

pub record IsPlaced (spans : List Span) (s : Section) : Type 0 where
  pub between : Contains spans (span_between (s.a, s.b))
  pub a : IsOnPath spans s.a
  pub b : IsOnPath spans s.b
  pub touching : IsTouching s

pub record IsStepPlaced (spans : List Span) (s : Step) : Type 0 where
  pub sections : All (IsPlaced spans) (option_to_list s.section)
  pub a : IsOnPath spans s.a
  pub b : IsOnPath spans s.b

pub record IsChainPlaced (spans : List Span) (chain : Chain) : Type 0 where
  pub start : IsOnPath spans chain.start
  pub steps : All (IsStepPlaced spans) chain.steps

pub record IsRestPlaced (spans : List Span) (rest : Rest) : Type 0 where
  pub steps : All (IsStepPlaced spans) rest.steps
  pub later : All (IsChainPlaced spans) rest.later

module _ (unit : ℕ) (some : 0 < unit) (options : ArcOptions) (spans : List Span) where
  abbrev Along : List Point → Type 0
  Along = IsAlongSpan spans

  abbrev OnPath : Circle → Type 0
  OnPath = IsOnPath spans

  abbrev Placed : Section → Type 0
  Placed = IsPlaced spans

  abbrev StepPlaced : Step → Type 0
  StepPlaced = IsStepPlaced spans

  abbrev ChainPlaced : Chain → Type 0
  ChainPlaced = IsChainPlaced spans

  abbrev RestPlaced : Rest → Type 0
  RestPlaced = IsRestPlaced spans

  pub has_round : (c : Circle) → OnPath c → HasRound spans c.center (reach c)
  has_round c h = record { span = span_round c; listed = h.listed; at = refl; covers = omega arith }

  -- ---- along sections, at ends and at joints

  section_along : (s : Section) → Placed s → Along (section_piece s)
  section_along s h =
      let span : Span = span_between (s.a, s.b) in
      let near : Point → Type 0 = IsByEnd span.reach span.edge in
      let at_a = λ (p : Point). λ (t : IsTouched s.a p). by_more (reach s.a) span.reach s.a.center
      (omega arith) p t.by in
      let at_b = λ (p : Point). λ (t : IsTouched s.b p). by_more (reach s.b) span.reach s.b.center
      (omega arith) p t.by in
      record {
        span = span;
        listed = h.between;
        near =
            All-cons near s.a_right (s.b_right ∷ s.b_left ∷ s.a_left ∷ []) (inl (at_a s.a_right h.touching.a_right))
            (All-cons near s.b_right (s.b_left ∷ s.a_left ∷ []) (inr (at_b s.b_right h.touching.b_right))
            (All-cons near s.b_left (s.a_left ∷ []) (inr (at_b s.b_left h.touching.b_left))
            (All-cons near s.a_left [] (inl (at_a s.a_left h.touching.a_left)) (All-nil near))));
      }

  start_along : (end : ChainEnd) (s : Section) → Placed s → All Along (start_pieces unit options end s)
  start_along Butt s h = All-nil Along
  start_along Round s h =
      arc_along unit some options s.a.center (reach s.a) spans (has_round s.a h.a) s.a_left s.a_right (sweep_at s.a s.b)
      h.touching.a_left.by h.touching.a_right.by
      (rounded_reach_more (distance s.a.center s.a_left) (unsigned_abs s.a.radius) h.touching.a_left.distance_most)

  end_along : (end : ChainEnd) (s : Section) → Placed s → All Along (end_pieces unit options end s)
  end_along Butt s h = All-nil Along
  end_along Round s h =
      arc_along unit some options s.b.center (reach s.b) spans (has_round s.b h.b) s.b_right s.b_left (sweep_at s.b s.a)
      h.touching.b_right.by h.touching.b_left.by
      (rounded_reach_more (distance s.b.center s.b_right) (unsigned_abs s.b.radius) h.touching.b_right.distance_most)

  -- of two circles round one vertex the greater one has the reach of both
  pub greater_round : (c d : Circle) → c.center ≡ d.center → OnPath c → OnPath d →
      HasRound spans c.center (max (reach c) (reach d))
  greater_round c d met hc hd =
      ⊎_elim
      (λ (l : unsigned_abs c.radius < unsigned_abs d.radius).
      let more : reach c ≤ reach d = rounded_reach_more (unsigned_abs c.radius) (unsigned_abs d.radius) (omega arith) in
      record {
        span = span_round d;
        listed = hd.listed;
        at = λ i. (sym met i, sym met i);
        covers = omega (arith, more);
      })
      (λ (l : unsigned_abs d.radius ≤ unsigned_abs c.radius).
      let more : reach d ≤ reach c = rounded_reach_more (unsigned_abs d.radius) (unsigned_abs c.radius) l in
      record { span = span_round c; listed = hc.listed; at = refl; covers = omega (arith, more) })
      (cases_lt (unsigned_abs c.radius) (unsigned_abs d.radius))

  -- what lies round a joint
  pub record IsJoint (j : SectionPair) : Type 0 where
    pub round : HasRound spans j.0.b.center (max (reach j.0.b) (reach j.1.a))
    pub next_left : IsBy (max (reach j.0.b) (reach j.1.a)) j.0.b.center j.1.a_left
    pub next_right : IsBy (max (reach j.0.b) (reach j.1.a)) j.0.b.center j.1.a_right
    pub own_left : IsBy (max (reach j.0.b) (reach j.1.a)) j.0.b.center j.0.b_left
    pub own_right : IsBy (max (reach j.0.b) (reach j.1.a)) j.0.b.center j.0.b_right
    pub next_distance : rounded_reach (distance j.0.b.center j.1.a_left) ≤ max (reach j.0.b) (reach j.1.a)
    pub own_distance : rounded_reach (distance j.0.b.center j.0.b_right) ≤ max (reach j.0.b) (reach j.1.a)

  pub joint_of : (j : SectionPair) → Placed j.0 → Placed j.1 → j.0.b.center ≡ j.1.a.center → IsJoint j
  joint_of j p n met = record {
    round = greater_round j.0.b j.1.a met p.b n.a;
    next_left = next j.1.a_left n.touching.a_left;
    next_right = next j.1.a_right n.touching.a_right;
    own_left = own j.0.b_left p.touching.b_left;
    own_right = own j.0.b_right p.touching.b_right;
    next_distance =
        let most : distance j.0.b.center j.1.a_left ≤ unsigned_abs j.1.a.radius =
        subst (λ (c : Point). distance c j.1.a_left ≤ unsigned_abs j.1.a.radius) (sym met)
        n.touching.a_left.distance_most in
        omega (arith, rounded_reach_more (distance j.0.b.center j.1.a_left) (unsigned_abs j.1.a.radius) most);
    own_distance =
        let most = p.touching.b_right.distance_most in
        omega (arith, rounded_reach_more (distance j.0.b.center j.0.b_right) (unsigned_abs j.0.b.radius) most);
  }
    where
      r : ℕ
      r = max (reach j.0.b) (reach j.1.a)

      own : (q : Point) → IsTouched j.0.b q → IsBy r j.0.b.center q
      own q t = by_more (reach j.0.b) r j.0.b.center (omega arith) q t.by

      next : (q : Point) → IsTouched j.1.a q → IsBy r j.0.b.center q
      next q t =
          by_more (reach j.1.a) r j.0.b.center (omega arith) q
          (subst (λ (c : Point). IsBy (reach j.1.a) c q) (sym met) t.by)

  met_along : (j : SectionPair) → IsJoint j →
      All Along (joint_piece j ∷ (left_pieces unit options j ++ right_pieces unit options j))
  met_along j h =
      All-cons Along (joint_piece j) (left_pieces unit options j ++ right_pieces unit options j)
      (round_along spans v r h.round (joint_piece j)
      (All-cons By j.1.a_left (j.0.b_left ∷ j.0.b_right ∷ j.1.a_right ∷ []) h.next_left
      (All-cons By j.0.b_left (j.0.b_right ∷ j.1.a_right ∷ []) h.own_left
      (All-cons By j.0.b_right (j.1.a_right ∷ []) h.own_right
      (All-cons By j.1.a_right [] h.next_right (All-nil By))))))
      (All-append Along (left_pieces unit options j) (right_pieces unit options j)
      (left (has_left_arc j)) (right (has_right_arc j)))
    where
      v : Point
      v = j.0.b.center

      r : ℕ
      r = max (reach j.0.b) (reach j.1.a)

      By : Point → Type 0
      By = IsBy (max (reach j.0.b) (reach j.1.a)) j.0.b.center

      left : (t : Bool) → All Along (if t then arc_pieces unit options v j.1.a_left j.0.b_left Minor else [])
      left true =
          arc_along unit some options v r spans h.round j.1.a_left j.0.b_left Minor h.next_left h.own_left
          h.next_distance
      left false = All-nil Along

      right : (t : Bool) → All Along (if t then arc_pieces unit options v j.0.b_right j.1.a_right Major else [])
      right true =
          arc_along unit some options v r spans h.round j.0.b_right j.1.a_right Major h.own_right h.next_right
          h.own_distance
      right false = All-nil Along

  joint_along : (j : SectionPair) → Placed j.0 × Placed j.1 → All Along (joint_pieces unit options j)
  joint_along j h =
      cond_both (is_apart j) [] (joint_piece j ∷ (left_pieces unit options j ++ right_pieces unit options j))
      (All Along)
      (λ _. All-nil Along)
      (λ e. met_along j
      (joint_of j h.0 h.1 ((decides_point j.0.b.center j.1.a.center).0
      (not-false (same_point j.0.b.center j.1.a.center) e))))

  -- ---- along chains

  bare_along : (chain : Chain) (steps : List Step) → OnPath chain.start →
      All Along (bare_pieces unit options chain steps)
  bare_along chain [] h =
      cond_both (are_butt chain.start_end chain.end) []
      (circle_pieces unit options chain.start.center chain.start.radius)
      (All Along) (λ _. All-nil Along)
      (λ _. circle_along unit some options chain.start.center (reach chain.start) spans (has_round chain.start h)
      chain.start.radius (omega arith))
  bare_along chain (s ∷ ss) h = All-nil Along

  along : (chain : Chain) (sections : List Section) → OnPath chain.start → All Placed sections →
      All Along (pieces_with unit options chain sections)
  along chain [] start h = bare_along chain chain.steps start
  along chain (s ∷ ss) start h =
      All-append Along (map section_piece (s ∷ ss)) (joints ++ (first ++ last))
      (All-map Along section_piece (s ∷ ss) (All-weaker Placed (λ t. Along (section_piece t)) section_along (s ∷ ss) h))
      (All-append Along joints (first ++ last)
      (all_flat_map Along (joint_pieces unit options) (pairs (s ∷ ss))
      (All-weaker (λ (j : SectionPair). Placed j.0 × Placed j.1)
      (λ j. All Along (joint_pieces unit options j)) joint_along
      (pairs (s ∷ ss)) (pairs_all Placed (s ∷ ss) h)))
      (All-append Along first last (start_along chain.start_end s (All-head Placed s ss h))
      (end_along chain.end (last_of s ss) (last_all Placed s ss h))))
    where
      joints : List (List Point)
      joints = flat_map (joint_pieces unit options) (pairs (s ∷ ss))

      first : List (List Point)
      first = start_pieces unit options chain.start_end s

      last : List (List Point)
      last = end_pieces unit options chain.end (last_of s ss)

  chain_along : (chain : Chain) → ChainPlaced chain → All Along (chain_pieces unit options chain)
  chain_along chain h =
      along chain (sections_of chain.steps) h.start
      (all_flat_map Placed (λ (s : Step). option_to_list s.section) chain.steps
      (All-weaker StepPlaced (λ (s : Step). All Placed (option_to_list s.section))
      (λ s k. k.sections) chain.steps h.steps))

  -- ---- the chains of a path

  section_placed : (a b : Circle) → Contains spans (span_between (a, b)) → OnPath a → OnPath b →
      All Placed (option_to_list (section_of unit a b))
  section_placed a b listed ha hb =
      cond_both (has_no_section a b) None (Some (with_contacts unit a b))
      (λ (o : Option Section). All Placed (option_to_list o))
      (λ _. All-nil Placed)
      (λ e. All-cons Placed (with_contacts unit a b) []
      (record { between = listed; a = ha; b = hb; touching = touching unit a b (apart e) ha.sign hb.sign })
      (All-nil Placed))
    where
      dots : Bool
      dots = int_le a.radius (pos 1) && int_le b.radius (pos 1)

      apart : has_no_section a b ≡ false → is_nested a b ≡ false
      apart e =
          (or_parts dots (is_nested a b) (or_parts (same_point a.center b.center) (dots || is_nested a b) e).1).1

  abbrev Spanned : Circle × Circle → Type 0
  Spanned c = Contains spans (span_between c)

  steps_placed : (before : Option Section) (a : Circle) (bs : List Circle) → All Spanned (pairs (a ∷ bs)) → OnPath a →
      All OnPath bs → All StepPlaced (steps_from unit before a bs)
  steps_placed before a [] listed ha h = All-nil StepPlaced
  steps_placed before a (b ∷ bs) listed ha h =
      let hb : OnPath b = All-head OnPath b bs h in
      All-cons StepPlaced (record { before = before; section = section_of unit a b; a = a; b = b })
      (steps_from unit (section_of unit a b) b bs)
      (record {
        sections = section_placed a b (All-head Spanned (a, b) (pairs (b ∷ bs)) listed) ha hb;
        a = ha;
        b = hb;
      })
      (steps_placed (section_of unit a b) b bs (All-tail Spanned (a, b) (pairs (b ∷ bs)) listed) hb
      (All-tail OnPath b bs h))

  broken_placed : (s : Step) (rest : Rest) → StepPlaced s → RestPlaced rest → RestPlaced (broken s rest)
  broken_placed s rest hs h = record {
    steps = All-nil StepPlaced;
    later =
        All-cons ChainPlaced
        (record { start = s.b; start_end = end_after s.a s.b; steps = rest.steps; end = rest.end }) rest.later
        (record { start = hs.b; steps = h.steps }) h.later;
  }

  covered_placed : (s : Step) (rest : Rest) → StepPlaced s → RestPlaced rest → RestPlaced (covered s rest)
  covered_placed s rest hs h = record {
    steps = All-nil StepPlaced;
    later =
        All-cons ChainPlaced
        (record { start = s.a; start_end = Butt; steps = s ∷ rest.steps; end = rest.end }) rest.later
        (record { start = hs.a; steps = All-cons StepPlaced s rest.steps hs h.steps }) h.later;
  }

  rest_placed : (end : ChainEnd) (ss : List Step) → All StepPlaced ss → RestPlaced (rest_of end ss)
  unfolding rest_of
  rest_placed end [] h = record { steps = All-nil StepPlaced; later = All-nil ChainPlaced }
  rest_placed end (s ∷ ss) h =
      let hs : StepPlaced s = All-head StepPlaced s ss h in
      let tail : All StepPlaced ss = All-tail StepPlaced s ss h in
      let plain : RestPlaced (rest_of Round ss) = rest_placed Round ss tail in
      let butt : RestPlaced (rest_of Butt ss) = rest_placed Butt ss tail in
      cond_both (is_break s) (broken s (rest_of Round ss))
      (if is_cover s then covered s (rest_of Butt ss) else continued s (rest_of Round ss)) RestPlaced
      (λ _. broken_placed s (rest_of Round ss) hs plain)
      (λ _. cond_both (is_cover s) (covered s (rest_of Butt ss)) (continued s (rest_of Round ss)) RestPlaced
      (λ _. covered_placed s (rest_of Butt ss) hs butt)
      (λ _. record { steps = All-cons StepPlaced s (rest_of Round ss).steps hs plain.steps; later = plain.later }))

  pub chains_placed : (circles : List Circle) → All Spanned (pairs circles) → All OnPath circles →
      All ChainPlaced (chains_of unit circles)
  chains_placed [] listed h = All-nil ChainPlaced
  chains_placed (c ∷ cs) listed h =
      let on : OnPath c = All-head OnPath c cs h in
      let rest : Rest = rest_of Round (steps_from unit None c cs) in
      let placed : RestPlaced rest =
      rest_placed Round (steps_from unit None c cs) (steps_placed None c cs listed on (All-tail OnPath c cs h)) in
      All-cons ChainPlaced (record { start = c; start_end = Round; steps = rest.steps; end = rest.end }) rest.later
      (record { start = on; steps = placed.steps }) placed.later

-- ---- together

pub circles_on_path : (vertices : List Vertex) → All (IsOnPath (spans_of (circles_of vertices))) (circles_of vertices)
circles_on_path vertices =
    All-weaker (λ (c : Circle). Contains spans (span_round c) × (pos 0 ≤ℤ c.radius)) (IsOnPath spans)
    (λ c h. record { listed = h.0; sign = h.1 }) circles
    (all_both (λ (c : Circle). Contains spans (span_round c)) (λ (c : Circle). pos 0 ≤ℤ c.radius) circles
    (all_mapped (Contains spans) span_round circles
    (all_left (Contains spans) (map span_round circles) (map span_between (pairs circles)) (All-contains_itself spans)))
    (All-map (λ (c : Circle). pos 0 ≤ℤ c.radius) circle_of vertices
    (λ k d h. radius_least (get_or vertices k d).width)))
  where
    circles : List Circle
    circles = circles_of vertices

    spans : List Span
    spans = spans_of (circles_of vertices)

pub spanned : (circles : List Circle) → All (λ (c : Circle × Circle). Contains (spans_of circles) (span_between c))
    (pairs circles)
spanned circles =
    all_mapped (Contains (spans_of circles)) span_between (pairs circles)
    (all_right (Contains (spans_of circles)) (map span_round circles) (map span_between (pairs circles))
    (All-contains_itself (spans_of circles)))

holds_by : (spans : List Span) (piece : List Point) → IsAlongSpan spans piece → HoldsBySpans spans piece
holds_by spans piece h m q held =
    record { span = h.span; listed = h.listed; reached = lists_reach h.span.reach m h.span.edge piece q h.near held }

module _ (unit : ℕ) (least : 2 ^ 14 ≤ unit) (options : ArcOptions) (vertices : List Vertex) where
  pub variable_strokes_reach : All (HoldsBySpans (path_spans vertices)) (variable_stroke_pieces unit options vertices)
  unfolding variable_stroke_pieces
  variable_strokes_reach =
      let circles : List Circle = circles_of vertices in
      let spans : List Span = spans_of circles in
      let some : 0 < unit = omega (arith, least) in
      All-weaker (IsAlongSpan spans) (HoldsBySpans spans) (holds_by spans)
      (flat_map (chain_pieces unit options) (chains_of unit circles))
      (all_flat_map (IsAlongSpan spans) (chain_pieces unit options) (chains_of unit circles)
      (All-weaker (IsChainPlaced spans) (λ (chain : Chain). All (IsAlongSpan spans) (chain_pieces unit options chain))
      (chain_along unit some options spans) (chains_of unit circles)
      (chains_placed unit some options spans circles (spanned circles) (circles_on_path vertices))))

  -- so is each point round which edges wind that wind as the pieces
  pub pieces_wind_within : (es : List Edge) → WindAsPieces (variable_stroke_pieces unit options vertices) es →
      WindWithinReach vertices es
  pieces_wind_within es sum m q winds =
      held_one (IsReachedBySpan m (path_spans vertices) q) m q (variable_stroke_pieces unit options vertices)
      (All-weaker (HoldsBySpans (path_spans vertices))
      (λ (piece : List Point). IsTrue (holds m q piece) → IsReachedBySpan m (path_spans vertices) q)
      (λ piece k. k m q) (variable_stroke_pieces unit options vertices) variable_strokes_reach)
      (λ (none : pieces_total (crossing_on m q) (variable_stroke_pieces unit options vertices) ≡ pos 0).
      winds (sum m q ∙ none))

  pub variable_stroke_edges_reach : WindWithinReach vertices (variable_stroke_edges unit options vertices)
  variable_stroke_edges_reach =
      pieces_wind_within (variable_stroke_edges unit options vertices)
      (λ m q. variable_total (crossing_on m q) (crossing_on_odd m q) unit options vertices)
