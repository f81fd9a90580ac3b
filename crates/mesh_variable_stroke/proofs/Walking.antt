-- Lemmas over paths: what a walk along a path adds, and what is still to come.
use Rattle.std.proofs.Common.{◌≡◌, ℕ, List, [], ◌∷◌, ◌++◌, refl, sym, subst, ◌∙◌, ap, append_assoc, append-nil, map, length, take, take_all, arith}
use Rattle.std.specs.Prelude.{Bool, true, false, Option, Some, None}
use Rattle.std.specs.List.{flat_map}
use Rattle.std.specs.List.Sorted.{IsPermutation}
use Rattle.std.specs.Option.{option_to_list}
use Rattle.std.specs.List.{All}
use Rattle.std.proofs.lemmas.List.Elements.{All-head, All-tail}
use Rattle.mesh_plane.specs.Plane.{Edge}
use Rattle.mesh_num.specs.Segments.{SignedEdge, segments_of, proper_edges}
use Rattle.mesh_num.proofs.Subjects.{segments_of_subjects}
use Rattle.mesh_num.proofs.SegmentLists.{edges_of_segments, segments_of-append}
use Rattle.mesh_arc.specs.declared.arc.ArcOptions.{ArcOptions}
use Rattle.mesh_join.specs.VariableStyles.{Vertex}
use Rattle.mesh_offset.specs.Built.{Adds}
use Rattle.mesh_offset.proofs.Adding.{keeps_through}
use Rattle.mesh_circle.specs.Sweeps.{circle_edges}
use Rattle.mesh_circle.specs.Sections.{Circle, Section, IsSafeCircle}
use Rattle.mesh_variable_stroke.specs.Private.Walks.{Open, Walk, opened, gone_on, step_edges, finish_edges, walk_from, step_to, walked, walked_edges}
use Rattle.mesh_variable_stroke.specs.Private.Walks.{IsGoodWalk}
use Rattle.mesh_variable_stroke.specs.Drawn.{greatest_radius, AreStrokable}
use Rattle.mesh_variable_stroke.specs.Chains.{Chain, Step, rest_of, is_break, is_cover, end_before, end_after, chains_of, circle_of, circles_of, steps_from}
use Rattle.mesh_variable_stroke.specs.VariableStrokes.{side_edges, start_edges, end_edges, joint_edges, sections_of, edges_with, chain_edges, variable_stroke_edges}
use Rattle.mesh_variable_stroke.specs.declared.chain_end.ChainEnd.{ChainEnd}
use Rattle.mesh_variable_stroke.specs.declared.chain_end.ChainEnd.TheVariants.{Butt, Round}
use Rattle.mesh_variable_stroke.proofs.Safe.{IsSafeVertex, path_safe}
use Rattle.mesh_variable_stroke.proofs.Stepping.{opened_good}
use Rattle.mesh_variable_stroke.proofs.Orders.{streamed, by_kind, part, listed_sections, proper_permutes, chains_permute}

-- the sections of steps, none where there is none
abbrev pub marks : List Step → List (Option Section)
marks steps = map (λ (s : Step). s.section) steps

marks_listed : (steps : List Step) → sections_of steps ≡ listed_sections (marks steps)
marks_listed [] = refl
marks_listed (s ∷ ss) = ap (λ l. option_to_list s.section ++ l) (marks_listed ss)

module _ (unit : ℕ) (options : ArcOptions) where
  abbrev circle : Circle → List Edge
  circle c = circle_edges unit options c.center c.radius

  -- what an open chain adds that goes on through these steps and ends so
  abbrev pub cont : Open → List (Option Section) → ChainEnd → List Edge
  cont c os end = streamed side_edges (start_edges unit options) (end_edges unit options) (joint_edges unit options) circle c.start c.start_end c.last c.has_step os end

  -- a chain as it is walked along
  abbrev pub stream : Chain → List Edge
  stream chain = cont (opened chain.start chain.start_end) (marks chain.steps) chain.end

  -- what is still to come where the walk stands
  abbrev pub todo : Walk → List Step → List Edge
  todo w ss = cont w.chain (marks (rest_of w.end ss).steps) (rest_of w.end ss).end ++ flat_map stream (rest_of w.end ss).later

  cont_ends : (c : Open) (end : ChainEnd) → cont c [] end ≡ finish_edges unit options c end
  cont_ends c end = by c.last
    where
      by : (last : Option Section) → cont (record c { last = last }) [] end ≡ finish_edges unit options (record c { last = last }) end
      by None = refl
      by (Some s) = refl

  cont_steps : (c : Open) (o : Option Section) (os : List (Option Section)) (end : ChainEnd) →
      cont c (o ∷ os) end ≡ step_edges unit options c o ++ cont (gone_on c o) os end
  cont_steps c o os end = ap (λ l. l ++ cont (gone_on c o) os end) (by c.last o)
    where
      by : (last o : Option Section) → part side_edges (start_edges unit options) (end_edges unit options) (joint_edges unit options) circle c.start_end last o
          ≡ step_edges unit options (record c { last = last }) o
      by last None = refl
      by None (Some s) = refl
      by (Some p) (Some s) = refl

  -- a step adds its part of what is to come
  pub todo_step : (w : Walk) (s : Step) (ss : List Step) → todo w (s ∷ ss) ≡ walked_edges unit options w s ++ todo (walked w s) ss
  unfolding rest_of
  todo_step w s ss = by (is_break s) (is_cover s) refl refl
    where
      by : (b k : Bool) → is_break s ≡ b → is_cover s ≡ k → todo w (s ∷ ss) ≡ walked_edges unit options w s ++ todo (walked w s) ss
      by true k h i =
          let r = rest_of Round ss in
          rw h
          (ap (λ l. l ++ flat_map stream (record { start = s.b; start_end = end_after s.a s.b; steps = r.steps; end = r.end } ∷ r.later))
          (cont_ends w.chain (end_before s.a s.b)))
      by false true h i =
          let r = rest_of Butt ss in
          rw (h, i)
          (ap (λ l. l ++ flat_map stream (record { start = s.a; start_end = Butt; steps = s ∷ r.steps; end = r.end } ∷ r.later)) (cont_ends w.chain Round)
          ∙ (ap (λ l. finish_edges unit options w.chain Round ++ (l ++ flat_map stream r.later)) (cont_steps (opened s.a Butt) s.section (marks r.steps) r.end)
          ∙ (ap (λ l. finish_edges unit options w.chain Round ++ l) (append_assoc (step_edges unit options (opened s.a Butt) s.section) (cont (gone_on (opened s.a Butt) s.section) (marks r.steps) r.end) (flat_map stream r.later))
          ∙ sym (append_assoc (finish_edges unit options w.chain Round) (step_edges unit options (opened s.a Butt) s.section)
          (cont (gone_on (opened s.a Butt) s.section) (marks r.steps) r.end ++ flat_map stream r.later)))))
      by false false h i =
          let r = rest_of Round ss in
          rw (h, i)
          (ap (λ l. l ++ flat_map stream r.later) (cont_steps w.chain s.section (marks r.steps) r.end)
          ∙ append_assoc (step_edges unit options w.chain s.section) (cont (gone_on w.chain s.section) (marks r.steps) r.end) (flat_map stream r.later))

  -- no step, no more
  pub todo_ends : (w : Walk) → todo w [] ≡ finish_edges unit options w.chain w.end
  unfolding rest_of
  todo_ends w = append-nil (cont w.chain [] w.end) ∙ cont_ends w.chain w.end

  -- where the walk has come to after a step
  pub walked_before : (w : Walk) (s : Step) → (walked w s).before ≡ s.section
  walked_before w s = by (is_break s) (is_cover s) refl refl
    where
      by : (b k : Bool) → is_break s ≡ b → is_cover s ≡ k → (walked w s).before ≡ s.section
      by true k h i = rw h refl
      by false true h i = rw (h, i) refl
      by false false h i = rw (h, i) refl

  pub walked_at : (w : Walk) (s : Step) → (walked w s).at ≡ s.b
  walked_at w s = by (is_break s) (is_cover s) refl refl
    where
      by : (b k : Bool) → is_break s ≡ b → is_cover s ≡ k → (walked w s).at ≡ s.b
      by true k h i = rw h refl
      by false true h i = rw (h, i) refl
      by false false h i = rw (h, i) refl

  -- what is to come of a walk that goes on through these vertices
  abbrev pub coming : Walk → List Vertex → List Edge
  coming w left = todo w (steps_from unit w.before w.at (circles_of left))

  pub coming_step : (w : Walk) (v : Vertex) (left : List Vertex) →
      coming w (v ∷ left) ≡ walked_edges unit options w (step_to unit w (circle_of v)) ++ coming (walked w (step_to unit w (circle_of v))) left
  coming_step w v left =
      let s = step_to unit w (circle_of v) in
      let ss = steps_from unit s.section s.b (circles_of left) in
      todo_step w s ss
      ∙ ap (λ (k : List Step). walked_edges unit options w s ++ todo (walked w s) k)
      (ap (λ (o : Option Section). steps_from unit o s.b (circles_of left)) (sym (walked_before w s))
      ∙ ap (λ (c : Circle). steps_from unit (walked w s).before c (circles_of left)) (sym (walked_at w s)))

  -- all that a path gives
  abbrev pub path_stream : List Vertex → List Edge
  path_stream vertices = flat_map stream (chains_of unit (circles_of vertices))

  pub coming_starts : (v : Vertex) (rest : List Vertex) → coming (walk_from (circle_of v)) rest ≡ path_stream (v ∷ rest)
  coming_starts v rest = refl

  -- ---- it is what the definition has, in another order

  chain_kinds : (chain : Chain) →
      chain_edges unit options chain ≡ by_kind side_edges (start_edges unit options) (end_edges unit options) (joint_edges unit options) circle
      chain.start chain.start_end chain.end (marks chain.steps) (listed_sections (marks chain.steps))
  chain_kinds chain = ap (edges_with unit options chain) (marks_listed chain.steps) ∙ by chain.steps (listed_sections (marks chain.steps))
    where
      by : (steps : List Step) (ss : List Section) → edges_with unit options (record chain { steps = steps }) ss
          ≡ by_kind side_edges (start_edges unit options) (end_edges unit options) (joint_edges unit options) circle chain.start chain.start_end chain.end (marks steps) ss
      by [] [] = refl
      by (s ∷ ss) [] = refl
      by steps (s ∷ ss) = refl

  chain_permutes : (chain : Chain) → IsPermutation (proper_edges (stream chain)) (proper_edges (chain_edges unit options chain))
  chain_permutes chain =
      rw (chain_kinds chain)
      (proper_permutes side_edges (start_edges unit options) (end_edges unit options) (joint_edges unit options) circle chain.start chain.start_end (marks chain.steps) chain.end)

  -- what the whole walk added is the stroke
  pub walk_adds : (vertices : List Vertex) (old new : List SignedEdge) → new ≡ old ++ segments_of (path_stream vertices) →
      Adds old new (variable_stroke_edges unit options vertices)
  unfolding variable_stroke_edges
  walk_adds vertices old new h =
      let es = path_stream vertices in (
        segments_of es,
        h,
        subst (λ l. IsPermutation l (proper_edges (flat_map (chain_edges unit options) (chains_of unit (circles_of vertices))))) (sym (edges_of_segments es))
            (chains_permute stream (chain_edges unit options) chain_permutes (chains_of unit (circles_of vertices))),
        segments_of_subjects es,
      )

  -- no vertex, no edge
  pub none_adds : (vertices : List Vertex) (old : List SignedEdge) → vertices ≡ [] → Adds old old (variable_stroke_edges unit options vertices)
  none_adds vertices old none = rw none (walk_adds [] old old (sym (append-nil old)))

-- where the walk stands that has the vertices `left` before it
pub record IsWalked (unit : ℕ) (options : ArcOptions) (path : List Vertex) (old now : List SignedEdge) (later : ArcOptions) (w : Walk) (left : List Vertex) : Type 0 where
  pub todo : now ++ segments_of (coming unit options w left) ≡ old ++ segments_of (path_stream unit options path)
  pub good : IsGoodWalk unit w
  pub safe : All (IsSafeVertex unit) left
  pub kept : take (length old) now ≡ old
  pub same : later ≡ options

module _ (unit : ℕ) (options : ArcOptions) (path : List Vertex) (old : List SignedEdge) where
  -- it begins at the first vertex
  pub walk_starts : (v : Vertex) (rest : List Vertex) (c : Circle) (w : Walk) → path ≡ v ∷ rest → c ≡ circle_of v → w ≡ walk_from c →
      AreStrokable unit (greatest_radius path) path → IsWalked unit options path old old options w rest
  walk_starts v rest c w p e b safe =
      let all : All (IsSafeVertex unit) (v ∷ rest) = rw p at (path_safe unit path safe) in
      let start : w ≡ walk_from (circle_of v) = b ∙ ap walk_from e in
      record {
        todo = rw (start, p) refl;
        good = rw start (record { chain = opened_good unit (circle_of v) Round (All-head (IsSafeVertex unit) v rest all); before = tt; at = All-head (IsSafeVertex unit) v rest all });
        safe = All-tail (IsSafeVertex unit) v rest all;
        kept = take_all (length old) old (omega arith);
        same = refl;
      }

  module _ (now : List SignedEdge) (later : ArcOptions) (w : Walk) where
    -- the next vertex is safe
    pub next_safe : (v : Vertex) (left : List Vertex) (c : Circle) → c ≡ circle_of v → IsWalked unit options path old now later w (v ∷ left) → IsSafeCircle unit c
    next_safe v left c e h = subst (IsSafeCircle unit) (sym e) (All-head (IsSafeVertex unit) v left h.safe)

    -- and goes on
    pub walk_steps : (v : Vertex) (left : List Vertex) (c : Circle) (new : List SignedEdge) (newer : ArcOptions) (next : Walk) → c ≡ circle_of v →
        IsWalked unit options path old now later w (v ∷ left) →
        new ≡ now ++ segments_of (walked_edges unit later w (step_to unit w c)) → next ≡ walked w (step_to unit w c) → IsGoodWalk unit next →
        take (length now) new ≡ now → newer ≡ later → IsWalked unit options path old new newer next left
    walk_steps v left c new newer next e h added goes good keeps same =
        let s = step_to unit w (circle_of v) in
        let a : new ≡ now ++ segments_of (walked_edges unit options w s) =
        added ∙ (ap (λ (o : ArcOptions). now ++ segments_of (walked_edges unit o w (step_to unit w c))) h.same
        ∙ ap (λ (k : Circle). now ++ segments_of (walked_edges unit options w (step_to unit w k))) e) in
        let n : next ≡ walked w s = goes ∙ ap (λ (k : Circle). walked w (step_to unit w k)) e in
        let more : segments_of (coming unit options w (v ∷ left)) ≡ segments_of (walked_edges unit options w s) ++ segments_of (coming unit options (walked w s) left) =
        ap segments_of (coming_step unit options w v left) ∙ segments_of-append (walked_edges unit options w s) (coming unit options (walked w s) left) in
        record {
          todo =
              ap (λ l. l ++ segments_of (coming unit options next left)) a
              ∙ (ap (λ (k : Walk). (now ++ segments_of (walked_edges unit options w s)) ++ segments_of (coming unit options k left)) n
              ∙ (append_assoc now (segments_of (walked_edges unit options w s)) (segments_of (coming unit options (walked w s) left))
              ∙ (ap (λ l. now ++ l) (sym more) ∙ h.todo)));
          good = good;
          safe = All-tail (IsSafeVertex unit) v left h.safe;
          kept = keeps_through old now new h.kept keeps;
          same = same ∙ h.same;
        }

    -- and ends with the last vertex
    pub walk_ends : (new : List SignedEdge) → IsWalked unit options path old now later w [] → new ≡ now ++ segments_of (finish_edges unit later w.chain w.end) →
        Adds old new (variable_stroke_edges unit options path)
    walk_ends new h added =
        walk_adds unit options path old new
        (added ∙ (ap (λ (o : ArcOptions). now ++ segments_of (finish_edges unit o w.chain w.end)) h.same
        ∙ (ap (λ l. now ++ segments_of l) (sym (todo_ends unit options w)) ∙ h.todo)))

    pub kept_through : (left : List Vertex) (new : List SignedEdge) → IsWalked unit options path old now later w left → take (length now) new ≡ now → take (length old) new ≡ old
    kept_through left new h keeps = keeps_through old now new h.kept keeps
