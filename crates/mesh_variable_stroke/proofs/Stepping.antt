-- Lemmas over paths: each kind of step of a walk, and that a walk stays good.
use Rattle.std.proofs.Common.{◌≡◌, ℕ, List, ◌++◌, sym, subst, ◌∙◌, ap}
use Rattle.std.specs.Prelude.{Bool, true, false, cond, Option, Some, None, IfSome, int_lt}
use Rattle.mesh_plane.specs.Plane.{Point, Edge}
use Rattle.mesh_num.specs.Segments.{SignedEdge, segments_of}
use Rattle.mesh_arc.specs.declared.arc.ArcOptions.{ArcOptions}
use Rattle.mesh_circle.specs.declared.sweep.Sweep.{Sweep}
use Rattle.mesh_circle.specs.Sweeps.{arc_edges, circle_edges}
use Rattle.mesh_circle.specs.Sections.{Circle, Section, section_of, is_nested, with_contacts, has_no_section}
use Rattle.mesh_circle.specs.Sections.{IsSafeCircle, HasContacts, IsSafeSection}
use Rattle.mesh_variable_stroke.specs.Private.Walks.{Open, Walk, opened, gone_on, step_edges, finish_edges, step_to}
use Rattle.mesh_variable_stroke.specs.Private.Walks.{walked_edges}
use Rattle.mesh_variable_stroke.specs.Private.Walks.{IsGoodOpen, IsGoodSection, IsGoodWalk, last_with}
use Rattle.mesh_variable_stroke.specs.Chains.{Step, is_break, is_cover, end_after, is_smaller, is_covered_by}
use Rattle.mesh_variable_stroke.specs.VariableStrokes.{SectionPair, is_apart, are_butt, sweep_at, start_edges}
use Rattle.mesh_variable_stroke.specs.VariableStrokes.{end_edges, left_edges, right_edges, joint_edges}
use Rattle.mesh_variable_stroke.specs.declared.chain_end.ChainEnd.{ChainEnd}
use Rattle.mesh_variable_stroke.specs.declared.chain_end.ChainEnd.TheVariants.{Butt, Round}
use Rattle.mesh_join.proofs.Drawing.{appends_both}

-- both ends of sections that do not meet
pub apart_added : (unit : ℕ) (options later : ArcOptions) (j : SectionPair) (old mid new : List SignedEdge) → is_apart j ≡ true →
    mid ≡ old ++ segments_of (end_edges unit options Butt j.0) → new ≡ mid ++ segments_of (start_edges unit later Butt j.1) →
    new ≡ old ++ segments_of (joint_edges unit options j)
apart_added unit options later j old mid new a m h =
    rw a (appends_both old mid new (end_edges unit options Butt j.0) (start_edges unit options Butt j.1) m h)

-- both sides of sections that meet
pub met_added : (unit : ℕ) (options later : ArcOptions) (j : SectionPair) (old mid new : List SignedEdge) → is_apart j ≡ false → later ≡ options →
    mid ≡ old ++ segments_of (left_edges unit options j) → new ≡ mid ++ segments_of (right_edges unit later j) →
    new ≡ old ++ segments_of (joint_edges unit options j)
met_added unit options later j old mid new a same m h =
    rw a (appends_both old mid new (left_edges unit options j) (right_edges unit options j) m (rw same at h))

-- the end of a chain, and a step of the next one
pub again_added : (unit : ℕ) (options later : ArcOptions) (c next : Open) (at : Circle) (o : Option Section) (old mid new : List SignedEdge) →
    later ≡ options → next ≡ opened at Butt → mid ≡ old ++ segments_of (finish_edges unit options c Round) →
    new ≡ mid ++ segments_of (step_edges unit later next o) →
    new ≡ old ++ segments_of (finish_edges unit options c Round ++ step_edges unit options (opened at Butt) o)
again_added unit options later c next at o old mid new same starts m h =
    appends_both old mid new (finish_edges unit options c Round) (step_edges unit options (opened at Butt) o) m
    (h ∙ (ap (λ (k : ArcOptions). mid ++ segments_of (step_edges unit k next o)) same
    ∙ ap (λ (k : Open). mid ++ segments_of (step_edges unit options k o)) starts))

-- ---- sections and chains stay good

pub section_good : (unit : ℕ) (a b : Circle) (o : Option Section) → o ≡ section_of unit a b → IfSome o HasContacts → IfSome o (IsSafeSection unit) →
    IsSafeCircle unit a → IsSafeCircle unit b → IfSome o (IsGoodSection unit)
section_good unit a b None h contacts safe ha hb = tt
section_good unit a b (Some s) h contacts safe ha hb = by (has_no_section a b) h
  where
    by : (none : Bool) → Some s ≡ cond none None (Some (with_contacts unit a b)) → IsGoodSection unit s
    by true k = absurd (let e : Some s ≡ None = k in cc)
    by false k =
        let e : s ≡ with_contacts unit a b = cc in
        record {
          a = subst (λ (t : Section). IsSafeCircle unit t.a) (sym e) ha;
          b = subst (λ (t : Section). IsSafeCircle unit t.b) (sym e) hb;
          contacts = contacts;
          safe = safe;
        }

last_good : (unit : ℕ) (last o : Option Section) → IfSome last (IsGoodSection unit) → IfSome o (IsGoodSection unit) → IfSome (last_with last o) (IsGoodSection unit)
last_good unit last None h k = h
last_good unit last (Some s) h k = k

pub gone_on_good : (unit : ℕ) (c : Open) (o : Option Section) → IsGoodOpen unit c → IfSome o (IsGoodSection unit) → IsGoodOpen unit (gone_on c o)
gone_on_good unit c o h k = record { start = h.start; last = last_good unit c.last o h.last k }

pub opened_good : (unit : ℕ) (c : Circle) (e : ChainEnd) → IsSafeCircle unit c → IsGoodOpen unit (opened c e)
opened_good unit c e h = record { start = h; last = tt }

-- ---- walks stay good; `v` is how the code sees the walk `w`

pub section_seen : (unit : ℕ) (w v : Walk) (b : Circle) (o : Option Section) → v ≡ w → IsGoodWalk unit w → IsSafeCircle unit b → o ≡ section_of unit v.at b →
    IfSome o HasContacts → IfSome o (IsSafeSection unit) → IfSome o (IsGoodSection unit)
section_seen unit w v b o e h safe is contacts inside =
    section_good unit v.at b o is contacts inside (subst (IsSafeCircle unit) (ap (λ (k : Walk). k.at) (sym e)) h.at) safe

abbrev stood : Open → Option Section → Circle → ChainEnd → Walk
stood c o b end = record { chain = c; before = o; at = b; end = end }

pub broken_good : (unit : ℕ) (c : Open) (o : Option Section) (b : Circle) (start end : ChainEnd) → c ≡ opened b start → IsSafeCircle unit b →
    IfSome o (IsGoodSection unit) → IsGoodWalk unit (stood c o b end)
broken_good unit c o b start end e safe good = record {
  chain = subst (IsGoodOpen unit) (sym e) (opened_good unit b start safe);
  before = good;
  at = safe;
}

pub covered_good : (unit : ℕ) (w v : Walk) (c : Open) (o : Option Section) (b : Circle) (end : ChainEnd) → v ≡ w → IsGoodWalk unit w →
    c ≡ gone_on (opened v.at Butt) o → IsSafeCircle unit b → IfSome o (IsGoodSection unit) → IsGoodWalk unit (stood c o b end)
covered_good unit w v c o b end e h is safe good = record {
  chain =
      subst (IsGoodOpen unit) (sym is)
      (gone_on_good unit (opened v.at Butt) o (opened_good unit v.at Butt (subst (IsSafeCircle unit) (ap (λ (k : Walk). k.at) (sym e)) h.at)) good);
  before = good;
  at = safe;
}

pub plain_good : (unit : ℕ) (w v : Walk) (c : Open) (o : Option Section) (b : Circle) (end : ChainEnd) → v ≡ w → IsGoodWalk unit w →
    c ≡ gone_on v.chain o → IsSafeCircle unit b → IfSome o (IsGoodSection unit) → IsGoodWalk unit (stood c o b end)
plain_good unit w v c o b end e h is safe good = record {
  chain = subst (IsGoodOpen unit) (sym is) (gone_on_good unit v.chain o (subst (IsGoodOpen unit) (ap (λ (k : Walk). k.chain) (sym e)) h.chain) good);
  before = good;
  at = safe;
}

-- what a walk adds at a cover
abbrev again_edges : ℕ → ArcOptions → Walk → Circle → Option Section → List Edge
again_edges unit options w at o = finish_edges unit options w.chain Round ++ step_edges unit options (opened at Butt) o

abbrev step_with : Walk → Circle → Option Section → Step
step_with w b o = record { before = w.before; section = o; a = w.at; b = b }

cover_edges : (unit : ℕ) (options : ArcOptions) (w : Walk) (s : Step) → is_break s ≡ false → is_cover s ≡ true →
    again_edges unit options w s.a s.section ≡ walked_edges unit options w s
cover_edges unit options w s apart covers = rw (apart, covers)

pub covered_edges : (unit : ℕ) (options : ArcOptions) (w v : Walk) (b : Circle) (o : Option Section) → v ≡ w →
    o ≡ section_of unit v.at b → is_nested v.at b ≡ false → is_covered_by v.before b ≡ true →
    again_edges unit options v v.at o ≡ walked_edges unit options w (step_to unit w b)
covered_edges unit options w v b o e is apart covers =
    subst (λ (k : Walk). again_edges unit options v v.at o ≡ walked_edges unit options k (step_to unit k b)) e
    (subst (λ (p : Option Section). again_edges unit options v v.at o ≡ walked_edges unit options v (step_with v b p))
    is
    (cover_edges unit options v (step_with v b o) apart covers))

-- ---- ends of chains; `v` is how the code sees the section `s` or the chain `c`

pub start_turned : (unit : ℕ) (options : ArcOptions) (s v : Section) (center : Point) (turn : Sweep) (end : ChainEnd) →
    v ≡ s → center ≡ s.a.center → turn ≡ sweep_at v.a v.b → end ≡ Round →
    arc_edges unit options center v.a_left v.a_right turn ≡ start_edges unit options end s
start_turned unit options s v center turn end e at turns round = rw (e, at, turns, e, round)

pub end_turned : (unit : ℕ) (options : ArcOptions) (s v : Section) (center : Point) (turn : Sweep) (end : ChainEnd) →
    v ≡ s → center ≡ s.b.center → turn ≡ sweep_at v.b v.a → end ≡ Round →
    arc_edges unit options center v.b_right v.b_left turn ≡ end_edges unit options end s
end_turned unit options s v center turn end e at turns round = rw (e, at, turns, e, round)

pub bare_finish : (unit : ℕ) (options : ArcOptions) (c v : Open) (end : ChainEnd) → v ≡ c → v.last ≡ None →
    v.has_step ≡ false → are_butt v.start_end end ≡ false →
    circle_edges unit options v.start.center v.start.radius ≡ finish_edges unit options c end
bare_finish unit options c v end e bare fresh drawn =
    subst (λ (k : Open). circle_edges unit options v.start.center v.start.radius ≡ finish_edges unit options k end) e
    (rw (bare, fresh, drawn))

-- the greater circle of a break is drawn; `v` and `w` are how the code sees both circles
pub started_round : (a b v w : Circle) → v ≡ a → w ≡ b → int_lt v.radius w.radius ≡ true →
    opened b Round ≡ opened b (end_after a b)
started_round a b v w e f less = rw (← e, ← f, less)

pub smaller_or : (less : Bool) (c d : Circle) (s v : Section) → d ≡ c → v ≡ s →
    int_lt d.radius v.a.radius ≡ false → less ≡ int_lt d.radius v.b.radius → less ≡ is_smaller c s
smaller_or less c d s v e f not_a b = rw (← e, ← f, not_a) b
