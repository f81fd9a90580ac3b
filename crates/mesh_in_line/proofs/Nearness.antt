-- Lemmas over points and lists: straight splits before others change nothing of how near these are.
use Rattle.std.proofs.Common.{◌≡◌, ◌⊎◌, inl, inr, ⊎_elim, ℕ, zero, suc, ◌<◌, ◌*◌, Bool, true, false, cond, List, [], ◌∷◌, ◌++◌, length, refl, sym, ◌∙◌, ap, subst, arith}
use Rattle.std.specs.Prelude.{ℤ, pos, ◌-ℤ◌, slice_index_or}
use Rattle.std.specs.List.{All}
use Rattle.std.proofs.lemmas.Bool.{false≢true, or_cases}
use Rattle.std.proofs.lemmas.Int.{ints}
use Rattle.std.proofs.lemmas.List.Elements.{Contains-append_right}
use Rattle.mesh_plane.specs.Plane.{Point, Edge}
use Rattle.mesh_lattice.specs.Clean.{refined_edge, IsOn}
use Rattle.mesh_lattice.specs.Nearness.{splits_of, AreSplitsNear, IsNearTo, IsSplitNear, ReachesPast, WitnessedSplit}
use Rattle.mesh_lattice.specs.Split.{after, back, occurs, path, same_ends, EdgeSplit, IsBetween, IsInBox, IsLegal}
use Rattle.mesh_lattice.proofs.Boxes.{end_box, on_back, start_box}
use Rattle.mesh_lattice.proofs.Each.{Each}
use Rattle.mesh_lattice.proofs.Ends.{decides_ends, ends_sym}
use Rattle.mesh_lattice.proofs.KeptBySplits.{box_trans, cut_box}
use Rattle.mesh_lattice.proofs.Nearness.{near_at}
use Rattle.mesh_lattice.proofs.SoundSplits.{legal_sound, IsSound}
use Rattle.mesh_store.specs.Witnesses.{AreSplitsOf}
use Rattle.mesh_rounds.proofs.Paths.{comes_from}
use Rattle.mesh_split.proofs.Tracking.{splits_of_legal}
use Rattle.mesh_in_line.specs.InLine.{IsStraight}
use Rattle.mesh_in_line.specs.Laws.{StraightSplitsKeepNearness}
use Rattle.mesh_in_line.proofs.Following.{after_both}
use Rattle.mesh_in_line.proofs.Legal.{on_path_stands}
use Rattle.mesh_in_line.proofs.Ordered.{no_turn, no_turn_level}

-- ---- straight edges

between_one : (a z b : ℤ) → a ≡ b → IsBetween a z b → z ≡ a
between_one a z b e h =
    let g = h.up (omega (arith, ints)) in
    omega (arith, ints, g.0, g.1)

none_less : (a b : ℤ) → a ≡ b → a -ℤ b ≡ pos 0
none_less a b e = omega (arith, ints)

-- what is in the box of a straight edge is on it
pub on_straight : (e : Edge) (p : Point) → IsStraight e → IsInBox e p → IsOn e p
on_straight e p (inl h) box = record {
  on_line = no_turn (e.1.0 -ℤ e.0.0) (p.1 -ℤ e.0.1) (e.1.1 -ℤ e.0.1) (p.0 -ℤ e.0.0) (none_less e.1.0 e.0.0 (sym h)) (none_less p.0 e.0.0 (between_one e.0.0 p.0 e.1.0 h box.by_x));
  in_box = box;
}
on_straight e p (inr h) box = record {
  on_line = no_turn_level (e.1.0 -ℤ e.0.0) (p.1 -ℤ e.0.1) (e.1.1 -ℤ e.0.1) (p.0 -ℤ e.0.0) (none_less p.1 e.0.1 (between_one e.0.1 p.1 e.1.1 h box.by_y)) (none_less e.1.1 e.0.1 (sym h));
  in_box = box;
}

-- an edge in the box of a straight one is straight
straight_within : (e f : Edge) → IsStraight e → IsInBox e f.0 → IsInBox e f.1 → IsStraight f
straight_within e f (inl h) a b = inl (between_one e.0.0 f.0.0 e.1.0 h a.by_x ∙ sym (between_one e.0.0 f.1.0 e.1.0 h b.by_x))
straight_within e f (inr h) a b = inr (between_one e.0.1 f.0.1 e.1.1 h a.by_y ∙ sym (between_one e.0.1 f.1.1 e.1.1 h b.by_y))

straight_same : (e f : Edge) → same_ends e f ≡ true → IsStraight f → IsStraight e
straight_same e f t h =
    ⊎_elim (λ (x : e ≡ f). subst IsStraight (sym x) h)
    (λ (x : e ≡ back f). subst IsStraight (sym x) (⊎_elim (λ (y : f.0.0 ≡ f.1.0). inl (sym y)) (λ (y : f.0.1 ≡ f.1.1). inr (sym y)) h))
    ((decides_ends e f).0 t)

-- straight splits leave an edge, or it is straight
straight_path : (ks : List EdgeSplit) (e : Edge) → Each (λ (s : EdgeSplit). IsStraight s.ends) ks → (path ks e ≡ e ∷ []) ⊎ IsStraight e
straight_path [] e h = inl refl
straight_path (k ∷ ks) e h = ⊎_elim (λ (x : path ks e ≡ e ∷ []). by x (same_ends e k.ends) refl) (λ (x : IsStraight e). inr x) (straight_path ks e h.1)
  where
    by : path ks e ≡ e ∷ [] → (b : Bool) → same_ends e k.ends ≡ b → (path (k ∷ ks) e ≡ e ∷ []) ⊎ IsStraight e
    by x true t = inr (straight_same e k.ends t h.0)
    by x false t =
        inl (ap (λ (es : List Edge). split_all es) x ∙ ap (λ (b : Bool). cond b ((e.0, k.at) ∷ (k.at, e.1) ∷ []) (e ∷ []) ++ []) t)
      where
        split_all : List Edge → List Edge
        split_all es = after (k ∷ []) es

-- ---- pieces of given edges

near_back : (k m : ℕ) (g : Edge) (q : Point) → IsNearTo k m (back g) q → IsNearTo k m g q
near_back k m g q h = record {
  grid = h.grid;
  positive = h.positive;
  nearest = h.nearest;
  on_edge = on_back (refined_edge (h.grid * m) (back g)) h.nearest h.on_edge;
  by_x = h.by_x;
  by_y = h.by_y;
}

near_same : (k : ℕ) (w e : Edge) (p : Point) → same_ends w e ≡ true → IsNearTo k 1 w p → IsNearTo k 1 e p
near_same k w e p t h =
    ⊎_elim (λ (x : w ≡ e). subst (λ (f : Edge). IsNearTo k 1 f p) x h) (λ (x : w ≡ back e). near_back k 1 e p (subst (λ (f : Edge). IsNearTo k 1 f p) x h))
    ((decides_ends w e).0 t)

-- a segment is the whole of a given edge, or part of a straight one
record IsPart (given : List Edge) (ks : List EdgeSplit) (w : Edge) : Type 0 where
  edge : Edge
  is_given : occurs edge given ≡ true
  on_path : occurs w (path ks edge) ≡ true
  start : IsInBox edge w.0
  end : IsInBox edge w.1
  kind : (same_ends w edge ≡ true) ⊎ IsStraight edge

part_of : (given : List Edge) (ks : List EdgeSplit) (w : Edge) → Each IsSound ks → Each (λ (s : EdgeSplit). IsStraight s.ends) ks → occurs w (after ks given) ≡ true → IsPart given ks w
part_of given ks w sound straight o =
    let r = comes_from ks sound given w o in
    record {
      edge = r.edge;
      is_given = r.is_given;
      on_path = r.on_path;
      start = r.start_in_box;
      end = r.end_in_box;
      kind = ⊎_elim (λ (x : path ks r.edge ≡ r.edge ∷ []). inl (alone w r.edge (ap (occurs w) (sym x) ∙ r.on_path))) (λ (x : IsStraight r.edge). inr x) (straight_path ks r.edge straight);
    }
  where
    alone : (w e : Edge) → occurs w (e ∷ []) ≡ true → same_ends w e ≡ true
    alone w e h = ⊎_elim (λ (t : same_ends w e ≡ true). t) (λ (f : false ≡ true). absurd (false≢true f)) (or_cases (same_ends w e) false h)

near_up : (given : List Edge) (ks : List EdgeSplit) (k : ℕ) (w : Edge) (p : Point) (part : IsPart given ks w) → IsInBox w p → IsNearTo k 1 w p → IsNearTo k 1 part.edge p
near_up given ks k w p part box h =
    ⊎_elim (λ (t : same_ends w part.edge ≡ true). near_same k w part.edge p t h)
    (λ (x : IsStraight part.edge). near_at k part.edge p (on_straight part.edge p x (box_trans part.edge w p part.start part.end box)))
    part.kind

near_down : (given : List Edge) (ks : List EdgeSplit) (k : ℕ) (w : Edge) (p : Point) (part : IsPart given ks w) → IsInBox w p → IsNearTo k 1 part.edge p → IsNearTo k 1 w p
near_down given ks k w p part box h =
    ⊎_elim (λ (t : same_ends w part.edge ≡ true). near_same k part.edge w p (ends_sym part.edge w ∙ t) h)
    (λ (x : IsStraight part.edge). near_at k w p (on_straight w p (straight_within part.edge w x part.start part.end) box))
    part.kind

-- what stands on the path of an edge is in its box
path_box : (ks : List EdgeSplit) (w f : Edge) → Each IsSound ks → occurs f (path ks w) ≡ true → IsInBox w f.0 × IsInBox w f.1
path_box ks w f sound o =
    let r = comes_from ks sound (w ∷ []) f o in
    let same : same_ends w r.edge ≡ true = ends_sym w r.edge ∙ alone r.edge w r.is_given in
    (cut_box (record { ends = r.edge; at = f.0 }) w r.start_in_box same, cut_box (record { ends = r.edge; at = f.1 }) w r.end_in_box same)
  where
    alone : (w e : Edge) → occurs w (e ∷ []) ≡ true → same_ends w e ≡ true
    alone w e h = ⊎_elim (λ (t : same_ends w e ≡ true). t) (λ (f : false ≡ true). absurd (false≢true f)) (or_cases (same_ends w e) false h)

-- ---- witnesses

-- splits, each with its witness among given edges, that go on from first ones; they reach as far as their splits do
record IsLifted (given : List Edge) (first : List EdgeSplit) (k : ℕ) (ts : List WitnessedSplit) : Type 0 where
  witnessed : List WitnessedSplit
  same : splits_of witnessed ≡ splits_of ts ++ first
  near : AreSplitsNear given k witnessed
  past : (l : ℕ) → ReachesPast l ts → ReachesPast l witnessed

none_past : (l : ℕ) → ReachesPast l [] → ⊥
none_past l r = omega (arith, r.listed.1)

-- the first ones are made on their edges
lifted_none : (given : List Edge) (k : ℕ) (ks : List EdgeSplit) → AreSplitsOf given ks → Each IsSound ks → Each (λ (s : EdgeSplit). IsStraight s.ends) ks → IsLifted given ks k []
lifted_none given k [] of sound straight = record { witnessed = []; same = refl; near = tt; past = λ l r. r }
lifted_none given k (s ∷ ks) of sound straight =
    let before = lifted_none given k ks of.2 sound.1 straight.1 in
    let part = part_of given ks s.ends sound.1 straight.1 of.0 in
    let on : (p : Point) → IsInBox s.ends p → IsNearTo k 1 part.edge p = λ p box. near_up given ks k s.ends p part box (near_at k s.ends p (on_straight s.ends p straight.0 box)) in
    record {
      witnessed = (record { split = s; witness = part.edge }) ∷ before.witnessed;
      same = ap (λ (l : List EdgeSplit). s ∷ l) before.same;
      near = (
        record {
          is_given = part.is_given;
          on_path = ap (λ (l : List EdgeSplit). occurs s.ends (path l part.edge)) before.same ∙ part.on_path;
          start = on s.ends.0 (start_box s.ends);
          end = on s.ends.1 (end_box s.ends);
          at = on s.at sound.0.boxed;
        },
        before.near,
      );
      past = λ l r. absurd (none_past l r);
    }

lifted_more : (given : List Edge) (first : List EdgeSplit) (k : ℕ) (t : WitnessedSplit) (ts : List WitnessedSplit) → Each IsSound first → Each (λ (s : EdgeSplit). IsStraight s.ends) first
    → Each IsSound (splits_of (t ∷ ts)) → IsSplitNear (after first given) (splits_of ts) k t → IsLifted given first k ts → IsLifted given first k (t ∷ ts)
lifted_more given first k t ts sound straight later near before = record {
  witnessed = this ∷ before.witnessed;
  same = ap (λ (l : List EdgeSplit). t.split ∷ l) before.same;
  near = (
    record {
      is_given = part.is_given;
      on_path =
          ap (λ (l : List EdgeSplit). occurs t.split.ends (path l part.edge)) before.same
          ∙ (ap (occurs t.split.ends) (after_both (splits_of ts) first (part.edge ∷ []))
          ∙ on_path_stands (splits_of ts) (path first part.edge) t.witness t.split.ends part.on_path near.on_path);
      start = near_up given first k t.witness t.split.ends.0 part box.0 near.start;
      end = near_up given first k t.witness t.split.ends.1 part box.1 near.end;
      at = near_up given first k t.witness t.split.at part at_box near.at;
    },
    before.near,
  );
  past = λ l r. by l r.split r.farther r.listed.0 r.listed.1 r.listed.2;
}
  where
    part : IsPart given first t.witness
    part = part_of given first t.witness sound straight near.is_given

    this : WitnessedSplit
    this = record { split = t.split; witness = part.edge }

    box : IsInBox t.witness t.split.ends.0 × IsInBox t.witness t.split.ends.1
    box = path_box (splits_of ts) t.witness t.split.ends later.1 near.on_path

    at_box : IsInBox t.witness t.split.at
    at_box = box_trans t.witness t.split.ends t.split.at box.0 box.1 later.0.boxed

    by : (l : ℕ) (u : WitnessedSplit) → (IsNearTo l 1 u.witness u.split.at → ⊥) → (n : ℕ) → n < length (t ∷ ts) → slice_index_or (t ∷ ts) n u ≡ u → ReachesPast l (this ∷ before.witnessed)
    by l u far zero h e = record {
      split = this;
      listed = (0, omega arith, refl);
      farther = λ close. subst (λ (v : WitnessedSplit). IsNearTo l 1 v.witness v.split.at → ⊥) (sym e) far (near_down given first l t.witness t.split.at part at_box close);
    }
    by l u far (suc n) h e =
        let r = before.past l (record { split = u; listed = (n, omega arith, e); farther = far }) in
        record { split = r.split; listed = Contains-append_right (this ∷ []) before.witnessed r.split r.listed; farther = r.farther }

lifted : (given : List Edge) (first : List EdgeSplit) (k : ℕ) (ts : List WitnessedSplit) → IsLegal given first → Each (λ (s : EdgeSplit). IsStraight s.ends) first → Each IsSound (splits_of ts)
    → AreSplitsNear (after first given) k ts → IsLifted given first k ts
lifted given first k [] legal straight sound near = lifted_none given k first (splits_of_legal given first legal) (legal_sound given first legal) straight
lifted given first k (t ∷ ts) legal straight sound near =
    lifted_more given first k t ts (legal_sound given first legal) straight sound near.0 (lifted given first k ts legal straight sound.1 near.1)

all_each : {A : Type 0} (P : A → Type 0) (xs : List A) → All P xs → Each P xs
all_each P [] h = tt
all_each P (x ∷ xs) h = (h 0 x (omega arith), all_each P xs (λ k d l. h (suc k) d (omega arith)))

pub straight_splits_keep_nearness : StraightSplitsKeepNearness
straight_splits_keep_nearness given first later k legal straight more near =
    let sound : Each IsSound (splits_of near.witnessed) = subst (Each IsSound) (sym near.same) (legal_sound (after first given) later more) in
    let all = lifted given first k near.witnessed legal (all_each (λ (s : EdgeSplit). IsStraight s.ends) first straight) sound near.near in
    record {
      witnessed = all.witnessed;
      same = all.same ∙ ap (λ (l : List EdgeSplit). l ++ first) near.same;
      near = all.near;
      reached = λ l h. all.past l (near.reached l h);
    }
