-- Lemmas over points and lists: splits make of each edge a path that never goes back; what a splitting is.
use Rattle.std.proofs.Common.{◌≡◌, ℕ, ⊎_elim, Bool, true, false, cond, ◌||◌, sym, subst, ap, ◌∙◌, refl, arith, List, [], ◌∷◌, ◌++◌}
use Rattle.std.specs.List.{All}
use Rattle.std.proofs.lemmas.Bool.{cases_Bool, false≢true, or_cases, or_right}
use Rattle.std.proofs.lemmas.List.Elements.{All-cons, All-head, All-tail}
use Rattle.mesh_plane.specs.Plane.{Point, Edge}
use Rattle.mesh_plane.proofs.Whole.{linear}
use Rattle.mesh_lattice.specs.Clean.{IsProper}
use Rattle.mesh_lattice.specs.Counted.{Counted, IsCountOf}
use Rattle.mesh_lattice.specs.Nearness.{IsNearness}
use Rattle.mesh_lattice.specs.Split.{back, same_ends, occurs, IsInBox, EdgeSplit, split_by, after, path, IsLegal}
use Rattle.mesh_lattice.specs.Splitting.{Leads, IsOnward, IsPathOf, ComesFrom, IsSplitting}
use Rattle.mesh_split.specs.Counting.{CountsWith}
use Rattle.mesh_rounds.specs.Told.{IsCountedSplitting, IsToldSplitting}
use Rattle.mesh_split.specs.declared.count.SplitCount.{SplitCount}
use Rattle.mesh_store.specs.Steps.{IsSettled}
use Rattle.mesh_lattice.proofs.SafeSplits.{split_safe}
use Rattle.mesh_lattice.proofs.Keys.{occurs_head}
use Rattle.mesh_lattice.proofs.KeptBySplits.{box_trans, after_append, after_balanced}
use Rattle.mesh_lattice.proofs.SoundSplits.{IsSound, legal_sound, after_proper}
use Rattle.mesh_lattice.proofs.Boxes.{start_box, end_box}
use Rattle.mesh_rounds.proofs.Clean.{clean_of_clear}
use Rattle.mesh_lattice.proofs.Splits.{occurs_append}
use Rattle.mesh_lattice.proofs.Ends.{decides_ends}
use Rattle.mesh_lattice.proofs.KeptBySplits.{after_none}
use Rattle.mesh_lattice.proofs.Each.{Each}

-- a cut's point lies in the box of each edge that it splits
box_of_cut : (k : EdgeSplit) (f : Edge) → IsSound k → same_ends f k.ends ≡ true → IsInBox f k.at
box_of_cut k f sound t =
    ⊎_elim
    (λ (p : f ≡ k.ends). subst (λ (e : Edge). IsInBox e k.at) (sym p) sound.boxed)
    (λ (p : f ≡ back k.ends). subst (λ (e : Edge). IsInBox e k.at) (sym p) (turned k.ends k.at sound.boxed))
    ((decides_ends f k.ends).0 t)
  where
    turned : (e : Edge) (c : Point) → IsInBox e c → IsInBox (back e) c
    turned e c h = record { by_x = record { up = h.by_x.down; down = h.by_x.up }; by_y = record { up = h.by_y.down; down = h.by_y.up } }

-- ---- paths stay chains

leads_cut : (k : EdgeSplit) (p : Point) (es : List Edge) (r : Point) → Leads p es r → Leads p (split_by k es) r
leads_cut k p [] r h = h
leads_cut k p (f ∷ es) r h = by (same_ends f k.ends) (leads_cut k f.1 es r h.1)
  where
    by : (b : Bool) → Leads f.1 (split_by k es) r → Leads p (cond b ((f.0, k.at) ∷ (k.at, f.1) ∷ []) (f ∷ []) ++ split_by k es) r
    by true rest = (h.0, (refl, rest))
    by false rest = (h.0, rest)

-- ---- paths never go back

first_onward : (e f : Edge) (c : Point) → IsOnward e f → IsInBox f c → IsOnward e (f.0, c)
first_onward e f c h box = record {
  east = λ o. (box.by_x.up (h.east o)).0;
  west = λ o. (box.by_x.down (h.west o)).1;
  up = λ o. (box.by_y.up (h.up o)).0;
  down = λ o. (box.by_y.down (h.down o)).1;
  start_in_box = h.start_in_box;
  end_in_box = box_trans e f c h.start_in_box h.end_in_box box;
}

second_onward : (e f : Edge) (c : Point) → IsOnward e f → IsInBox f c → IsOnward e (c, f.1)
second_onward e f c h box = record {
  east = λ o. (box.by_x.up (h.east o)).1;
  west = λ o. (box.by_x.down (h.west o)).0;
  up = λ o. (box.by_y.up (h.up o)).1;
  down = λ o. (box.by_y.down (h.down o)).0;
  start_in_box = box_trans e f c h.start_in_box h.end_in_box box;
  end_in_box = h.end_in_box;
}

onward_cut : (e : Edge) (k : EdgeSplit) → IsSound k → (es : List Edge) → All (IsOnward e) es → All (IsOnward e) (split_by k es)
onward_cut e k sound [] h = h
onward_cut e k sound (f ∷ es) h =
    let own = All-head (IsOnward e) f es h in
    let rest = onward_cut e k sound es (All-tail (IsOnward e) f es h) in
    ⊎_elim
    (λ (t : same_ends f k.ends ≡ true).
    let box = box_of_cut k f sound t in
    subst (λ (b : Bool). All (IsOnward e) (cond b ((f.0, k.at) ∷ (k.at, f.1) ∷ []) (f ∷ []) ++ split_by k es)) (sym t)
    (All-cons (IsOnward e) (f.0, k.at) ((k.at, f.1) ∷ split_by k es) (first_onward e f k.at own box)
    (All-cons (IsOnward e) (k.at, f.1) (split_by k es) (second_onward e f k.at own box) rest)))
    (λ (n : same_ends f k.ends ≡ false).
    subst (λ (b : Bool). All (IsOnward e) (cond b ((f.0, k.at) ∷ (k.at, f.1) ∷ []) (f ∷ []) ++ split_by k es)) (sym n)
    (All-cons (IsOnward e) f (split_by k es) own rest))
    (cases_Bool (same_ends f k.ends))

pub path_of_edge : (ks : List EdgeSplit) → Each IsSound ks → (e : Edge) → IsPathOf e (path ks e)
path_of_edge [] sound e = record {
  leads = (refl, refl);
  onward = All-cons (IsOnward e) e [] (record { east = λ o. o; west = λ o. o; up = λ o. o; down = λ o. o; start_in_box = start_box e; end_in_box = end_box e }) (λ i d h. absurd (omega arith));
}
path_of_edge (k ∷ ks) sound e =
    let before = path_of_edge ks sound.1 e in
    record { leads = leads_cut k e.0 (path ks e) e.1 before.leads; onward = onward_cut e k sound.0 (path ks e) before.onward }

-- ---- each segment lies in the box of the edge that it comes from

abbrev AreInBox : Edge → Edge → Type 0
AreInBox e f = IsInBox e f.0 × IsInBox e f.1

on_path_boxed : (e : Edge) (es : List Edge) → All (IsOnward e) es → (f : Edge) → occurs f es ≡ true → AreInBox e f
on_path_boxed e [] h f o = absurd (false≢true o)
on_path_boxed e (d ∷ es) h f o =
    ⊎_elim
    (λ (t : same_ends f d ≡ true).
    ⊎_elim (λ (x : f ≡ d). subst (AreInBox e) (sym x) own) (λ (x : f ≡ back d). subst (AreInBox e) (sym x) (own.1, own.0)) ((decides_ends f d).0 t))
    (λ (t : occurs f es ≡ true). on_path_boxed e es (All-tail (IsOnward e) d es h) f t)
    (or_cases (same_ends f d) (occurs f es) o)
  where
    own : AreInBox e d
    own = let first = All-head (IsOnward e) d es h in (first.start_in_box, first.end_in_box)

pub comes_from : (ks : List EdgeSplit) → Each IsSound ks → (es : List Edge) → (f : Edge) → occurs f (after ks es) ≡ true → ComesFrom es ks f
comes_from ks sound [] f o = absurd (false≢true (subst (λ (l : List Edge). occurs f l ≡ true) (after_none ks) o))
comes_from ks sound (e ∷ es) f o =
    ⊎_elim
    (λ (t : occurs f (path ks e) ≡ true).
    let box = on_path_boxed e (path ks e) (path_of_edge ks sound e).onward f t in
    record { edge = e; is_given = occurs_head e es; on_path = t; start_in_box = box.0; end_in_box = box.1 })
    (λ (t : occurs f (after ks es) ≡ true).
    let r = comes_from ks sound es f t in
    record {
      edge = r.edge;
      is_given = or_right (same_ends r.edge e) (occurs r.edge es) r.is_given;
      on_path = r.on_path;
      start_in_box = r.start_in_box;
      end_in_box = r.end_in_box;
    })
    (or_cases (occurs f (path ks e)) (occurs f (after ks es)) parts)
  where
    parts : (occurs f (path ks e) || occurs f (after ks es)) ≡ true
    parts =
        sym (occurs_append f (path ks e) (after ks es))
        ∙ (ap (occurs f) (sym (after_append ks (e ∷ []) es)) ∙ o)

-- ---- the splitting as a whole

pub splitting_of : (given : List Edge) (splits : List EdgeSplit) (ks : List Counted) → IsProper given → IsSettled given splits ks → IsSplitting given ks
splitting_of given splits ks proper s =
    let r = s.pile.reached in
    let sound = legal_sound given splits r.legal in
    let whole = after_proper splits sound given proper in
    let count : IsCountOf (after splits given) ks = record {
      once = λ q. omega (arith, linear, r.count.once q);
      counts = λ q. omega (arith, linear, r.count.counts q);
    } in
    record {
      splits = splits;
      legal = r.legal;
      count = count;
      clean = clean_of_clear (after splits given) ks whole count s.clear;
      proper = whole;
      paths = path_of_edge splits sound;
      boxed = comes_from splits sound given;
      safe = λ unit h. split_safe unit given splits r.legal h;
      balanced = after_balanced splits given;
    }

-- the same, with the nearness of its splits
pub told_of : (given : List Edge) (splits : List EdgeSplit) (ks : List Counted) (k : ℕ) → IsProper given → IsSettled given splits ks
    → ((given : List Edge) → IsLegal given splits → IsNearness given splits k) → IsToldSplitting given ks k
unfolding splitting_of
told_of given splits ks k proper s near = record { splitting = splitting_of given splits ks proper s; nearness = near given s.pile.reached.legal }

-- the same, and that its splits were counted
pub counted_of : (given : List Edge) (splits : List EdgeSplit) (ks : List Counted) (k : ℕ) (old new : SplitCount) → IsProper given → IsSettled given splits ks
    → ((given : List Edge) → IsLegal given splits → IsNearness given splits k) → CountsWith given old new splits → IsCountedSplitting given old new ks k
unfolding splitting_of told_of
counted_of given splits ks k old new proper s near counted = record { told = told_of given splits ks k proper s near; counted = counted }
