-- Lemmas over lists: attempts that cut edges in line first.
use Rattle.std.proofs.Common.{◌≡◌, ℕ, ◌+◌, ◌<◌, ◌≤◌, ◌^◌, ◌-◌, min, List, [], ◌∷◌, ◌++◌, length, map, get_or, refl, sym, ◌∙◌, ap, subst, arith, length-append}
use Rattle.std.specs.Prelude.{sum_by, IfSome, Option, Some, None}
use Rattle.std.specs.List.{Contains}
use Rattle.std.proofs.lemmas.List.{get_or-map, length-map}
use Rattle.std.proofs.lemmas.List.Elements.{All-append, All-cons, All-map, Contains-push}
use Rattle.std.proofs.lemmas.List.Sums.{sum_by-append, sum_by-cons}
use Rattle.mesh_plane.specs.Plane.{Point, Edge}
use Rattle.mesh_lattice.specs.Clean.{IsClean, IsProper}
use Rattle.mesh_lattice.specs.Counted.{Counted, IsCountOf}
use Rattle.mesh_lattice.specs.Nearness.{IsNearness}
use Rattle.mesh_lattice.specs.Split.{after, EdgeSplit, IsLegal, no_cut}
use Rattle.mesh_lattice.specs.Splitting.{IsSplitting}
use Rattle.mesh_lattice.proofs.SoundSplits.{after_proper, legal_sound}
use Rattle.mesh_split.specs.Counting.{counted, CountsAmong, CountsAtMost}
use Rattle.mesh_split.specs.declared.count.SplitCount.{SplitCount}
use Rattle.mesh_in_line.specs.InLine.{AreCutInLine}
use Rattle.mesh_in_line.specs.Laws.{GoOn}
use Rattle.mesh_in_line.proofs.Following.{splittings_go_on}
use Rattle.mesh_in_line.proofs.Nearness.{straight_splits_keep_nearness}
use Rattle.mesh_paths.specs.Made.{latest_first}
use Rattle.mesh_paths.specs.Paths.{given_to}
use Rattle.mesh_paths.proofs.Merged.{legal_alike}
use Rattle.mesh_attempt.specs.Attempts.{AreCut}
use Rattle.mesh_attempt.specs.declared.attempt.CutEdges.{CutEdges}
use Rattle.mesh_ahead.specs.Ahead.{AreSettled, IsMadeAfter, IsMadeAmong}
use Rattle.mesh_ahead.specs.Counting.{CountsAfter, CountsEach}
use Rattle.mesh_ahead.proofs.Alike.{merged_alike, nearness_alike}
use Rattle.mesh_ahead.proofs.Attempts.{splits_many}
use Rattle.mesh_ahead.proofs.ClearPaths.{made_by, splitting_of}

-- ---- attempts counted on, and so many splits before each

abbrev all_of : ℕ → List (List EdgeSplit) → ℕ
all_of before attempts = sum_by (λ (ks : List EdgeSplit). before + length ks) attempts

-- no attempt
pub each_none : (most before : ℕ) (edges : List Edge) (c : SplitCount) → c.made < 2 ^ 64 → CountsEach most before edges c c
each_none most before edges c fits = record { attempts = []; few = omega arith; legal = λ i d h. absurd (omega arith); sum = same }
  where
    e : c.made ≡ min (c.made + 0) (2 ^ 64 - 1)
    e = omega arith

    same : c ≡ counted c 0
    same i = record { made = e i; most = c.most }

sum_of_sums : (c : SplitCount) (a b : ℕ) → counted (counted c a) b ≡ counted c (a + b)
sum_of_sums c a b =
    let e : min (min (c.made + a) (2 ^ 64 - 1) + b) (2 ^ 64 - 1) ≡ min (c.made + (a + b)) (2 ^ 64 - 1) = omega arith in
    λ i. record { made = e i; most = c.most }

-- one more
pub each_more : (most before : ℕ) (edges : List Edge) (old now new : SplitCount) (ks : List EdgeSplit) (h : CountsEach most before edges old now) → IsLegal edges ks
    → new ≡ counted now (before + length ks) → CountsEach (most + 1) before edges old new
each_more most before edges old now new ks h legal sum = record {
  attempts = h.attempts ++ ks ∷ [];
  few =
      let a = h.few in
      let b = length-append h.attempts (ks ∷ []) in omega (arith, a, b);
  legal = All-append (IsLegal edges) h.attempts (ks ∷ []) h.legal (All-cons (IsLegal edges) ks [] legal (λ i d k. absurd (omega arith)));
  sum =
      sum
      ∙ ap (λ (c : SplitCount). counted c (before + length ks)) h.sum
      ∙ sum_of_sums old (all_of before h.attempts) (before + length ks)
      ∙ ap (counted old) together;
}
  where
    one : before + length ks ≡ all_of before (ks ∷ [])
    one = omega arith

    together : all_of before h.attempts + (before + length ks) ≡ all_of before (h.attempts ++ ks ∷ [])
    together = ap (λ (n : ℕ). all_of before h.attempts + n) one ∙ sym (sum_by-append (λ (l : List EdgeSplit). before + length l) h.attempts (ks ∷ []))

pub each_fewer : (m n : ℕ) → m ≤ n → (before : ℕ) (edges : List Edge) (old new : SplitCount) → CountsEach m before edges old new → CountsEach n before edges old new
each_fewer m n less before edges old new h = record { attempts = h.attempts; few = (let few = h.few in omega (arith, few, less)); legal = h.legal; sum = h.sum }

most_counted : (old : SplitCount) (before n : ℕ) → counted old (min (before + n) (2 ^ 64 - 1)) ≡ counted old (before + n)
most_counted old before n =
    let e : min (old.made + min (before + n) (2 ^ 64 - 1)) (2 ^ 64 - 1) ≡ min (old.made + (before + n)) (2 ^ 64 - 1) = omega arith in
    λ i. record { made = e i; most = old.most }

-- the splits of an attempt were counted on, and so many before
sum_more : (before : ℕ) (c : CutEdges) (made : List (Edge × Point)) (n all : ℕ) (old new : SplitCount) → latest_first made ≡ c.paths.splits → n ≡ length made
    → all ≡ min (before + n) (2 ^ 64 - 1) → new ≡ counted old all → new ≡ counted old (before + length c.paths.splits)
sum_more before c made n all old new same many together sum =
    sum ∙ (ap (counted old) together
    ∙ (most_counted old before n ∙ ap (λ (m : ℕ). counted old (before + m)) (many ∙ (sym (splits_many made) ∙ ap length same))))

legal_of : (edges : List Edge) (c : CutEdges) → AreCut edges c → IsLegal edges c.paths.splits
legal_of edges c cut = legal_alike cut.paths.legal edges (merged_alike edges c.paths.edges.items cut.count)

-- those of cut edges
pub cut_more : (most before : ℕ) (edges : List Edge) (c : CutEdges) (made : List (Edge × Point)) (n all : ℕ) (old now new : SplitCount) → CountsEach most before edges old now → AreCut edges c
    → latest_first made ≡ c.paths.splits → n ≡ length made → all ≡ min (before + n) (2 ^ 64 - 1) → new ≡ counted now all → CountsEach (most + 1) before edges old new
cut_more most before edges c made n all old now new h cut same many together sum =
    each_more most before edges old now new c.paths.splits h (legal_of edges c cut) (sum_more before c made n all now new same many together sum)

-- the last of which stands
pub made_more : (before : ℕ) (edges : List Edge) (c : CutEdges) (made : List (Edge × Point)) (n all : ℕ) (old now new : SplitCount) (ks : List Counted) (k : ℕ) → AreCut edges c
    → CountsEach 3 before edges old now → latest_first made ≡ c.paths.splits → n ≡ length made → all ≡ min (before + n) (2 ^ 64 - 1) → new ≡ counted now all
    → AreSettled edges c.paths.splits ks → IsNearness (given_to c.paths) c.paths.splits k → IsMadeAfter before edges old new ks k
unfolding cut_more each_more
made_more before edges c made n all old now new ks k cut h same many together sum settled near = record {
  splits = c.paths.splits;
  settled = settled;
  nearness = nearness_alike (given_to c.paths) edges c.paths.splits k (λ q. sym (merged_alike edges c.paths.edges.items cut.count q)) near;
  counts = cut_more 3 before edges c made n all old now new h cut same many together sum;
  listed = Contains-push h.attempts c.paths.splits;
}

-- ---- where edges were cut first

-- edges that were not
pub uncut : (given : List Edge) → AreCutInLine given given 0
uncut given = record { splits = []; legal = no_cut; made = refl; count = refl; straight = λ k d h. absurd (omega arith) }

pub cut_proper : (given edges : List Edge) (n : ℕ) → IsProper given → AreCutInLine given edges n → IsProper edges
cut_proper given edges n proper cut = subst IsProper (sym cut.made) (after_proper cut.splits (legal_sound given cut.splits cut.legal) given proper)

-- what is settled of the cut edges is settled of the given ones
settled_from : (given edges : List Edge) (n : ℕ) (cut : AreCutInLine given edges n) (later : List EdgeSplit) (ks : List Counted) → AreSettled edges later ks → AreSettled given (later ++ cut.splits) ks
settled_from given edges n cut later ks s = record {
  reached = record { legal = on.legal; count = subst (λ (es : List Edge). IsCountOf es ks) same s.reached.count };
  clean = subst IsClean same s.clean;
}
  where
    on : GoOn given cut.splits later
    on = splittings_go_on given cut.splits later cut.legal (subst (λ (es : List Edge). IsLegal es later) cut.made s.reached.legal)

    same : after later edges ≡ after (later ++ cut.splits) given
    same = ap (after later) cut.made ∙ sym on.same

-- attempts at the cut edges are attempts at the given ones, with what was cut first
abbrev from_first : List EdgeSplit → List EdgeSplit → List EdgeSplit
from_first first later = later ++ first

all_from : (first : List EdgeSplit) (n : ℕ) → n ≡ length first → (attempts : List (List EdgeSplit)) → all_of n attempts ≡ sum_by length (map (from_first first) attempts)
all_from first n same [] = refl
all_from first n same (ks ∷ attempts) =
    omega (
      arith,
      length-append ks first,
      same,
      all_from first n same attempts,
      sum_by-cons (λ (l : List EdgeSplit). n + length l) ks attempts,
      sum_by-cons (length {A = EdgeSplit}) (from_first first ks) (map (from_first first) attempts),
    )

listed_from : (f : List EdgeSplit → List EdgeSplit) (attempts : List (List EdgeSplit)) (ks : List EdgeSplit) → Contains attempts ks → Contains (map f attempts) (f ks)
listed_from f attempts ks h = (h.0, (let inside = h.1 in omega (arith, inside, length-map attempts f)), get_or-map f attempts h.0 ks (f ks) h.1 ∙ ap f h.2)

legal_from : (given edges : List Edge) (n : ℕ) (cut : AreCutInLine given edges n) (later : List EdgeSplit) → IsLegal edges later → IsLegal given (from_first cut.splits later)
legal_from given edges n cut later legal = (splittings_go_on given cut.splits later cut.legal (subst (λ (es : List Edge). IsLegal es later) cut.made legal)).legal

pub counts_from : (given edges : List Edge) (n : ℕ) (old new : SplitCount) → AreCutInLine given edges n → CountsAfter n edges old new → CountsAtMost 4 given old new
counts_from given edges n old new cut h = record {
  attempts = map (from_first cut.splits) h.attempts;
  few = (let few = h.few in let same = length-map h.attempts (from_first cut.splits) in omega (arith, few, same));
  legal = All-map (IsLegal given) (from_first cut.splits) h.attempts (λ i d k. legal_from given edges n cut (get_or h.attempts i d) (h.legal i d k));
  sum = h.sum ∙ ap (counted old) (all_from cut.splits n (sym cut.count) h.attempts);
}

listed_after : (given edges : List Edge) (n : ℕ) (old new : SplitCount) (cut : AreCutInLine given edges n) {ks : List Counted} {k : ℕ} (h : IsMadeAfter n edges old new ks k)
    → CountsAmong 4 given old new (h.splits ++ cut.splits)
unfolding counts_from
listed_after given edges n old new cut h = record { counts = counts_from given edges n old new cut h.counts; listed = listed_from (from_first cut.splits) h.counts.attempts h.splits h.listed }

pub made_from : (given edges : List Edge) (n : ℕ) (old new : SplitCount) (ks : List Counted) (k : ℕ) → IsProper given → AreCutInLine given edges n → IsMadeAfter n edges old new ks k → IsMadeAmong 4 given old new ks k
made_from given edges n old new ks k proper cut h =
    let legal : IsLegal edges h.splits = h.settled.reached.legal in
    made_by 4 given (h.splits ++ cut.splits) ks k old new proper (settled_from given edges n cut h.splits ks h.settled)
    (straight_splits_keep_nearness given cut.splits h.splits k cut.legal cut.straight (subst (λ (es : List Edge). IsLegal es h.splits) cut.made legal)
    (subst (λ (es : List Edge). IsNearness es h.splits k) cut.made h.nearness))
    (listed_after given edges n old new cut h)

pub cut_splitting : (given edges : List Edge) (n : ℕ) (ks : List Counted) → IsProper given → AreCutInLine given edges n → IsSplitting edges ks → IsSplitting given ks
cut_splitting given edges n ks proper cut s =
    splitting_of given (s.splits ++ cut.splits) ks proper
    (settled_from given edges n cut s.splits ks (record { reached = record { legal = s.legal; count = s.count }; clean = s.clean }))

pub if_some : {A : Type 0} (P Q : A → Type 0) → ((x : A) → P x → Q x) → (o : Option A) → IfSome o P → IfSome o Q
if_some P Q f None h = tt
if_some P Q f (Some x) h = f x h
