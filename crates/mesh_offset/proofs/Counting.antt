-- Lemmas over lists: counts of attempts add up.
use Rattle.std.proofs.Common.{◌≡◌, ℕ, zero, suc, ◌+◌, ◌-◌, ◌*◌, ◌<◌, ◌≤◌, ◌^◌, List, [], ◌∷◌, ◌++◌, length, refl, sym, ◌∙◌, ap, arith}
use Rattle.std.specs.Prelude.{min}
use Rattle.std.specs.List.{All, Contains, sum_by}
use Rattle.std.proofs.lemmas.List.{length-append}
use Rattle.std.proofs.lemmas.List.Elements.{All-head, All-tail}
use Rattle.std.proofs.lemmas.List.Sums.{sum_by-append, sum_by-cons}
use Rattle.mesh_plane.specs.Plane.{Edge}
use Rattle.mesh_lattice.specs.Split.{EdgeSplit, IsLegal}
use Rattle.mesh_split.specs.Counting.{counted}
use Rattle.mesh_ahead.specs.Counting.{CountsSplits, CountsWith}
use Rattle.mesh_split.specs.declared.count.SplitCount.{SplitCount}
use Rattle.mesh_offset.specs.Counting.{Attempt, CountsAttempts, CountsStanding}

-- counting some, and then more
counted_twice : (c : SplitCount) (a b : ℕ) → counted (counted c a) b ≡ counted c (a + b)
counted_twice c a b =
    let e : min (min (c.made + a) (2 ^ 64 - 1) + b) (2 ^ 64 - 1) ≡ min (c.made + (a + b)) (2 ^ 64 - 1) = omega arith in
    λ i. record { made = e i; most = c.most }

module _ (IsDrawn : List Edge → Type 0) where
  attempts_at : (edges : List Edge) → IsDrawn edges → (splits : List (List EdgeSplit)) → All (IsLegal edges) splits →
      (attempts : List (Attempt IsDrawn)) × (length attempts ≡ length splits) × (sum_by (λ (a : Attempt IsDrawn). length a.splits) attempts ≡ sum_by length splits)
  attempts_at edges drawn [] legal = ([], refl, refl)
  attempts_at edges drawn (ks ∷ splits) legal =
      let rest = attempts_at edges drawn splits (All-tail (IsLegal edges) ks splits legal) in
      let one : Attempt IsDrawn = record { edges = edges; drawn = drawn; splits = ks; legal = All-head (IsLegal edges) ks splits legal } in (
        one ∷ rest.0,
        ap suc rest.1,
        sum_by-cons (λ (a : Attempt IsDrawn). length a.splits) one rest.0
            ∙ (ap (λ (n : ℕ). length ks + n) rest.2 ∙ sym (sum_by-cons length ks splits)),
      )

  -- attempts at one list of edges
  pub counts_of_one : (edges : List Edge) (old new : SplitCount) → IsDrawn edges → CountsSplits edges old new → CountsAttempts 1 IsDrawn old new
  counts_of_one edges old new drawn counts =
      let all = attempts_at edges drawn counts.attempts counts.legal in
      record {
        attempts = all.0;
        few =
            let few = counts.few in
            let same = all.1 in omega (arith, few, same);
        sum = counts.sum ∙ ap (counted old) (sym all.2);
      }

  -- the other attempts than one that is listed
  others_at : (edges : List Edge) → IsDrawn edges → (ks : List EdgeSplit) (splits : List (List EdgeSplit)) → All (IsLegal edges) splits → Contains splits ks →
      (others : List (Attempt IsDrawn)) × (suc (length others) ≡ length splits) × (sum_by length splits ≡ length ks + sum_by (λ (a : Attempt IsDrawn). length a.splits) others)
  others_at edges drawn ks [] legal (i, low, is) = absurd (omega arith)
  others_at edges drawn ks (js ∷ splits) legal (zero, low, is) =
      let rest = attempts_at edges drawn splits (All-tail (IsLegal edges) js splits legal) in (
        rest.0,
        ap suc rest.1,
        sum_by-cons length js splits ∙ (ap (λ (n : ℕ). length js + n) (sym rest.2)
            ∙ ap (λ (l : List EdgeSplit). length l + sum_by (λ (a : Attempt IsDrawn). length a.splits) rest.0) is),
      )
  others_at edges drawn ks (js ∷ splits) legal (suc i, low, is) =
      let rest = others_at edges drawn ks splits (All-tail (IsLegal edges) js splits legal) (i, omega (arith, low), is) in
      let one : Attempt IsDrawn = record { edges = edges; drawn = drawn; splits = js; legal = All-head (IsLegal edges) js splits legal } in
      let sums = sum_by-cons length js splits in
      let more = sum_by-cons (λ (a : Attempt IsDrawn). length a.splits) one rest.0 in
      let below = rest.2 in (one ∷ rest.0, ap suc rest.1, omega (arith, sums, more, below))

  -- the attempt at one list of edges that stands, and others
  pub standing_of_one : (edges : List Edge) (ks : List EdgeSplit) (old new : SplitCount) → IsDrawn edges → CountsWith edges old new ks →
      CountsStanding 1 IsDrawn (length ks) old new
  standing_of_one edges ks old new drawn counts =
      let others = others_at edges drawn ks counts.counts.attempts counts.counts.legal counts.listed in
      record {
        given_up = others.0;
        few =
            let few = counts.counts.few in
            let same = others.1 in omega (arith, few, same);
        sum = counts.counts.sum ∙ ap (counted old) others.2;
      }

  -- and one after another
  pub standing_more : (j k m n : ℕ) (old between new : SplitCount) → CountsStanding j IsDrawn m old between → CountsStanding k IsDrawn n between new →
      CountsStanding (j + k) IsDrawn (m + n) old new
  standing_more j k m n old between new first second =
      let a = sum_by (λ (a : Attempt IsDrawn). length a.splits) first.given_up in
      let b = sum_by (λ (a : Attempt IsDrawn). length a.splits) second.given_up in
      let both = sum_by-append (λ (a : Attempt IsDrawn). length a.splits) first.given_up second.given_up in
      let all : (m + a) + (n + b) ≡ (m + n) + sum_by (λ (a : Attempt IsDrawn). length a.splits) (first.given_up ++ second.given_up) = omega (arith, both) in
      record {
        given_up = first.given_up ++ second.given_up;
        few =
            let c = first.few in
            let d = second.few in
            let together = length-append first.given_up second.given_up in omega (arith, c, d, together);
        sum = second.sum ∙ (ap (λ (c : SplitCount). counted c (n + b)) first.sum ∙ (counted_twice old (m + a) (n + b) ∙ ap (counted old) all));
      }

  -- and more of them
  pub counts_more : (m n : ℕ) (old between new : SplitCount) → CountsAttempts m IsDrawn old between → CountsAttempts n IsDrawn between new → CountsAttempts (m + n) IsDrawn old new
  counts_more m n old between new first second = record {
    attempts = first.attempts ++ second.attempts;
    few =
        let a = first.few in
        let b = second.few in
        let both = length-append first.attempts second.attempts in omega (arith, a, b, both);
    sum =
        second.sum
        ∙ (ap (λ (c : SplitCount). counted c (sum_by (λ (a : Attempt IsDrawn). length a.splits) second.attempts)) first.sum
        ∙ (counted_twice old (sum_by (λ (a : Attempt IsDrawn). length a.splits) first.attempts) (sum_by (λ (a : Attempt IsDrawn). length a.splits) second.attempts)
        ∙ ap (counted old) (sym (sum_by-append (λ (a : Attempt IsDrawn). length a.splits) first.attempts second.attempts))));
  }

  -- of no more lists than that
  pub standing_fewer : (m n : ℕ) → m ≤ n → (standing : ℕ) (old new : SplitCount) → CountsStanding m IsDrawn standing old new → CountsStanding n IsDrawn standing old new
  standing_fewer m n less standing old new counts = record {
    given_up = counts.given_up;
    few = (let few = counts.few in omega (arith, few, less));
    sum = counts.sum;
  }

  pub counts_fewer : (m n : ℕ) → m ≤ n → (old new : SplitCount) → CountsAttempts m IsDrawn old new → CountsAttempts n IsDrawn old new
  counts_fewer m n less old new counts = record {
    attempts = counts.attempts;
    few = (let few = counts.few in omega (arith, few, less));
    sum = counts.sum;
  }

-- the same attempts, at edges of which more is known
attempts_weaker : (D E : List Edge → Type 0) → ((es : List Edge) → D es → E es) → (attempts : List (Attempt D)) →
    (others : List (Attempt E)) × (length others ≡ length attempts) × (sum_by (λ (a : Attempt E). length a.splits) others ≡ sum_by (λ (a : Attempt D). length a.splits) attempts)
attempts_weaker D E f [] = ([], refl, refl)
attempts_weaker D E f (a ∷ attempts) =
    let rest = attempts_weaker D E f attempts in
    let one : Attempt E = record { edges = a.edges; drawn = f a.edges a.drawn; splits = a.splits; legal = a.legal } in (
      one ∷ rest.0,
      ap suc rest.1,
      sum_by-cons (λ (a : Attempt E). length a.splits) one rest.0
          ∙ (ap (λ (n : ℕ). length a.splits + n) rest.2 ∙ sym (sum_by-cons (λ (a : Attempt D). length a.splits) a attempts)),
    )

pub counts_weaker : (n : ℕ) (D E : List Edge → Type 0) → ((es : List Edge) → D es → E es) → (old new : SplitCount) → CountsAttempts n D old new → CountsAttempts n E old new
counts_weaker n D E f old new counts =
    let all = attempts_weaker D E f counts.attempts in
    record {
      attempts = all.0;
      few =
          let few = counts.few in
          let same = all.1 in omega (arith, few, same);
      sum = counts.sum ∙ ap (counted old) (sym all.2);
    }

-- no attempt yet
counted_none : (count : SplitCount) → count.made < 2 ^ 64 → count ≡ counted count 0
counted_none count small = let e : count.made ≡ min (count.made + 0) (2 ^ 64 - 1) = omega (arith, small) in λ i. record { made = e i; most = count.most }

pub counts_none : (n : ℕ) (D : List Edge → Type 0) (count : SplitCount) → count.made < 2 ^ 64 → CountsAttempts n D count count
counts_none n D count small = record { attempts = []; few = omega arith; sum = counted_none count small }

-- the same attempts stand and were given up, at edges of which more is known
pub standing_weaker : (D E : List Edge → Type 0) → ((es : List Edge) → D es → E es) → (lists n : ℕ) (old new : SplitCount) → CountsStanding lists D n old new → CountsStanding lists E n old new
standing_weaker D E f lists n old new counts =
    let all = attempts_weaker D E f counts.given_up in
    record {
      given_up = all.0;
      few =
          let few = counts.few in
          let same = all.1 in omega (arith, few, same);
      sum = counts.sum ∙ ap (λ (s : ℕ). counted old (n + s)) (sym all.2);
    }

-- nothing stands, and nothing was given up
pub standing_none : (D : List Edge → Type 0) (count : SplitCount) → count.made < 2 ^ 64 → CountsStanding 0 D 0 count count
standing_none D count small = record { given_up = []; few = omega arith; sum = counted_none count small }
