-- Lemmas over lists: the splits of attempts, counted on.
use Rattle.std.proofs.Common.{◌≡◌, ℕ, ◌+◌, ◌-◌, ◌<◌, ◌≤◌, ◌^◌, min, ap, refl, sym, ◌∙◌, arith, List, [], ◌∷◌, ◌++◌, length}
use Rattle.std.specs.Prelude.{sum_by}
use Rattle.std.proofs.lemmas.List.{length-append}
use Rattle.std.proofs.lemmas.List.Elements.{All-cons, All-append, Contains-append_right}
use Rattle.std.proofs.lemmas.List.Sums.{sum_by-append}
use Rattle.mesh_plane.specs.Plane.{Edge}
use Rattle.mesh_lattice.specs.Split.{EdgeSplit, IsLegal}
use Rattle.mesh_split.specs.Counting.{CountsAmong, CountsAtMost, counted}
use Rattle.mesh_split.specs.declared.count.SplitCount.{SplitCount}

none_more : (c : SplitCount) → c.made < 2 ^ 64 → c ≡ counted c 0
none_more c fits =
    let same : c.made ≡ min (c.made + 0) (2 ^ 64 - 1) = omega arith in
    ap (λ (n : ℕ). let d : SplitCount = record { made = n; most = c.most } in d) same

twice_more : (c : SplitCount) (a b : ℕ) → counted (counted c a) b ≡ counted c (a + b)
twice_more c a b =
    let same : min (min (c.made + a) (2 ^ 64 - 1) + b) (2 ^ 64 - 1) ≡ min (c.made + (a + b)) (2 ^ 64 - 1) = omega arith in
    ap (λ (n : ℕ). let d : SplitCount = record { made = n; most = c.most } in d) same

-- nothing was split
pub counts_none : (n : ℕ) (given : List Edge) (c : SplitCount) → c.made < 2 ^ 64 → CountsAtMost n given c c
counts_none n given c fits = record { attempts = []; few = omega arith; legal = λ i d h. absurd (omega arith); sum = none_more c fits }

-- one attempt
pub counts_one : (given : List Edge) (old new : SplitCount) (ks : List EdgeSplit) → IsLegal given ks → new ≡ counted old (length ks) → CountsAmong 1 given old new ks
counts_one given old new ks legal same = record {
  counts = record {
    attempts = ks ∷ [];
    few = omega arith;
    legal = All-cons (IsLegal given) ks [] legal (λ i d h. absurd (omega arith));
    sum = same ∙ ap (counted old) (let one : length ks ≡ sum_by length (ks ∷ []) = omega arith in one);
  };
  listed = (0, omega arith, refl);
}

-- no more attempts than that
pub counts_fewer : (m n : ℕ) → m ≤ n → (given : List Edge) (old new : SplitCount) → CountsAtMost m given old new → CountsAtMost n given old new
counts_fewer m n less given old new c = record { attempts = c.attempts; few = (let few = c.few in omega (arith, few, less)); legal = c.legal; sum = c.sum }

pub with_fewer : (m n : ℕ) → m ≤ n → (given : List Edge) (old new : SplitCount) (ks : List EdgeSplit) → CountsAmong m given old new ks → CountsAmong n given old new ks
unfolding counts_fewer
with_fewer m n less given old new ks c = record { counts = counts_fewer m n less given old new c.counts; listed = c.listed }

-- attempts after others
pub counts_both : (m n : ℕ) (given : List Edge) (old now new : SplitCount) → CountsAtMost m given old now → CountsAtMost n given now new → CountsAtMost (m + n) given old new
counts_both m n given old now new first second = record {
  attempts = first.attempts ++ second.attempts;
  few =
      let a = first.few in
      let b = second.few in
      let both = length-append first.attempts second.attempts in omega (arith, a, b, both);
  legal = All-append (IsLegal given) first.attempts second.attempts first.legal second.legal;
  sum =
      second.sum
      ∙ ap (λ (c : SplitCount). counted c (sum_by length second.attempts)) first.sum
      ∙ twice_more old (sum_by length first.attempts) (sum_by length second.attempts)
      ∙ ap (counted old) (sym (sum_by-append length first.attempts second.attempts));
}

pub counts_with : (m n : ℕ) (given : List Edge) (old now new : SplitCount) (ks : List EdgeSplit) → CountsAtMost m given old now → CountsAmong n given now new ks →
    CountsAmong (m + n) given old new ks
unfolding counts_both
counts_with m n given old now new ks first second = record {
  counts = counts_both m n given old now new first second.counts;
  listed = Contains-append_right first.attempts second.counts.attempts ks second.listed;
}
