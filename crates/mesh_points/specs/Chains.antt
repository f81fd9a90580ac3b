-- Lists of numbers by key, each from its last number on. A link is one more than a number, or 0 at the end of a list.
use Rattle.std.specs.Prelude.{ℕ, ◌≡◌, ◌-◌, ◌<◌, ◌≤◌, List, length, slice_index_or}

-- all numbers below a count stand in the list of their key, from `last` on by `before`: what is skipped has another key
pub record AreChained (last : List ℕ) (count : ℕ) (before key : ℕ → ℕ) : Type 0 where
  pub key_within : (k : ℕ) → k < count → key k < length last
  pub last_within : (i : ℕ) → i < length last → slice_index_or last i 0 ≤ count
  pub last_key : (i : ℕ) → i < length last → 0 < slice_index_or last i 0 → key (slice_index_or last i 0 - 1) ≡ i
  pub last_skips : (i k : ℕ) → i < length last → slice_index_or last i 0 ≤ k → k < count → key k ≡ i → ⊥
  pub before_within : (k : ℕ) → k < count → before k ≤ k
  pub before_key : (k : ℕ) → k < count → 0 < before k → key (before k - 1) ≡ key k
  pub before_skips : (k j : ℕ) → k < count → before k ≤ j → j < k → key j ≡ key k → ⊥

-- a search in the list of a key has come to a link: what is sought is none of the numbers passed
pub record IsSearched (is_sought : ℕ → Type 0) (count : ℕ) (key : ℕ → ℕ) (i left : ℕ) : Type 0 where
  pub within : left ≤ count
  pub listed : 0 < left → key (left - 1) ≡ i
  pub passed : (k : ℕ) → left ≤ k → k < count → key k ≡ i → is_sought k → ⊥
