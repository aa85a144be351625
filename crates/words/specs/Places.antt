-- Places of bits in a word, and of set cells in a list of words: f is 1 where a bit is set and 0 elsewhere.
use Rattle.std.specs.Prelude.{◌≡◌, ℕ, ◌≤◌, ◌<◌}

-- none is set from m up to n, n not included
abbrev pub Clear : (ℕ → ℕ) → ℕ → ℕ → Type 0
Clear f m n = (i : ℕ) → m ≤ i → i < n → f i ≡ 0

-- i is the least set place from m on
pub record Least (f : ℕ → ℕ) (m i : ℕ) : Type 0 where
  pub from : m ≤ i
  pub set : f i ≡ 1
  pub before : Clear f m i

-- i is the greatest set place below n
pub record Greatest (f : ℕ → ℕ) (n i : ℕ) : Type 0 where
  pub below : i < n
  pub set : f i ≡ 1
  pub after : (j : ℕ) → i < j → j < n → f j ≡ 0
