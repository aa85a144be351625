-- Words that are zero, as the code passes over them in blocks.
use Rattle.std.specs.Prelude.{◌≡◌, Bool, true, false, List, ℕ, ◌≤◌, ◌<◌, length, get_or}
use Rattle.words.specs.Places.{Clear}

-- one of the words from i up to j is not zero
abbrev pub SomeWord : List ℕ → ℕ → ℕ → Type 0
SomeWord words i j = (m : ℕ) × (i ≤ m) × (m < j) × (0 < get_or words m 0)

-- bits that the words from i up to j have: 0 exactly if all are zero
pub record BitsIn (words : List ℕ) (i j bits : ℕ) : Type 0 where
  pub none : bits ≡ 0 → Clear (λ m. get_or words m 0) i j
  pub some : 0 < bits → SomeWord words i j

-- whether a word is not zero
abbrev pub AnySet : List ℕ → Bool → Type 0
AnySet words true = SomeWord words 0 (length words)
AnySet words false = Clear (λ m. get_or words m 0) 0 (length words)
