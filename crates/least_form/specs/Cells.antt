-- Cells that repeat with a rise.
use Rattle.std.specs.Prelude.{◌≡◌, List, ℕ, ◌+◌, ◌-◌, ◌≤◌, ◌<◌, ℤ, pos, ◌≤ℤ◌, length, get_or}
use Rattle.calendar.specs.Limits.{pool_limit, label_limit}
use Rattle.calendar.specs.Meaning.{label_of, raise, empty}

-- the most cells that are compared at a time
abbrev pub block_length : ℕ
block_length = 256

-- a rise, and cells that with it pass no number of 32 bits
abbrev pub Rise : ℤ → Type 0
Rise n = (pos 0 ≤ℤ n) × (n ≤ℤ pos pool_limit)

abbrev pub Low : List ℤ → Type 0
Low cells = (t : ℕ) → get_or cells t empty ≤ℤ label_limit

-- the cell q behind the cell t has its label plus n, or none where it has none
abbrev pub RepeatsAt : List ℤ → ℕ → ℤ → ℕ → Type 0
RepeatsAt cells q n t = label_of (get_or cells (t + q) empty) ≡ raise n (label_of (get_or cells t empty))

-- so from `start` up to `end`
abbrev pub RepeatsFrom : List ℤ → ℕ → ℤ → ℕ → ℕ → Type 0
RepeatsFrom cells q n start end = (t : ℕ) → t < end → start ≤ t → RepeatsAt cells q n t

-- and wherever there is a cell q behind
abbrev pub RepeatsWithin : List ℤ → ℕ → ℤ → Type 0
RepeatsWithin cells q n = (t : ℕ) → t + q < length cells → RepeatsAt cells q n t

-- r is the first of these that is not repeated, or the end where there is none
pub record FirstOther (cells : List ℤ) (q : ℕ) (n : ℤ) (start end r : ℕ) : Type 0 where
  pub within : r ≤ end
  pub before : RepeatsFrom cells q n start r
  pub other : r < end → RepeatsAt cells q n r → ⊥

-- the cell w repeats the one q before it, and is repeated q behind, where there are such cells
pub record RegularAt (cells : List ℤ) (q : ℕ) (n : ℤ) (w : ℕ) : Type 0 where
  pub before : w < length cells → q ≤ w → RepeatsAt cells q n (w - q)
  pub behind : w + q < length cells → RepeatsAt cells q n w
