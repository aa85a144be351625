-- What a loop that groups labels keeps.
use Rattle.std.specs.Prelude.{◌≡◌, true, List, ℕ, zero, suc, ◌+◌, ◌<◌, ◌^◌, ℤ, ◌≤ℤ◌, get_or, set}
use Rattle.std.proofs.Math.Option.{Option, some, map}
use Rattle.integers.specs.Parts.{up}
use Rattle.integers.specs.Floor.{ceil_div}
use Rattle.calendar.specs.Meaning.{raise, label_of, empty}
use Rattle.calendar.specs.Lists.{if_label}
use Rattle.calendar.specs.Compute.{cell_of}
use Rattle.calendar.specs.Limits.{in_range}
use Rattle.cursors.specs.Found.{Within}
use Rattle.fill_shared.specs.declared.Known.{Known}

-- the group of the labels from low to high, which is within the limits
pub record Knows (x : ℤ) (known : Known) : Type 0 where
  pub numbers : (j : ℤ) → known.low ≤ℤ j → j ≤ℤ known.high → ceil_div j (up x) ≡ known.number
  pub within : in_range known.number ≡ true

-- the label of the cell `start` + i in a turn, and its group
abbrev pub label_at : ℤ → ℕ → List ℤ → ℕ → Option ℤ
label_at rise start pool i = raise rise (label_of (get_or pool (start + i) empty))

abbrev pub group_at : ℤ → ℤ → ℕ → List ℤ → ℕ → Option ℤ
group_at x rise start pool i = map (λ j. ceil_div j (up x)) (label_at rise start pool i)

-- the labels of a turn are small
abbrev pub Small : ℤ → ℕ → ℕ → List ℤ → Type 0
Small rise start count pool = (i : ℕ) → i < count → (j : ℤ) → label_at rise start pool i ≡ some j → Within (2 ^ 40) j

-- the groups of n cells from `start` on, written from `to` on
unfoldable pub grouped : ℤ → ℤ → ℕ → ℕ → List ℤ → ℕ → List ℤ
grouped x rise start to pool zero = pool
grouped x rise start to pool (suc n) = set (grouped x rise start to pool n) (to + n) (cell_of (group_at x rise start pool n))

-- they are written, and are within the limits
pub record Grouped (x rise : ℤ) (start to : ℕ) (old new : List ℤ) (n : ℕ) : Type 0 where
  pub is-new : new ≡ grouped x rise start to old n
  pub within : (i : ℕ) → i < n → if_label (group_at x rise start old i) in_range ≡ true
