-- Opening a journal as it is computed, whole and by windows.
use Rattle.std.specs.Prelude.{◌≡◌, List, ℕ, zero, suc, ◌+◌, ◌-◌, ◌<◌, length, take, drop, Some, None, Option}
use Rattle.journal.specs.Window.{last_in}
use Rattle.journal.specs.declared.opened.Step.{Step}
use Rattle.journal.specs.declared.opened.Step.TheVariants.{Body as StepBody, Before, Empty as StepEmpty}

-- ---- the whole file

abbrev pub placed : Option (ℕ × ℕ) → Option (ℕ × ℕ)
placed (Some (p, n)) = Some (p - n, n)
placed None = None

-- the answer of `open`, as it is computed
unfoldable pub opened_in : List ℕ → Option (ℕ × ℕ)
unfolding last_in
opened_in book = placed (last_in book 0 (length book))

-- ---- a window of it

-- a trailer may lie over the seam of two windows, so they overlap by five bytes
abbrev pub overlap : ℕ
overlap = 5

-- what a window's search says of the file: the body, where the next window ends, or that there is none
abbrev pub stepped : ℕ → Option (ℕ × ℕ) → Step
stepped base (Some (p, n)) = StepBody (base + p - n) n
stepped zero None = StepEmpty
stepped (suc b) None = Before (suc b + overlap)

-- the answer of `step_back`
unfoldable pub step_in : List ℕ → ℕ → Step
unfolding last_in
step_in window base = stepped base (last_in window base (length window))

-- opening by windows from the file's end: each is longer than the overlap, and the next one ends where it says
pub data ByWindows (book : List ℕ) : ℕ → Option (ℕ × ℕ) → Type 0 where
  body : (base m : ℕ) {start n : ℕ} → overlap < m → step_in (take m (drop base book)) base ≡ StepBody start n
      → ByWindows book (base + m) (Some (start, n))
  before : (base m : ℕ) {end : ℕ} {r : Option (ℕ × ℕ)} → overlap < m → step_in (take m (drop base book)) base ≡ Before end
      → ByWindows book end r → ByWindows book (base + m) r
  empty : (m : ℕ) → step_in (take m book) 0 ≡ StepEmpty → ByWindows book m None
