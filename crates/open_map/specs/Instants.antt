-- Open instants, by the plain definitions (document 02, Req 12). f tells which instants are open; they repeat every
-- P, and at least one is.
use Rattle.std.specs.Prelude.{Bool, ℕ, ℤ, pos, ◌+ℤ◌, ◌-ℤ◌, length}
use Rattle.integers.specs.Parts.{up}
use Rattle.calendar.specs.Lists.{keep, from, first, last}

-- how many open instants there are "from s up to but not including t"
unfoldable pub open_in : (ℤ → Bool) → ℤ → ℤ → ℕ
open_in f s t = length (keep f (from s (up (t -ℤ s))))

-- "the next open instant above x": the first of the P behind x
unfoldable pub next_open : ℕ → (ℤ → Bool) → ℤ → ℤ
next_open P f x = first (keep f (from (x +ℤ pos 1) P))

-- "the last below x": the last of the P before x
unfoldable pub last_open : ℕ → (ℤ → Bool) → ℤ → ℤ
last_open P f x = last (keep f (from (x -ℤ pos P) P))
