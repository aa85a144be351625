-- A cursor stands for an instant of a row: its cell, and how far the labels of its turn are above those of the first turn.
use Rattle.std.specs.Prelude.{◌≡◌, List, ℤ, pos, ◌*ℤ◌, ◌≤ℤ◌, ◌<ℤ◌, length}
use Rattle.std.proofs.Math.Option.{some}
use Rattle.integers.specs.Floor.{floor_div, floor_mod}
use Rattle.calendar.specs.Meaning.{Row, meant}
use Rattle.cursors.specs.declared.Cursor.{Cursor}
use Rattle.cursors.specs.Found.{Near}

-- i is the index of a cell
abbrev pub Index : ℤ → List ℤ → Type 0
Index i cells = (pos 0 ≤ℤ i) × (i <ℤ pos (length cells))

-- the cursor of the instant u
unfoldable pub cursor_at : Row → ℤ → Cursor
unfolding floor_div floor_mod
cursor_at r u = record { index = pos (floor_mod u r.period); rise = pos r.distance *ℤ floor_div u r.period }

-- a cursor of the row: it stands for an instant
abbrev pub Standing : Row → Cursor → Type 0
Standing r c = (u : ℤ) × Near u × (c ≡ cursor_at r u)

-- a cursor of the row whose instant has a label
abbrev pub Shown : Row → Cursor → Type 0
Shown r c = (u : ℤ) × Near u × (c ≡ cursor_at r u) × ((j : ℤ) × (meant r u ≡ some j))
