-- The place of an instant in a row is its cursor, with a cell that is counted in naturals.
use Rattle.std.specs.Prelude.{◌≡◌, cond, ℕ, ◌+◌, ltb, ℤ, pos, ◌+ℤ◌}
use Rattle.calendar.specs.Meaning.{Row}
use Rattle.cursors.specs.declared.Cursor.{Cursor}
use Rattle.cursors.specs.Cursor.{cursor_at}
use Rattle.pieces.specs.declared.Place.{Place}

-- the place p is that of the instant u
abbrev pub Stands : Row → Place → ℤ → Type 0
Stands r p u = ◌≡◌ {A = Cursor} (record { index = pos p.cell; rise = p.rise }) (cursor_at r u)

-- n instants on, in the same turn or at the begin of the next
abbrev pub place_on : Place → ℕ → ℕ → ℤ → Place
place_on p n period distance =
    cond (ltb (p.cell + n) period) (record { cell = p.cell + n; rise = p.rise }) (record { cell = 0; rise = p.rise +ℤ distance })

-- in a list in which the row's cells stand from `start` on
abbrev pub place_from : ℕ → Place → Place
place_from start p = record { cell = start + p.cell; rise = p.rise }
