-- What holds of the loop's state before the instant t, which is one of a working row or next to it.
use Rattle.std.specs.Prelude.{◌≡◌, ℤ, pos, ◌-ℤ◌, ◌≤ℤ◌}
use Rattle.calendar.specs.Meaning.{Row}
use Rattle.calendar.specs.Compute.{anchored}
use Rattle.calendar.specs.Limits.{pool_limit}
use Rattle.cursors.specs.Cursor.{cursor_at}
use Rattle.fill_pointwise.specs.declared.Scanning.{Scanning}

pub record Scans (a b : Row) (t : ℤ) (s : Scanning) : Type 0 where
  pub low : pos 0 ≤ℤ t
  pub high : t ≤ℤ pos pool_limit
  pub cursors : (s.a ≡ cursor_at a t) × (s.b ≡ cursor_at b t)
  pub keeps : s.last ≡ anchored b (t -ℤ pos 1)
