-- Which row stands for which calendar, and how many slots it has per period.
use Rattle.std.specs.Prelude.{◌≡◌, List, ℕ, ℤ, pos, ◌+ℤ◌, ◌≤ℤ◌, ◌<ℤ◌, length}
use Rattle.calendar.specs.Meaning.{Calendar, Row, Has, IsCalendar, LeastRow}
use Rattle.calendar.specs.Algebra.{Lists}
use Rattle.calendar.specs.Size.{turn}
use Rattle.algebra.specs.TableMeaning.{Meant}

-- r is the least row of the calendar that an entry means
pub record Represents (m : Meant) (r : Row) : Type 0 where
  pub calendar : IsCalendar m.calendar
  pub least : LeastRow m.calendar r
  pub turn : m.turn ≡ turn r

-- "the slots per period": of any N whole numbers in a row R are labels. The lists stand in the statement, so that it can't hold for want of one.
pub record CountsLabels (c : Calendar) (N R : ℕ) : Type 0 where
  pub labels : ℤ → List ℤ
  pub lists : (k : ℤ) → Lists (λ j. Has c j × (k ≤ℤ j) × (j <ℤ (k +ℤ pos N))) (labels k)
  pub count : (k : ℤ) → length (labels k) ≡ R
