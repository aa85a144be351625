-- The next instant with another label.
use Rattle.std.specs.Prelude.{◌≡◌, Bool, ◌||◌, ℤ, pos, ◌+ℤ◌, ◌≤ℤ◌, ◌<ℤ◌}
use Rattle.std.proofs.Math.Option.{some}
use Rattle.calendar.specs.Meaning.{Row, meant, is_empty}
use Rattle.calendar.specs.Lists.{equal}
use Rattle.cursors.specs.Cursor.{cursor_at}
use Rattle.strides.specs.declared.Change.{Change}

-- a cell has the label z or none
abbrev pub passable : ℤ → ℤ → Bool
passable z y = equal y z || is_empty y

-- behind the instant u the change is the first instant with another label
pub record Changes (r : Row) (u : ℤ) (x : Change) : Type 0 where
  pub cursor : x.cursor ≡ cursor_at r (u +ℤ x.steps)
  pub on : pos 1 ≤ℤ x.steps
  pub near : x.steps ≤ℤ pos r.period
  pub between : (w l : ℤ) → u ≤ℤ w → w <ℤ (u +ℤ x.steps) → meant r w ≡ some l → meant r u ≡ some l
  pub other : (l : ℤ) × (meant r (u +ℤ x.steps) ≡ some l) × (meant r u ≡ some l → ⊥)
