-- A place of a walk over two rows, b and a: an instant, by its cursors.
use Rattle.std.specs.Prelude.{◌≡◌, cond, ℤ, pos, ◌+ℤ◌, ◌*ℤ◌}
use Rattle.std.proofs.Math.Option.{none, some}
use Rattle.integers.specs.Floor.{floor_div}
use Rattle.calendar.specs.Meaning.{Row, meant}
use Rattle.calendar.specs.Lists.{equal, is}
use Rattle.cursors.specs.declared.Cursor.{Cursor}
use Rattle.cursors.specs.Found.{Near}
use Rattle.cursors.specs.Cursor.{cursor_at}
use Rattle.containment.specs.declared.CursorPair.{CursorPair}
use Rattle.containment.specs.declared.Step.{Step}
use Rattle.containment.specs.declared.Step.TheVariants.{On, Done, Out}

-- the instant of a cursor: its turn, which the rise shows, and its cell
unfoldable pub instant : Row → Cursor → ℤ
unfolding floor_div
instant r c = pos r.period *ℤ floor_div c.rise r.distance +ℤ c.index

-- the instant of a place
abbrev pub at : Row → CursorPair → ℤ
at b p = instant b p.b

-- both cursors of the place are those of its instant
pub record Beside (b a : Row) (p : CursorPair) : Type 0 where
  pub near : Near (at b p)
  pub b-cursor : p.b ≡ cursor_at b (at b p)
  pub a-cursor : p.a ≡ cursor_at a (at b p)

-- what its instant says to a walk that sees whether the granule k of b lies in the granule i of a
unfoldable pub step_at : Row → Row → CursorPair → Step
unfolding meant instant
step_at b a p = elim (meant b (at b p)) [ none ↦ On | some j ↦ cond (equal j p.k) (cond (is p.i (meant a (at b p))) On Out) Done ]
