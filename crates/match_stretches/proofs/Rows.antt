-- A sound row of a pool, as it is lent to a call.
-- Assumes nothing.
use mathlib.Core.Path.{◌≡◌, refl, sym, subst}
use mathlib.Core.Bool.{true}
use mathlib.Core.List.{List}
use Prim.Native.Nat.{ℕ, ◌≤◌}
use native.Mathlib.Omega.{arith}
use lib.IntN.{ℤ, pos}
use lib.Signed.{◌≤ℤ◌}
use mir.Syntax.{w64}
use mir.Val.{SFits}
use Rattle.integers.proofs.Linear.{ints, ◌∴◌}
use Rattle.calendar.specs.Limits.{pool_limit}
use Rattle.calendar.specs.Meaning.{Row}
use Rattle.calendar.specs.Sound.{sound}
use Rattle.cursors.specs.declared.Cursor.{Cursor}
use Rattle.cursors.specs.Cursor.{cursor_at, Standing}
use Rattle.cursors.proofs.Numbers.{Numbers, numbers}
use Rattle.cursors.proofs.Cursors.{cursor-of}
use Rattle.kinds.specs.declared.Operand.{Operand}
use Rattle.kinds.specs.Stands.{row_in, Stands}
use Rattle.match_shared.proofs.Lent.{lent_row, lent_row_lem}

module _ (pool : List ℤ) (a : Operand) (s : Stands pool a) where
  n : Numbers a.period a.distance (row_in pool a).cells
  n = numbers a.period a.distance (row_in pool a).cells s.is-sound

  pub period-positive : pos 0 ≤ℤ a.period
  period-positive = n.period-is ∴ simp ints (omega arith)

  pub period-fits : SFits w64 a.period
  period-fits = n.period-is ∴ n.high ∴ simp ints (omega arith)

  pub distance-fits : SFits w64 a.distance
  distance-fits = n.distance_is ∴ n.middle ∴ n.high ∴ simp ints (omega arith)

  -- the cursor of the instant 0
  pub cursor-start : ◌≡◌ {A = Cursor} (record { index = pos 0; rise = pos 0 }) (cursor_at (row_in pool a) (pos 0))
  cursor-start = cursor-of (row_in pool a) (pos 0) (pos 0) _ _ 0 (simp ints (omega arith)) (omega (arith, n.low, n.middle)) refl (simp ints (omega arith))

  module _ (cells : List ℤ) (is : cells ≡ (row_in pool a).cells) where
    pub lent_is : lent_row a cells ≡ row_in pool a
    lent_is = lent_row_lem a pool cells period-fits distance-fits is

    -- what a call is asked of the row, with the cursor of an instant
    pub lent-asks : (c : Cursor) (u : ℕ) → u ≤ pool_limit → c ≡ cursor_at (row_in pool a) (pos u) → (sound (lent_row a cells) ≡ true) × Standing (lent_row a cells) c
    lent-asks c u h q = subst (λ (r : Row). (sound r ≡ true) × Standing r c) (sym lent_is) (s.is-sound, (pos u, simp ints (omega arith), q))
