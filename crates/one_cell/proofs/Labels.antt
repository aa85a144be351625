-- A row of one cell, with the label c: its distance is 1 too, so the instant t has the label c + t.
-- Assumes nothing.
use mathlib.Core.Path.{◌≡◌, refl, sym, ◌∙◌, ap, subst}
use mathlib.Core.Option.{some}
use mathlib.Core.Bool.{true}
use mathlib.Core.List.{List}
use Prim.Native.Nat.{ℕ}
use native.Mathlib.Omega.{arith}
use lib.IntN.{ℤ, pos, ◌+ℤ◌, ◌-ℤ◌, ◌*ℤ◌}
use lib.ListN.{length, get_or}
use Rattle.integers.specs.Parts.{up}
use Rattle.integers.specs.Floor.{floor_div, floor_mod}
use Rattle.integers.proofs.Linear.{ints}
use Rattle.integers.proofs.Floor.{floor-lt}
use Rattle.calendar.specs.Limits.{in_range}
use Rattle.calendar.specs.Meaning.{Row, meant, raise, label_of, empty}
use Rattle.calendar.specs.Questions.{given}
use Rattle.granules.proofs.Rows.{cell_label, meant-some, label_is}
use Rattle.cursors.specs.declared.Cursor.{Cursor}
use Rattle.cursors.specs.Found.{Sound}
use Rattle.cursors.specs.Cursor.{cursor_at}
use Rattle.cursors.proofs.Numbers.{valid, numbers}
use Rattle.cursors.proofs.Bounds.{in-range, cell-bound}
use Rattle.cursors.proofs.Cursors.{cursor-of, cursor-meant}

module _ (period distance : ℤ) (cells : List ℤ) (s : Sound period distance cells) (one : period ≡ pos 1) where
  abbrev row : Row
  row = given period distance cells

  abbrev c : ℤ
  c = get_or cells 0 empty

  pub period-one : up period ≡ 1
  period-one = ap up one

  pub distance-one : up distance ≡ 1
  distance-one = let n = numbers period distance cells s in omega (arith, period-one)

  pub one-length : length cells ≡ 1
  one-length = (numbers period distance cells s).whole ∙ period-one

  -- some instant has a label, and so the cell has one
  labelled : label_of c ≡ some c
  labelled =
      let v = valid period distance cells s in
      let t = v.labelled.0 in
      let j = v.label -ℤ pos (up distance) *ℤ floor_div t (up period) in
      let z : floor_mod t (up period) ≡ 0 = omega (arith, floor-lt (up period) v.positive.0 t, period-one) in
      let l = (meant-some row t v.label).0 v.labelled.1 in
      let e : label_of c ≡ some j = subst (λ (m : ℕ). cell_label row m ≡ some j) z l in
      e ∙ ap some (sym (label_is c j e))

  pub one-range : in_range c ≡ true
  one-range = (in-range c).1 (cell-bound period distance cells s 0 c labelled)

  pub one-cursor : (t : ℤ) → ◌≡◌ {A = Cursor} (record { index = pos 0; rise = t }) (cursor_at row t)
  one-cursor t =
      let p = period-one in
      let d = distance-one in
      cursor-of row t t (pos 0) t 0
      (rw p (simp ints (omega arith))) (omega arith) refl (rw d (simp ints (omega arith)))

  pub one-meant : (t : ℤ) → meant row t ≡ some (c +ℤ t)
  one-meant t = cursor-meant row (record { index = pos 0; rise = t }) t (one-cursor t) ∙ ap (raise t) labelled
