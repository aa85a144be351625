-- The first label of a row: an instant of the first turn, and none before it has one.
-- Assumes nothing.
use mathlib.Core.Path.{◌≡◌, sym, ◌∙◌, ap}
use mathlib.Core.Logic.{◌⊎◌, inl, inr}
use mathlib.Core.Option.{some}
use mathlib.Core.List.{List}
use Prim.Native.Nat.{◌<◌}
use native.Mathlib.Omega.{arith}
use lib.IntN.{ℤ, pos}
use lib.Signed.{◌≤ℤ◌, ◌<ℤ◌}
use lib.ListN.{length, get_or}
use Rattle.integers.specs.Parts.{up}
use Rattle.integers.proofs.Linear.{ints}
use Rattle.integers.proofs.Order.{pos-up, le-or-lt}
use Rattle.calendar.specs.Meaning.{Row, meant, is_empty, empty}
use Rattle.calendar.specs.Questions.{given}
use Rattle.granules.proofs.Tests.{true≢false, none≢some}
use Rattle.granules.proofs.Rows.{meant-cell}
use Rattle.cursors.specs.Found.{Sound}
use Rattle.cursors.specs.Search.{leading}
use Rattle.cursors.proofs.Numbers.{Numbers, numbers}
use Rattle.cursors.proofs.Cells.{label-empty, label-full, empty-iff}
use Rattle.cursors.proofs.Search.{run-fails, run-passes}
use Rattle.row_check.proofs.Instants.{has-label}

module _ (period distance : ℤ) (cells : List ℤ) (s : Sound period distance cells) where
  abbrev row : Row
  row = given period distance cells

  n : Numbers period distance cells
  n = numbers period distance cells s

  some-label : leading cells < length cells
  some-label = has-label period distance cells s

  pub leading-label : meant row (pos (leading cells)) ≡ some (get_or cells (leading cells) empty)
  leading-label =
      meant-cell row (leading cells) (omega (arith, some-label, n.whole))
      ∙ label-full (get_or cells (leading cells) empty) (λ e. true≢false ((empty-iff _).1 e) (run-fails is_empty cells empty some-label))

  pub leading-first : (u j : ℤ) → pos 0 ≤ℤ u → meant row u ≡ some j → pos (leading cells) ≤ℤ u
  leading-first u j low e = by (le-or-lt (pos (leading cells)) u)
    where
      by : (pos (leading cells) ≤ℤ u) ⊎ (u <ℤ pos (leading cells)) → pos (leading cells) ≤ℤ u
      by (inl h) = h
      by (inr h) =
          let p = pos-up low in
          let below : up u < leading cells = omega (arith, simp ints at h, simp ints at p) in
          let none = label-empty (get_or cells (up u) empty) ((empty-iff _).0 (run-passes is_empty cells (up u) empty below)) in
          absurd (none≢some (sym none ∙ sym (meant-cell row (up u) (omega (arith, below, some-label, n.whole))) ∙ ap (meant row) p ∙ e))
